-- The answer of the parts that the call read, and the lists as it left them.
use Rattle.dwg_hatch.proofs.Decoded.{decoded}
use Rattle.dwg_hatch.proofs.bodies.dwg_hatch_decode_with_strings.Goals as goal

pub returns : goal.returns
returns c = decoded c.args.main.now c.answer.ensures c.read_with_strings-read.ensures
