-- The answer of the parts that the call read, and the lists as it left them.
use Rattle.dwg_hatch.proofs.Decoded.{decoded_bits}
use Rattle.dwg_hatch.proofs.bodies.dwg_hatch_decode_with_strings_bits.Goals as goal

pub returns : goal.returns
returns c = decoded_bits c.args.main.now c.answer_bits.ensures c.read_with_strings-read.ensures
