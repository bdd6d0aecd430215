use Rattle.std.specs.Prelude.{◌≡◌, false, ◌-◌, ltb}
use Rattle.prefix_fields.specs.Blocks.{chain_from}
use Rattle.prefix_fields.proofs.skip_extended_data.Given as goal

abbrev pub invariant-loop-blocks : goal.invariant-loop-blocks
invariant-loop-blocks l = chain_from 256 false l.s l.at ≡ chain_from (256 - l.blocks) (ltb 0 l.blocks) l.s l.p
