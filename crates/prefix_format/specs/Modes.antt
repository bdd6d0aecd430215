-- The entity's mode and its number. Assumes nothing.
use Rattle.std.specs.Prelude.{ℕ, zero, suc}
use Rattle.prefix_format.specs.declared.EntityMode.{EntityMode}
use Rattle.prefix_format.specs.declared.EntityMode.TheVariants.{ByLayer, ByPreviousEntity, InBlock, Reserved}

abbrev pub mode_of : ℕ → EntityMode
mode_of zero = ByLayer
mode_of (suc zero) = ByPreviousEntity
mode_of (suc (suc zero)) = InBlock
mode_of (suc (suc (suc n))) = Reserved

abbrev pub mode_number : EntityMode → ℕ
mode_number ByLayer = 0
mode_number ByPreviousEntity = 1
mode_number InBlock = 2
mode_number Reserved = 3
