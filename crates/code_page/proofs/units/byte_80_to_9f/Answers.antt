-- The mark is no unit; any other that is not own stands between 80 and 9F, so one that is found there nowhere is no byte's.
use Rattle.std.specs.Prelude.{◌≡◌}
use Rattle.std.proofs.Common.{arith}
use Rattle.code_page.proofs.SearchLaws.{Searched, nowhere, somewhere, further, searched}
use Rattle.code_page.proofs.units.byte_80_to_9f.Goals as goal
use Rattle.code_page.proofs.units.byte_80_to_9f.Goals.{then-table-byte, else-table-byte}

pub loop-byte-init : goal.loop-byte-init
loop-byte-init c = nowhere (λ k l h. absurd (omega arith))

pub loop-byte-preserved : goal.loop-byte-preserved
loop-byte-preserved c =
    let table = c.args.table.now.units in
    let unit = c.args.unit in
    let byte = c.loop-byte.byte in
    elim c.if-table-byte.branch [
      | then-table-byte w ↦ rw w.found-is (somewhere byte (omega arith) (omega arith) w.if-table-byte.true)
      | else-table-byte w ↦ rw w.found-is (further table unit byte c.loop-byte.found c.loop-byte.invariant w.if-table-byte.false)
    ]

pub returns : goal.returns
returns c =
    let table = c.args.table.now.units in
    let unit = c.args.unit in
    let end : c.loop-byte.byte ≡ 160 = omega arith in
    let all : Searched table unit 160 c.loop-byte.found = rw end at c.loop-byte.invariant in
    searched table unit c.loop-byte.found c.args.table.now.is_cp1252 c.requires (λ m. omega arith) all
