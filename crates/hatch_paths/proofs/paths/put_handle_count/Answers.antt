-- The count is read, tested and stored.
use mathlib.Core.Path.{◌∙◌}
use mathlib.Core.List.{[]}
use native.Mathlib.Omega.{arith}
use Rattle.bitcursor.specs.Codes.{BL}
use Rattle.hatch_format.specs.Takes.{takes_BL}
use Rattle.hatch_format.specs.Counts.{bounded, takes_bounded}
use Rattle.hatch_points.specs.Gathered.{word}
use Rattle.hatch_points.specs.Lists.{lists}
use Rattle.hatch_points.proofs.Laws.{one_word, refuses, leaves, ends, onward, kept_same}
use Rattle.hatch_paths.proofs.EdgeLaws.{handles_read, handles_refused}
use Rattle.hatch_paths.proofs.paths.put_handle_count.Goals as goal

pub returns : goal.returns
returns c =
    let a = c.args in
    let h = c.requires in
    let cap = a.rules.caps.boundary_handles in
    let n = c.in_ok-n.n in
    let e = c.in_ok-n.ensures in
    let on = onward (bounded cap BL) 2 (takes_bounded cap BL 2 takes_BL) a.s.now a.at e h.1.0 in
    ends (word n) (handles_read cap a.s.now a.at e)
    (record { lists = λ i. lists [] (c.put_word.ensures i); sizes = c.with_words.ensures ∙ one_word a.used n })
    (h.0, (on.1, (omega (arith, on.0, h.1.1.0), omega (arith, on.0, h.1.1.1))))

pub returns-in_err-n : goal.returns-in_err-n
returns-in_err-n c =
    let a = c.args in
    let cap = a.rules.caps.boundary_handles in
    leaves _ c.from_residual.ensures (refuses (handles_refused cap a.s.now a.at c.in_err-n.ensures) kept_same)
