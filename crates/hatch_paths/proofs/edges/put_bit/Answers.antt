-- A bit is read, and its number is the word.
use mathlib.Core.Path.{◌≡◌, ◌∙◌}
use borrow.Author.Rules.{rules}
use lib.ListN.{set}
use mathlib.Core.List.{[]}
use native.Mathlib.Omega.{arith}
use Rattle.loads.specs.Bits.{bit}
use Rattle.bitcursor.specs.Codes.{B}
use Rattle.bitcursor.specs.Fields.{coded}
use Rattle.hatch_points.specs.Gathered.{word}
use Rattle.hatch_points.specs.Lists.{lists}
use Rattle.hatch_points.proofs.Laws.{one_word, refuses, leaves, ends, onward, kept_same}
use Rattle.hatch_points.proofs.NoWords.{takes_flag}
use Rattle.hatch_paths.proofs.EdgeLaws.{bit_read, bit_refused}
use Rattle.hatch_paths.proofs.edges.put_bit.Goals as goal

pub returns : goal.returns
returns c =
    let a = c.args in
    let s = a.s.now in
    let v = c.in_ok-v.v in
    let h = c.requires in
    let on = onward (coded B) 1 takes_flag s a.at c.in_ok-v.ensures h.1.0 in
    let put : c.put_word.new.words ≡ set a.words.now a.used.words (bit v) = search rules in
    ends (word (bit v)) (bit_read s a.at c.in_ok-v.ensures)
    (record { lists = λ i. lists [] (put i); sizes = c.with_words.ensures ∙ one_word a.used (bit v) })
    (h.0, (on.1, (omega (arith, on.0, h.1.1.0), omega (arith, on.0, h.1.1.1))))

pub returns-in_err-v : goal.returns-in_err-v
returns-in_err-v c =
    leaves _ c.from_residual.ensures (refuses (bit_refused c.args.s.now c.args.at c.in_err-v.ensures) kept_same)
