-- A run of RD, a run of three BD and a bit, one behind the other.
use mathlib.Core.Path.{refl, sym, ◌∙◌}
use Rattle.bitcursor.specs.Format.{then_got, then_refused}
use Rattle.hatch_points.specs.Gathered.{plus}
use Rattle.hatch_points.specs.Walks.{raw_run, double_run}
use Rattle.hatch_paths.specs.PathWalks.{bit_walk, curve_walk}
use Rattle.hatch_points.proofs.Laws.{◌⊕◌, walk_finished, walk_refused, walks_as, refuses, leaves, behind, words_kept, numbers_kept}
use Rattle.hatch_points.proofs.Laws.{plus_again, kept_then, kept_numbers, walk_kept}
use Rattle.hatch_points.proofs.NoWords.{raw_wordless, double_wordless}
use Rattle.hatch_paths.proofs.EdgeLaws.{bit_numberless}
use Rattle.hatch_paths.proofs.edges.decode_curve.Goals as goal

pub returns : goal.returns
unfolding curve_walk
returns g c =
    let a = c.args in
    let s = a.s.now in
    let h = walk_finished (words_kept _ a.lent.now.words.now (raw_wordless a.n s a.at) c.in_ok-used.ensures) in
    let k = walk_finished (words_kept _ a.lent.now.words.now (double_wordless 3 s _) c.in_ok-used-2.ensures) in
    record {
      same = (refl, refl);
      walk = walks_as
          (behind bit_walk (λ e. plus h.entries (plus k.entries e)) (h.step ⊕ k.step) (λ e. plus_again h.entries k.entries e)
          (numbers_kept _ _ (bit_numberless s _) c.put_bit.ensures))
          (sym (then_got (raw_run a.n) _ s h.read ∙ then_got (double_run 3) _ s k.read));
    }

pub returns-in_err-used-2 : goal.returns-in_err-used-2
unfolding curve_walk
returns-in_err-used-2 g c =
    let a = c.args in
    let s = a.s.now in
    let h = walk_finished (words_kept _ a.lent.now.words.now (raw_wordless a.n s a.at) c.in_ok-used.ensures) in
    let walk = c.in_err-used-2.ensures in
    record {
      same = (refl, refl);
      walk = leaves _ c.from_residual-in_err-used-2.ensures
          (refuses (then_got (raw_run a.n) _ s h.read ∙ then_refused (double_run 3) _ s (walk_refused walk))
          (kept_then h.step (kept_numbers a.lent.now.words.now (walk_kept walk))));
    }

pub returns-in_err-used : goal.returns-in_err-used
unfolding curve_walk
returns-in_err-used g c =
    let a = c.args in
    let walk = c.in_err-used.ensures in
    record {
      same = (refl, refl);
      walk = leaves _ c.from_residual.ensures
          (refuses (then_refused (raw_run a.n) _ a.s.now (walk_refused walk)) (kept_numbers a.lent.now.words.now (walk_kept walk)));
    }
