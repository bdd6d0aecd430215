-- Knots, control points and fit points, one behind the other.
use mathlib.Core.Path.{refl, sym, ◌∙◌}
use native.Mathlib.Omega.{arith}
use Rattle.bitcursor.specs.Format.{then_got, then_refused}
use Rattle.hatch_points.specs.Gathered.{plus}
use Rattle.hatch_points.specs.Walks.{double_run, vertices_walk}
use Rattle.hatch_paths.specs.PathWalks.{fits_walk, spline_lists_walk}
use Rattle.hatch_format.specs.Takes.{takes_none}
use Rattle.hatch_points.proofs.Laws.{words_still, ◌⊕◌, walk_finished, walk_refused, walks_as, refuses, leaves, behind, words_kept}
use Rattle.hatch_points.proofs.Laws.{plus_again, onward, kept_then, kept_numbers, walk_kept}
use Rattle.hatch_points.proofs.NoWords.{double_wordless, vertices_wordless}
use Rattle.hatch_paths.specs.Fits.{has_fits}
use Rattle.hatch_paths.proofs.edges.decode_spline_lists.Goals as goal

pub decode_fits-requires : goal.decode_fits-requires
decode_fits-requires g c =
    let a = c.args in
    let s = a.s.now in
    let n = a.head.controls in
    let h = walk_finished c.in_ok-used.ensures in
    let k = walk_finished c.in_ok-used-2.ensures in
    let u = onward (double_run a.head.knots) 0 (takes_none (double_run a.head.knots)) s a.at (sym h.read) c.requires.0.1.0 in
    let v = onward (vertices_walk a.head.rational n) 0 (takes_none (vertices_walk a.head.rational n)) s _ (sym k.read) u.1 in
    let x = words_still h (double_wordless a.head.knots s a.at) in
    let y = words_still k (vertices_wordless a.head.rational n s _) in
    (c.in_ok-used-2.ensures.ready, omega (arith, x, y, u.0, v.0, c.requires.1.0))

pub returns : goal.returns
unfolding spline_lists_walk
returns g c =
    let a = c.args in
    let s = a.s.now in
    let h = walk_finished (words_kept _ a.lent.now.words.now (double_wordless a.head.knots s a.at) c.in_ok-used.ensures) in
    let k = walk_finished (words_kept _ a.lent.now.words.now (vertices_wordless a.head.rational a.head.controls s _) c.in_ok-used-2.ensures) in
    record {
      same = c.decode_fits.ensures.same;
      walk = walks_as
          (behind (fits_walk a.rules.caps.fit_points (has_fits a.rules.version)) (λ e. plus h.entries (plus k.entries e)) (h.step ⊕ k.step)
          (λ e. plus_again h.entries k.entries e) c.decode_fits.ensures.walk)
          (sym (then_got (double_run a.head.knots) _ s h.read ∙ then_got (vertices_walk a.head.rational a.head.controls) _ s k.read));
    }

pub returns-in_err-used-2 : goal.returns-in_err-used-2
unfolding spline_lists_walk
returns-in_err-used-2 g c =
    let a = c.args in
    let s = a.s.now in
    let h = walk_finished (words_kept _ a.lent.now.words.now (double_wordless a.head.knots s a.at) c.in_ok-used.ensures) in
    let walk = c.in_err-used-2.ensures in
    record {
      same = (refl, refl);
      walk = leaves _ c.from_residual-in_err-used-2.ensures
          (refuses
          (then_got (double_run a.head.knots) _ s h.read ∙ then_refused (vertices_walk a.head.rational a.head.controls) _ s (walk_refused walk))
          (kept_then h.step (kept_numbers a.lent.now.words.now (walk_kept walk))));
    }

pub returns-in_err-used : goal.returns-in_err-used
unfolding spline_lists_walk
returns-in_err-used g c =
    let a = c.args in
    let walk = c.in_err-used.ensures in
    record {
      same = (refl, refl);
      walk = leaves _ c.from_residual.ensures
          (refuses (then_refused (double_run a.head.knots) _ a.s.now (walk_refused walk)) (kept_numbers a.lent.now.words.now (walk_kept walk)));
    }
