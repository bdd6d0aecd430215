-- The fields in front are five words, and behind them stand the lists.
use mathlib.Core.Path.{refl, sym, ◌∙◌}
use Rattle.hatch_paths.specs.PathWalks.{spline_lists_walk}
use Rattle.hatch_paths.specs.Splines.{spline_head, head_words, spline_after_counts, spline_reads}
use Rattle.hatch_points.proofs.Laws.{then_read, then_none, walks_as, refuses, leaves, words_then, kept_same}
use Rattle.hatch_paths.specs.Fits.{has_fits}
use Rattle.hatch_paths.proofs.edges.decode_spline_edge.Goals as goal

pub returns : goal.returns
returns g c =
    let a = c.args in
    let s = a.s.now in
    let h = c.in_ok-head.head in
    record {
      same = c.decode_spline_lists.ensures.same;
      walk = walks_as
          (words_then (spline_lists_walk a.rules.caps (has_fits a.rules.version) h.rational h.knots h.controls) (head_words h) 5 refl c.put_spline_head.ensures
          (rw (← c.with_words.ensures) c.decode_spline_lists.ensures.walk))
          (sym (then_read (spline_head a.rules.caps) (spline_after_counts a.rules.caps (has_fits a.rules.version)) s c.in_ok-head.ensures)
          ∙ spline_reads s a.rules.caps (has_fits a.rules.version) a.at);
    }

pub returns-in_err-head : goal.returns-in_err-head
returns-in_err-head g c =
    let a = c.args in
    let s = a.s.now in
    record {
      same = (refl, refl);
      walk = leaves _ c.from_residual.ensures
          (refuses
          (sym (spline_reads s a.rules.caps (has_fits a.rules.version) a.at)
          ∙ then_none (spline_head a.rules.caps) (spline_after_counts a.rules.caps (has_fits a.rules.version)) s c.in_err-head.ensures) kept_same);
    }
