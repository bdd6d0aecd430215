-- Segments, and behind them the handle count.
use mathlib.Core.Path.{refl, sym}
use Rattle.bitcursor.specs.Format.{then_got, then_refused}
use Rattle.hatch_points.specs.Gathered.{plus}
use Rattle.hatch_paths.specs.PathWalks.{segments_walk, handles_walk, after_flags_walk}
use Rattle.hatch_points.proofs.Laws.{walk_finished, walk_refused, walks_as, refuses, leaves, behind, numbers_kept, walk_kept}
use Rattle.hatch_paths.proofs.EdgeLaws.{handles_numberless}
use Rattle.hatch_paths.specs.Fits.{has_fits}
use Rattle.hatch_paths.proofs.paths.decode_after_flags.Goals as goal

pub returns : goal.returns
unfolding after_flags_walk
returns g c =
    let a = c.args in
    let s = a.s.now in
    let cap = a.rules.caps.boundary_handles in
    let t = walk_finished c.in_ok-used.ensures.walk in
    record {
      same = c.in_ok-used.ensures.same;
      walk = walks_as (behind (handles_walk cap) (plus t.entries) t.step (λ e. refl) (numbers_kept _ _ (handles_numberless cap s _) c.put_handle_count.ensures))
          (sym (then_got (segments_walk a.rules.caps (has_fits a.rules.version) a.polyline) _ s t.read));
    }

pub returns-in_err-used : goal.returns-in_err-used
unfolding after_flags_walk
returns-in_err-used g c =
    let a = c.args in
    let walk = c.in_err-used.ensures.walk in
    record {
      same = c.in_err-used.ensures.same;
      walk = leaves _ c.from_residual.ensures
          (refuses (then_refused (segments_walk a.rules.caps (has_fits a.rules.version) a.polyline) _ a.s.now (walk_refused walk)) (walk_kept walk));
    }
