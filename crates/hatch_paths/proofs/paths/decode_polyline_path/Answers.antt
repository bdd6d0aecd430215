-- Three words, and behind them the vertices.
use mathlib.Core.Path.{refl, sym, ◌∙◌}
use mathlib.Core.List.{[], ◌∷◌}
use Rattle.loads.specs.Bits.{bit}
use Rattle.bitcursor.specs.Codes.{B, BL}
use Rattle.bitcursor.specs.Fields.{coded}
use Rattle.hatch_format.specs.Counts.{bounded}
use Rattle.hatch_points.specs.Walks.{vertices_walk}
use Rattle.hatch_points.proofs.Laws.{then_read, then_none, walks_as, refuses, leaves, words_then, words_kept, kept_same}
use Rattle.hatch_points.proofs.NoWords.{vertices_wordless}
use Rattle.hatch_paths.specs.PathWalks.{polyline_walk}
use Rattle.hatch_paths.proofs.paths.decode_polyline_path.Goals as goal

pub returns : goal.returns
unfolding polyline_walk
returns g c =
    let a = c.args in
    let s = a.s.now in
    let x = c.in_ok-bulge.bulge in
    let y = c.in_ok-closed.closed in
    let n = c.in_ok-n.n in
    record {
      same = (refl, refl);
      walk = walks_as
          (words_then (vertices_walk x n) (bit x ∷ (bit y ∷ (n ∷ []))) 3 refl c.put_polyline_head.ensures
          (words_kept _ c.put_polyline_head.new.words (vertices_wordless x n s _) (rw (← c.with_words.ensures) c.decode_points.ensures)))
          (sym (then_read (coded B) _ s c.in_ok-bulge.ensures ∙ then_read (coded B) _ s c.in_ok-closed.ensures
          ∙ then_read (bounded a.rules.caps.vertices BL) _ s c.in_ok-n.ensures));
    }

pub returns-in_err-bulge : goal.returns-in_err-bulge
unfolding polyline_walk
returns-in_err-bulge g c =
    record { same = (refl, refl); walk = leaves _ c.from_residual.ensures (refuses (then_none (coded B) _ c.args.s.now c.in_err-bulge.ensures) kept_same) }

pub returns-in_err-closed : goal.returns-in_err-closed
unfolding polyline_walk
returns-in_err-closed g c =
    let s = c.args.s.now in
    record {
      same = (refl, refl);
      walk = leaves _ c.from_residual-in_err-closed.ensures
          (refuses (then_read (coded B) _ s c.in_ok-bulge.ensures ∙ then_none (coded B) _ s c.in_err-closed.ensures) kept_same);
    }

pub returns-in_err-n : goal.returns-in_err-n
unfolding polyline_walk
returns-in_err-n g c =
    let s = c.args.s.now in
    record {
      same = (refl, refl);
      walk = leaves _ c.from_residual-in_err-n.ensures
          (refuses
          (then_read (coded B) _ s c.in_ok-bulge.ensures ∙ then_read (coded B) _ s c.in_ok-closed.ensures
          ∙ then_none (bounded c.args.rules.caps.vertices BL) _ s c.in_err-n.ensures) kept_same);
    }
