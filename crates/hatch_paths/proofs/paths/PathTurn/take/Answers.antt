-- The flags are a word, and say what follows and whether it came from a boundary object.
use mathlib.Core.Path.{refl, sym}
use Prim.Native.Nat.{◌/◌}
use Rattle.loads.specs.Bits.{odd}
use Rattle.bitcursor.specs.Codes.{BL}
use Rattle.bitcursor.specs.Fields.{coded}
use Rattle.hatch_paths.specs.PathWalks.{after_flags_walk, path_walk}
use Rattle.hatch_points.proofs.Laws.{then_read, then_none, walks_as, refuses, leaves, flags_then, walks_by, kept_same}
use Rattle.hatch_paths.specs.Fits.{has_fits}
use Rattle.hatch_paths.proofs.paths.PathTurn.take.Goals as goal

pub returns : goal.returns
unfolding path_walk
returns g c =
    let a = c.args in
    let s = a.s.now in
    let f = c.in_ok-flags.flags in
    let rest = rw c.with_words.ensures at c.decode_after_flags.ensures.walk in
    record {
      same = c.decode_after_flags.ensures.same;
      walk = walks_as
          (flags_then (after_flags_walk a.self.0.caps (has_fits a.self.0.version) (odd (f / 2))) f c.put_word.ensures
          (walks_by (after_flags_walk a.self.0.caps (has_fits a.self.0.version)) a.used.derived c.has_flag-2.ensures c.has_flag.ensures rest))
          (sym (then_read (coded BL) _ s c.in_ok-flags.ensures));
    }

pub returns-in_err-flags : goal.returns-in_err-flags
unfolding path_walk
returns-in_err-flags g c =
    record { same = (refl, refl); walk = leaves _ c.from_residual.ensures (refuses (then_none (coded BL) _ c.args.s.now c.in_err-flags.ensures) kept_same) }
