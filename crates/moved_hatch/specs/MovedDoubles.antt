-- Moving doubles is moving their 64 bits: the two calls have the same outcome, the patterns of the moved doubles are the moved patterns, and they
-- hold the moved hatch of specs/MovedHatch. Assumes nothing.
use Rattle.std.specs.Prelude.{◌≡◌, Bool, List, [], ◌∷◌, ℕ, T, Float}
use Rattle.std.proofs.Math.Path.{refl, ap}
use Rattle.std.proofs.Common.{sym, ap₂, subst}
use Rattle.std.proofs.Math.Bool.{◌&&◌}
use Rattle.std.specs.Float.Ieee as Ieee
use Rattle.std.specs.Float.{binary64}
use Rattle.std.specs.Float.Ieee.{fits, to_bits}
use Rattle.std.specs.Float.Ieee.Bits.{of_bits-to_bits}
use Rattle.differences.specs.Difference.{difference, difference_bits}
use Rattle.differences.specs.Limits.{is_within, is_within_bits}
use Rattle.hatch_lists.specs.declared.HatchCounts.{HatchCounts}
use Rattle.hatch_lists.specs.Within.{All}
use Rattle.hatch_lists.specs.Holding.{Holding}
use Rattle.hatch_lists.specs.Whole.{Whole, Held, whole, not_whole, held}
use Rattle.hatch_lists.specs.Coordinates.{Role, x, y, other, held_roles}
use Rattle.moved_hatch.specs.Moving.{moved_one, moved, one_in_range, all_in_range, Outcome, moves, refuses, patterns, judged, outcome_of, outcome, after}
use Rattle.moved_hatch.specs.Doubles.{of_doubles, of_bits}
use Rattle.moved_hatch.specs.MovedLists.{same_patterns}
use Rattle.moved_hatch.specs.MovedHatch.{moved_holding, moved_whole}

-- a value of the format f64: whatever a list of f64 holds is one
abbrev pub IsDouble : Float → Type 0
IsDouble a = T (fits binary64 a)

-- its 64 bits, and back
abbrev pub bits_of : Float → ℕ
bits_of = to_bits binary64

abbrev pub double_of : ℕ → Float
double_of = Ieee.of_bits binary64

difference_patterns : (a o : Float) → IsDouble a → IsDouble o → bits_of (difference a o) ≡ difference_bits (bits_of a) (bits_of o)
unfolding difference_bits
difference_patterns a o p q = sym (ap₂ (λ u v. bits_of (difference u v)) (of_bits-to_bits binary64 a p) (of_bits-to_bits binary64 o q))

module _ (x₀ y₀ : Float) (p : IsDouble x₀) (q : IsDouble y₀) where
  one_pattern : (r : Role) (a : Float) → IsDouble a → bits_of (moved_one difference x₀ y₀ r a) ≡ moved_one difference_bits (bits_of x₀) (bits_of y₀) r
      (bits_of a)
  one_pattern x a i = difference_patterns a x₀ i p
  one_pattern y a i = difference_patterns a y₀ i q
  one_pattern other a i = refl

  pub moved_patterns : (rs : List Role) (ns : List Float) → All IsDouble ns
      → patterns bits_of (moved difference x₀ y₀ rs ns) ≡ moved difference_bits (bits_of x₀) (bits_of y₀) rs (patterns bits_of ns)
  moved_patterns [] ns h = refl
  moved_patterns (r ∷ rs) [] h = refl
  moved_patterns (r ∷ rs) (a ∷ ns) h = ap₂ (λ n l. n ∷ l) (one_pattern r a h.0) (moved_patterns rs ns h.1)

  -- the moved list of doubles is whole with the same words, and holds the hatch with each coordinate moved
  pub moved_doubles_whole : (c : HatchCounts) (ws : List ℕ) (ns : List Float) (a : Holding) → All IsDouble ns → Whole c ws (patterns bits_of ns) a
      → Whole c ws (patterns bits_of (moved difference x₀ y₀ (held_roles a) ns)) (moved_holding difference_bits (bits_of x₀) (bits_of y₀) a)
  moved_doubles_whole c ws ns a h w =
      let b = moved_holding difference_bits (bits_of x₀) (bits_of y₀) a in
      subst (λ l. Whole c ws l b) (sym (moved_patterns (held_roles a) ns h))
      (moved_whole difference_bits (bits_of x₀) (bits_of y₀) c ws (patterns bits_of ns) a w)

  -- ---- the call over doubles and the call over their patterns
  within_pattern : (a : Float) → IsDouble a → is_within_bits (bits_of a) ≡ is_within a
  within_pattern a i = ap is_within (of_bits-to_bits binary64 a i)

  in_range_patterns : (rs : List Role) (ns : List Float) → All IsDouble ns → all_in_range is_within_bits rs (patterns bits_of ns) ≡ all_in_range is_within rs ns
  in_range_patterns [] ns h = refl
  in_range_patterns (r ∷ rs) [] h = refl
  in_range_patterns (r ∷ rs) (a ∷ ns) h = ap₂ ◌&&◌ (one r) (in_range_patterns rs ns h.1)
    where
      one : (r : Role) → one_in_range is_within_bits r (bits_of a) ≡ one_in_range is_within r a
      one x = within_pattern a h.0
      one y = within_pattern a h.0
      one other = refl

  pub outcome_patterns : (c : HatchCounts) (upright : Bool) (ws : List ℕ) (ns : List Float) → All IsDouble ns
      → outcome of_bits c upright ws (patterns bits_of ns) (bits_of x₀) (bits_of y₀) ≡ outcome of_doubles c upright ws ns x₀ y₀
  unfolding outcome
  outcome_patterns c upright ws ns h = rw (same_patterns (patterns bits_of ns)) (go (held c ws (patterns bits_of ns)))
    where
      go : (o : Held) → outcome_of of_bits o upright (patterns bits_of ns) (bits_of x₀) (bits_of y₀) ≡ outcome_of of_doubles o upright ns x₀ y₀
      go not_whole = refl
      go (whole a) =
          ap (judged (held_roles a) upright)
          (ap₂ ◌&&◌ (within_pattern x₀ p) (ap₂ ◌&&◌ (within_pattern y₀ q) (in_range_patterns (held_roles a) ns h)))

  pub after_patterns : (o : Outcome) (ns : List Float) → All IsDouble ns
      → patterns bits_of (after of_doubles o x₀ y₀ ns) ≡ after of_bits o (bits_of x₀) (bits_of y₀) (patterns bits_of ns)
  after_patterns (moves rs) ns h = moved_patterns rs ns h
  after_patterns (refuses k) ns h = refl
