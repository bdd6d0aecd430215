-- The fields in front of pattern lines and of seed points, one by one as they are read: each where the one before ended. Assumes nothing.
use Rattle.std.specs.Prelude.{◌≡◌, refl, Bool, true, false, List, ℕ, eqb}
use Rattle.std.proofs.Common.{◌∙◌}
use Rattle.bitcursor.specs.Reading.{Out, got, refused}
use Rattle.bitcursor.specs.Code.{raw}
use Rattle.bitcursor.specs.Codes.{B, BS, BL}
use Rattle.bitcursor.specs.Doubles.{BD}
use Rattle.bitcursor.specs.Held.{held}
use Rattle.bitcursor.specs.Format.{Format, pure, ◌>>=◌, relay}
use Rattle.bitcursor.specs.Inputs.{one}
use Rattle.bitcursor.specs.Fields.{coded}
use Rattle.hatch_format.specs.declared.Caps.{Caps}
use Rattle.hatch_format.specs.Values.{Point, PatternLine, Pattern, Ending}
use Rattle.hatch_format.specs.Counts.{times, bounded, listed}
use Rattle.hatch_format.specs.Points.{point, takes_point}
use Rattle.hatch_format.specs.Patterns.{pattern_line, takes_line, pattern_read, pattern, ending_read, ending}
use Rattle.hatch_points.proofs.HeadLaws.{read_next, value_of, resumed, one_more, bit_more}
use Rattle.hatch_points.proofs.Rows.{listed_row}

-- what reads the same behind the row
resumed_same : {A : Type 0} (xs : List ℕ) (k j : ℕ → Format one A) → ((v q : ℕ) → (k v).read xs q ≡ (j v).read xs q) → (x : Out ℕ ℕ)
    → resumed xs k x ≡ resumed xs j x
resumed_same xs k j h (got v q) = h v q
resumed_same xs k j h (refused n q) = refl

module _ (xs : List ℕ) (caps : Caps) where
  -- ---- the pattern, behind the count of its lines
  abbrev pub pattern_after_count : ℕ → ℕ → Bool → ℕ → Format one Pattern
  pattern_after_count angle scale double n =
      times n (pattern_line caps.dashes) >>= λ lines. pure (record { angle = angle; scale = scale; double = double; lines = lines })

  pub pattern_row : (p : ℕ) (x₁ x₂ x₃ x₄ : Out ℕ ℕ) → x₁ ≡ read_next (BD.read xs) (got 0 p) → x₂ ≡ read_next (BD.read xs) x₁
      → x₃ ≡ read_next ((held true (raw 1) 0).read xs) x₂ → x₄ ≡ read_next ((bounded caps.pattern_lines BS).read xs) x₃
      → (pattern caps false).read xs p ≡ resumed xs (pattern_after_count (value_of x₁) (value_of x₂) (eqb 1 (value_of x₃))) x₄
  unfolding pattern pattern_read relay held
  pattern_row p x₁ x₂ x₃ x₄ e₁ e₂ e₃ e₄ =
      one_more xs (λ v. coded BD) (λ v angle. scale_on angle) (got 0 p) e₁
      ∙ one_more xs (λ v. coded BD) double_on x₁ e₂
      ∙ bit_more xs (lines_on (value_of x₁)) x₂ e₃
      ∙ resumed_same xs (λ n. lines_on (value_of x₁) (value_of x₂) (eqb 1 n))
      (λ n. bounded caps.pattern_lines BS >>= pattern_after_count (value_of x₁) (value_of x₂) (eqb 1 n))
      (λ n q. listed_row xs caps.pattern_lines BS (pattern_line caps.dashes) (takes_line caps.dashes)
      (made (value_of x₁) (value_of x₂) (eqb 1 n)) q) x₃
      ∙ one_more xs (λ v. bounded caps.pattern_lines BS) (λ v. pattern_after_count (value_of x₁) (value_of x₂) (eqb 1 v)) x₃ e₄
    where
      made : ℕ → ℕ → Bool → List PatternLine → Format one Pattern
      made angle scale double lines = pure (record { angle = angle; scale = scale; double = double; lines = lines })

      lines_on : ℕ → ℕ → Bool → Format one Pattern
      lines_on angle scale double = listed caps.pattern_lines BS (pattern_line caps.dashes) (takes_line caps.dashes) >>= made angle scale double

      double_on : ℕ → ℕ → Format one Pattern
      double_on angle scale = coded B >>= lines_on angle scale

      scale_on : ℕ → Format one Pattern
      scale_on angle = coded BD >>= double_on angle

  -- ---- the last fields, behind the count of the seed points
  abbrev pub ending_after_count : ℕ → ℕ → Format one Ending
  ending_after_count pixel n = times n point >>= λ seeds. pure (record { pixel_size = pixel; seed_points = seeds })

  pub ending_row : (has : Bool) (p : ℕ) (x₁ x₂ : Out ℕ ℕ) → x₁ ≡ read_next ((held has BD 0).read xs) (got 0 p)
      → x₂ ≡ read_next ((bounded caps.seed_points BL).read xs) x₁ → (ending caps has).read xs p ≡ resumed xs (ending_after_count (value_of x₁)) x₂
  unfolding ending ending_read relay
  ending_row has p x₁ x₂ e₁ e₂ =
      one_more xs (λ v. coded (held has BD 0)) (λ v. seeds_on) (got 0 p) e₁
      ∙ resumed_same xs seeds_on (λ pixel. bounded caps.seed_points BL >>= ending_after_count pixel)
      (λ pixel q. listed_row xs caps.seed_points BL point takes_point (made pixel) q) x₁
      ∙ one_more xs (λ v. bounded caps.seed_points BL) ending_after_count x₁ e₂
    where
      made : ℕ → List Point → Format one Ending
      made pixel seeds = pure (record { pixel_size = pixel; seed_points = seeds })

      seeds_on : ℕ → Format one Ending
      seeds_on pixel = listed caps.seed_points BL point takes_point >>= made pixel
