-- An answer with its number as another value is the reading with that value. Assumes nothing.
use Rattle.std.specs.Prelude.{◌≡◌, refl, List, ℕ, ◌^◌, ◌<◌, eqb, Result, Ok, Err}
use Rattle.std.proofs.Common.{sym, ap, ◌∙◌}
use Rattle.std.specs.Float.{binary64}
use Rattle.std.specs.Float.Ieee.{of_bits}
use Rattle.bitcursor.specs.declared.Refused.{Refused}
use Rattle.bitcursor.specs.Reading.{Out, got, refused, and_then}
use Rattle.bitcursor.specs.Code.{Code, mapped, tabled, ◌>>=◌, give}
use Rattle.bitcursor.specs.Codes.{signed}
use Rattle.bitcursor.specs.Ranges.{Below, read_below}
use Rattle.bitcursor.specs.Answers.{outcome, value_as}

-- an answer with its value as another
abbrev pub answer_as : {A B : Type 0} → (A → B) → Result (A × ℕ) (Refused ℕ) → Result (B × ℕ) (Refused ℕ)
answer_as f (Ok v) = Ok (f v.0, v.1)
answer_as f (Err e) = Err e

-- what is known of a number that was read
abbrev pub Small : ℕ → Result (ℕ × ℕ) (Refused ℕ) → Type 0
Small n (Ok v) = v.0 < 2 ^ n
Small n (Err e) = Unit {0}

as_value : {A B : Type 0} (f : A → B) (r : Result (A × ℕ) (Refused ℕ)) → outcome (answer_as f r) ≡ value_as f (outcome r)
as_value f (Ok v) = refl
as_value f (Err e) = refl

module _ {A B : Type 0} (f : A → B) (c : Code A) (xs : List ℕ) (p : ℕ) (r : Result (A × ℕ) (Refused ℕ)) (is : outcome r ≡ c.read xs p) where
  pub as_value_lem : outcome (answer_as f r) ≡ value_as f (c.read xs p)
  as_value_lem = as_value f r ∙ ap (value_as f) is

  pub as_mapped_lem : outcome (answer_as f r) ≡ (mapped f c).read xs p
  unfolding mapped tabled ◌>>=◌ give
  as_mapped_lem = as_value_lem ∙ go (c.read xs p)
    where
      go : (o : Out ℕ A) → value_as f o ≡ and_then o (λ a q. got (f a) q)
      go (got a q) = refl
      go (refused n q) = refl

module _ (c : Code ℕ) (xs : List ℕ) (p : ℕ) (r : Result (ℕ × ℕ) (Refused ℕ)) (is : outcome r ≡ c.read xs p) where
  pub as_f64_lem : outcome (answer_as (of_bits binary64) r) ≡ value_as (of_bits binary64) (c.read xs p)
  as_f64_lem = as_value_lem (of_bits binary64) c xs p r is

  pub as_bool_lem : outcome (answer_as (eqb 1) r) ≡ (mapped (eqb 1) c).read xs p
  as_bool_lem = as_mapped_lem (eqb 1) c xs p r is

  pub as_i16_lem : outcome (answer_as (signed 16) r) ≡ (mapped (signed 16) c).read xs p
  as_i16_lem = as_mapped_lem (signed 16) c xs p r is

  pub as_i32_lem : outcome (answer_as (signed 32) r) ≡ (mapped (signed 32) c).read xs p
  as_i32_lem = as_mapped_lem (signed 32) c xs p r is

  -- a number that was read is in the code's range
  pub small : (n : ℕ) → Below (2 ^ n) c → Small n r
  small n below = go r is
    where
      go : (r : Result (ℕ × ℕ) (Refused ℕ)) → outcome r ≡ c.read xs p → Small n r
      go (Ok v) e = read_below c below xs p (sym e)
      go (Err e) k = tt
