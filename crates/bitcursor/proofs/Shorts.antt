-- Codes and formats in a row are short as `short_then` says: where the first was, or it gave a value and the second was. Assumes nothing.
use Rattle.std.specs.Prelude.{◌≡◌, refl, Bool, true, false, List, ℕ}
use Rattle.std.proofs.Common.{ap, ◌∙◌}
use Rattle.bitcursor.specs.Reading.{Out, got, refused, and_then, Lacking, got_enough, short_then, short_of}
use Rattle.bitcursor.specs.Code.{Code, ◌>>=◌}

module _ {P : Type 0} where
  pub short_of_is : {A : Type 0} (o : Out P A) (short : Bool) (second : A → P → Bool) → short_of o short second ≡ short_then o short second
  short_of_is (got a q) short second = refl
  short_of_is (refused n q) short second = refl

  module _ {A B : Type 0} (short : Bool) (second : A → P → Bool) (k : A → P → Out P B) where
    pub then_why : (o : Out P A) → (short ≡ true → Lacking o) → ((a : A) (q : P) → second a q ≡ true → Lacking (k a q))
        → short_then o short second ≡ true → Lacking (and_then o k)
    then_why (got a q) first why e = why a q e
    then_why (refused n q) first why e = first e

    -- what the longer payload reads, o' and then k', where neither was short
    pub then_longer : (o o' : Out P A) (k' : A → P → Out P B) → (short ≡ true → Lacking o) → (short ≡ false → o' ≡ o)
        → ((a : A) (q : P) → second a q ≡ false → k' a q ≡ k a q) → short_then o short second ≡ false → and_then o' k' ≡ and_then o k
    then_longer (got a q) o' k' why first same e = ap (λ (o : Out P A). and_then o k') (first (got_enough {o = got a q} short why refl)) ∙ same a q e
    then_longer (refused n q) o' k' why first same e = rw (first e)

pub codes_short : {A B : Type 0} (f : Code A) (g : A → Code B) (xs : List ℕ) (p : ℕ)
    → (f >>= g).short xs p ≡ short_then (f.read xs p) (f.short xs p) (λ a r. (g a).short xs r)
unfolding ◌>>=◌
codes_short f g xs p = short_of_is (f.read xs p) (f.short xs p) (λ a r. (g a).short xs r)
