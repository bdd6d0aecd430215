-- What a reading gives: a value and the place after it, or a refusal and its place. A place, P here, is a bit number in one
-- payload (codes), or one in each of two (formats). Assumes nothing.
use Rattle.std.specs.Prelude.{◌≡◌, refl, Bool, true, false}
use Rattle.std.proofs.Common.{ap, subst, ◌∙◌}
use Rattle.bitcursor.specs.declared.Refusal.{Refusal}
use Rattle.bitcursor.specs.declared.Refusal.TheVariants.{TooFewBits, CountTooLarge}
use Rattle.bitcursor.specs.Refusals.{OfFields}

pub data Out (P A : Type 0) : Type 0 where
  got : A → P → Out P A
  refused : Refusal → P → Out P A

-- the refusals that more bits may change: bits that are missing, and a count above the bits left. A count above its cap has the second's
-- number too; the codes and formats below say which of the two it was.
pub data ForBits : Refusal → Type 0 where
  missing : ForBits TooFewBits
  count : ForBits CountTooLarge

module _ {P : Type 0} where
  -- the final place
  abbrev pub place : {A : Type 0} → Out P A → P
  place (got a q) = q
  place (refused n q) = q

  -- what follows a value; a refusal stays
  abbrev pub and_then : {A B : Type 0} → Out P A → (A → P → Out P B) → Out P B
  and_then (got a q) k = k a q
  and_then (refused n q) k = refused n q

  -- readings one behind the other, however they are taken together
  pub chained : {A B C : Type 0} (o : Out P A) (f : A → P → Out P B) (g : B → P → Out P C)
      → and_then (and_then o f) g ≡ and_then o (λ a q. and_then (f a q) g)
  chained (got a q) f g = refl
  chained (refused n q) f g = refl

  pub never : {A X : Type 0} {n : Refusal} {p q : P} {a : A} → refused n p ≡ got a q → X
  never {A} {X} e = subst F e tt
    where
      F : Out P A → Type 0
      F (got a q) = X
      F (refused n q) = Unit {0}

  -- ---- a refusal that fields give, if it is one
  abbrev pub Fielded : {A : Type 0} → Out P A → Type 0
  Fielded (got a q) = Unit {0}
  Fielded (refused n q) = OfFields n

  pub then_fielded : {A B : Type 0} (o : Out P A) (k : A → P → Out P B) → Fielded o → ((a : A) (q : P) → Fielded (k a q)) → Fielded (and_then o k)
  then_fielded (got a q) k first second = second a q
  then_fielded (refused n q) k first second = first

  -- ---- refused for want of bits
  abbrev pub Lacking : {A : Type 0} → Out P A → Type 0
  Lacking (got a q) = ⊥
  Lacking (refused n q) = ForBits n

  -- what is known of a test that holds only where bits were lacking: at a value it does not hold
  pub got_enough : {A : Type 0} {o : Out P A} {a : A} {q : P} (short : Bool) → (short ≡ true → Lacking o) → o ≡ got a q → short ≡ false
  got_enough false why e = refl
  got_enough true why e = absurd (subst Lacking e (why refl))

  -- two readings one behind the other: the first was short, or it gave a value and the second was
  abbrev pub short_then : {A : Type 0} → Out P A → Bool → (A → P → Bool) → Bool
  short_then (got a q) short second = second a q
  short_then (refused n q) short second = short

  -- the same by one split, as readings in a row have it; proofs/Shorts says that it is `short_then`
  abbrev pub short_of : {A : Type 0} → Out P A → Bool → (A → P → Bool) → Bool
  short_of (got a q) short second = second a q
  short_of (refused n q) short second = short

  module _ {A B : Type 0} (short : Bool) (second : A → P → Bool) (k : A → P → Out P B) where
    pub short_why : (o : Out P A) → (short ≡ true → Lacking o) → ((a : A) (q : P) → second a q ≡ true → Lacking (k a q))
        → short_of o short second ≡ true → Lacking (and_then o k)
    short_why (got a q) first why e = why a q e
    short_why (refused n q) first why e = first e

    -- what the longer payload reads, o' and then k', where neither was short
    pub short_longer : (o o' : Out P A) (k' : A → P → Out P B) → (short ≡ true → Lacking o) → (short ≡ false → o' ≡ o)
        → ((a : A) (q : P) → second a q ≡ false → k' a q ≡ k a q) → short_of o short second ≡ false → and_then o' k' ≡ and_then o k
    short_longer (got a q) o' k' why first same e = ap (λ (o : Out P A). and_then o k') (first (got_enough {o = got a q} short why refl)) ∙ same a q e
    short_longer (refused n q) o' k' why first same e = rw (first e)

  -- a refusal stays one, whatever would have followed a value
  pub lacking_on : {A B : Type 0} (k : A → P → Out P B) (o : Out P A) → Lacking o → Lacking (and_then o k)
  lacking_on k (got a q) h = absurd h
  lacking_on k (refused n q) h = h
