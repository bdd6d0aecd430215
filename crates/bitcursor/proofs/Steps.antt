-- What the readings of codes are, step by step, as the readers take them; and through a code's tag. Assumes nothing.
use Rattle.std.specs.Prelude.{◌≡◌, refl, Bool, List, ℕ, zero, suc, ◌+◌, ◌-◌, ◌*◌, ◌/◌, ◌≤◌, ◌<◌, ◌^◌, length, Result}
use Rattle.std.proofs.Common.{sym, ap, ◌∙◌, le-leb, ⊎_elim}
use Rattle.std.proofs.lemmas.Bool.{lt-leb}
use Rattle.std.specs.Result.{IsErr, IsErrAnd}
use Rattle.std.proofs.lemmas.Result.{err_from_is_err_and}
use Rattle.bitcursor.specs.declared.Refusal.{Refusal}
use Rattle.bitcursor.specs.declared.Refused.{Refused}
use Rattle.bitcursor.specs.declared.Refusal.TheVariants.{TooFewBits, PayloadTooLong}
use Rattle.loads.specs.Bits.{size, limit}
use Rattle.bitcursor.specs.Reading.{Out, got, refused, and_then, never}
use Rattle.bitcursor.specs.Code.{Code, raw, ◌>>=◌, mapped, tabled, give, refuse}
use Rattle.bitcursor.specs.Refusals.{OfFields}
use Rattle.bitcursor.specs.Codes.{by_tag, tagged}
use Rattle.bitcursor.specs.Ranges.{raw_below, low_below, read_below}
use Rattle.bitcursor.specs.Bytes.{low_first, skip, le_or_lt}
use Rattle.bitcursor.specs.Stops.{skip_there, skip_short}
use Rattle.bitcursor.specs.Answers.{outcome, limited}

-- ---- each code's reading by its parts
module _ {A B : Type 0} where
  pub joined_read : (f : Code A) (g : A → Code B) (xs : List ℕ) (p : ℕ) → (f >>= g).read xs p ≡ and_then (f.read xs p) (λ a q. (g a).read xs q)
  unfolding ◌>>=◌
  joined_read f g xs p = refl

  pub mapped_read : (h : A → B) (f : Code A) (xs : List ℕ) (p : ℕ) → (mapped h f).read xs p ≡ and_then (f.read xs p) (λ a q. got (h a) q)
  unfolding mapped tabled ◌>>=◌ give
  mapped_read h f xs p = refl

-- a reading of two parts, where the first read and where it did not
module _ {A B : Type 0} (f : Code A) (g : A → Code B) (xs : List ℕ) (p : ℕ) where
  pub then_got : {a : A} {q : ℕ} → f.read xs p ≡ got a q → (f >>= g).read xs p ≡ (g a).read xs q
  unfolding ◌>>=◌
  then_got e = rw e

  pub then_refused : {r : Refusal} {q : ℕ} → f.read xs p ≡ refused r q → (f >>= g).read xs p ≡ refused r q
  unfolding ◌>>=◌
  then_refused e = rw e

module _ {A : Type 0} where
  pub given_read : (a : A) (xs : List ℕ) (p : ℕ) → (give a).read xs p ≡ got a p
  unfolding give
  given_read a xs p = refl

  pub refuse_read : (n : Refusal) (of_fields : OfFields n) (xs : List ℕ) (p : ℕ) → (refuse {A = A} n of_fields).read xs p ≡ refused n p
  unfolding refuse
  refuse_read n of_fields xs p = refl

  pub tabled_read : (f : Code A) (L : A → List Bool → Type 0) (to : (a : A) (cs : List Bool) → f.codes a cs → L a cs)
      (from : (a : A) (cs : List Bool) → L a cs → f.codes a cs) (xs : List ℕ) (p : ℕ) → (tabled f L to from).read xs p ≡ f.read xs p
  unfolding tabled
  tabled_read f L to from xs p = refl

-- ---- the range of what was read
pub raw_small : (n : ℕ) (xs : List ℕ) (p : ℕ) {v q : ℕ} → got v q ≡ (raw n).read xs p → v < 2 ^ n
raw_small n xs p e = read_below (raw n) (raw_below n) xs p (sym e)

pub low_small : (k : ℕ) (xs : List ℕ) (p : ℕ) {v q : ℕ} → got v q ≡ (low_first k).read xs p → v < 256 ^ k
low_small k xs p e = read_below (low_first k) (low_below k) xs p (sym e)

-- ---- by the tag
last_tag : {A : Type 0} (a b c d : Code A) (xs : List ℕ) (q t : ℕ) → (t ≡ 0 → ⊥) → (t ≡ 1 → ⊥) → (t ≡ 2 → ⊥) → (by_tag a b c d t).read xs q ≡ d.read xs q
unfolding by_tag
last_tag a b c d xs q zero h₀ h₁ h₂ = absurd (h₀ refl)
last_tag a b c d xs q (suc zero) h₀ h₁ h₂ = absurd (h₁ refl)
last_tag a b c d xs q (suc (suc zero)) h₀ h₁ h₂ = absurd (h₂ refl)
last_tag a b c d xs q (suc (suc (suc t))) h₀ h₁ h₂ = refl

-- what a code with a tag reads, once the tag was read
module _ {A : Type 0} (a b c d : Code A) (xs : List ℕ) (p : ℕ) {t q : ℕ} (e : got t q ≡ (raw 2).read xs p) where
  on_tag : (tagged a b c d).read xs p ≡ (by_tag a b c d t).read xs q
  unfolding tagged
  on_tag = then_got (raw 2) (by_tag a b c d) xs p (sym e)

  pub tag_00 : t ≡ 0 → (tagged a b c d).read xs p ≡ a.read xs q
  unfolding by_tag
  tag_00 z = on_tag ∙ ap (λ (k : ℕ). (by_tag a b c d k).read xs q) z

  pub tag_01 : t ≡ 1 → (tagged a b c d).read xs p ≡ b.read xs q
  unfolding by_tag
  tag_01 z = on_tag ∙ ap (λ (k : ℕ). (by_tag a b c d k).read xs q) z

  pub tag_10 : t ≡ 2 → (tagged a b c d).read xs p ≡ c.read xs q
  unfolding by_tag
  tag_10 z = on_tag ∙ ap (λ (k : ℕ). (by_tag a b c d k).read xs q) z

  pub tag_11 : (t ≡ 0 → ⊥) → (t ≡ 1 → ⊥) → (t ≡ 2 → ⊥) → (tagged a b c d).read xs p ≡ d.read xs q
  tag_11 h₀ h₁ h₂ = on_tag ∙ last_tag a b c d xs q t h₀ h₁ h₂

-- ---- n bytes that were passed, or could not be
pub record There (xs : List ℕ) (n at p : ℕ) : Type 0 where
  pub fits : 8 * n ≤ size xs - at
  pub next : p ≡ at + 8 * n

pub record Short (xs : List ℕ) (n at : ℕ) (r : Refusal) (p : ℕ) : Type 0 where
  pub misses : size xs - at < 8 * n
  pub why : r ≡ TooFewBits
  pub stop : p ≡ at + (size xs - at) / 8 * 8

module _ (xs : List ℕ) (n at : ℕ) where
  pub passed_there : {p : ℕ} → got tt p ≡ (skip n).read xs at → There xs n at p
  passed_there {p} e =
      ⊎_elim
      (λ (w : 8 * n ≤ size xs - at). let m = e ∙ skip_there n xs at w in record { fits = w; next = cc })
      (λ (w : size xs - at < 8 * n). never (sym (e ∙ skip_short n xs at w)))
      (le_or_lt (8 * n) (size xs - at))

  pub passed_short : {r : Refusal} {p : ℕ} → refused r p ≡ (skip n).read xs at → Short xs n at r p
  passed_short {r} {p} e =
      ⊎_elim
      (λ (w : 8 * n ≤ size xs - at). never (e ∙ skip_there n xs at w))
      (λ (w : size xs - at < 8 * n). let m = e ∙ skip_short n xs at w in record { misses = w; why = cc; stop = cc })
      (le_or_lt (8 * n) (size xs - at))

-- ---- the limit
module _ {A : Type 0} (f : List ℕ → ℕ → Out ℕ A) (xs : List ℕ) (p : ℕ) where
  pub limit_within : length xs ≤ limit → limited f xs p ≡ f xs p
  unfolding limited
  limit_within h = rw (le-leb _ _ h, limited)

  pub limit_above : limit < length xs → limited f xs p ≡ refused PayloadTooLong p
  unfolding limited
  limit_above h = rw (lt-leb _ _ h, limited)

-- ---- what a `?` that met a refusal returns
pub left : {A P : Type 0} (r : Result (A × P) (Refused P)) {e : Refused P} → IsErr r × IsErrAnd r (λ d. d ≡ e) → outcome r ≡ refused e.refusal e.place
left r h = let k = err_from_is_err_and r h.1 in ap outcome k.1 ∙ ap (λ d. refused d.refusal d.place) k.2

-- ---- what a reader in front of `?` leaves to show: its steps, one by one
pub ruleset reading = (joined_read, mapped_read, given_read, refuse_read, tabled_read, raw_small, low_small)
