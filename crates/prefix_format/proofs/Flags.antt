-- A flag as the number of its bit, and an invisibility as the number that is signed: where each is read, its layout is. Assumes nothing.
use Rattle.std.specs.Prelude.{◌≡◌, Bool, true, false, List, ℕ, zero, suc, ℤ, ◌<◌, eqb}
use Rattle.std.proofs.Common.{refl, ap, subst, ◌∙◌, arith}
use Rattle.loads.specs.Bits.{bit}
use Rattle.bitcursor.specs.Code.{Code, Laid, raw, mapped, tabled}
use Rattle.bitcursor.specs.Codes.{B, B_read, B_to, B_from, BS, signed, signed_BS}
use Rattle.bitcursor.specs.Held.{held}
use Rattle.bitcursor.specs.Joins.{Coded, no_bits, of_no_bits}
use Rattle.prefix_format.specs.Layouts.{Field}

-- one bit, as a number
abbrev pub BIT : Code ℕ
BIT = raw 1

pub eqb_bit : (b : Bool) → eqb 1 (bit b) ≡ b
eqb_bit true = refl
eqb_bit false = refl

module _ {xs : List ℕ} {p q : ℕ} where
  pub bit_to : {v : ℕ} → Laid BIT.codes xs v p q → Coded xs B (eqb 1 v) p q
  unfolding B B_read raw mapped tabled
  bit_to {v} l = record { code = l.code; listed = B_to (eqb 1 v) l.code (v, l.listed, refl); stands = l.stands; ends = l.ends }

  pub bit_from : {b : Bool} → Coded xs B b p q → Laid BIT.codes xs (bit b) p q
  unfolding B B_read raw mapped tabled
  bit_from {b} l =
      let m = B_from b l.code l.listed in
      let e : m.0 ≡ bit b = number b m.0 m.1.0 m.2 in
      record { code = l.code; listed = subst (λ (v : ℕ). BIT.codes v l.code) e m.1; stands = l.stands; ends = l.ends }
    where
      number : (b : Bool) (v : ℕ) → v < 2 → b ≡ eqb 1 v → v ≡ bit b
      number b zero h e = rw e
      number b (suc zero) h e = rw e
      number b (suc (suc v)) h e = absurd (omega arith)

  pub held_bit_to : (there absent : Bool) {v : ℕ} → Laid (held there BIT (bit absent)).codes xs v p q → Field xs there B absent (eqb 1 v) p q
  unfolding held
  held_bit_to true absent l = bit_to l
  held_bit_to false absent l = let e = no_bits (bit absent) l in (ap (eqb 1) e.0 ∙ eqb_bit absent, e.1)

  pub held_bit_from : (there absent b : Bool) → Field xs there B absent b p q → Laid (held there BIT (bit absent)).codes xs (bit b) p q
  unfolding held
  held_bit_from true absent b l = bit_from l
  held_bit_from false absent b l = of_no_bits (bit absent) (ap bit l.0) l.1

  -- ---- BS, signed
  pub signed_to : {v : ℕ} → Laid BS.codes xs v p q → Coded xs signed_BS (signed 16 v) p q
  unfolding signed_BS mapped tabled
  signed_to {v} l = record { code = l.code; listed = (v, l.listed, refl); stands = l.stands; ends = l.ends }

  pub signed_from : {z : ℤ} → Coded xs signed_BS z p q → (v : ℕ) × Laid BS.codes xs v p q × (z ≡ signed 16 v)
  unfolding signed_BS mapped tabled
  signed_from l = let m = l.listed in (m.0, record { code = l.code; listed = m.1; stands = l.stands; ends = l.ends }, m.2)
