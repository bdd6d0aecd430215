-- A call by value, as answer and cursor, is the reading at the cursor: one law over the answer's type, and one case of it for every type of value.
-- Assumes nothing.
use Rattle.std.specs.Prelude.{◌≡◌, refl, List, ℕ, Result, Ok, Err}
use Rattle.std.proofs.Common.{ap, ◌∙◌}
use Rattle.bitcursor.specs.declared.Refusal.{Refusal}
use Rattle.bitcursor.specs.declared.Refused.{Refused}
use Rattle.bitcursor.specs.Reading.{Out}
use Rattle.bitcursor.specs.Code.{Code}
use Rattle.bitcursor.specs.Answers.{outcome, answer, limited}
use Rattle.cursor.specs.declared.BitCursor.{BitCursor}
use Rattle.cursor.specs.Cursors.{place_of, cursor_at, read_at, after}

-- over the answer's type: p is the place found, r the call's answer and m what is made of it
module _ {A R M : Type 0} (as_call : Out ℕ A → R) (tell : R → M) (move : Out ℕ A → M) where
  pub by_value : ((o : Out ℕ A) → tell (as_call o) ≡ move o) → (code : Code A) (xs : List ℕ) (c : BitCursor) {p : ℕ} {r : R} {m : M}
      → p ≡ place_of c → r ≡ as_call (limited code.read xs p) → m ≡ tell r → m ≡ move (read_at code xs c)
  by_value is code xs c e d h = h ∙ ap tell (d ∙ ap (λ (q : ℕ). as_call (limited code.read xs q)) e) ∙ is (read_at code xs c)

-- answer and cursor, from a reading, and from what a call by value answered, as `follow` takes it apart
abbrev pub moved : {B : Type 0} → Out ℕ B → Result B Refusal × BitCursor
moved o = (answer o, after o)

abbrev pub followed : {B : Type 0} → Result (B × ℕ) (Refused ℕ) → Result B Refusal × BitCursor
followed (Ok v) = (Ok v.0, cursor_at v.1)
followed (Err e) = (Err e.refusal, cursor_at e.place)

-- they are the same, whatever the value is: a number, a bit, a signed number, a double or a handle
pub is_followed : {B : Type 0} (r : Result (B × ℕ) (Refused ℕ)) → followed r ≡ moved (outcome r)
is_followed (Ok v) = refl
is_followed (Err e) = refl

-- so following a call by value at the cursor's place is the reading at the cursor. What the call makes of the code's reading is `as_call`: for a double
-- `value_as` with the double of its 64 bits, for any other value the reading itself
pub by_call : {A B : Type 0} (as_call : Out ℕ A → Out ℕ B) (code : Code A) (xs : List ℕ) (c : BitCursor) {p : ℕ} (r : Result (B × ℕ) (Refused ℕ))
    → p ≡ place_of c → outcome r ≡ as_call (limited code.read xs p) → followed r ≡ moved (as_call (read_at code xs c))
by_call as_call code xs c r e d = by_value as_call moved (λ o. moved (as_call o)) (λ o. refl) code xs c e d (is_followed r)
