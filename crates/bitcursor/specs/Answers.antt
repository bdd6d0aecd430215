-- What a call's answer is as a reading, and what a call on any payload gives: refusal 10 above document 01's limit.
-- Assumes nothing.
use Rattle.std.specs.Prelude.{true, false, List, ℕ, leb, length, Result, Ok, Err}
use Rattle.loads.specs.Bits.{limit}
use Rattle.bitcursor.specs.declared.Refusal.{Refusal}
use Rattle.bitcursor.specs.declared.Refusal.TheVariants.{PayloadTooLong}
use Rattle.bitcursor.specs.declared.Refused.{Refused}
use Rattle.bitcursor.specs.Reading.{Out, got, refused}

-- an answer as a reading: the value and the place after it, or the refusal and its place
abbrev pub outcome : {A P : Type 0} → Result (A × P) (Refused P) → Out P A
outcome (Ok v) = got v.0 v.1
outcome (Err e) = refused e.refusal e.place

-- the same of an answer that has the place alone
abbrev pub passing : {P : Type 0} → Result P (Refused P) → Out P (Unit {0})
passing (Ok p) = got tt p
passing (Err e) = refused e.refusal e.place

-- what a reader answers that has the place itself: the value or the refusal
abbrev pub answer : {A P : Type 0} → Out P A → Result A Refusal
answer (got a p) = Ok a
answer (refused r p) = Err r

-- a reading with its value as another: a double of its pattern (the NaN where it is a NaN's)
abbrev pub value_as : {A B P : Type 0} → (A → B) → Out P A → Out P B
value_as f (got a p) = got (f a) p
value_as f (refused r p) = refused r p

-- bytes as a payload: refusal 10 at the place where they are above the limit
abbrev pub payload_at : List ℕ → ℕ → Result (List ℕ) (Refused ℕ)
payload_at xs p = elim (leb (length xs) limit) [ true ↦ Ok xs | false ↦ Err (record { refusal = PayloadTooLong; place = p }) ]

-- a reading of any payload: refusal 10 at the place where the payload is above the limit
unfoldable pub limited : {A : Type 0} → (List ℕ → ℕ → Out ℕ A) → List ℕ → ℕ → Out ℕ A
limited f xs p = elim (leb (length xs) limit) [ true ↦ f xs p | false ↦ refused PayloadTooLong p ]
