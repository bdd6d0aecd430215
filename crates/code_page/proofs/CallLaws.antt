-- A call's answer by what judging said and by the room there is, over any mapping. Assumes nothing.
use Rattle.std.specs.Prelude.{◌≡◌, refl, Option, Some, None, Result, Ok, Err, is_some, IsSome, List, ℕ, ◌<◌, ◌≤◌, false, ltb, length}
use Rattle.std.specs.List.{All}
use Rattle.std.proofs.Common.{sym, ap, ◌∙◌, arith, lt-ltb, le-ltb}
use Rattle.code_page.specs.declared.refusal.ConversionRefusal.{ConversionRefusal}
use Rattle.code_page.specs.declared.refusal.ConversionRefusal.TheVariants.{UndefinedCharacter, OutputTooShort}
use Rattle.code_page.specs.Conversion.{mapped_all, Conversion, with_room, conversion, after, answer_of, Converts}
use Rattle.code_page.specs.MappedLists.{not_all_mapped}
use Rattle.code_page.proofs.PassLaws.{entries, Stored, mapped, as_many, mapped_stored}

module _ {A B : Type 0} (f : A → Option B) (xs : List A) (out : List B) where
  -- an outcome, and the answer and the output that go with it
  given : (o : Conversion B) (r : Result ℕ ConversionRefusal) (out' : List B) → conversion f xs (length out) ≡ o → r ≡ answer_of o → out' ≡ after o out
      → Converts f xs r out out'
  given o r out' e a b = (a ∙ ap answer_of (sym e), b ∙ ap (λ (p : Conversion B). after p out) (sym e))

  pub gives_undefined : (All (λ x. IsSome (f x)) xs → ⊥) → Converts f xs (Err UndefinedCharacter) out out
  unfolding conversion
  gives_undefined some_not =
      given (Err UndefinedCharacter) (Err UndefinedCharacter) out (go (mapped_all f xs) (not_all_mapped f xs some_not)) refl refl
    where
      go : (m : Option (List B)) → is_some m ≡ false → with_room (ltb (length out) (length xs)) m ≡ Err UndefinedCharacter
      go None e = refl
      go (Some ys) e = cc

  module _ (defined : All (λ x. IsSome (f x)) xs) where
    pub gives_too_short : length out < length xs → Converts f xs (Err OutputTooShort) out out
    unfolding conversion
    gives_too_short h = given (Err OutputTooShort) (Err OutputTooShort) out (rw (mapped f xs defined, lt-ltb (length out) (length xs) h)) refl refl

    pub gives_written : (out' : List B) → length xs ≤ length out → out' ≡ after (Ok (entries f xs)) out → Converts f xs (Ok (length xs)) out out'
    unfolding conversion
    gives_written out' room e =
        given (Ok (entries f xs)) (Ok (length xs)) out' (rw (mapped f xs defined, le-ltb (length out) (length xs) room))
        (ap Ok (sym (as_many f xs defined))) e

    -- the same of as many stores as there are entries
    pub gives_stored : (i : ℕ) (out' : List B) → length xs ≤ length out → i ≤ length xs → length xs ≤ i → Stored (entries f xs) out i out'
        → Converts f xs (Ok (length xs)) out out'
    gives_stored i out' room l h s = gives_written out' room (mapped_stored f xs defined out i out' s (omega arith))
