-- Which answer a call gives, and why: 14 exactly if an entry is undefined; then 11 exactly if the output is shorter than the input; else every entry is
-- converted. Assumes nothing.
use Rattle.std.specs.Prelude.{◌≡◌, Bool, Option, Some, None, Ok, Err, List, ℕ, ◌<◌, ◌≤◌, length, get_or}
use Rattle.std.proofs.Math.Path.{refl}
use Rattle.std.proofs.Math.Bool.{true, false}
use Rattle.std.proofs.Math.Dec.{ltb}
use borrow.Author.Tests.{ltb-true, ltb-false, lt-ltb, le-ltb}
use Rattle.code_page.specs.declared.refusal.ConversionRefusal.TheVariants.{UndefinedCharacter, OutputTooShort}
use Rattle.code_page.specs.Conversion.{mapped_all, Conversion, with_room, conversion}
use Rattle.code_page.specs.MappedLists.{all_length, all_entries, UndefinedIn, somewhere, of_entries, of_somewhere}

module _ (f : ℕ → Option ℕ) (xs : List ℕ) (room : ℕ) where
  -- entry by entry what the input is mapped to
  pub record Each (ys : List ℕ) : Type 0 where
    pub as_many : length ys ≡ length xs
    pub entry : (i : ℕ) → i < length xs → f (get_or xs i 0) ≡ Some (get_or ys i 0)

  -- each answer and what it stands for
  pub data Answers : Conversion ℕ → Type 0 where
    one_undefined : UndefinedIn f 0 xs → Answers (Err UndefinedCharacter)
    too_short : (ys : List ℕ) → Each ys → room < length xs → Answers (Err OutputTooShort)
    all_converted : (ys : List ℕ) → Each ys → length xs ≤ room → Answers (Ok ys)

  each : (ys : List ℕ) → mapped_all f xs ≡ Some ys → Each ys
  each ys e = record { as_many = all_length f xs ys e; entry = all_entries f 0 0 xs ys e }

  -- the outcome is one of these
  pub answers : Answers (conversion f xs room)
  unfolding conversion
  answers = go (mapped_all f xs) refl (ltb room (length xs)) refl
    where
      go : (m : Option (List ℕ)) → mapped_all f xs ≡ m → (s : Bool) → ltb room (length xs) ≡ s → Answers (with_room s m)
      go None e s t = one_undefined (somewhere f 0 xs e)
      go (Some ys) e true t = too_short ys (each ys e) (ltb-true room (length xs) t)
      go (Some ys) e false t = all_converted ys (each ys e) (ltb-false room (length xs) t)

  -- and no other
  pub answers_only : (o : Conversion ℕ) → Answers o → conversion f xs room ≡ o
  unfolding conversion
  answers_only (Err UndefinedCharacter) (one_undefined u) = rw (of_somewhere f 0 xs u)
  answers_only (Err OutputTooShort) (too_short ys e l) = rw (of_entries f 0 0 xs ys e.as_many e.entry, lt-ltb room (length xs) l)
  answers_only (Ok ys) (all_converted zs e l) = rw (of_entries f 0 0 xs ys e.as_many e.entry, le-ltb room (length xs) l)
