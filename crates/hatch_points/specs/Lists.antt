-- The lent lists, what a walk leaves in them, and what every walk ensures. Only this file and the laws of its first part know how many
-- lists there are. Assumes nothing.
use Rattle.std.specs.Prelude.{◌≡◌, ◌||◌, List, [], map, ℕ, ◌+◌, ◌*◌, ◌≤◌, length, take, Result, Ok, Err}
use Rattle.std.proofs.lemmas.List.Edits.{sets}
use Rattle.bitcursor.specs.declared.Refused.{Refused}
use Rattle.bitcursor.specs.Answers.{outcome, value_as}
use Rattle.bitcursor.specs.Reading.{Out, got, refused}
use Rattle.loads.specs.Bits.{limit}
use Rattle.hatch_points.specs.declared.lists.Sizes.{Sizes}
use Rattle.hatch_points.specs.Gathered.{Entries}

-- numbers, as doubles or as their 64 bits, and words
pub record Lists (N : Type 0) : Type 0 where
  pub numbers : List N
  pub words : List ℕ

abbrev pub lists : {N : Type 0} → List N → List ℕ → Lists N
lists a b = record { numbers = a; words = b }

-- the lengths used, with n numbers more, with n words more, and with what a walk gathers
abbrev pub with_numbers : Sizes → ℕ → Sizes
with_numbers z n = record { numbers = z.numbers + n; words = z.words; derived = z.derived }

abbrev pub with_words : Sizes → ℕ → Sizes
with_words z n = record { numbers = z.numbers; words = z.words + n; derived = z.derived }

abbrev pub grow : Sizes → Entries → Sizes
grow z e =
    record { numbers = z.numbers + length e.numbers; words = z.words + length e.words; derived = z.derived || e.derived }

-- What is free after a refusal, and what holds of it: the entries from the length used on that the walk began with are anything; the list's
-- length, and every entry before them, are what they were.
pub record KeptFront {A : Type 0} (n : ℕ) (l l' : List A) : Type 0 where
  pub long : length l' ≡ length l
  pub front : take n l' ≡ take n l

pub record Kept {N : Type 0} (l : Lists N) (z : Sizes) (l' : Lists N) : Type 0 where
  pub numbers : KeptFront z.numbers l.numbers l'.numbers
  pub words : KeptFront z.words l.words l'.words

-- entries laid over the lists from the lengths used so far, so far as there is room: each number is `of` its 64 bits
abbrev pub store : {N : Type 0} → (ℕ → N) → Lists N → Sizes → Entries → Lists N
store of l z e = lists (sets l.numbers z.numbers (map of e.numbers)) (sets l.words z.words e.words)

abbrev pub Stored : {N : Type 0} → (ℕ → N) → Out ℕ Entries → Lists N → Sizes → Lists N → Type 0
Stored of (got e p) l z l' = l' ≡ store of l z e
Stored of (refused k p) l z l' = Kept l z l'

-- ---- what a walk gives
-- the payload is within the limit, the place within the payload, and no more entries have come than bits
abbrev pub Ready : List ℕ → ℕ → Sizes → Type 0
Ready xs p z = (length xs ≤ limit) × ((p ≤ 8 * length xs) × ((z.numbers ≤ p) × (z.words ≤ p)))

abbrev pub ReadyAfter : List ℕ → Result (Sizes × ℕ) (Refused ℕ) → Type 0
ReadyAfter xs (Ok v) = Ready xs v.1 v.0
ReadyAfter xs (Err e) = Unit {0}

-- o is what the definition gathers, and `of` what a number is of its 64 bits
pub record Walks {N : Type 0} (of : ℕ → N) (xs : List ℕ) (o : Out ℕ Entries) (l : Lists N) (z : Sizes) (l' : Lists N)
    (r : Result (Sizes × ℕ) (Refused ℕ)) : Type 0 where
  pub is : outcome r ≡ value_as (grow z) o
  pub stored : Stored of o l z l'
  pub ready : ReadyAfter xs r

-- the same of a walk that is lent no numbers, and of one that is lent no list
abbrev pub WordWalks : List ℕ → Out ℕ Entries → List ℕ → Sizes → List ℕ → Result (Sizes × ℕ) (Refused ℕ) → Type 0
WordWalks xs o ws z ws' r = Walks (λ n. n) xs o (lists [] ws) z (lists [] ws') r

abbrev pub Passes : List ℕ → Out ℕ Entries → Sizes → Result (Sizes × ℕ) (Refused ℕ) → Type 0
Passes xs o z r = WordWalks xs o [] z [] r
