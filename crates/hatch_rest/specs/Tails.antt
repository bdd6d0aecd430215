-- Walks that give values beside what they gather: the pattern, the last fields, and what follows the paths. Assumes nothing.
use Rattle.std.specs.Prelude.{◌≡◌, Bool, true, false, List, ℕ, length, Option, Some, None, Result, Ok, Err}
use Rattle.bitcursor.specs.declared.Refused.{Refused}
use Rattle.bitcursor.specs.Answers.{outcome, value_as}
use Rattle.bitcursor.specs.Reading.{Out}
use Rattle.hatch_format.specs.Values.{Pattern as PatternValue, Ending as EndingValue, Tail as TailValue}
use Rattle.hatch_format.specs.Entries.{every, point_numbers}
use Rattle.hatch_points.specs.declared.lists.Sizes.{Sizes}
use Rattle.hatch_rest.specs.declared.patterns.Pattern.{Pattern}
use Rattle.hatch_rest.specs.declared.patterns.Ending.{Ending}
use Rattle.hatch_rest.specs.declared.patterns.Tail.{Tail}
use Rattle.hatch_points.specs.Gathered.{Entries, numbers, plus, all, gathered}
use Rattle.hatch_rest.specs.LineGathers.{line_entries}
use Rattle.hatch_points.specs.Lists.{Lists, grow, Stored, Ready}
use Rattle.hatch_points.specs.declared.lists.Lent.{Lent}
use Rattle.hatch_points.specs.Lent.{lent, SameLists}

-- ---- what such a walk gives: the value as it is handed on, and the lengths used; in the lists it leaves the entries of the value
abbrev pub walked : {A V : Type 0} → (A → V) → (A → Entries) → Sizes → A → V × Sizes
walked value e z a = (value a, grow z (e a))

abbrev pub ReadyBehind : {V : Type 0} → List ℕ → Result ((V × Sizes) × ℕ) (Refused ℕ) → Type 0
ReadyBehind xs (Ok v) = Ready xs v.1 v.0.1
ReadyBehind xs (Err e) = Unit {0}

-- o is what the definition reads, and `of` what a number is of its 64 bits
pub record Gives {N : Type 0} (of : ℕ → N) (xs : List ℕ) {A V : Type 0} (value : A → V) (e : A → Entries) (o : Out ℕ A) (l : Lists N) (z : Sizes)
    (l' : Lists N) (r : Result ((V × Sizes) × ℕ) (Refused ℕ)) : Type 0 where
  pub is : outcome r ≡ value_as (walked value e z) o
  pub stored : Stored of (gathered e o) l z l'
  pub ready : ReadyBehind xs r

-- the same of a walk that is lent both lists in one
pub record LentGives {N : Type 0} (of : ℕ → N) (xs : List ℕ) {A V : Type 0} (value : A → V) (e : A → Entries) (o : Out ℕ A) (l : Lent N) (z : Sizes)
    (l' : Lent N) (r : Result ((V × Sizes) × ℕ) (Refused ℕ)) : Type 0 where
  pub gives : Gives of xs value e o (lent l) z (lent l') r
  pub same : SameLists l l'

-- ---- the pattern; a solid hatch has none
abbrev pub open_of : PatternValue → Pattern
open_of a = record { angle = a.angle; scale = a.scale; double = a.double; lines = length a.lines }

abbrev pub pattern_of : Bool → PatternValue → Option Pattern
pattern_of true a = None
pattern_of false a = Some (open_of a)

abbrev pub pattern_entries : PatternValue → Entries
pattern_entries a = all line_entries a.lines

-- ---- the last fields
abbrev pub ending_of : EndingValue → Ending
ending_of a = record { pixel_size = a.pixel_size; seed_points = length a.seed_points }

abbrev pub ending_entries : EndingValue → Entries
ending_entries a = numbers (every point_numbers a.seed_points)

-- ---- what follows the paths
abbrev pub tail_of : Bool → TailValue → Tail
tail_of solid a = record { style = a.pattern_style; kind = a.pattern_type; pattern = pattern_of solid a.pattern; ending = ending_of a.ending }

abbrev pub tail_entries : TailValue → Entries
tail_entries a = plus (pattern_entries a.pattern) (ending_entries a.ending)
