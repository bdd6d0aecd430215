-- The part of the list of numbers that holds a reading's seed points, as its first index and a count. Assumes nothing.
use Rattle.std.specs.Prelude.{◌≡◌, refl, Bool, true, false, List, ℕ, ◌-◌, ◌*◌, length, take, drop, leb}
use Rattle.hatch.specs.Seeds.{if_all, seeds_of}
use Rattle.dwg_hatch.specs.declared.seeds.SeedPart.{SeedPart}

-- the part, or else an empty one at 0
abbrev pub part_if : Bool → SeedPart → SeedPart
part_if true p = p
part_if false p = record { begin = 0; count = 0 }

-- the last 2 n of the first `used` entries of a list with so many, and none where there are not so many
abbrev pub seed_part : ℕ → ℕ → ℕ → SeedPart
seed_part entries used n = part_if (leb used entries) (part_if (leb (2 * n) used) (record { begin = used - 2 * n; count = 2 * n }))

-- the entries of a part
abbrev pub entries_of : {A : Type 0} → List A → SeedPart → List A
entries_of l p = take p.count (drop p.begin l)

chosen : {A : Type 0} (l : List A) (a b : Bool) (p : SeedPart) → entries_of l (part_if a (part_if b p)) ≡ if_all a (if_all b (entries_of l p))
chosen l true true p = refl
chosen l true false p = refl
chosen l false b p = refl

-- in any list, of doubles or of their 64 bits, the part's entries are those that `seed_points` hands out
pub part_holds_seeds : {A : Type 0} (l : List A) (used n : ℕ) → entries_of l (seed_part (length l) used n) ≡ seeds_of l used n
part_holds_seeds l used n = chosen l (leb used (length l)) (leb (2 * n) used) (record { begin = used - 2 * n; count = 2 * n })
