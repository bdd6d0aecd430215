-- The items of the packed list, and what it means that a stored answer and a found one agree.
use Rattle.std.specs.Prelude.{◌≡◌, ℕ, ◌+◌, ◌-◌, ◌*◌, ◌/◌, ◌<◌, Bool, true, false, List, length, ◌≢◌, slice_index}

-- the four bytes from byte `at`, the low one first
unfoldable pub half_at : List ℕ → ℕ → ℕ
half_at s at = slice_index s at + 0x100 * slice_index s (at + 1) + 0x1_0000 * slice_index s (at + 2) + 0x100_0000 * slice_index s (at + 3)

-- the eight bytes from byte `at`, the low one first
unfoldable pub item_at : List ℕ → ℕ → ℕ
item_at s at = half_at s at + 0x1_0000_0000 * half_at s (at + 4)

-- true: each of the n stored items from byte `at` is the found number; false: one of them is not
abbrev pub Agree : List ℕ → ℕ → List ℕ → ℕ → Bool → Type 0
Agree s at found n true = (k : ℕ) → k < n → item_at s (at + 8 * k) ≡ slice_index found k
Agree s at found n false = (k : ℕ) × (k < n) × (item_at s (at + 8 * k) ≢ slice_index found k)

-- true: what is stored from byte `at` to the end is n items, and they agree; false: it is another number of items, or they do not agree
abbrev pub SameAnswer : List ℕ → ℕ → List ℕ → ℕ → Bool → Type 0
SameAnswer s at found n true = ((length s - at) / 8 ≡ n) × Agree s at found n true
SameAnswer s at found n false = ((length s - at) / 8 ≡ n) → Agree s at found n false
