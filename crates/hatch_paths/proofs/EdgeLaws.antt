-- The small walks of edges and paths: a bit and a handle count as words, and kinds that are none. Assumes nothing.
use mathlib.Core.Path.{◌≡◌, refl}
use mathlib.Core.Bool.{Bool}
use mathlib.Core.List.{List}
use Prim.Native.Nat.{ℕ, zero, suc}
use Rattle.bitcursor.specs.declared.Refused.{Refused}
use Rattle.bitcursor.specs.declared.Refusal.TheVariants.{EdgeKind}
use Rattle.loads.specs.Bits.{bit}
use Rattle.bitcursor.specs.Reading.{got, refused}
use Rattle.bitcursor.specs.Codes.{B, BL}
use Rattle.bitcursor.specs.Format.{pure, refuse, ◌>>=◌}
use Rattle.hatch_format.specs.declared.Caps.{Caps}
use Rattle.hatch_format.specs.HandleRule.{in_payload}
use Rattle.hatch_format.specs.Counts.{bounded}
use Rattle.hatch_format.specs.Paths.{handle_count}
use Rattle.hatch_format.proofs.Paths.{handles_bounded}
use Rattle.hatch_points.specs.Gathered.{word}
use Rattle.hatch_points.proofs.Laws.{Numberless}
use Rattle.hatch_points.proofs.NoWords.{numberless}
use Rattle.hatch_paths.specs.PathWalks.{bit_walk, edge_of_walk, handles_walk}

-- a bit that is a word
pub bit_read : (xs : List ℕ) (p : ℕ) {b : Bool} {q : ℕ} → got b q ≡ B.read xs p → bit_walk.read xs p ≡ got (word (bit b)) q
unfolding bit_walk ◌>>=◌ pure
bit_read xs p e = rw (← e)

pub bit_refused : (xs : List ℕ) (p : ℕ) {e : Refused ℕ} → refused e.refusal e.place ≡ B.read xs p → bit_walk.read xs p ≡ refused e.refusal e.place
unfolding bit_walk ◌>>=◌ pure
bit_refused xs p e = rw (← e)

pub bit_numberless : (xs : List ℕ) (p : ℕ) → Numberless (bit_walk.read xs p)
unfolding bit_walk ◌>>=◌ pure
bit_numberless xs p = numberless (λ (b : Bool). word (bit b)) (λ b. refl) (B.read xs p)

-- a kind that is not 1 to 4
pub other_kind : (caps : Caps) (b : Bool) (k : ℕ) (xs : List ℕ) (p : ℕ) → (k ≡ 1 → ⊥) → (k ≡ 2 → ⊥) → (k ≡ 3 → ⊥) → (k ≡ 4 → ⊥)
    → (edge_of_walk caps b k).read xs p ≡ refused EdgeKind p
unfolding edge_of_walk refuse
other_kind caps b zero xs p h₁ h₂ h₃ h₄ = refl
other_kind caps b (suc zero) xs p h₁ h₂ h₃ h₄ = absurd (h₁ refl)
other_kind caps b (suc (suc zero)) xs p h₁ h₂ h₃ h₄ = absurd (h₂ refl)
other_kind caps b (suc (suc (suc zero))) xs p h₁ h₂ h₃ h₄ = absurd (h₃ refl)
other_kind caps b (suc (suc (suc (suc zero)))) xs p h₁ h₂ h₃ h₄ = absurd (h₄ refl)
other_kind caps b (suc (suc (suc (suc (suc k))))) xs p h₁ h₂ h₃ h₄ = refl

-- a handle count is one word
pub handles_numberless : (cap : ℕ) (xs : List ℕ) (p : ℕ) → Numberless ((handles_walk cap).read xs p)
unfolding handles_walk ◌>>=◌ pure
handles_numberless cap xs p = numberless word (λ n. refl) ((handle_count cap in_payload 0).read xs p)

pub handles_read : (cap : ℕ) (xs : List ℕ) (p : ℕ) {n q : ℕ} → got n q ≡ (bounded cap BL).read xs p → (handles_walk cap).read xs p ≡ got (word n) q
unfolding handles_walk ◌>>=◌ pure
handles_read cap xs p e = rw (handles_bounded cap 0 xs p, ← e)

pub handles_refused : (cap : ℕ) (xs : List ℕ) (p : ℕ) {e : Refused ℕ} → refused e.refusal e.place ≡ (bounded cap BL).read xs p
    → (handles_walk cap).read xs p ≡ refused e.refusal e.place
unfolding handles_walk ◌>>=◌ pure
handles_refused cap xs p e = rw (handles_bounded cap 0 xs p, ← e)
