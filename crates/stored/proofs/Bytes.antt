-- What std makes of the eight bytes at a place is the item there.
use Rattle.std.proofs.Common.{◌≡◌, ap, ◌∙◌, ℕ, zero, suc, ◌+◌, ◌*◌, ◌≤◌, List, [], ◌∷◌, length, get_or, take, drop, refl, arith, drop-cons}
use Rattle.std.specs.Int.{w64, from_le_bytes}
use Rattle.stored.specs.Items.{half_at, item_at}

module _ (s : List ℕ) where
  -- the k bytes at a place, one by one
  abbrev one_by_one : ℕ → ℕ → List ℕ
  one_by_one zero at = []
  one_by_one (suc k) at = get_or s at 0 ∷ one_by_one k (suc at)

  taken : (k at : ℕ) → at + k ≤ length s → take k (drop at s) ≡ one_by_one k at
  taken zero at h = refl
  taken (suc k) at h = ap (take (suc k)) (drop-cons s at 0 (omega arith)) ∙ ap (λ (bs : List ℕ). get_or s at 0 ∷ bs) (taken k (suc at) (omega arith))

  half : (q : ℕ) → half_at s q ≡ get_or s q 0 + 0x100 * get_or s (suc q) 0 + 0x1_0000 * get_or s (suc (suc q)) 0 + 0x100_0000 * get_or s (suc (suc (suc q))) 0
  unfolding half_at
  half q =
      let e₁ : q + 1 ≡ suc q = omega arith in
      let e₂ : q + 2 ≡ suc (suc q) = omega arith in
      let e₃ : q + 3 ≡ suc (suc (suc q)) = omega arith in
      rw (e₁, e₂, e₃)

  eight : (at : ℕ) → from_le_bytes w64 (one_by_one 8 at) ≡ item_at s at
  unfolding item_at
  eight at =
      let e : at + 4 ≡ suc (suc (suc (suc at))) = omega arith in
      rw (e, half at, half (suc (suc (suc (suc at))))) (omega arith)

  pub from_eight : (at : ℕ) → at + 8 ≤ length s → from_le_bytes w64 (take 8 (drop at s)) ≡ item_at s at
  from_eight at h = ap (from_le_bytes w64) (taken 8 at h) ∙ eight at
