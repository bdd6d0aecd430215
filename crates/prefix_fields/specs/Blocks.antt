-- The XDATA chain block by block: what its loop goes by. Assumes nothing.
use Rattle.std.specs.Prelude.{◌≡◌, Bool, true, false, List, ℕ, suc, ◌-◌, ◌<◌, eqb}
use Rattle.std.proofs.Common.{refl, sym, ap, ◌∙◌, arith}
use Rattle.bitcursor.specs.declared.Refusal.{Refusal}
use Rattle.bitcursor.specs.declared.Handle.{Handle}
use Rattle.bitcursor.specs.declared.Refusal.TheVariants.{TooManyXdataBlocks}
use Rattle.bitcursor.specs.Reading.{Out, got, refused, and_then}
use Rattle.bitcursor.specs.Code.{Code, give, refuse, ◌>>=◌}
use Rattle.bitcursor.specs.Bytes.{skip}
use Rattle.bitcursor.specs.Codes.{BS}
use Rattle.bitcursor.specs.Handles.{HANDLE, checked}
use Rattle.prefix_format.specs.Prefix.{chain, extended}

-- one block: false where its size is 0, and true after a handle and that many bytes
unfoldable pub block : Code Bool
block = do
  size ← BS
  checked (eqb size 0) (give false) (do
    appid ← HANDLE
    passed ← skip size
    give true)

-- n blocks may follow
unfoldable pub chain_from : ℕ → Bool → List ℕ → ℕ → Out ℕ Bool
chain_from n had xs p = (chain n had).read xs p

-- the whole chain
pub chain_whole : (xs : List ℕ) (p : ℕ) → extended.read xs p ≡ chain_from 256 false xs p
unfolding extended chain_from
chain_whole xs p = refl

module _ (had : Bool) (n : ℕ) (xs : List ℕ) (p : ℕ) where
  -- what follows a block
  abbrev pub after : Bool → ℕ → Out ℕ Bool
  after false q = got had q
  after true q = chain_from n true xs q

  pub chain_block : chain_from (suc n) had xs p ≡ and_then (block.read xs p) after
  unfolding chain_from chain block ◌>>=◌ checked give
  chain_block = sized (BS.read xs p)
    where
      passed : (o : Out ℕ (Unit {0})) → and_then o (λ u q. (chain n true).read xs q) ≡ and_then (and_then o (λ u q. got true q)) after
      passed (got u q) = refl
      passed (refused r q) = refl

      handled : (size : ℕ) (o : Out ℕ Handle)
          → and_then o (λ h q. and_then ((skip size).read xs q) (λ u e. (chain n true).read xs e))
          ≡ and_then (and_then o (λ h q. and_then ((skip size).read xs q) (λ u e. got true e))) after
      handled size (got h q) = passed ((skip size).read xs q)
      handled size (refused r q) = refl

      by_size : (b : Bool) (size q : ℕ)
          → (checked b (give had) (HANDLE >>= λ h. skip size >>= λ u. chain n true)).read xs q
          ≡ and_then ((checked b (give false) (HANDLE >>= λ h. skip size >>= λ u. give true)).read xs q) after
      by_size true size q = refl
      by_size false size q = handled size (HANDLE.read xs q)

      sized : (o : Out ℕ ℕ)
          → and_then o (λ size q. (checked (eqb size 0) (give had) (HANDLE >>= λ h. skip size >>= λ u. chain n true)).read xs q)
          ≡ and_then (and_then o (λ size q. (checked (eqb size 0) (give false) (HANDLE >>= λ h. skip size >>= λ u. give true)).read xs q)) after
      sized (got size q) = by_size (eqb size 0) size q
      sized (refused r q) = refl

-- the loop's steps, with n blocks left of which there is one at least
module _ (had : Bool) (n : ℕ) (xs : List ℕ) (p : ℕ) (some : 0 < n) where
  by_block : {o : Out ℕ Bool} → o ≡ block.read xs p → chain_from n had xs p ≡ and_then o (after had (n - 1) xs p)
  by_block e =
      let less : n ≡ suc (n - 1) = omega arith in
      ap (λ (m : ℕ). chain_from m had xs p) less ∙ chain_block had (n - 1) xs p ∙ ap (λ (o : Out ℕ Bool). and_then o (after had (n - 1) xs p)) (sym e)

  pub chain_ends : {more : Bool} {q : ℕ} → got more q ≡ block.read xs p → more ≡ false → chain_from n had xs p ≡ got had q
  chain_ends {q = q} e z = by_block e ∙ ap (λ (b : Bool). after had (n - 1) xs p b q) z

  pub chain_on : {more : Bool} {q : ℕ} → got more q ≡ block.read xs p → more ≡ true → chain_from n had xs p ≡ chain_from (n - 1) true xs q
  chain_on {q = q} e z = by_block e ∙ ap (λ (b : Bool). after had (n - 1) xs p b q) z

  pub chain_stops : {r : Refusal} {q : ℕ} → refused r q ≡ block.read xs p → chain_from n had xs p ≡ refused r q
  chain_stops e = by_block e

pub chain_over : (had : Bool) (xs : List ℕ) (p : ℕ) → chain_from 0 had xs p ≡ refused TooManyXdataBlocks p
unfolding chain_from chain refuse
chain_over had xs p = refl
