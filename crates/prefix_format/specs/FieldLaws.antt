-- Each field of the prefix is read exactly where specs/Layouts has it laid out. Assumes nothing.
use Rattle.std.specs.Prelude.{◌≡◌, Bool, true, false, List, [], ◌∷◌, ℕ, zero, suc, ◌<◌, length, eqb, Option, None}
use Rattle.std.proofs.Common.{refl, subst, ◌∙◌, arith}
use borrow.Author.Tests.{eqb-true, eqb-false}
use Rattle.bitcursor.specs.Code.{Code, Laid, give, refuse, ◌>>=◌, mapped, tabled}
use Rattle.bitcursor.specs.Bytes.{skip}
use Rattle.bitcursor.specs.Codes.{B, RL, BS}
use Rattle.bitcursor.specs.Handles.{BLL, HANDLE, checked}
use Rattle.bitcursor.specs.Held.{held, marked}
use Rattle.bitcursor.specs.Chains.{Each, ◌⨾◌}
use Rattle.prefix_format.specs.Layouts.{Field, Marked, Block, BlockLaid, some, XdataLaid, SizeLaid, GraphicsLaid, NameLaid}
use Rattle.bitcursor.specs.Joins.{Coded, apart, joined, no_bits, of_no_bits}
use Rattle.prefix_format.specs.Prefix.{chain, extended, graphics_block, graphics, name}

module _ {xs : List ℕ} {p q : ℕ} where
  -- ---- a field that is there or not
  module _ {A : Type 0} where
    pub held_to : (there : Bool) (c : Code A) (absent : A) {v : A} → Laid (held there c absent).codes xs v p q → Field xs there c absent v p q
    unfolding held
    held_to true c absent l = l
    held_to false c absent l = no_bits absent l

    pub held_from : (there : Bool) (c : Code A) (absent : A) {v : A} → Field xs there c absent v p q → Laid (held there c absent).codes xs v p q
    unfolding held
    held_from true c absent l = l
    held_from false c absent l = of_no_bits absent l.0 l.1

  pub marked_to : (there : Bool) (c : Code ℕ) {m : Option ℕ} → Laid (marked there c).codes xs m p q → Marked xs there c m p q
  unfolding marked held mapped tabled
  marked_to true c l =
      let m = l.listed in
      (m.0, m.2, record { code = l.code; listed = m.1; stands = l.stands; ends = l.ends })
  marked_to false c l = no_bits None l

  pub marked_from : (there : Bool) (c : Code ℕ) {m : Option ℕ} → Marked xs there c m p q → Laid (marked there c).codes xs m p q
  unfolding marked held mapped tabled
  marked_from true c l =
      let m = l.2 in
      record { code = m.code; listed = (l.0, m.listed, l.1); stands = m.stands; ends = m.ends }
  marked_from false c l = of_no_bits None l.0 l.1

  -- ---- a colour's name
  pub name_to : (there wide_units : Bool) {v : Unit {0}} → Laid (held there (name wide_units) tt).codes xs v p q → NameLaid xs there wide_units p q
  unfolding held name mapped tabled
  name_to true wide_units l = (l.listed.0, record { code = l.code; listed = l.listed.1; stands = l.stands; ends = l.ends })
  name_to false wide_units l = (no_bits tt l).1

  pub name_from : (there wide_units : Bool) → NameLaid xs there wide_units p q → Laid (held there (name wide_units) tt).codes xs tt p q
  unfolding held name mapped tabled
  name_from true wide_units l =
      let m = l.1 in
      record { code = m.code; listed = (l.0, m.listed, refl); stands = m.stands; ends = m.ends }
  name_from false wide_units l = of_no_bits tt refl l

  -- ---- graphics
  size_to : (bll : Bool) {v : ℕ} → Laid (checked bll BLL RL).codes xs v p q → SizeLaid xs bll v p q
  unfolding checked
  size_to true l = l
  size_to false l = l

  size_from : (bll : Bool) (v : ℕ) → SizeLaid xs bll v p q → Laid (checked bll BLL RL).codes xs v p q
  unfolding checked
  size_from true v l = l
  size_from false v l = l

module _ {xs : List ℕ} {p q : ℕ} where
  pub graphics_to : (bll : Bool) {had : Bool} → Laid (graphics bll).codes xs had p q → GraphicsLaid xs bll had p q
  unfolding graphics graphics_block checked
  graphics_to bll {had} l = apart _ _ l λ set r m n. go set r m n
    where
      go : (set : Bool) (r : ℕ) → Laid B.codes xs set p r → Laid (checked set (graphics_block bll) (give false)).codes xs had r q → GraphicsLaid xs bll had p q
      go true r m n =
          apart _ _ n λ size s k o.
          apart _ _ o λ passed t y z.
          let f = no_bits true z in
          rw (f.0, f.1) (size, (r, m, (s, size_to bll k, y)))
      go false r m n = let f = no_bits false n in rw (f.0, f.1) m

  pub graphics_from : (bll had : Bool) → GraphicsLaid xs bll had p q → Laid (graphics bll).codes xs had p q
  unfolding graphics graphics_block checked
  graphics_from bll true l =
      let m = l.1.2 in
      joined _ _ true l.1.1 (joined _ _ l.0 (size_from bll l.0 m.1) (joined _ _ tt m.2 (of_no_bits true refl refl)))
  graphics_from bll false l = joined _ _ false l (of_no_bits false refl refl)

-- ---- XDATA: n sizes may be read; what is given says whether there was a block, or came before
abbrev seen : Bool → List Block → Bool
seen had [] = had
seen had (b ∷ blocks) = true

seen_one : (blocks : List Block) → seen true blocks ≡ true
seen_one [] = refl
seen_one (b ∷ blocks) = refl

seen_some : (blocks : List Block) → seen false blocks ≡ some blocks
seen_some [] = refl
seen_some (b ∷ blocks) = refl

module _ (xs : List ℕ) where
  abbrev BlocksLaid : List Block → ℕ → ℕ → Type 0
  BlocksLaid blocks = Each (BlockLaid xs) blocks ⨾ Coded xs BS 0

  abbrev ChainLaid : ℕ → Bool → Bool → ℕ → ℕ → Type 0
  ChainLaid n had v p q = (blocks : List Block) × (v ≡ seen had blocks) × (length blocks < n) × BlocksLaid blocks p q

  chain_to : (n : ℕ) (had : Bool) {v : Bool} {p q : ℕ} → Laid (chain n had).codes xs v p q → ChainLaid n had v p q
  unfolding chain checked refuse
  chain_to zero had l = absurd l.listed
  chain_to (suc n) had {v} {p} {q} l = apart _ _ l λ size r m k. go size r m (eqb size 0) refl k (λ s o. chain_to n true o)
    where
      go : (size r : ℕ) → Laid BS.codes xs size p r → (b : Bool) → eqb size 0 ≡ b
          → Laid (checked b (give had) (HANDLE >>= λ appid. skip size >>= λ passed. chain n true)).codes xs v r q
          → ((s : ℕ) → Laid (chain n true).codes xs v s q → ChainLaid n true v s q) → ChainLaid (suc n) had v p q
      go size r m true e k rest =
          let f = no_bits had k in
          ([], f.0, omega arith, (p, refl, rw f.1 (rw (eqb-true size 0 e) at m)))
      go size r m false e k rest =
          apart _ _ k λ appid s h o.
          apart _ _ o λ passed t y z.
          let c = rest t z in
          let b : Block = record { size = size; appid = appid } in
          (b ∷ c.0, c.1 ∙ seen_one c.0, omega (arith, c.2), (c.3.0, (t, (eqb-false size 0 e, (r, m, (s, h, y))), c.3.1), c.3.2))

  chain_from : (n : ℕ) (had : Bool) (blocks : List Block) {p q : ℕ} → length blocks < n → BlocksLaid blocks p q
      → Laid (chain n had).codes xs (seen had blocks) p q
  unfolding chain checked
  chain_from zero had blocks h l = absurd (omega arith)
  chain_from (suc n) had [] h l = joined _ _ 0 (rw l.1 at l.2) (of_no_bits had refl refl)
  chain_from (suc n) had (b ∷ blocks) {q = q} h l =
      let m = l.1.1 in
      let blocks_laid = chain_from n true blocks (omega arith) (l.0, l.1.2, l.2) in
      let rest = subst (λ (v : Bool). Laid (chain n true).codes xs v l.1.0 q) (seen_one blocks) blocks_laid in
      joined _ _ b.size m.1.1 (go (eqb b.size 0) refl m.0 (joined _ _ b.appid m.1.2.1 (joined _ _ tt m.1.2.2 rest)))
    where
      -- a size that is not 0 has a handle and bytes behind it
      go : (none : Bool) → eqb b.size 0 ≡ none → (b.size ≡ 0 → ⊥) → {r : ℕ}
          → Laid (HANDLE >>= λ appid. skip b.size >>= λ passed. chain n true).codes xs true r q
          → Laid (checked none (give had) (HANDLE >>= λ appid. skip b.size >>= λ passed. chain n true)).codes xs true r q
      go true e nonzero k = absurd (nonzero (eqb-true b.size 0 e))
      go false e nonzero k = k

  pub xdata_to : {had : Bool} {p q : ℕ} → Laid extended.codes xs had p q → XdataLaid xs had p q
  unfolding extended
  xdata_to l =
      let c = chain_to 256 false l in
      (c.0, c.1 ∙ seen_some c.0, omega (arith, c.2), c.3)

  pub xdata_from : {had : Bool} {p q : ℕ} → XdataLaid xs had p q → Laid extended.codes xs had p q
  unfolding extended
  xdata_from l = rw (l.1, ← seen_some l.0) (chain_from 256 false l.0 (omega (arith, l.2)) l.3)
