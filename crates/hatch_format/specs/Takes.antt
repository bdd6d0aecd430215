-- How many bits a layout takes at least: what makes a count that is above the bits left one without a layout. Assumes nothing.
use Rattle.std.specs.Prelude.{◌≡◌, refl, Bool, List, ℕ, zero, suc, ◌+◌, ◌*◌, ◌≤◌, length}
use Rattle.std.proofs.Common.{ap, subst, arith}
use Rattle.loads.specs.BitLaws.{length_bits}
use Rattle.bitcursor.specs.Reading.{Out, place}
use Rattle.bitcursor.specs.Code.{Code, Moves, tabled}
use Rattle.bitcursor.specs.Bytes.{low_first}
use Rattle.loads.specs.Bytes.{low_bytes}
use Rattle.bitcursor.proofs.Longs.{BL_to}
use Rattle.bitcursor.specs.Codes.{RC, RD, BS, BS_codes, BS_00, BS_01, BS_10, BS_11, BL, BL_codes, BL_00, BL_01, BL_10}
use Rattle.bitcursor.specs.Doubles.{BD, BD_codes, BD_00, BD_01, BD_10}
use Rattle.bitcursor.specs.Format.{Format, ◌>>=◌}
use Rattle.bitcursor.specs.Inputs.{one}
use Rattle.bitcursor.specs.Fields.{coded}

-- each layout takes n bits at least
abbrev pub Takes : {A : Type 0} → ℕ → Format one A → Type 0
Takes {A} n f = (xs : List ℕ) (a : A) (p q : ℕ) → f.lays xs a p q → p + n ≤ q

-- what is laid goes on, and stays inside
pub moved : {A : Type 0} (f : Format one A) (xs : List ℕ) (a : A) (p q : ℕ) → f.lays xs a p q → Moves xs p q
moved {A} f xs a p q l = subst (λ (o : Out ℕ A). Moves xs p (place o)) (f.complete xs a p q l) (f.grows xs p)

pub takes_none : {A : Type 0} (f : Format one A) → Takes 0 f
takes_none f xs a p q l = let m = moved f xs a p q l in omega arith

pub takes_less : {A : Type 0} (m n : ℕ) (f : Format one A) → m ≤ n → Takes n f → Takes m f
takes_less m n f h t xs a p q l = let i = t xs a p q l in omega arith

-- one format and then another
pub takes_later : {A B : Type 0} (n : ℕ) (f : Format one A) (g : A → Format one B) → ((a : A) → Takes n (g a)) → Takes n (f >>= g)
unfolding ◌>>=◌
takes_later n f g h xs b p q l =
    let i = moved f xs l.0 p l.1 l.2 in
    let j = h l.0 xs b l.1 q l.3 in
    omega arith

pub takes_first : {A B : Type 0} (n : ℕ) (f : Format one A) (g : A → Format one B) → Takes n f → Takes n (f >>= g)
unfolding ◌>>=◌
takes_first n f g h xs b p q l =
    let i = h xs l.0 p l.1 l.2 in
    let j = moved (g l.0) xs b l.1 q l.3 in
    omega arith

-- ---- codes
pub takes_code : {A : Type 0} (n : ℕ) (c : Code A) → ((a : A) (cs : List Bool) → c.codes a cs → n ≤ length cs) → Takes n (coded c)
takes_code n c h xs a p q l = let i = h a l.code l.listed in omega (arith, l.ends)

pub length_low : (k v : ℕ) → length (low_bytes k v) ≡ k
unfolding low_bytes
length_low zero v = refl
length_low (suc k) v = ap suc (length_low k _)

low_long : (k v : ℕ) (cs : List Bool) → (low_first k).codes v cs → 8 * k ≤ length cs
unfolding low_first tabled
low_long k v cs l = omega (arith, ap length l.1, length_bits (low_bytes k v), length_low k v)

pub takes_low : (k : ℕ) → Takes (8 * k) (coded (low_first k))
takes_low k = takes_code (8 * k) (low_first k) (low_long k)

pub takes_RC : Takes 8 (coded RC)
unfolding RC
takes_RC = takes_low 1

pub takes_RD : Takes 64 (coded RD)
unfolding RD
takes_RD = takes_low 8

BD_long : (v : ℕ) (cs : List Bool) → BD.codes v cs → 2 ≤ length cs
unfolding BD tabled
BD_long v cs l = go v cs l
  where
    go : (v : ℕ) (cs : List Bool) → BD_codes v cs → 2 ≤ length cs
    go v cs (BD_00 h) = omega arith
    go v cs BD_01 = omega arith
    go v cs BD_10 = omega arith

pub takes_BD : Takes 2 (coded BD)
takes_BD = takes_code 2 BD BD_long

BL_long : (v : ℕ) (cs : List Bool) → BL.codes v cs → 2 ≤ length cs
unfolding BL
BL_long v cs l = go v cs (BL_to v cs l)
  where
    go : (v : ℕ) (cs : List Bool) → BL_codes v cs → 2 ≤ length cs
    go v cs (BL_00 h) = omega arith
    go v cs (BL_01 h) = omega arith
    go v cs BL_10 = omega arith

pub takes_BL : Takes 2 (coded BL)
takes_BL = takes_code 2 BL BL_long

BS_long : (v : ℕ) (cs : List Bool) → BS.codes v cs → 2 ≤ length cs
unfolding BS tabled
BS_long v cs l = go v cs l
  where
    go : (v : ℕ) (cs : List Bool) → BS_codes v cs → 2 ≤ length cs
    go v cs (BS_00 h) = omega arith
    go v cs (BS_01 h) = omega arith
    go v cs BS_10 = omega arith
    go v cs BS_11 = omega arith

pub takes_BS : Takes 2 (coded BS)
takes_BS = takes_code 2 BS BS_long
