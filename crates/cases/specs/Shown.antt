-- What a case shows: the numbers of a reading with its final places, or a refusal's number and places; and the one proof that a
-- table of cases holds, by a test that computes over all its rows. Assumes nothing.
use Rattle.std.specs.Prelude.{◌≡◌, refl, Bool, true, false, ◌&&◌, List, [], ◌∷◌, ℕ, T, eqb, ℤ, pos, negsuc}
use Rattle.std.proofs.Common.{ap, ap₂, eqb→eq}
use Rattle.bitcursor.specs.Reading.{Out, got, refused}
use Rattle.bitcursor.specs.Refusals.{refusal_number}
use Rattle.bitcursor.specs.Inputs.{Places}

pub data Shown : Type 0 where
  reading : List ℤ → ℕ → ℕ → Shown
  refusal : ℕ → ℕ → ℕ → Shown

-- a reading of one payload: its values by f, and no second place
abbrev pub shown : {A : Type 0} → (A → List ℤ) → Out ℕ A → Shown
shown f (got a p) = reading (f a) p 0
shown f (refused r p) = refusal (refusal_number r) p 0

-- a reading of both payloads
abbrev pub shown_both : {A : Type 0} → (A → List ℤ) → Out Places A → Shown
shown_both f (got a q) = reading (f a) q.main q.string
shown_both f (refused r q) = refusal (refusal_number r) q.main q.string

-- what the definitions compute for an input, and what document 01 states of it
pub record Case : Type 0 where
  pub computed : Shown
  pub stated : Shown

-- a row of the table that names no release: a case of each of the seven, before the rows that follow
abbrev pub of_each_release : (ℕ → Case) → List Case → List Case
of_each_release row rows = row 1 ∷ (row 2 ∷ (row 3 ∷ (row 4 ∷ (row 5 ∷ (row 6 ∷ (row 7 ∷ rows))))))

-- ---- the test
abbrev pub same_z : ℤ → ℤ → Bool
same_z (pos a) (pos b) = eqb a b
same_z (pos a) (negsuc b) = false
same_z (negsuc a) (pos b) = false
same_z (negsuc a) (negsuc b) = eqb a b

abbrev pub same_list : List ℤ → List ℤ → Bool
same_list [] [] = true
same_list [] (z ∷ zs) = false
same_list (z ∷ zs) [] = false
same_list (z ∷ zs) (w ∷ ws) = same_z z w && same_list zs ws

abbrev pub same : Shown → Shown → Bool
same (reading vs p q) (reading ws r s) = same_list vs ws && eqb p r && eqb q s
same (refusal n p q) (refusal m r s) = eqb n m && eqb p r && eqb q s
same (reading vs p q) (refusal m r s) = false
same (refusal n p q) (reading ws r s) = false

unfoldable pub all_same : List Case → Bool
all_same [] = true
all_same (c ∷ cs) = same c.computed c.stated && all_same cs

-- ---- and that it decides
both : (a b : Bool) → T (a && b) → T a × T b
both true true h = (tt, tt)
both true false h = absurd h
both false b h = absurd h

eq_z : (z w : ℤ) → T (same_z z w) → z ≡ w
eq_z (pos a) (pos b) h = ap pos (eqb→eq a b h)
eq_z (negsuc a) (negsuc b) h = ap negsuc (eqb→eq a b h)
eq_z (pos a) (negsuc b) h = absurd h
eq_z (negsuc a) (pos b) h = absurd h

eq_list : (vs ws : List ℤ) → T (same_list vs ws) → vs ≡ ws
eq_list [] [] h = refl
eq_list [] (w ∷ ws) h = absurd h
eq_list (v ∷ vs) [] h = absurd h
eq_list (v ∷ vs) (w ∷ ws) h =
    let t = both (same_z v w) (same_list vs ws) h in
    ap₂ ◌∷◌ (eq_z v w t.0) (eq_list vs ws t.1)

eq_shown : (a b : Shown) → T (same a b) → a ≡ b
eq_shown (reading vs p q) (reading ws r s) h =
    let t = both (same_list vs ws && eqb p r) (eqb q s) h in
    let u = both (same_list vs ws) (eqb p r) t.0 in
    let e = eq_list vs ws u.0 in
    let f = eqb→eq p r u.1 in
    let g = eqb→eq q s t.1 in
    cc
eq_shown (refusal n p q) (refusal m r s) h =
    let t = both (eqb n m && eqb p r) (eqb q s) h in
    let u = both (eqb n m) (eqb p r) t.0 in
    let e = eqb→eq n m u.0 in
    let f = eqb→eq p r u.1 in
    let g = eqb→eq q s t.1 in
    cc
eq_shown (reading vs p q) (refusal m r s) h = absurd h
eq_shown (refusal n p q) (reading ws r s) h = absurd h

-- every row: the definitions compute what is stated
abbrev pub Holds : List Case → Type 0
Holds [] = Unit {0}
Holds (c ∷ cs) = (c.computed ≡ c.stated) × Holds cs

pub holds : (cs : List Case) → T (all_same cs) → Holds cs
unfolding all_same
holds [] h = tt
holds (c ∷ cs) h =
    let t = both (same c.computed c.stated) (all_same cs) h in
    (eq_shown c.computed c.stated t.0, holds cs t.1)
