-- Items one behind the other, and counts of them. Assumes nothing.
use Rattle.std.specs.Prelude.{◌≡◌, Bool, length}
use Rattle.std.proofs.Math.Path.{refl, ap, subst}
use Rattle.std.proofs.Common.{sym, ◌∙◌, le-leb}
use Rattle.std.proofs.Math.Bool.{true, false}
use mathlib.Core.List.{List, [], ◌∷◌}
use Prim.Native.Nat.{ℕ, zero, suc, ◌+◌, ◌-◌, ◌≤◌, ◌<◌}
use native.Mathlib.Omega.{arith}
use Rattle.std.proofs.Math.Dec.{leb, leb→le}
use Rattle.bitcursor.specs.declared.Refusal.TheVariants.{CountTooLarge}
use Rattle.loads.specs.Bits.{size}
use Rattle.bitcursor.specs.Reading.{Out, got, refused, and_then}
use Rattle.bitcursor.specs.Code.{Code}
use Rattle.bitcursor.specs.Ranges.{Below}
use Rattle.bitcursor.specs.Chains.{EachBy, Each}
use Rattle.bitcursor.specs.Format.{Input, Format, pure, refuse, ◌>>=◌, relay, either}
use Rattle.bitcursor.specs.Inputs.{one}
use Rattle.bitcursor.specs.Fields.{coded, at_least}
use Rattle.hatch_format.specs.Takes.{Takes, moved}
use Rattle.hatch_format.specs.Layouts.{Count, Bounded, ListedBy, Listed}

-- ---- n items, each read by a running sum of those before it
module _ {M : Input} {A S : Type 0} (f : S → Format M A) (add : S → A → S) where
  abbrev pub summed_read : ℕ → S → Format M (List A)
  summed_read zero s = pure []
  summed_read (suc n) s = f s >>= λ a. summed_read n (add s a) >>= λ items. pure (a ∷ items)

  abbrev pub Summed : ℕ → S → M.Bytes → List A → M.Place → M.Place → Type 0
  Summed n s xs items p q = (length items ≡ n) × EachBy (λ t. (f t).lays xs) add s items p q

  pub summed_to : (n : ℕ) (s : S) (xs : M.Bytes) (items : List A) (p q : M.Place) → (summed_read n s).lays xs items p q → Summed n s xs items p q
  unfolding pure ◌>>=◌
  summed_to zero s xs items p q l = rw l.0 (refl, l.1)
  summed_to (suc n) s xs items p q l =
      let t = summed_to n (add s l.0) xs l.3.0 l.1 l.3.1 l.3.2 in
      rw (l.3.3.0, l.3.3.1) (ap suc t.0, (l.1, l.2, t.1))

  pub summed_from : (n : ℕ) (s : S) (xs : M.Bytes) (items : List A) (p q : M.Place) → Summed n s xs items p q → (summed_read n s).lays xs items p q
  unfolding pure ◌>>=◌
  summed_from zero s xs [] p q l = (refl, l.1)
  summed_from zero s xs (a ∷ items) p q l = absurd (omega (arith, l.0))
  summed_from (suc n) s xs [] p q l = absurd (omega (arith, l.0))
  summed_from (suc n) s xs (a ∷ items) p q l =
      let c = l.1 in
      (a, c.0, c.1, (items, q, summed_from n (add s a) xs items c.0 q (omega (arith, l.0), c.2), (refl, refl)))

  unfoldable pub summed : ℕ → S → Format M (List A)
  summed n s = relay (summed_read n s) (Summed n s) (summed_to n s) (summed_from n s)

-- each takes a bit, so n take n
module _ {A S : Type 0} (f : S → Format one A) (add : S → A → S) where
  each_takes : ((s : S) → Takes 1 (f s)) → (s : S) (xs : List ℕ) (items : List A) (p q : ℕ)
      → EachBy (λ t. (f t).lays xs) add s items p q → p + length items ≤ q
  each_takes t s xs [] p q l = omega (arith, l)
  each_takes t s xs (a ∷ items) p q l =
      let i = t s xs a p l.0 l.1 in
      let j = each_takes t (add s a) xs items l.0 q l.2 in
      omega arith

  pub takes_summed : (n : ℕ) (s : S) → ((s : S) → Takes 1 (f s)) → Takes n (summed f add n s)
  unfolding summed relay
  takes_summed n s t xs items p q l = let j = each_takes t s xs items p q l.1 in omega (arith, l.0)

-- ---- n items of one format; a list of n items is laid out
abbrev pub Times : {A P : Type 0} → ℕ → (A → P → P → Type 0) → List A → P → P → Type 0
Times n L items p q = (length items ≡ n) × Each L items p q

module _ {M : Input} {A : Type 0} where
  unfoldable pub times_read : ℕ → Format M A → Format M (List A)
  times_read n f = summed_read (λ (s : Unit {0}). f) (λ s a. s) n tt

  pub times_to : (n : ℕ) (f : Format M A) (xs : M.Bytes) (items : List A) (p q : M.Place) → (times_read n f).lays xs items p q
      → Times n (f.lays xs) items p q
  unfolding times_read
  times_to n f xs items p q l = summed_to (λ (s : Unit {0}). f) (λ s a. s) n tt xs items p q l

  pub times_from : (n : ℕ) (f : Format M A) (xs : M.Bytes) (items : List A) (p q : M.Place) → Times n (f.lays xs) items p q
      → (times_read n f).lays xs items p q
  unfolding times_read
  times_from n f xs items p q l = summed_from (λ (s : Unit {0}). f) (λ s a. s) n tt xs items p q l

  unfoldable pub times : ℕ → Format M A → Format M (List A)
  times n f = relay (times_read n f) (λ xs. Times n (f.lays xs)) (times_to n f) (times_from n f)

module _ {A : Type 0} where
  pub takes_times : (n : ℕ) (f : Format one A) → Takes 1 f → Takes n (times n f)
  unfolding times summed relay
  takes_times n f t xs items p q l = takes_summed (λ (s : Unit {0}). f) (λ s a. s) n tt (λ s. t) xs items p q l

  -- a format that does not look at the sum
  pub summed_times : {S : Type 0} (f : Format one A) (add : S → A → S) (n : ℕ) (s : S) (xs : List ℕ) (p : ℕ)
      → (summed (λ t. f) add n s).read xs p ≡ (times n f).read xs p
  unfolding summed times times_read relay ◌>>=◌ pure
  summed_times f add zero s xs p = refl
  summed_times f add (suc n) s xs p = go (λ a q. summed_times f add n (add s a) xs q) (f.read xs p)
    where
      go : ((a : A) (q : ℕ) → (summed_read (λ t. f) add n (add s a)).read xs q ≡ (times_read n f).read xs q) → (o : Out ℕ A)
          → and_then o (λ a q. and_then ((summed_read (λ t. f) add n (add s a)).read xs q) (λ items r. got (a ∷ items) r))
          ≡ and_then o (λ a q. and_then ((times_read n f).read xs q) (λ items r. got (a ∷ items) r))
      go h (refused k q) = refl
      go h (got a q) = ap (λ (o : Out ℕ (List A)). and_then o (λ items r. got (a ∷ items) r)) (h a q)

-- ---- a count, as the Rust's `bounds_check` has it: refused with 3 above the cap, and then with 3 above the bits left after it
module _ (cap : ℕ) (c : Code ℕ) where
  unfoldable pub capped_read : Format one ℕ
  capped_read = do
    n ← coded c
    either (leb n cap) (pure n) (refuse CountTooLarge tt)

  pub capped_to : (xs : List ℕ) (n p q : ℕ) → capped_read.lays xs n p q → Count xs cap c n p q
  unfolding capped_read ◌>>=◌ either pure refuse
  capped_to xs n p q l = go (leb l.0 cap) refl l.3
    where
      go : (s : Bool) → leb l.0 cap ≡ s → (either {M = one} s (pure l.0) (refuse CountTooLarge tt)).lays xs n l.1 q → Count xs cap c n p q
      go true e m = rw (m.0, m.1) (l.2, leb→le l.0 cap (rw e tt))
      go false e m = absurd m

  pub capped_from : (xs : List ℕ) (n p q : ℕ) → Count xs cap c n p q → capped_read.lays xs n p q
  unfolding capped_read ◌>>=◌ either pure
  capped_from xs n p q l = (n, q, l.0, rw (le-leb n cap l.1) (refl, refl))

  unfoldable pub capped : Format one ℕ
  capped = relay capped_read (λ xs. Count xs cap c) capped_to capped_from

  unfoldable pub bounded_read : Format one ℕ
  bounded_read = do
    n ← capped
    enough ← at_least n
    pure n

  pub bounded_to : (xs : List ℕ) (n p q : ℕ) → bounded_read.lays xs n p q → Bounded xs cap c n p q
  unfolding bounded_read capped at_least relay ◌>>=◌ pure
  bounded_to xs n p q l =
      let e = l.3.3 in
      let j : q ≡ l.1 = e.1 ∙ l.3.2.1 in
      rw (e.0, j) (l.2, l.3.2.0)

  pub bounded_from : (xs : List ℕ) (n p q : ℕ) → Bounded xs cap c n p q → bounded_read.lays xs n p q
  unfolding bounded_read capped at_least relay ◌>>=◌ pure
  bounded_from xs n p q l = (n, q, l.0, (tt, q, (l.1, refl), (refl, refl)))

  unfoldable pub bounded : Format one ℕ
  bounded = relay bounded_read (λ xs. Bounded xs cap c) bounded_to bounded_from

  -- it takes the bits that its code does, and its values are the code's
  pub takes_bounded : (m : ℕ) → Takes m (coded c) → Takes m bounded
  unfolding bounded relay
  takes_bounded m t xs n p q l = t xs n p q l.0.0

  pub bounded_below : {m : ℕ} → Below m c → (xs : List ℕ) (p : ℕ) {n q : ℕ} → bounded.read xs p ≡ got n q → n < m
  unfolding bounded relay
  bounded_below b xs p {n} {q} e = let l = bounded.sound xs n p q e in b n l.0.0.code l.0.0.listed

  -- and it is not above the bits after it
  pub bounded_left : (xs : List ℕ) (p : ℕ) {n q : ℕ} → bounded.read xs p ≡ got n q → n ≤ size xs - q
  unfolding bounded relay
  bounded_left xs p {n} {q} e = (bounded.sound xs n p q e).1

-- ---- a count, and what it counts behind it, which takes as many bits at least: so of its layouts only the cap is asked
module _ {B : Type 0} (cap : ℕ) (c : Code ℕ) (g : ℕ → Format one B) where
  abbrev pub Counted : List ℕ → B → ℕ → ℕ → Type 0
  Counted xs b p q = (n : ℕ) × (r : ℕ) × Count xs cap c n p r × (g n).lays xs b r q

  pub counted_to : (xs : List ℕ) (b : B) (p q : ℕ) → (bounded cap c >>= g).lays xs b p q → Counted xs b p q
  unfolding bounded relay ◌>>=◌
  counted_to xs b p q l = (l.0, l.1, l.2.0, l.3)

  pub counted_from : ((n : ℕ) → Takes n (g n)) → (xs : List ℕ) (b : B) (p q : ℕ) → Counted xs b p q → (bounded cap c >>= g).lays xs b p q
  unfolding bounded relay ◌>>=◌
  counted_from takes xs b p q l =
      let on : l.1 + l.0 ≤ q = takes l.0 xs b l.1 q l.3 in
      let m = moved (g l.0) xs b l.1 q l.3 in
      let fits : l.0 ≤ size xs - l.1 = omega (arith, on, m.inside) in
      (l.0, l.1, (l.2, fits), l.3)

  unfoldable pub counted : ((n : ℕ) → Takes n (g n)) → Format one B
  counted takes = relay (bounded cap c >>= g) Counted counted_to (counted_from takes)

  pub takes_counted : (m : ℕ) (takes : (n : ℕ) → Takes n (g n)) → ((n : ℕ) → Takes m (g n)) → Takes m (counted takes)
  unfolding counted relay
  takes_counted m takes h xs b p q l =
      let i = moved (coded c) xs l.0 p l.1 l.2.0 in
      let j = h l.0 xs b l.1 q l.3 in
      omega arith

-- ---- a count and that many items, each read by a running sum
module _ {A S : Type 0} (cap : ℕ) (c : Code ℕ) (f : S → Format one A) (add : S → A → S) (s : S) (takes : (t : S) → Takes 1 (f t)) where
  unfoldable pub listed_by_read : Format one (List A)
  listed_by_read = counted cap c (λ n. summed f add n s) (λ n. takes_summed f add n s takes)

  pub listed_by_to : (xs : List ℕ) (items : List A) (p q : ℕ) → listed_by_read.lays xs items p q → ListedBy xs cap c (λ t. (f t).lays xs) add s items p q
  unfolding listed_by_read counted summed relay
  listed_by_to xs items p q l = (l.1, subst (λ (n : ℕ). Count xs cap c n p l.1) (sym l.3.0) l.2, l.3.1)

  pub listed_by_from : (xs : List ℕ) (items : List A) (p q : ℕ) → ListedBy xs cap c (λ t. (f t).lays xs) add s items p q → listed_by_read.lays xs items p q
  unfolding listed_by_read counted summed relay
  listed_by_from xs items p q l = (length items, l.0, l.1, (refl, l.2))

  unfoldable pub listed_by : Format one (List A)
  listed_by = relay listed_by_read (λ xs. ListedBy xs cap c (λ t. (f t).lays xs) add s) listed_by_to listed_by_from

-- a count and that many items of one format
module _ {A : Type 0} (cap : ℕ) (c : Code ℕ) (f : Format one A) (takes : Takes 1 f) where
  unfoldable pub listed_read : Format one (List A)
  listed_read = counted cap c (λ n. times n f) (λ n. takes_times n f takes)

  pub listed_to : (xs : List ℕ) (items : List A) (p q : ℕ) → listed_read.lays xs items p q → Listed xs cap c (f.lays xs) items p q
  unfolding listed_read counted times relay
  listed_to xs items p q l = (l.1, subst (λ (n : ℕ). Count xs cap c n p l.1) (sym l.3.0) l.2, l.3.1)

  pub listed_from : (xs : List ℕ) (items : List A) (p q : ℕ) → Listed xs cap c (f.lays xs) items p q → listed_read.lays xs items p q
  unfolding listed_read counted times relay
  listed_from xs items p q l = (length items, l.0, l.1, (refl, l.2))

  unfoldable pub listed : Format one (List A)
  listed = relay listed_read (λ xs. Listed xs cap c (f.lays xs)) listed_to listed_from

  -- a format that does not look at the sum
  pub listed_times : {S : Type 0} (add : S → A → S) (s : S) (xs : List ℕ) (p : ℕ)
      → (listed_by cap c (λ t. f) add s (λ t. takes)).read xs p ≡ listed.read xs p
  unfolding listed_by listed_by_read listed listed_read counted relay ◌>>=◌
  listed_times add s xs p = go ((bounded cap c).read xs p)
    where
      go : (o : Out ℕ ℕ) → and_then o (λ n q. (summed (λ t. f) add n s).read xs q) ≡ and_then o (λ n q. (times n f).read xs q)
      go (got n q) = summed_times f add n s xs q
      go (refused k q) = refl
