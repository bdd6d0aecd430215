-- Laws by which a format's entries are shown to be what its walk gathers: counts with their items, and runs taken apart. Assumes nothing.
use Rattle.std.specs.Prelude.{◌≡◌, false, List, [], ◌∷◌, length}
use Rattle.std.proofs.Math.Path.{refl, ap}
use Rattle.std.proofs.Common.{sym, ◌∙◌}
use Prim.Native.Nat.{ℕ, suc, ◌+◌}
use Rattle.bitcursor.specs.Reading.{Out, got, refused, and_then}
use Rattle.bitcursor.specs.Code.{Code}
use Rattle.bitcursor.specs.Doubles.{BD}
use Rattle.bitcursor.specs.Format.{Format, pure, ◌>>=◌, relay}
use Rattle.bitcursor.specs.Inputs.{one}
use Rattle.bitcursor.specs.Fields.{coded}
use Rattle.hatch_format.specs.Entries.{every}
use Rattle.hatch_format.specs.Takes.{Takes}
use Rattle.hatch_format.specs.Counts.{times_read, times, bounded, counted, listed_read, listed}
use Rattle.hatch_points.specs.Gathered.{Entries, none, numbers, plus, all, gathered, repeated}
use Rattle.hatch_points.specs.Walks.{raw_run, double_run, single_walk}
use Rattle.hatch_points.specs.Runs.{times_length, raw_add, times_gather}

-- ---- lists of entries
pub all_numbers : {A : Type 0} (f : A → List ℕ) (items : List A) → all (λ a. numbers (f a)) items ≡ numbers (every f items)
all_numbers f [] = refl
all_numbers f (a ∷ items) = ap (plus (numbers (f a))) (all_numbers f items)

-- each a number of its own
abbrev pub single : ℕ → Entries
single n = numbers (n ∷ [])

pub all_single : (ns : List ℕ) → all single ns ≡ numbers ns
all_single [] = refl
all_single (n ∷ ns) = ap (plus (single n)) (all_single ns)

pub doubles_gather : (xs : List ℕ) (n p : ℕ) → gathered (all single) ((times n (coded BD)).read xs p) ≡ (double_run n).read xs p
unfolding double_run ◌>>=◌ pure
doubles_gather xs n p = go ((times n (coded BD)).read xs p)
  where
    go : (o : Out ℕ (List ℕ)) → gathered (all single) o ≡ and_then o (λ ns q. got (numbers ns) q)
    go (got ns q) = ap (λ (e : Entries). got e q) (all_single ns)
    go (refused k q) = refl

-- n BD, one by one
single_gathers : (xs : List ℕ) (p : ℕ) → gathered single (BD.read xs p) ≡ single_walk.read xs p
unfolding single_walk ◌>>=◌ pure
single_gathers xs p = refl

pub double_repeated : (xs : List ℕ) (n p : ℕ) → (double_run n).read xs p ≡ (repeated n single_walk).read xs p
double_repeated xs n p = sym (doubles_gather xs n p) ∙ times_gather (coded BD) xs single single_walk (single_gathers xs) n p

pub all_both : {A : Type 0} (f g : A → List ℕ) (items : List A)
    → all (λ a. record { words = f a; numbers = g a; derived = false }) items ≡ record { words = every f items; numbers = every g items; derived = false }
all_both f g [] = refl
all_both f g (a ∷ items) = ap (plus (record { words = f a; numbers = g a; derived = false })) (all_both f g items)

-- a count and its items, beside a count and their walk
module _ {A B : Type 0} (f : B → Entries) (xs : List ℕ) (cap : ℕ) (c : Code ℕ) (item : Format one A) (takes : Takes 1 item) (e : A → Entries)
    (d : ℕ → Format one Entries) (run : (n q : ℕ) → gathered (all e) ((times n item).read xs q) ≡ (d n).read xs q) where
  pub listed_gathers : (g : List A → Format one B) (h : ℕ → Entries → Format one Entries)
      → ((items : List A) (q : ℕ) → gathered f ((g items).read xs q) ≡ (h (length items) (all e items)).read xs q)
      → (p : ℕ) → gathered f ((listed cap c item takes >>= g).read xs p) ≡ (bounded cap c >>= λ n. d n >>= h n).read xs p
  unfolding listed listed_read counted relay ◌>>=◌
  listed_gathers g h k p = go ((bounded cap c).read xs p)
    where
      items_go : (n q : ℕ) (o : Out ℕ (List A)) → (times n item).read xs q ≡ o
          → gathered f (and_then o (λ items r. (g items).read xs r)) ≡ and_then (gathered (all e) o) (λ a r. (h n a).read xs r)
      items_go n q (got items r) i = k items r ∙ ap (λ (m : ℕ). (h m (all e items)).read xs r) (times_length item xs n q i)
      items_go n q (refused j r) i = refl

      go : (o : Out ℕ ℕ)
          → gathered f (and_then (and_then o (λ n q. (times n item).read xs q)) (λ items r. (g items).read xs r))
          ≡ and_then o (λ n q. and_then ((d n).read xs q) (λ a r. (h n a).read xs r))
      go (got n q) = items_go n q ((times n item).read xs q) refl ∙ ap (λ (o : Out ℕ Entries). and_then o (λ a r. (h n a).read xs r)) (run n q)
      go (refused j q) = refl

module _ (xs : List ℕ) where
  -- ---- runs, taken apart
  module _ {B : Type 0} where
    -- m RD and n more
    pub raw_split : (m n : ℕ) (h : Entries → Format one B) (p : ℕ)
        → (raw_run m >>= λ a. raw_run n >>= λ b. h (plus a b)).read xs p ≡ (raw_run (m + n) >>= h).read xs p
    unfolding ◌>>=◌
    raw_split m n h p = first ((raw_run m).read xs p) ∙ ap (λ (o : Out ℕ Entries). and_then o (λ a r. (h a).read xs r)) (sym (raw_add xs m n p))
      where
        second : (a : Entries) (o : Out ℕ Entries)
            → and_then o (λ b r. (h (plus a b)).read xs r) ≡ and_then (and_then o (λ b r. got (plus a b) r)) (λ c r. (h c).read xs r)
        second a (got b r) = refl
        second a (refused k r) = refl

        first : (o : Out ℕ Entries)
            → and_then o (λ a q. and_then ((raw_run n).read xs q) (λ b r. (h (plus a b)).read xs r))
            ≡ and_then (and_then o (λ a q. and_then ((raw_run n).read xs q) (λ b r. got (plus a b) r))) (λ c r. (h c).read xs r)
        first (got a q) = second a ((raw_run n).read xs q)
        first (refused k q) = refl

    pub raw_none : (h : Entries → Format one B) (p : ℕ) → (h none).read xs p ≡ (raw_run 0 >>= h).read xs p
    unfolding raw_run times times_read relay ◌>>=◌ pure
    raw_none h p = refl

    -- one BD and n more
    pub double_split : (n : ℕ) (h : Entries → Format one B) (p : ℕ)
        → (coded BD >>= λ v. double_run n >>= λ e. h (plus (numbers (v ∷ [])) e)).read xs p ≡ (double_run (suc n) >>= h).read xs p
    unfolding double_run times times_read relay ◌>>=◌ pure
    double_split n h p = first (BD.read xs p)
      where
        second : (v : ℕ) (o : Out ℕ (List ℕ))
            → and_then (and_then o (λ ns q. got (numbers ns) q)) (λ e r. (h (plus (numbers (v ∷ [])) e)).read xs r)
            ≡ and_then (and_then (and_then o (λ ns q. got (v ∷ ns) q)) (λ ns q. got (numbers ns) q)) (λ e r. (h e).read xs r)
        second v (got ns r) = refl
        second v (refused k r) = refl

        first : (o : Out ℕ ℕ)
            → and_then o (λ v q. and_then (and_then ((times n (coded BD)).read xs q) (λ ns r. got (numbers ns) r))
            (λ e r. (h (plus (numbers (v ∷ [])) e)).read xs r))
            ≡ and_then (and_then (and_then o (λ v q. and_then ((times n (coded BD)).read xs q) (λ ns r. got (v ∷ ns) r))) (λ ns q. got (numbers ns) q))
            (λ e r. (h e).read xs r)
        first (got v q) = second v ((times n (coded BD)).read xs q)
        first (refused k q) = refl

    pub double_none : (h : Entries → Format one B) (p : ℕ) → (h none).read xs p ≡ (double_run 0 >>= h).read xs p
    unfolding double_run times times_read relay ◌>>=◌ pure
    double_none h p = refl

    -- the same first, and then formats that read the same
    pub then_same : {A : Type 0} (c : Format one A) (g h : A → Format one B) → ((a : A) (q : ℕ) → (g a).read xs q ≡ (h a).read xs q)
        → (p : ℕ) → (c >>= g).read xs p ≡ (c >>= h).read xs p
    unfolding ◌>>=◌
    then_same {A} c g h k p = go (c.read xs p)
      where
        go : (o : Out ℕ A) → and_then o (λ a r. (g a).read xs r) ≡ and_then o (λ a r. (h a).read xs r)
        go (got a q) = k a q
        go (refused n q) = refl

    -- three BD, and five
    pub three : (h : Entries → Format one B) (p : ℕ)
        → (coded BD >>= λ a. coded BD >>= λ b. coded BD >>= λ c. h (numbers (a ∷ (b ∷ (c ∷ []))))).read xs p ≡ (double_run 3 >>= h).read xs p
    three h p =
        then_same (coded BD) _ _ (λ a q.
        then_same (coded BD) _ _ (λ b r.
        then_same (coded BD) _ _ (λ c t. double_none (λ e. h (plus (single a) (plus (single b) (plus (single c) e)))) t) r
        ∙ double_split 0 (λ e. h (plus (single a) (plus (single b) e))) r) q
        ∙ double_split 1 (λ e. h (plus (single a) e)) q) p
        ∙ double_split 2 h p

    pub five : (h : Entries → Format one B) (p : ℕ)
        → (coded BD >>= λ a. coded BD >>= λ b. coded BD >>= λ c. coded BD >>= λ d. coded BD >>= λ e. h (numbers (a ∷ (b ∷ (c ∷ (d ∷ (e ∷ []))))))).read xs p
        ≡ (double_run 5 >>= h).read xs p
    five h p =
        then_same (coded BD) _ _ (λ a q.
        then_same (coded BD) _ _ (λ b r. three (λ e. h (plus (single a) (plus (single b) e))) r) q
        ∙ double_split 3 (λ e. h (plus (single a) e)) q) p
        ∙ double_split 4 h p
