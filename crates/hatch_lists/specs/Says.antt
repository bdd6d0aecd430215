-- What a format of the lists says of words and of how many numbers are left, whatever the numbers are: one law for each way in which formats are put
-- together. Assumes nothing.
use Rattle.std.specs.Prelude.{◌≡◌, refl, Bool, true, false, List, [], ◌∷◌, ℕ, zero, suc, ◌+◌, ◌-◌, ◌*◌, ◌≤◌, ◌<◌, leb, length}
use Rattle.std.proofs.Common.{sym, ap₂, subst, ◌∙◌, suc-mul, arith, le-leb, leb-true, leb-false}
use Rattle.std.proofs.Math.Path.{ap}
use Rattle.std.proofs.lemmas.Bool.{lt-leb}
use Rattle.bitcursor.specs.declared.Refusal.TheVariants.{CountTooLarge}
use Rattle.bitcursor.specs.Reading.{Out, got, refused, and_then}
use Rattle.bitcursor.specs.Format.{Format, pure, refuse, ◌>>=◌, relay, either}
use Rattle.hatch_format.specs.Counts.{times, times_read, summed_read}
use Rattle.hatch_lists.specs.declared.Item.{Item}
use Rattle.hatch_lists.specs.Items.{item_size}
use Rattle.hatch_lists.specs.Lists.{Lists, lists, lists_of, word, number, first, entry, switch_of, switch_read, switch, count_read, count}
use Rattle.hatch_lists.specs.Steps.{Step, next, broken, and_next, a_word, switch_by, a_switch, count_if, a_count}
use Rattle.hatch_lists.specs.Walks.{Left, left_of, pass_if, passing, stepping}

abbrev pub left : Lists → Left
left p = left_of p.words (length p.numbers)

-- an outcome, seen by words and by how many numbers are left
abbrev pub summary : {A R : Type 0} → (A → R) → Out Lists A → Step Left R
summary ρ (got a q) = next (ρ a) (left q)
summary ρ (refused k q) = broken

pub record Says {A R : Type 0} (ρ : A → R) (f : Format lists A) (S : Left → Step Left R) : Type 0 where
  pub at : (p : Lists) → summary ρ (f.read tt p) ≡ S (left p)

-- ---- one behind the other
module _ {A B R U : Type 0} (ρ : A → R) (σ : B → U) (f : Format lists A) (g : A → Format lists B) (S : Left → Step Left R) (T : R → Left → Step Left U) where
  pub says_then : Says ρ f S → ((a : A) → Says σ (g a) (T (ρ a))) → Says σ (f >>= g) (λ l. and_next (S l) T)
  unfolding ◌>>=◌
  says_then h k = record { at = λ p. go p (f.read tt p) (h.at p) }
    where
      go : (p : Lists) (o : Out Lists A) → summary ρ o ≡ S (left p) → summary σ (and_then o (λ a r. (g a).read tt r)) ≡ and_next (S (left p)) T
      go p (got a q) e = (k a).at q ∙ ap (λ (s : Step Left R). and_next s T) e
      go p (refused n q) e = ap (λ (s : Step Left R). and_next s T) e

-- formats that read the same say the same
pub says_reads : {A R : Type 0} {ρ : A → R} {f g : Format lists A} {S : Left → Step Left R} → Says ρ f S
    → ((p : Lists) → g.read tt p ≡ f.read tt p) → Says ρ g S
says_reads {ρ} h e = record { at = λ p. ap (summary ρ) (e p) ∙ h.at p }

-- the same said in another way
pub says_as : {A R : Type 0} {ρ : A → R} {f : Format lists A} {S T : Left → Step Left R} → Says ρ f S → ((p : Lists) → S (left p) ≡ T (left p)) → Says ρ f T
says_as h e = record { at = λ p. h.at p ∙ e p }

pub says_map : {A B R : Type 0} (h : A → B) (ρ : B → R) (f : Format lists A) (S : Left → Step Left R)
    → Says (λ a. ρ (h a)) f S → Says ρ (f >>= λ a. pure (h a)) S
unfolding ◌>>=◌ pure
says_map {A} {B} {R} h ρ f S k = record { at = λ p. go p (f.read tt p) (k.at p) }
  where
    go : (p : Lists) (o : Out Lists A) → summary (λ a. ρ (h a)) o ≡ S (left p) → summary ρ (and_then o (λ a r. got (h a) r)) ≡ S (left p)
    go p (got a q) e = e
    go p (refused n q) e = e

-- ---- words alone: how many numbers are left does not matter
abbrev pub with_numbers : {A : Type 0} → ℕ → Step (List ℕ) A → Step Left A
with_numbers n (next a ws) = next a (left_of ws n)
with_numbers n broken = broken

abbrev pub SaysWords : {A : Type 0} → Format lists A → (List ℕ → Step (List ℕ) A) → Type 0
SaysWords {A} f P = Says (λ (a : A). a) f (λ l. with_numbers l.numbers (P l.words))

pub says_word : SaysWords (entry word) a_word
unfolding entry
says_word = record { at = λ p. go p.words p.numbers }
  where
    go : (ws ns : List ℕ) → summary (λ (a : ℕ). a) (first word ws (lists_of ws ns)) ≡ with_numbers (length ns) (a_word ws)
    go [] ns = refl
    go (w ∷ ws) ns = refl

module _ {A B : Type 0} (f : Format lists A) (g : A → Format lists B) (P : List ℕ → Step (List ℕ) A) (Q : A → List ℕ → Step (List ℕ) B) where
  pub words_then : SaysWords f P → ((a : A) → SaysWords (g a) (Q a)) → SaysWords (f >>= g) (λ ws. and_next (P ws) Q)
  words_then h k =
      says_as
      (says_then (λ (a : A). a) (λ (b : B). b) f g (λ l. with_numbers l.numbers (P l.words)) (λ a l. with_numbers l.numbers (Q a l.words)) h k)
      (λ p. go (length p.numbers) (P p.words))
    where
      go : (n : ℕ) (o : Step (List ℕ) A) → and_next (with_numbers n o) (λ a l. with_numbers l.numbers (Q a l.words)) ≡ with_numbers n (and_next o Q)
      go n (next a ws) = refl
      go n broken = refl

pub says_switch : SaysWords switch a_switch
unfolding switch switch_read switch_of relay pure refuse
says_switch = says_reads (words_then (entry word) switch_of a_word switch_by says_word by) (λ p. refl)
  where
    by : (n : ℕ) → SaysWords (switch_of n) (switch_by n)
    by zero = record { at = λ p. refl }
    by (suc zero) = record { at = λ p. refl }
    by (suc (suc n)) = record { at = λ p. refl }

pub says_count : (most : ℕ) → SaysWords (count most) (a_count most)
unfolding count count_read relay either pure refuse
says_count most =
    says_reads
    (words_then (entry word) (λ n. either (leb n most) (pure n) (refuse CountTooLarge tt)) a_word (λ n. count_if (leb n most) n) says_word
    (λ n. by (leb n most) n))
    (λ p. refl)
  where
    by : (b : Bool) (n : ℕ) → SaysWords (either b (pure n) (refuse CountTooLarge tt)) (count_if b n)
    by true n = record { at = λ p. refl }
    by false n = record { at = λ p. refl }

-- ---- numbers alone: so many, whatever they are
abbrev pub any : Unit {0}
any = tt

abbrev pub passes : ℕ → Left → Step Left (Unit {0})
passes n l = pass_if (leb n l.numbers) any n l.words l.numbers

abbrev pub Fixed : {A : Type 0} → ℕ → Format lists A → Type 0
Fixed {A} n f = Says (λ (a : A). any) f (passes n)

pub fixed_number : Fixed 1 (entry number)
unfolding entry
fixed_number = record { at = λ p. go p.words p.numbers }
  where
    go : (ws ns : List ℕ) → summary (λ (a : ℕ). any) (first number ns (lists_of ws ns)) ≡ passes 1 (left_of ws (length ns))
    go ws [] = refl
    go ws (n ∷ ns) = rw (le-leb 1 (suc (length ns)) (omega arith)) (ap (λ (k : ℕ). next any (left_of ws k)) (omega arith))

pub pass_none : {A : Type 0} (a : A) (ws : List ℕ) (n : ℕ) → pass_if (leb 0 n) a 0 ws n ≡ next a (left_of ws n)
pass_none a ws n = rw (le-leb 0 n (omega arith)) (ap (λ (k : ℕ). next a (left_of ws k)) (omega arith))

pub fixed_pure : {A : Type 0} (a : A) → Fixed 0 (pure a)
unfolding pure
fixed_pure a = record { at = λ p. sym (pass_none any p.words (length p.numbers)) }

passes_add : (m n : ℕ) (l : Left) → and_next (passes m l) (λ u r. passes n r) ≡ passes (m + n) l
passes_add m n l = go (leb m k) refl (leb n (k - m)) refl
  where
    k : ℕ
    k = l.numbers

    go : (b : Bool) → leb m k ≡ b → (c : Bool) → leb n (k - m) ≡ c
        → and_next (pass_if b any m l.words k) (λ u r. passes n r) ≡ pass_if (leb (m + n) k) any (m + n) l.words k
    go false e c f = let h : k < m = leb-false m k e in rw (lt-leb (m + n) k (omega arith))
    go true e false f =
        let h : m ≤ k = leb-true m k e in
        let i : k - m < n = leb-false n (k - m) f in
        rw (f, lt-leb (m + n) k (omega arith))
    go true e true f =
        let h : m ≤ k = leb-true m k e in
        let i : n ≤ k - m = leb-true n (k - m) f in
        rw (f, le-leb (m + n) k (omega arith)) (ap (λ (j : ℕ). next any (left_of l.words j)) (omega arith))

pub fixed_then : {A B : Type 0} (m n : ℕ) (f : Format lists A) (g : A → Format lists B) → Fixed m f → ((a : A) → Fixed n (g a)) → Fixed (m + n) (f >>= g)
fixed_then {A} {B} m n f g h k =
    says_as (says_then (λ (a : A). any) (λ (b : B). any) f g (passes m) (λ u. passes n) h k) (λ p. passes_add m n (left p))

pub fixed_times : {A : Type 0} (m n : ℕ) (f : Format lists A) → Fixed m f → Fixed (n * m) (times n f)
unfolding times times_read relay
fixed_times {A} m n f h = says_reads (go n) (λ p. refl)
  where
    go : (n : ℕ) → Fixed (n * m) (summed_read (λ (s : Unit {0}). f) (λ s a. s) n tt)
    go zero = subst (λ (k : ℕ). Fixed k (pure {M = lists} {A = List A} [])) (omega arith) (fixed_pure [])
    go (suc n) =
        let e : m + (n * m + 0) ≡ suc n * m = omega (arith, suc-mul n m) in
        subst (λ (k : ℕ). Fixed k (summed_read (λ (s : Unit {0}). f) (λ s a. s) (suc n) tt)) e
        (fixed_then m (n * m + 0) f _ h (λ a. fixed_then (n * m) 0 (summed_read (λ (s : Unit {0}). f) (λ s a. s) n tt) _ (go n)
        (λ items. fixed_pure (a ∷ items))))

-- ---- words and then the numbers of an item
module _ {A R : Type 0} (ρ : A → R) (size_of : R → Item) where
  -- so many numbers, and what they make is always r
  pub parses_fixed : (f : Format lists A) (r : R) → Fixed (item_size (size_of r)) f → ((a : A) (p q : Lists) → f.read tt p ≡ got a q → ρ a ≡ r)
      → Says ρ f (stepping size_of (next r))
  parses_fixed f r h k = record { at = λ p. go p (leb size (length p.numbers)) (f.read tt p) (h.at p) (λ a q. k a p q) }
    where
      size : ℕ
      size = item_size (size_of r)

      left_in : Step Left (Unit {0}) → Left
      left_in (next u l) = l
      left_in broken = left_of [] 0

      differ : {l : Left} → broken ≡ next any l → ⊥
      differ e = let z : ◌≡◌ {A = ℕ} 0 1 = cc in absurd (omega arith)

      go : (p : Lists) (b : Bool) (o : Out Lists A) → summary (λ (a : A). any) o ≡ pass_if b any size p.words (length p.numbers)
          → ((a : A) (q : Lists) → o ≡ got a q → ρ a ≡ r) → summary ρ o ≡ pass_if b r size p.words (length p.numbers)
      go p true (got a q) e m = ap₂ next (m a q refl) (ap left_in e)
      go p false (got a q) e m = absurd (differ (sym e))
      go p true (refused j q) e m = absurd (differ e)
      go p false (refused j q) e m = refl

module _ {A B R : Type 0} (ρ : B → R) (size_of : R → Item) (f : Format lists A) (g : A → Format lists B)
    (P : List ℕ → Step (List ℕ) A) (Q : A → List ℕ → Step (List ℕ) R) where
  pub parses_then : SaysWords f P → ((a : A) → Says ρ (g a) (stepping size_of (Q a))) → Says ρ (f >>= g) (stepping size_of (λ ws. and_next (P ws) Q))
  parses_then h k =
      says_as (says_then (λ (a : A). a) ρ f g (λ l. with_numbers l.numbers (P l.words)) (λ a. stepping size_of (Q a)) h k)
      (λ p. go (length p.numbers) (P p.words))
    where
      go : (n : ℕ) (o : Step (List ℕ) A) → and_next (with_numbers n o) (λ a. stepping size_of (Q a)) ≡ passing size_of n (and_next o Q)
      go n (next a ws) = refl
      go n broken = refl
