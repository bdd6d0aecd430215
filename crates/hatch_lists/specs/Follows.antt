-- The items of what a format reads come before those of any walk behind it: one law for each way in which formats are put together. Assumes nothing.
use Rattle.std.specs.Prelude.{◌≡◌, ℕ, zero, suc}
use Rattle.std.proofs.Math.Path.{refl, sym, ap}
use Rattle.std.proofs.Common.{◌∙◌}
use mathlib.Core.List.{List, [], ◌∷◌, ◌++◌, append_assoc}
use Rattle.bitcursor.specs.Reading.{Out, got, refused, and_then}
use Rattle.bitcursor.specs.Format.{Format, pure, ◌>>=◌, relay}
use Rattle.hatch_format.specs.Counts.{times, times_read, summed_read}
use Rattle.hatch_lists.specs.declared.Item.{Item}
use Rattle.hatch_lists.specs.Items.{gathered}
use Rattle.hatch_lists.specs.Lists.{Lists, lists}
use Rattle.hatch_lists.specs.Steps.{Step, next, broken, and_next}
use Rattle.hatch_lists.specs.Walks.{Left, stepping, prepend, Walk, item_then, times_then}
use Rattle.hatch_lists.specs.Says.{left, summary, Says}
use Rattle.hatch_lists.specs.SaysItems.{itself}

-- the items of what was read, before those that follow
abbrev pub items_then : {A : Type 0} → (A → List Item) → Out Lists A → (Lists → Step Left (List Item)) → Step Left (List Item)
items_then ρ (got a q) k = prepend (ρ a) (k q)
items_then ρ (refused n q) k = broken

-- a format's items come before those of any walk, as W says
pub record Before {A : Type 0} (ρ : A → List Item) (f : Format lists A) (W : Walk → Walk) : Type 0 where
  pub at : (k : Lists → Step Left (List Item)) (rest : Walk) → ((q : Lists) → k q ≡ rest (left q)) → (p : Lists)
      → items_then ρ (f.read tt p) k ≡ W rest (left p)

pub prepend_both : (is js : List Item) (s : Step Left (List Item)) → prepend is (prepend js s) ≡ prepend (is ++ js) s
prepend_both is js (next ks l) = ap (λ (m : List Item). next m l) (sym (append_assoc is js ks))
prepend_both is js broken = refl

prepend_none : (s : Step Left (List Item)) → prepend [] s ≡ s
prepend_none (next ks l) = refl
prepend_none broken = refl

-- ---- one item
pub before_item : {A : Type 0} (ρ : A → Item) (f : Format lists A) (step : List ℕ → Step (List ℕ) Item) → Says ρ f (stepping itself step)
    → Before (λ a. ρ a ∷ []) f (item_then step)
before_item {A} ρ f step h = record { at = λ k rest e p. go k rest e p (f.read tt p) (h.at p) }
  where
    go : (k : Lists → Step Left (List Item)) (rest : Walk) → ((q : Lists) → k q ≡ rest (left q)) → (p : Lists) (o : Out Lists A)
        → summary ρ o ≡ stepping itself step (left p) → items_then (λ a. ρ a ∷ []) o k ≡ item_then step rest (left p)
    go k rest e p (got a q) h =
        ap (prepend (ρ a ∷ [])) (e q) ∙ ap (λ (s : Step Left Item). and_next s (λ i r. prepend (i ∷ []) (rest r))) h
    go k rest e p (refused n q) h = ap (λ (s : Step Left Item). and_next s (λ i r. prepend (i ∷ []) (rest r))) h

-- ---- one format behind another: `τ` are the items of both
module _ {A B : Type 0} (ρ : A → List Item) (σ τ : B → List Item) (f : Format lists A) (g : A → Format lists B) (first second : Walk → Walk) where
  pub before_then : Before ρ f first → ((a : A) → Before σ (g a) second)
      → ((a : A) (b : B) (p q : Lists) → (g a).read tt p ≡ got b q → τ b ≡ ρ a ++ σ b) → Before τ (f >>= g) (λ rest. first (second rest))
  unfolding ◌>>=◌
  before_then h i same = record { at = λ k rest e p. go k rest e (f.read tt p) ∙ h.at (λ r. second rest (left r)) (second rest) (λ q. refl) p }
    where
      both : (a : A) (r : Lists) (k : Lists → Step Left (List Item)) (o : Out Lists B) → (g a).read tt r ≡ o
          → items_then τ o k ≡ prepend (ρ a) (items_then σ o k)
      both a r k (got b q) e = ap (λ (is : List Item). prepend is (k q)) (same a b r q e) ∙ sym (prepend_both (ρ a) (σ b) (k q))
      both a r k (refused n q) e = refl

      go : (k : Lists → Step Left (List Item)) (rest : Walk) → ((q : Lists) → k q ≡ rest (left q)) → (o : Out Lists A)
          → items_then τ (and_then o (λ a r. (g a).read tt r)) k ≡ items_then ρ o (λ r. second rest (left r))
      go k rest e (got a r) = both a r k ((g a).read tt r) refl ∙ ap (prepend (ρ a)) ((i a).at k rest e r)
      go k rest e (refused n r) = refl

-- a value made of one that was read
pub before_map : {A B : Type 0} (h : A → B) (ρ : A → List Item) (τ : B → List Item) (f : Format lists A) (W : Walk → Walk)
    → ((a : A) → τ (h a) ≡ ρ a) → Before ρ f W → Before τ (f >>= λ a. pure (h a)) W
unfolding ◌>>=◌ pure
before_map {A} {B} h ρ τ f W same i = record { at = λ k rest e p. go k (f.read tt p) ∙ i.at k rest e p }
  where
    go : (k : Lists → Step Left (List Item)) (o : Out Lists A) → items_then τ (and_then o (λ a r. got (h a) r)) k ≡ items_then ρ o k
    go k (got a q) = ap (λ (is : List Item). prepend is (k q)) (same a)
    go k (refused n q) = refl

pub before_reads : {A : Type 0} {ρ : A → List Item} {f g : Format lists A} {W : Walk → Walk} → Before ρ f W
    → ((p : Lists) → g.read tt p ≡ f.read tt p) → Before ρ g W
before_reads {ρ} h e = record { at = λ k rest s p. ap (λ o. items_then ρ o k) (e p) ∙ h.at k rest s p }

-- ---- n of one format
pub before_times : {A : Type 0} (ρ : A → List Item) (f : Format lists A) (W : Walk → Walk) (n : ℕ) → Before ρ f W
    → Before (gathered ρ) (times n f) (times_then n W)
unfolding times times_read relay pure ◌>>=◌
before_times {A} ρ f W n h = before_reads (go n) (λ p. refl)
  where
    run : ℕ → Format lists (List A)
    run n = summed_read (λ (s : Unit {0}). f) (λ s a. s) n tt

    -- the items of all but the first
    others : List A → List Item
    others [] = []
    others (a ∷ items) = gathered ρ items

    behind : ℕ → A → Format lists (List A)
    behind n a = run n >>= λ items. pure (a ∷ items)

    is : (n : ℕ) (a : A) (items : List A) (p q : Lists) → (behind n a).read tt p ≡ got items q → gathered ρ items ≡ ρ a ++ others items
    is n a items p q e = let l = (behind n a).sound tt items p q e in rw l.3.0

    go : (n : ℕ) → Before (gathered ρ) (run n) (times_then n W)
    go zero = record { at = λ k rest e p. prepend_none (k p) ∙ e p }
    go (suc n) =
        before_then ρ others (gathered ρ) f (behind n) W (times_then n W) h
        (λ a. before_map (λ items. a ∷ items) (gathered ρ) others (run n) (times_then n W) (λ items. refl) (go n)) (is n)
