-- What holds of every format, and so of every prefix and hatch: demand 3's sentences, proved once. Assumes nothing.
use Rattle.std.specs.Prelude.{◌≡◌, refl, Bool, true, false, ◌↔◌}
use Rattle.std.proofs.Common.{sym, subst, ◌∙◌}
use Rattle.bitcursor.specs.declared.Refusal.{Refusal}
use Rattle.bitcursor.specs.Refusals.{OfFields}
use Rattle.bitcursor.specs.Reading.{Out, got, refused, place, never, ForBits, Lacking, got_enough, Fielded}
use Rattle.bitcursor.specs.Format.{Input, Format}

module _ {M : Input} {A : Type 0} (f : Format M A) (γ : M.Bytes) where
  -- a reading exactly where there is a layout; the reading is what was laid out, the final places are where the layout ends
  pub read_iff_laid : (p : M.Place) (a : A) (q : M.Place) → f.read γ p ≡ got a q ↔ f.lays γ a p q
  read_iff_laid p a q = (f.sound γ a p q, f.complete γ a p q)

  -- what is laid out from a place is one value, and ends at one place
  pub laid_once : (p : M.Place) (a b : A) (q r : M.Place) → f.lays γ a p q → f.lays γ b p r → (a ≡ b) × (q ≡ r)
  laid_once p a b q r l m =
      let e = f.complete γ a p q l in
      let g = f.complete γ b p r m in
      (cc, cc)

  -- a refusal: nothing is laid out from there
  pub refused_none : (p : M.Place) (n : Refusal) (q : M.Place) → f.read γ p ≡ refused n q → (a : A) (r : M.Place) → f.lays γ a p r → ⊥
  refused_none p n q e a r l = never (sym e ∙ f.complete γ a p r l)

  -- there is a layout, or there is a refusal and no layout
  pub data Outcome (p : M.Place) : Type 0 where
    laid : (a : A) (q : M.Place) → f.lays γ a p q → f.read γ p ≡ got a q → Outcome p
    none : (n : Refusal) (q : M.Place) → f.read γ p ≡ refused n q → ((a : A) (r : M.Place) → f.lays γ a p r → ⊥) → Outcome p

  pub laid_or_refused : (p : M.Place) → Outcome p
  laid_or_refused p = go (f.read γ p) refl
    where
      go : (o : Out M.Place A) → f.read γ p ≡ o → Outcome p
      go (got a q) e = laid a q (f.sound γ a p q e) e
      go (refused n q) e = none n q e (refused_none p n q e)

  -- a refusal is one that fields give, 1 to 8
  pub refused_by_fields : (p : M.Place) (n : Refusal) (q : M.Place) → f.read γ p ≡ refused n q → OfFields n
  refused_by_fields p n q e = subst Fielded e (f.fielded γ p)

  -- final places never lie before the start, nor past a payload that the start is in
  pub laid_onward : (p : M.Place) (a : A) (q : M.Place) → f.lays γ a p q → M.Onward γ p q
  laid_onward p a q l = subst (λ (o : Out M.Place A). M.Onward γ p (place o)) (f.complete γ a p q l) (f.grows γ p)

  pub refused_onward : (p : M.Place) (n : Refusal) (q : M.Place) → f.read γ p ≡ refused n q → M.Onward γ p q
  refused_onward p n q e = subst (λ (o : Out M.Place A). M.Onward γ p (place o)) e (f.grows γ p)

  -- nobody who alters only bits past the final places can change anything
  pub laid_still : (δ : M.Bytes) (p : M.Place) (a : A) (q : M.Place) → M.Agree γ δ q → f.lays γ a p q → f.lays δ a p q
  laid_still δ p a q h l =
      let e = f.complete γ a p q l in
      f.sound δ a p q (f.frame γ δ p (rw e h) ∙ e)

  pub refused_still : (δ : M.Bytes) (p : M.Place) (n : Refusal) (q : M.Place) → M.Agree γ δ q → f.read γ p ≡ refused n q → f.read δ p ≡ refused n q
  refused_still δ p n q h e = f.frame γ δ p (rw e h) ∙ e

  -- ---- longer payloads that begin with these
  -- what is laid out here is laid out there, the same value at the same places
  pub laid_longer : (δ : M.Bytes) (p : M.Place) (a : A) (q : M.Place) → M.Longer γ δ → f.lays γ a p q → f.lays δ a p q
  laid_longer δ p a q h l =
      let e = f.complete γ a p q l in
      f.sound δ a p q (f.longer γ δ p h (got_enough (f.short γ p) (f.why γ p) e) ∙ e)

  -- a refusal that was not for want of bits stays, with its places
  pub refused_longer : (δ : M.Bytes) (p : M.Place) (n : Refusal) (q : M.Place) → M.Longer γ δ → f.short γ p ≡ false
      → f.read γ p ≡ refused n q → f.read δ p ≡ refused n q
  refused_longer δ p n q h s e = f.longer γ δ p h s ∙ e

  -- only refusals 1 and 3 can be for want of bits
  pub short_refusal : (p : M.Place) (n : Refusal) (q : M.Place) → f.short γ p ≡ true → f.read γ p ≡ refused n q → ForBits n
  short_refusal p n q s e = subst Lacking e (f.why γ p s)

  -- so every other refusal stays
  pub other_refusal_longer : (δ : M.Bytes) (p : M.Place) (n : Refusal) (q : M.Place) → M.Longer γ δ → (ForBits n → ⊥)
      → f.read γ p ≡ refused n q → f.read δ p ≡ refused n q
  other_refusal_longer δ p n q h other e = go (f.short γ p) refl
    where
      go : (b : Bool) → f.short γ p ≡ b → f.read δ p ≡ refused n q
      go false s = refused_longer δ p n q h s e
      go true s = absurd (other (short_refusal p n q s e))
