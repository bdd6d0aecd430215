-- One closing zero is dropped and said: units and padding give back what was laid out and are what it gives, so that the codes of a text are those of
-- its table, and no others. Assumes nothing.
use Rattle.std.specs.Prelude.{◌≡◌, refl, Bool, true, false, List, [], ◌∷◌, ◌++◌, ℕ, ◌^◌, eqb, length}
use Rattle.std.proofs.Common.{sym, ap, ap₂, subst₂, ◌∙◌, append-nil, eqb-true}
use Rattle.std.proofs.Math.Path.{subst⁻¹}
use Rattle.bitcursor.specs.Joins.{Coded}
use Rattle.std.specs.Prelude.{◌↔◌}
use Rattle.bitcursor.specs.declared.Refusal.TheVariants.{NotUtf16}
use Rattle.bitcursor.specs.Code.{Laid, give, refuse, ◌>>=◌, tabled, measured}
use Rattle.bitcursor.specs.Codes.{BS, BS_codes}
use Rattle.bitcursor.specs.Handles.{checked}
use Rattle.text.specs.Units.{AllBelow, unit_bits, units}
use Rattle.text.specs.Texts.{UnitWidth, unit_bytes, unclosed, ends_in_zero, laid_out, Unpadded, valid, valid_to, valid_from, Written, written_of, TV_codes, TV_of, checked_units, TV_read, TV}

-- units and padding give back what was laid out
pub laid_back : (laid : List ℕ) → laid_out (unclosed laid) (ends_in_zero laid) ≡ laid
laid_back [] = refl
laid_back (u ∷ []) = one (eqb u 0) refl
  where
    one : (b : Bool) → eqb u 0 ≡ b → laid_out (elim b [ true ↦ [] | false ↦ u ∷ [] ]) b ≡ u ∷ []
    one true e = ap (λ (n : ℕ). n ∷ []) (sym (eqb-true u 0 e))
    one false e = refl
laid_back (u ∷ (v ∷ us)) = behind (unclosed (v ∷ us)) (ends_in_zero (v ∷ us)) ∙ ap (λ (l : List ℕ). u ∷ l) (laid_back (v ∷ us))
  where
    behind : (ls : List ℕ) (b : Bool) → laid_out (u ∷ ls) b ≡ u ∷ laid_out ls b
    behind ls true = refl
    behind ls false = refl

pub unpadded_back : (laid : List ℕ) → Unpadded (unclosed laid) (ends_in_zero laid)
unpadded_back laid e = ap ends_in_zero (sym (ap (laid_out (unclosed laid)) e) ∙ laid_back laid) ∙ e

-- and are what it gives
module _ (us : List ℕ) where
  pub laid_units : (padded : Bool) → Unpadded us padded → unclosed (laid_out us padded) ≡ us
  laid_units true h = drops us
    where
      drops : (ls : List ℕ) → unclosed (ls ++ (0 ∷ [])) ≡ ls
      drops [] = refl
      drops (u ∷ []) = refl
      drops (u ∷ (v ∷ ls)) = ap (λ (l : List ℕ). u ∷ l) (drops (v ∷ ls))
  laid_units false h = keeps us (h refl)
    where
      keeps : (ls : List ℕ) → ends_in_zero ls ≡ false → unclosed ls ≡ ls
      keeps [] e = refl
      keeps (u ∷ []) e = rw (e, unclosed)
      keeps (u ∷ (v ∷ ls)) e = ap (λ (l : List ℕ). u ∷ l) (keeps (v ∷ ls) e)

  pub laid_padded : (padded : Bool) → Unpadded us padded → ends_in_zero (laid_out us padded) ≡ padded
  laid_padded true h = closed us
    where
      closed : (ls : List ℕ) → ends_in_zero (ls ++ (0 ∷ [])) ≡ true
      closed [] = refl
      closed (u ∷ []) = refl
      closed (u ∷ (v ∷ ls)) = closed (v ∷ ls)
  laid_padded false h = h refl

-- ---- the table of TV
pub TV_to : (w : UnitWidth) (t : Written) (cs : List Bool) → (TV_read w).codes t cs → TV_codes w t cs
unfolding TV_read checked_units ◌>>=◌ measured units tabled checked give refuse BS
TV_to w t cs l = go (valid w (unclosed laid)) refl l.4.4
  where
    laid : List ℕ
    laid = l.4.0

    again : laid_out (unclosed laid) (ends_in_zero laid) ≡ laid
    again = laid_back laid

    go : (b : Bool) → valid w (unclosed laid) ≡ b → (checked b (give (written_of l.0.0 laid)) (refuse NotUtf16 tt)).codes t l.4.2 → TV_codes w t cs
    go true e m =
        let h : BS_codes (length laid) l.1 = subst⁻¹ (λ (n : ℕ). BS_codes n l.1) l.4.3.0 l.3.0 in
        let bs = unit_bits (unit_bytes w) laid in
        let f : cs ≡ l.1 ++ bs = l.5 ∙ ap (λ (es : List Bool). l.1 ++ es) (l.4.5 ∙ ap₂ ◌++◌ l.4.3.2 m.1 ∙ append-nil bs) in
        let g : t ≡ written_of (length l.1) laid = m.0 ∙ ap (λ (n : ℕ). written_of n laid) l.3.1 in
        let k = ap (λ (ls : List ℕ). l.1 ++ unit_bits (unit_bytes w) ls) again in
        subst₂ (TV_codes w) (sym g) (k ∙ sym f) (TV_of
        (subst⁻¹ (λ (ls : List ℕ). BS_codes (length ls) l.1) again h)
        (subst⁻¹ (AllBelow (256 ^ unit_bytes w)) again l.4.3.1)
        (unpadded_back laid)
        (valid_to w (unclosed laid) e))
    go false e m = absurd m

pub TV_from : (w : UnitWidth) (t : Written) (cs : List Bool) → TV_codes w t cs → (TV_read w).codes t cs
unfolding TV_read checked_units ◌>>=◌ measured units tabled checked give BS
TV_from w t cs (TV_of {us = us} {padded = padded} {ds = ds} h a u v) =
    let laid = laid_out us padded in
    let bs = unit_bits (unit_bytes w) laid in
    let e : unclosed laid ≡ us = laid_units us padded u in
    let f : ends_in_zero laid ≡ padded = laid_padded us padded u in
    let y : valid w (unclosed laid) ≡ true = rw e (valid_from w us v) in (
      (length ds, length laid),
      ds,
      bs,
      (h, refl),
      (laid, bs, [], (refl, a, refl), rw (y, e, f) (refl, refl), sym (append-nil bs)),
      refl,
    )

-- a text in a payload is one of the table there
pub TV_laid : (w : UnitWidth) (xs : List ℕ) (t : Written) (p q : ℕ) → Coded xs (TV w) t p q ↔ Laid (TV_codes w) xs t p q
unfolding TV
TV_laid w xs t p q = (
  λ l. record { code = l.code; listed = TV_to w t l.code l.listed; stands = l.stands; ends = l.ends },
  λ l. record { code = l.code; listed = TV_from w t l.code l.listed; stands = l.stands; ends = l.ends },
)
