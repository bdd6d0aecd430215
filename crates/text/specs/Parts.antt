-- The parts of a text that was read: its length code, and the units as they are laid out. Assumes nothing.
use Rattle.std.proofs.Math.Path.{◌≡◌, refl, ap}
use Rattle.std.proofs.Common.{sym, subst, ◌∙◌, ⊎_elim, arith}
use Rattle.std.specs.Prelude.{Bool, ℕ, ◌+◌, ◌-◌, ◌*◌, ◌≤◌, ◌<◌}
use Rattle.std.proofs.Math.Bool.{true, false}
use mathlib.Core.List.{List}
use Rattle.bitcursor.specs.declared.Refusal.TheVariants.{NotUtf16}
use Rattle.loads.specs.Bits.{size}
use Rattle.bitcursor.specs.Reading.{Out, got, refused, place, and_then, never}
use Rattle.bitcursor.specs.Code.{Moves, give, refuse, ◌>>=◌, measured, measured_out}
use Rattle.bitcursor.specs.Codes.{BS}
use Rattle.bitcursor.specs.Handles.{checked}
use Rattle.bitcursor.specs.Bytes.{le_or_lt}
use Rattle.text.specs.Units.{units, units_at, units_there, units_short}
use Rattle.text.specs.Texts.{UnitWidth, unit_bytes, unclosed, valid, Written, written_of, checked_units, TV, TV_read}

-- a text from p to s: its length code ends at r and says n units
pub record Parts (w : UnitWidth) (xs : List ℕ) (p : ℕ) (u : Written) (s : ℕ) : Type 0 where
  pub n : ℕ
  pub r : ℕ
  pub units_laid : List ℕ
  pub length_code : BS.read xs p ≡ got n r
  pub units_read : (units (unit_bytes w) n).read xs r ≡ got units_laid s
  pub valid_units : valid w (unclosed units_laid) ≡ true
  pub whole : u ≡ written_of (r - p) units_laid

-- where the length code and the units end, and which units these are
pub code_on : (xs : List ℕ) (p : ℕ) {n r : ℕ} → BS.read xs p ≡ got n r → p ≤ r
code_on xs p e = (subst (λ (o : Out ℕ ℕ). Moves xs p (place o)) e (BS.grows xs p)).onward

module _ (w : UnitWidth) (xs : List ℕ) (n r : ℕ) {l : List ℕ} {s : ℕ} (e : (units (unit_bytes w) n).read xs r ≡ got l s) where
  units_all : got (units_at xs r (unit_bytes w) n) (r + 8 * (unit_bytes w * n)) ≡ got l s
  units_all =
      ⊎_elim
      (λ (h : 8 * (unit_bytes w * n) ≤ size xs - r). sym (units_there (unit_bytes w) n xs r h) ∙ e)
      (λ (h : size xs - r < 8 * (unit_bytes w * n)). never (sym (units_short (unit_bytes w) n xs r h) ∙ e))
      (le_or_lt (8 * (unit_bytes w * n)) (size xs - r))

  pub units_end : s ≡ r + 8 * (unit_bytes w * n)
  units_end = let h = units_all in cc

  pub units_are : units_at xs r (unit_bytes w) n ≡ l
  units_are = let h = units_all in cc

module _ (w : UnitWidth) (xs : List ℕ) (p : ℕ) where
  pub parts : (u : Written) (s : ℕ) → (TV w).read xs p ≡ got u s → Parts w xs p u s
  unfolding TV TV_read ◌>>=◌ measured checked_units checked give refuse
  parts u s e = from_length (BS.read xs p) refl e
    where
      judge : (n r : ℕ) (l : List ℕ) (t : ℕ) → BS.read xs p ≡ got n r → (units (unit_bytes w) n).read xs r ≡ got l t → (b : Bool)
          → valid w (unclosed l) ≡ b → (checked b (give (written_of (r - p) l)) (refuse NotUtf16 tt)).read xs t ≡ got u s → Parts w xs p u s
      judge n r l t f g true h k =
          let eu : u ≡ written_of (r - p) l = cc in
          let es : t ≡ s = cc in
          record { n = n; r = r; units_laid = l; length_code = f; units_read = g ∙ ap (got l) es; valid_units = h; whole = eu }
      judge n r l t f g false h k = never k

      from_units : (n r : ℕ) → BS.read xs p ≡ got n r → (o : Out ℕ (List ℕ)) → (units (unit_bytes w) n).read xs r ≡ o
          → and_then o (λ l t. (checked_units w (r - p) l).read xs t) ≡ got u s → Parts w xs p u s
      from_units n r f (got l t) g k = judge n r l t f g (valid w (unclosed l)) refl k
      from_units n r f (refused a t) g k = never k

      from_length : (o : Out ℕ ℕ) → BS.read xs p ≡ o
          → and_then (measured_out BS p o) (λ m r. and_then ((units (unit_bytes w) m.1).read xs r) (λ l t. (checked_units w m.0 l).read xs t)) ≡ got u s
          → Parts w xs p u s
      from_length (got n r) f k = from_units n r f ((units (unit_bytes w) n).read xs r) refl k
      from_length (refused a r) f k = never k

  checked_got : (k : ℕ) (l : List ℕ) (t : ℕ) → valid w (unclosed l) ≡ true → (checked_units w k l).read xs t ≡ got (written_of k l) t
  unfolding checked_units checked give
  checked_got k l t e = go (valid w (unclosed l)) e
    where
      go : (b : Bool) → b ≡ true → (checked b (give (written_of k l)) (refuse NotUtf16 tt)).read xs t ≡ got (written_of k l) t
      go true e = refl
      go false e = let z : ◌≡◌ {A = ℕ} 0 1 = cc in absurd (omega arith)

  -- the text from its parts
  pub join : {u : Written} {s : ℕ} → Parts w xs p u s → (TV w).read xs p ≡ got u s
  unfolding TV TV_read ◌>>=◌ measured
  join {u} {s} t =
      rw (t.length_code, t.units_read) (checked_got (t.r - p) t.units_laid s t.valid_units ∙ ap (λ (v : Written). got v s) (sym t.whole))
