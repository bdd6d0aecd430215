-- What the readings of formats are, step by step, as the readers take them. Assumes nothing.
use Rattle.std.specs.Prelude.{◌≡◌, refl, true, false}
use Rattle.bitcursor.specs.declared.Refusal.{Refusal}
use Rattle.bitcursor.specs.Refusals.{OfFields}
use Rattle.bitcursor.specs.Reading.{got, refused, and_then}
use Rattle.bitcursor.specs.Format.{Input, Format, pure, refuse, ◌>>=◌, relay, either}
use Rattle.bitcursor.specs.Fields.{part_read}

module _ (M : Input) where
  pub joined_read : {A B : Type 0} (f : Format M A) (g : A → Format M B) (γ : M.Bytes) (p : M.Place)
      → (f >>= g).read γ p ≡ and_then (f.read γ p) (λ a q. (g a).read γ q)
  unfolding ◌>>=◌
  joined_read f g γ p = refl

  module _ {A : Type 0} where
    pub pure_read : (a : A) (γ : M.Bytes) (p : M.Place) → (pure {M = M} a).read γ p ≡ got a p
    unfolding pure
    pure_read a γ p = refl

    pub refuse_read : (n : Refusal) (of_fields : OfFields n) (γ : M.Bytes) (p : M.Place) → (refuse {M = M} {A = A} n of_fields).read γ p ≡ refused n p
    unfolding refuse
    refuse_read n of_fields γ p = refl

    pub relay_read : (f : Format M A) (L : M.Bytes → A → M.Place → M.Place → Type 0) (to : (γ : M.Bytes) (a : A) (p q : M.Place) → f.lays γ a p q → L γ a p q)
        (from : (γ : M.Bytes) (a : A) (p q : M.Place) → L γ a p q → f.lays γ a p q) (γ : M.Bytes) (p : M.Place) → (relay f L to from).read γ p ≡ f.read γ p
    unfolding relay
    relay_read f L to from γ p = refl

    pub either_true : (f g : Format M A) → either true f g ≡ f
    unfolding either
    either_true f g = refl

    pub either_false : (f g : Format M A) → either false f g ≡ g
    unfolding either
    either_false f g = refl

-- ---- what a reader in front of `?` leaves to show: its steps, one by one
pub ruleset fields = (joined_read, pure_read, refuse_read, relay_read, either_true, either_false, part_read)
