-- A colour's name that is read past, from what the text's reader answers; and a number of blocks that may follow, one at least. Assumes nothing.
use Rattle.std.specs.Prelude.{◌≡◌, Bool, List, ℕ, suc, ◌-◌, ◌<◌}
use Rattle.std.proofs.Common.{sym, arith}
use Rattle.bitcursor.specs.declared.Refusal.{Refusal}
use Rattle.bitcursor.specs.Reading.{Out, got, refused, and_then}
use Rattle.bitcursor.specs.Code.{mapped, tabled, ◌>>=◌, give}
use Rattle.text.specs.declared.Source.TheVariants.{Main}
use Rattle.text.specs.declared.Text.{Text}
use Rattle.text.specs.Texts.{Written, TV}
use Rattle.text.specs.Fields.{width_by}
use Rattle.text.specs.Answers.{placed}
use Rattle.prefix_format.specs.Prefix.{name}

module _ (b : Bool) (xs : List ℕ) (p : ℕ) where
  pub name_there : {t : Text} {q : ℕ} → got t q ≡ placed Main (width_by b) p ((TV (width_by b)).read xs p) → (name b).read xs p ≡ got tt q
  unfolding name mapped tabled ◌>>=◌ give
  name_there {t} {q} h = go ((TV (width_by b)).read xs p) (sym h)
    where
      go : (o : Out ℕ Written) → placed Main (width_by b) p o ≡ got t q → and_then {B = Unit {0}} o (λ u r. got tt r) ≡ got tt q
      go (got u r) k = cc
      go (refused n r) k = cc

  pub name_short : {n : Refusal} {q : ℕ} → refused n q ≡ placed Main (width_by b) p ((TV (width_by b)).read xs p) → (name b).read xs p ≡ refused n q
  unfolding name mapped tabled ◌>>=◌ give
  name_short {n} {q} h = go ((TV (width_by b)).read xs p) (sym h)
    where
      go : (o : Out ℕ Written) → placed Main (width_by b) p o ≡ refused n q → and_then {B = Unit {0}} o (λ u r. got tt r) ≡ refused n q
      go (got u r) k = cc
      go (refused m r) k = cc

pub less : (n : ℕ) → 0 < n → n ≡ suc (n - 1)
less n some = omega arith
