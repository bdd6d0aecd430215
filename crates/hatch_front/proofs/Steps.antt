-- What the readings of a front's parts are, step by step, as the readers take them. Assumes nothing.
use Rattle.std.specs.Prelude.{◌≡◌, refl, List, ℕ, Result}
use Rattle.std.specs.Result.{IsErr, IsErrAnd}
use Rattle.std.proofs.Common.{ap, ◌∙◌}
use Rattle.std.proofs.lemmas.Result.{err_from_is_err_and}
use Rattle.bitcursor.specs.declared.Refused.{Refused}
use Rattle.bitcursor.specs.Answers.{passing}
use Rattle.bitcursor.specs.Bytes.{low_first}
use Rattle.bitcursor.specs.Codes.{BS, RC, signed, signed_BS}
use Rattle.bitcursor.proofs.Steps.{mapped_read}
use Rattle.bitcursor.specs.Reading.{Out, got, refused, and_then}
use Rattle.bitcursor.specs.Format.{Input, pure, ◌>>=◌, peek}
use Rattle.hatch_format.specs.declared.GradientColorBits.{GradientColorBits}
use Rattle.hatch_format.specs.Counts.{times}
use Rattle.hatch_format.specs.Gradients.{color}
use Rattle.hatch_front.specs.Answers.{passed_of}
use Rattle.hatch_front.specs.Passed.{passed}

pub peek_read : (M : Input) {A : Type 0} (t : M.Known → M.Place → A) (γ : M.Bytes) (p : M.Place) → (peek M t).read γ p ≡ got (t (M.known γ) p) p
unfolding peek
peek_read M t γ p = refl

-- a signed short, and a byte
pub short_read : (xs : List ℕ) (p : ℕ) → signed_BS.read xs p ≡ and_then (BS.read xs p) (λ n q. got (signed 16 n) q)
unfolding signed_BS
short_read xs p = mapped_read (signed 16) BS xs p

pub byte_read : (xs : List ℕ) (p : ℕ) → RC.read xs p ≡ (low_first 1).read xs p
unfolding RC
byte_read xs p = refl

pub ruleset colors = (short_read, byte_read)

-- colours that are passed over
pub colors_passed : (n : ℕ) (xs : List ℕ) (p : ℕ) → (passed (times n color)).read xs p ≡ passed_of ((times n color).read xs p)
unfolding passed ◌>>=◌ pure
colors_passed n xs p = go ((times n color).read xs p)
  where
    go : (o : Out ℕ (List GradientColorBits)) → and_then o (λ a q. got (tt {0}) q) ≡ passed_of o
    go (got cs q) = refl
    go (refused k q) = refl

-- what a `?` that met a refusal returns where the place alone is answered
pub passing_left : {P : Type 0} (r : Result P (Refused P)) {e : Refused P} → IsErr r × IsErrAnd r (λ d. d ≡ e) → passing r ≡ refused e.refusal e.place
passing_left r h = let k = err_from_is_err_and r h.1 in ap passing k.1 ∙ ap (λ d. refused d.refusal d.place) k.2

pub ruleset steps = (peek_read, colors_passed)
