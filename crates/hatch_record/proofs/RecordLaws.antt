-- What is known of the parts where the record is made: without colours nothing is read again. Assumes nothing.
use Rattle.std.specs.Prelude.{◌≡◌, refl, List, [], ℕ, map, Option, Some, None, Result, Ok, Err}
use Rattle.std.proofs.Common.{sym, ap}
use Rattle.bitcursor.specs.declared.Refused.{Refused}
use Rattle.bitcursor.specs.Inputs.{Places}
use Rattle.bitcursor.specs.Format.{pure, relay}
use Rattle.hatch_format.specs.declared.GradientColorBits.{GradientColorBits}
use Rattle.hatch_format.specs.Record.{sixteen}
use Rattle.hatch_format.specs.Counts.{times_read, times}
use Rattle.hatch_format.specs.Gradients.{color}
use Rattle.hatch_front.specs.declared.Gradient.{Gradient}
use Rattle.hatch_front.specs.Answers.{sixteen_of, num_colors as colors_of}
use Rattle.hatch_body.specs.declared.Parts.{Parts}
use Rattle.hatch_record.specs.Records.{num_colors, colors_in, answer_with, answer_in, record_by}

-- without colours nothing is read again
pub plain_is : {N C : Type 0} (of : ℕ → N) (make : GradientColorBits → C) (xs : List ℕ) (r : Result Parts (Refused Places)) → num_colors r ≡ 0
    → answer_with of (map make (sixteen [])) r ≡ answer_in of make xs r
unfolding times relay times_read pure
plain_is of make xs (Ok a) e = ap (λ (cs : List GradientColorBits). Ok (record_by of (map make cs) a)) (none a.front.gradient e)
  where
    none : (g : Option Gradient) → colors_of g ≡ 0 → sixteen [] ≡ colors_in xs g
    none (Some g) i = sym (ap (λ (n : ℕ). sixteen_of ((times n color).read xs g.colors_at)) i)
    none None i = refl
plain_is of make xs (Err e) n = refl
