-- What a call ensures that hands on a body's parts: its answer, and the lists before and after it. Assumes nothing.
use Rattle.std.specs.Prelude.{◌≡◌, List, ℕ, Result}
use Rattle.bitcursor.specs.declared.Refused.{Refused}
use Rattle.bitcursor.specs.Reading.{Out, got, refused}
use Rattle.bitcursor.specs.Inputs.{Places}
use Rattle.hatch_format.specs.Values.{Body}
use Rattle.hatch_points.specs.Lists.{Lists, store}
use Rattle.hatch_rest.specs.Rests.{no_sizes, rest_entries}
use Rattle.hatch_body.specs.declared.Parts.{Parts}
use Rattle.hatch_body.specs.Parts.{BodyIs, Readable}

module _ {N : Type 0} (of : ℕ → N) where
  -- before a list's room is known: what the lists are then
  abbrev pub laid_over : Lists N → Out Places Body → Lists N
  laid_over l (got a q) = store of l no_sizes (rest_entries a.rest)
  laid_over l (refused k q) = l

  pub record CallIs (xs : List ℕ) (o : Out Places Body) (l l' : Lists N) (r : Result Parts (Refused Places)) : Type 0 where
    pub body : BodyIs xs o r
    pub readable : Readable xs r
    pub lists : l' ≡ laid_over l o
