-- What a walk that is lent both lists in one ensures: it walks them, and they are the same two references afterwards. Assumes nothing.
use Rattle.std.specs.Prelude.{◌≡◌, List, ℕ, Result}
use Rattle.bitcursor.specs.declared.Refused.{Refused}
use Rattle.bitcursor.specs.Reading.{Out}
use Rattle.hatch_points.specs.declared.lists.Sizes.{Sizes}
use Rattle.hatch_points.specs.declared.lists.Lent.{Lent}
use Rattle.hatch_points.specs.Gathered.{Entries}
use Rattle.hatch_points.specs.Lists.{Lists, lists, Walks}

-- what lies in them
abbrev pub lent : {N : Type 0} → Lent N → Lists N
lent l = lists l.numbers.now l.words.now

-- without this a caller, whose lists these are, learns nothing of what was stored
abbrev pub SameLists : {N : Type 0} → Lent N → Lent N → Type 0
SameLists l l' = (l'.numbers.ghost_name ≡ l.numbers.ghost_name) × (l'.words.ghost_name ≡ l.words.ghost_name)

pub record LentWalks {N : Type 0} (of : ℕ → N) (xs : List ℕ) (o : Out ℕ Entries) (l : Lent N) (z : Sizes) (l' : Lent N)
    (r : Result (Sizes × ℕ) (Refused ℕ)) : Type 0 where
  pub walk : Walks of xs o (lent l) z (lent l') r
  pub same : SameLists l l'
