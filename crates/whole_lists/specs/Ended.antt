-- The walk to its end: where a path ends, and whether a record and its lists are whole. Assumes nothing.
use Rattle.std.specs.Prelude.{◌≡◌, Bool, true, false, ◌&&◌, Option, Some, None, List, ℕ, ◌-◌, ◌*◌, ◌≤◌, leb, eqb, length, drop}
use Rattle.bitcursor.specs.Reading.{Out, got, refused}
use Rattle.hatch_format.specs.Caps.{document_caps}
use Rattle.hatch_format.specs.Values.{Path}
use Rattle.hatch_lists.specs.declared.HatchCounts.{HatchCounts}
use Rattle.hatch_lists.specs.declared.Item.{Item}
use Rattle.hatch_lists.specs.Lists.{Lists, lists_of}
use Rattle.hatch_lists.specs.Paths.{path}
use Rattle.hatch_lists.specs.Steps.{broken}
use Rattle.hatch_lists.specs.Walks.{left_of, prepend, Walk}
use Rattle.hatch_lists.specs.Whole.{Held, whole, not_whole, held}
use Rattle.whole_lists.specs.declared.Place.{Place}
use Rattle.whole_lists.specs.declared.ListEnd.{ListEnd}
use Rattle.whole_lists.specs.Stepped.{walk_at}

-- ---- all items are passed, whatever comes behind them; or the walk breaks off
pub record Passed (ws : List ℕ) (numbers : ℕ) (p : Place) (end : ListEnd) : Type 0 where
  pub items : List Item
  pub same : (rest : Walk) → walk_at rest ws numbers p ≡ prepend items (rest (left_of (drop end.word ws) (numbers - end.number)))
  pub word_within : end.word ≤ length ws
  pub number_within : end.number ≤ numbers

abbrev pub Ends : List ℕ → ℕ → Place → Option ListEnd → Type 0
Ends ws numbers p (Some end) = Passed ws numbers p end
Ends ws numbers p None = (rest : Walk) → walk_at rest ws numbers p ≡ broken

-- ---- where a path ends that is read from a word and a number on
abbrev pub end_of : ℕ → ℕ → Out Lists Path → Option ListEnd
end_of words numbers (got a q) = Some (record { word = words - length q.words; number = numbers - length q.numbers })
end_of words numbers (refused k q) = None

abbrev pub path_end : List ℕ → List ℕ → ℕ → ℕ → Option ListEnd
path_end ws ns word number = end_of (length ws) (length ns) ((path document_caps).read tt (lists_of (drop word ws) (drop number ns)))

-- whatever the numbers are
abbrev pub EndsPath : List ℕ → ℕ → ℕ → ℕ → Option ListEnd → Type 0
EndsPath ws numbers word number r = (ns : List ℕ) → length ns ≡ numbers → r ≡ path_end ws ns word number

-- ---- whole: the walk ends behind the last word, before the numbers of so many seed points and no more
abbrev pub ends_whole : HatchCounts → Option ListEnd → Bool
ends_whole c (Some end) = leb c.words_used end.word && eqb (c.numbers_used - end.number) (c.num_seed_points * 2)
ends_whole c None = false

abbrev pub is_held : Held → Bool
is_held (whole a) = true
is_held not_whole = false

-- the walk begins with all of a record's paths and pattern lines
abbrev pub start_of : HatchCounts → Place
start_of c = record { word = 0; number = 0; parts = 0; paths = c.num_paths; lines = c.num_pattern_lines }

-- whole or not as the definition reads the lists, whatever the numbers are
abbrev pub Judges : HatchCounts → List ℕ → ℕ → Bool → Type 0
Judges c ws numbers r = (ns : List ℕ) → length ns ≡ numbers → r ≡ is_held (held c ws ns)
