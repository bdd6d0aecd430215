-- What follows the pattern's name, walked from empty lists: its values, and what it lays in the lists. Assumes nothing.
use Rattle.std.specs.Prelude.{◌≡◌, true, false, length}
use Rattle.hatch_format.specs.Values.{no_pattern, Rest as RestValue}
use Rattle.hatch_points.specs.declared.lists.Sizes.{Sizes}
use Rattle.hatch_rest.specs.declared.rests.Rest.{Rest}
use Rattle.hatch_points.specs.Gathered.{Entries, plus, all}
use Rattle.hatch_paths.specs.PathGathers.{path_entries}
use Rattle.hatch_rest.specs.Tails.{tail_of, tail_entries, walked}

abbrev pub no_sizes : Sizes
no_sizes = record { numbers = 0; words = 0; derived = false }

abbrev pub rest_of : RestValue → Rest
rest_of a = record { associative = a.associative; paths = length a.paths; tail = tail_of a.solid a.tail }

-- the pattern of a solid hatch, which is not handed on, is zero
abbrev pub SolidBlank : RestValue → Type 0
SolidBlank a = a.solid ≡ true → a.tail.pattern ≡ no_pattern

abbrev pub rest_entries : RestValue → Entries
rest_entries a = plus (all path_entries a.paths) (tail_entries a.tail)

abbrev pub rest_walk : RestValue → Rest × Sizes
rest_walk = walked rest_of rest_entries no_sizes
