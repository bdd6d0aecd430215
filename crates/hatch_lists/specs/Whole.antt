-- When a record and its lists are whole, and what they then hold. Assumes nothing.
use Rattle.std.specs.Prelude.{◌≡◌, Bool, true, false, ◌&&◌, List, [], ◌∷◌, ℕ, ◌≤◌, leb, length, take}
use Rattle.loads.specs.Bits.{bit}
use Rattle.bitcursor.specs.Reading.{Out, got, refused}
use Rattle.hatch_format.specs.declared.Hatch.{Hatch}
use Rattle.hatch_format.specs.Caps.{document_caps}
use Rattle.hatch_lists.specs.declared.HatchCounts.{HatchCounts}
use Rattle.hatch_lists.specs.Lists.{Lists, lists_of}
use Rattle.hatch_lists.specs.Holding.{Holding, held_words, held_numbers, HoldingWithin, Numbered, holding}

-- ---- what a record says of its lists, whatever its doubles and colours are
abbrev pub counts_of : {N C : Type 0} → Hatch N C → HatchCounts
counts_of h =
    record {
      solid_fill = bit h.solid_fill;
      associative = bit h.associative;
      pattern_double = bit h.pattern_double;
      num_colors = h.gradient.num_colors;
      num_paths = h.num_paths;
      num_pattern_lines = h.num_pattern_lines;
      num_seed_points = h.num_seed_points;
      words_used = h.words_used;
      numbers_used = h.numbers_used;
    }

-- ---- the record alone, and the lengths of the lists: each switch is 0 or 1, each count within its cap, no list shorter than the length used
pub record Fitting (c : HatchCounts) (words numbers : ℕ) : Type 0 where
  pub solid : c.solid_fill ≤ 1
  pub associative : c.associative ≤ 1
  pub double : c.pattern_double ≤ 1
  pub colors : c.num_colors ≤ document_caps.colors
  pub paths : c.num_paths ≤ document_caps.paths
  pub lines : c.num_pattern_lines ≤ document_caps.pattern_lines
  pub seeds : c.num_seed_points ≤ document_caps.seed_points
  pub words_long : c.words_used ≤ words
  pub numbers_long : c.numbers_used ≤ numbers

abbrev pub switches : HatchCounts → Bool
switches c = leb c.solid_fill 1 && (leb c.associative 1 && leb c.pattern_double 1)

abbrev pub counted : HatchCounts → Bool
counted c =
    leb c.num_colors document_caps.colors
    && (leb c.num_paths document_caps.paths
    && (leb c.num_pattern_lines document_caps.pattern_lines && leb c.num_seed_points document_caps.seed_points))

abbrev pub fitting : HatchCounts → ℕ → ℕ → Bool
fitting c words numbers = switches c && (counted c && (leb c.words_used words && leb c.numbers_used numbers))

-- ---- whole: the entries of these paths, lines and seeds are the first words and numbers, as many as were used
pub record Whole (c : HatchCounts) (ws ns : List ℕ) (a : Holding) : Type 0 where
  pub fits : Fitting c (length ws) (length ns)
  pub numbered : Numbered a c.num_paths c.num_pattern_lines c.num_seed_points
  pub within : HoldingWithin document_caps a
  pub words : take c.words_used ws ≡ held_words a
  pub numbers : take c.numbers_used ns ≡ held_numbers a

-- ---- the same by reading: record and lists are read to their ends
pub data Held : Type 0 where
  whole : Holding → Held
  not_whole : Held

abbrev pub at_end : Holding → List ℕ → List ℕ → Held
at_end a [] [] = whole a
at_end a [] (n ∷ ns) = not_whole
at_end a (w ∷ ws) ns = not_whole

abbrev pub ended : Out Lists Holding → Held
ended (got a q) = at_end a q.words q.numbers
ended (refused k q) = not_whole

abbrev pub held_if : Bool → HatchCounts → List ℕ → List ℕ → Held
held_if true c ws ns =
    ended
    ((holding document_caps c.num_paths c.num_pattern_lines c.num_seed_points).read tt
    (lists_of (take c.words_used ws) (take c.numbers_used ns)))
held_if false c ws ns = not_whole

-- what record and lists hold
unfoldable pub held : HatchCounts → List ℕ → List ℕ → Held
held c ws ns = held_if (fitting c (length ws) (length ns)) c ws ns
