-- The walk over a pattern line; what a line holds for the lists is what it gathers. Assumes nothing.
use Rattle.std.specs.Prelude.{◌≡◌, false, List, [], ◌∷◌, ℕ, length}
use Rattle.std.proofs.Common.{sym, ap, ◌∙◌}
use Rattle.bitcursor.specs.Codes.{BS}
use Rattle.bitcursor.specs.Doubles.{BD}
use Rattle.bitcursor.specs.Format.{Format, pure, ◌>>=◌, relay}
use Rattle.bitcursor.specs.Inputs.{one}
use Rattle.bitcursor.specs.Fields.{coded}
use Rattle.hatch_format.specs.Values.{PatternLine}
use Rattle.hatch_format.specs.Entries.{line_words, line_numbers}
use Rattle.hatch_format.specs.Counts.{bounded}
use Rattle.hatch_format.specs.Patterns.{takes_bit_BD, pattern_line_read, pattern_line}
use Rattle.hatch_points.specs.Gathered.{Entries, word, numbers, plus, gathered, same_first, last_gathers}
use Rattle.hatch_points.specs.Walks.{double_run}
use Rattle.hatch_points.specs.Gathers.{single, all_single, doubles_gather, listed_gathers, five}

abbrev pub line_entries : PatternLine → Entries
line_entries a = record { words = line_words a; numbers = line_numbers a; derived = false }

unfoldable pub line_walk : ℕ → Format one Entries
line_walk cap = do
  a ← double_run 5
  n ← bounded cap BS
  dashes ← double_run n
  pure (plus a (plus (word n) dashes))

module _ (xs : List ℕ) (cap : ℕ) where
  pub line_gathers : (p : ℕ) → gathered line_entries ((pattern_line cap).read xs p) ≡ (line_walk cap).read xs p
  unfolding pattern_line pattern_line_read line_walk relay
  line_gathers p =
      same_first line_entries xs p (coded BD) _ _ (λ a q h.
      same_first line_entries xs q (coded BD) _ _ (λ b q h.
      same_first line_entries xs q (coded BD) _ _ (λ c q h.
      same_first line_entries xs q (coded BD) _ _ (λ d q h.
      same_first line_entries xs q (coded BD) _ _ (λ e q h.
      listed_gathers line_entries xs cap BS (coded BD) takes_bit_BD single double_run (doubles_gather xs)
      (λ dashes. pure (record { angle = a; origin = record { x = b; y = c }; offset = record { x = d; y = e }; dashes = dashes }))
      (λ n z. pure (plus (numbers (a ∷ (b ∷ (c ∷ (d ∷ (e ∷ [])))))) (plus (word n) z)))
      (λ dashes q. last_gathers line_entries xs q _
      (ap (λ (z : Entries). plus (numbers (a ∷ (b ∷ (c ∷ (d ∷ (e ∷ [])))))) (plus (word (length dashes)) z)) (sym (all_single dashes)))) q)))))
      ∙ five xs (λ a. bounded cap BS >>= λ n. double_run n >>= λ dashes. pure (plus a (plus (word n) dashes))) p
