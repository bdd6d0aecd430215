-- Walks that store words too: runs of doubles store none, and a word that is put is one entry more. Assumes nothing.
use mathlib.Core.Path.{◌≡◌}
use mathlib.Core.List.{List, []}
use Prim.Native.Nat.{ℕ}
use lib.ListN.{set}
use Rattle.std.specs.Prelude.{Result}
use Rattle.bitcursor.specs.declared.Refused.{Refused}
use Rattle.hatch_points.specs.declared.lists.Sizes.{Sizes}
use Rattle.hatch_points.specs.Gathered.{word}
use Rattle.hatch_points.specs.Walks.{double_run}
use Rattle.hatch_points.specs.Lists.{lists, with_words, Walks}
use Rattle.hatch_points.proofs.Laws.{Step, one_word, words_kept}
use Rattle.hatch_points.proofs.NoWords.{double_wordless}

module _ {N : Type 0} {of : ℕ → N} where
  -- runs store no words
  module _ {xs : List ℕ} (n p : ℕ) {a a' : List N} {z : Sizes} {r : Result (Sizes × ℕ) (Refused ℕ)} (ws : List ℕ) where
    pub double_words : Walks of xs ((double_run n).read xs p) (lists a []) z (lists a' []) r
        → Walks of xs ((double_run n).read xs p) (lists a ws) z (lists a' ws) r
    double_words = words_kept _ ws (double_wordless n xs p)

  -- a word is put
  pub word_step : {a : List N} {ws ws' : List ℕ} (z : Sizes) (w : ℕ) → ws' ≡ set ws z.words w
      → Step of (lists a ws) z (word w) (lists a ws') (with_words z 1)
  word_step {a} z w e = record { lists = λ i. lists a (e i); sizes = one_word z w }
