-- Which walks gather no words, and which no numbers; and that a flag takes a bit. Assumes nothing.
use mathlib.Core.Path.{◌≡◌, refl, sym, ap, ◌∙◌}
use mathlib.Core.Bool.{Bool}
use mathlib.Core.List.{List, []}
use Prim.Native.Nat.{ℕ, ◌≤◌}
use native.Mathlib.Omega.{arith}
use Rattle.bitcursor.specs.Reading.{Out, got, refused, never}
use lib.ListN.{length}
use Rattle.bitcursor.specs.Code.{tabled}
use Rattle.bitcursor.specs.Codes.{B, B_codes, B_of, RD}
use Rattle.hatch_format.specs.Takes.{Takes, takes_code}
use Rattle.bitcursor.specs.Doubles.{BD}
use Rattle.bitcursor.specs.Format.{pure, ◌>>=◌}
use Rattle.bitcursor.specs.Fields.{coded}
use Rattle.hatch_format.specs.Entries.{vertex_numbers}
use Rattle.hatch_format.specs.Counts.{times}
use Rattle.hatch_format.specs.Points.{vertex}
use Rattle.hatch_points.specs.Gathered.{Entries, numbers, all, gathered}
use Rattle.hatch_points.specs.Walks.{raw_run, double_run, vertices_walk}
use Rattle.hatch_points.specs.Runs.{vertex_entries, vertices_gather}
use Rattle.hatch_points.specs.Gathers.{all_numbers}
use Rattle.hatch_points.proofs.Laws.{Wordless, Numberless}

wordless : {A : Type 0} (f : A → Entries) → ((a : A) → (f a).words ≡ []) → (o : Out ℕ A) → Wordless (gathered f o)
wordless f h (got a p) e q i = let j : f a ≡ e = cc in sym (ap (λ (x : Entries). x.words) j) ∙ h a
wordless f h (refused k p) e q i = never i

pub numberless : {A : Type 0} (f : A → Entries) → ((a : A) → (f a).numbers ≡ []) → (o : Out ℕ A) → Numberless (gathered f o)
numberless f h (got a p) e q i = let j : f a ≡ e = cc in sym (ap (λ (x : Entries). x.numbers) j) ∙ h a
numberless f h (refused k p) e q i = never i

pub raw_wordless : (n : ℕ) (xs : List ℕ) (p : ℕ) → Wordless ((raw_run n).read xs p)
unfolding raw_run ◌>>=◌ pure
raw_wordless n xs p = wordless numbers (λ ns. refl) ((times n (coded RD)).read xs p)

pub double_wordless : (n : ℕ) (xs : List ℕ) (p : ℕ) → Wordless ((double_run n).read xs p)
unfolding double_run ◌>>=◌ pure
double_wordless n xs p = wordless numbers (λ ns. refl) ((times n (coded BD)).read xs p)

pub vertices_wordless : (more : Bool) (n : ℕ) (xs : List ℕ) (p : ℕ) → Wordless ((vertices_walk more n).read xs p)
vertices_wordless more n xs p e q i =
    wordless (all (vertex_entries xs more)) (λ vs. ap (λ (x : Entries). x.words) (all_numbers (vertex_numbers more) vs))
    ((times n (vertex more)).read xs p) e q (vertices_gather xs more n p ∙ i)

-- a flag takes a bit
pub takes_flag : Takes 1 (coded B)
unfolding B tabled
takes_flag = takes_code 1 B go
  where
    go : (b : Bool) (cs : List Bool) → B_codes b cs → 1 ≤ length cs
    go b cs B_of = omega arith
