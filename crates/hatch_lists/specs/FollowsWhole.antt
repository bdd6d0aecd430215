-- What lists hold says of words and of how many numbers are left: the walk of specs/Walks to the end of both lists gives its items, whatever
-- the numbers are. Assumes nothing.
use Rattle.std.specs.Prelude.{◌≡◌, refl, Bool, true, false, ℕ, ◌-◌, ◌*◌, ◌≤◌, ◌<◌, leb, eqb, length}
use Rattle.std.proofs.Common.{sym, ap, subst, ◌∙◌, arith, leb-true, leb-false, eq-eqb, ne_eqb}
use mathlib.Core.List.{List, [], ◌∷◌, ◌++◌, append-nil}
use Rattle.bitcursor.specs.Reading.{Out, got, refused, and_then}
use Rattle.bitcursor.specs.Format.{pure, ◌>>=◌, relay}
use Rattle.hatch_format.specs.declared.Caps.{Caps}
use Rattle.hatch_format.specs.Values.{Point, Path, PatternLine}
use Rattle.hatch_format.specs.Counts.{times}
use Rattle.hatch_lists.specs.declared.Item.{Item}
use Rattle.hatch_lists.specs.Items.{gathered, path_items, line_item, held_items}
use Rattle.hatch_lists.specs.Lists.{Lists}
use Rattle.hatch_lists.specs.Points.{point}
use Rattle.hatch_lists.specs.Paths.{path, pattern_line}
use Rattle.hatch_lists.specs.Holding.{Holding, holding, holding_read}
use Rattle.hatch_lists.specs.Whole.{Held, whole, not_whole, at_end, ended}
use Rattle.hatch_lists.specs.Steps.{Step, next, broken, line_step}
use Rattle.hatch_lists.specs.Walks.{Left, left_of, pass_if, prepend, item_then, times_then, path_then, walk, end_if, finish}
use Rattle.hatch_lists.specs.Says.{left, summary, any, Fixed, fixed_times}
use Rattle.hatch_lists.specs.SaysItems.{fixed_point, says_line}
use Rattle.hatch_lists.specs.Follows.{items_then, before_item, before_times}
use Rattle.hatch_lists.specs.FollowsPaths.{before_path}

-- the items of what is held, or not whole
abbrev pub items_held : Held → Step Left (List Item)
items_held (whole a) = next (held_items a) (left_of [] 0)
items_held not_whole = broken

-- whether nothing is left
abbrev pub nothing_left : List ℕ → List ℕ → Step Left (List Item)
nothing_left [] [] = next [] (left_of [] 0)
nothing_left [] (n ∷ ns) = broken
nothing_left (w ∷ ws) ns = broken

module _ (caps : Caps) (paths lines seeds : ℕ) where
  abbrev seeds_end : Out Lists (List Point) → Step Left (List Item)
  seeds_end (got points q) = nothing_left q.words q.numbers
  seeds_end (refused k q) = broken

  -- ---- the seeds: two numbers each, to the end
  seeds_finish : (p : Lists) → seeds_end ((times seeds point).read tt p) ≡ finish seeds (left p)
  seeds_finish p = go ((times seeds point).read tt p) (leb (seeds * 2) n) refl (numbers.at p)
    where
      n : ℕ
      n = length p.numbers

      numbers : Fixed (seeds * 2) (times seeds point)
      numbers = fixed_times 2 seeds point fixed_point

      left_in : Step Left (Unit {0}) → Left
      left_in (next u l) = l
      left_in broken = left p

      differ : {l : Left} → broken ≡ next any l → ⊥
      differ e = let z : ◌≡◌ {A = ℕ} 0 1 = cc in absurd (omega arith)

      ended_at : (vs ns ws : List ℕ) (m : ℕ) → vs ≡ ws → length ns ≡ m - seeds * 2 → seeds * 2 ≤ m → nothing_left vs ns ≡ end_if ws (eqb m (seeds * 2))
      ended_at [] [] ws m e f h = subst (λ (l : List ℕ). next [] (left_of [] 0) ≡ end_if l (eqb m (seeds * 2))) e (rw (eq-eqb m (seeds * 2) (omega arith)))
      ended_at [] (k ∷ ns) ws m e f h = subst (λ (l : List ℕ). broken ≡ end_if l (eqb m (seeds * 2))) e (rw (ne_eqb m (seeds * 2) (omega arith)))
      ended_at (w ∷ vs) ns ws m e f h = subst (λ (l : List ℕ). broken ≡ end_if l (eqb m (seeds * 2))) e refl

      short : (ws : List ℕ) (m : ℕ) → m < seeds * 2 → broken ≡ end_if ws (eqb m (seeds * 2))
      short [] m h = rw (ne_eqb m (seeds * 2) (omega arith))
      short (w ∷ ws) m h = refl

      go : (o : Out Lists (List Point)) (b : Bool) → leb (seeds * 2) n ≡ b → summary (λ (a : List Point). any) o ≡ pass_if b any (seeds * 2) p.words n
          → seeds_end o ≡ finish seeds (left p)
      go (got points q) true e h =
          let l : left q ≡ left_of p.words (n - seeds * 2) = ap left_in h in
          ended_at q.words q.numbers p.words n (ap (λ (x : Left). x.words) l) (ap (λ (x : Left). x.numbers) l) (leb-true (seeds * 2) n e)
      go (got points q) false e h = absurd (differ (sym h))
      go (refused k q) true e h = absurd (differ h)
      go (refused k q) false e h = short p.words n (leb-false (seeds * 2) n e)

  -- ---- paths, then lines, then seeds
  abbrev pub line_list : PatternLine → List Item
  line_list b = line_item b ∷ []

  lines_end : Lists → Step Left (List Item)
  lines_end q = items_then (gathered line_list) ((times lines (pattern_line caps)).read tt q) (λ r. seeds_end ((times seeds point).read tt r))

  read_items : (p : Lists)
      → items_held (ended ((holding caps paths lines seeds).read tt p)) ≡ items_then (gathered path_items) ((times paths (path caps)).read tt p) lines_end
  unfolding holding holding_read relay ◌>>=◌ pure lines_end
  read_items p = first ((times paths (path caps)).read tt p)
    where
      rest : List Path → List PatternLine → Lists → Out Lists Holding
      rest ps ls r = and_then ((times seeds point).read tt r) (λ ss q. got (record { paths = ps; lines = ls; seeds = ss }) q)

      at : (a : Holding) (ws ns : List ℕ) → items_held (at_end a ws ns) ≡ prepend (gathered path_items a.paths)
          (prepend (gathered line_list a.lines) (nothing_left ws ns))
      at a [] [] = ap (λ (is : List Item). next (gathered path_items a.paths ++ is) (left_of [] 0)) (sym (append-nil (gathered line_list a.lines)))
      at a [] (n ∷ ns) = refl
      at a (w ∷ ws) ns = refl

      third : (ps : List Path) (ls : List PatternLine) (o : Out Lists (List Point))
          → items_held (ended (and_then o (λ ss q. got (record { paths = ps; lines = ls; seeds = ss }) q)))
          ≡ prepend (gathered path_items ps) (prepend (gathered line_list ls) (seeds_end o))
      third ps ls (got ss q) = at (record { paths = ps; lines = ls; seeds = ss }) q.words q.numbers
      third ps ls (refused k q) = refl

      second : (ps : List Path) (o : Out Lists (List PatternLine)) → items_held (ended (and_then o (λ ls r. rest ps ls r)))
          ≡ prepend (gathered path_items ps) (items_then (gathered line_list) o (λ r. seeds_end ((times seeds point).read tt r)))
      second ps (got ls r) = third ps ls ((times seeds point).read tt r)
      second ps (refused k r) = refl

      first : (o : Out Lists (List Path))
          → items_held (ended (and_then o (λ ps q. and_then ((times lines (pattern_line caps)).read tt q) (λ ls r. rest ps ls r))))
          ≡ items_then (gathered path_items) o lines_end
      first (got ps q) = second ps ((times lines (pattern_line caps)).read tt q)
      first (refused k q) = refl

  -- whole or not is a matter of the words and of how many numbers there are
  pub held_by_walk : (p : Lists) → items_held (ended ((holding caps paths lines seeds).read tt p)) ≡ walk caps (finish seeds) 0 paths lines (left p)
  unfolding lines_end
  held_by_walk p =
      read_items p
      ∙ (before_times path_items (path caps) (path_then caps) paths (before_path caps)).at lines_end
      (times_then lines (item_then (line_step caps)) (finish seeds)) lines_walk p
    where
      lines_walk : (q : Lists) → lines_end q ≡ times_then lines (item_then (line_step caps)) (finish seeds) (left q)
      lines_walk q =
          (before_times line_list (pattern_line caps) (item_then (line_step caps)) lines
          (before_item line_item (pattern_line caps) (line_step caps) (says_line caps))
          ).at (λ r. seeds_end ((times seeds point).read tt r)) (finish seeds) seeds_finish q
