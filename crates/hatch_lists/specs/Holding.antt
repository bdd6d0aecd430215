-- All that a hatch's lists hold: its paths, pattern lines and seed points, read back in that order. Assumes nothing.
use Rattle.std.specs.Prelude.{◌≡◌, refl, ℕ, length}
use Rattle.std.proofs.Common.{sym}
use Rattle.std.proofs.Math.Path.{subst}
use mathlib.Core.List.{List, [], ◌++◌, append-nil}
use Rattle.bitcursor.specs.Format.{Format, pure, ◌>>=◌, relay}
use Rattle.hatch_format.specs.declared.Caps.{Caps}
use Rattle.hatch_format.specs.Values.{Point, Path, PatternLine, Rest}
use Rattle.hatch_format.specs.Entries.{every, point_numbers, path_words, path_numbers, line_words, line_numbers}
use Rattle.hatch_format.specs.Counts.{times}
use Rattle.hatch_lists.specs.Lists.{Lists, lists, Stands, stands_then, stands_first, stands_second, between}
use Rattle.hatch_lists.specs.Within.{All, PathWithin, LineWithin}
use Rattle.hatch_lists.specs.Points.{each_to, each_from, point, points_to, points_from}
use Rattle.hatch_lists.specs.Paths.{PathHeld, path, LineHeld, pattern_line}

pub record Holding : Type 0 where
  pub paths : List Path
  pub lines : List PatternLine
  pub seeds : List Point

-- of a body
abbrev pub holding_of : Rest → Holding
holding_of a = record { paths = a.paths; lines = a.tail.pattern.lines; seeds = a.tail.ending.seed_points }

-- its entries, as specs/Entries of hatch_format has those of a body
abbrev pub held_words : Holding → List ℕ
held_words a = every path_words a.paths ++ every line_words a.lines

abbrev pub held_numbers : Holding → List ℕ
held_numbers a = every path_numbers a.paths ++ (every line_numbers a.lines ++ every point_numbers a.seeds)

-- each path and each pattern line is one that lists may hold
pub record HoldingWithin (caps : Caps) (a : Holding) : Type 0 where
  pub paths : All (PathWithin caps) a.paths
  pub lines : All (LineWithin caps) a.lines

-- so many of each
pub record Numbered (a : Holding) (paths lines seeds : ℕ) : Type 0 where
  pub paths_are : length a.paths ≡ paths
  pub lines_are : length a.lines ≡ lines
  pub seeds_are : length a.seeds ≡ seeds

module _ (caps : Caps) (paths lines seeds : ℕ) where
  unfoldable pub holding_read : Format lists Holding
  holding_read = do
    outlines ← times paths (path caps)
    hatched ← times lines (pattern_line caps)
    points ← times seeds point
    pure (record { paths = outlines; lines = hatched; seeds = points })

  abbrev pub HoldingHeld : Holding → Lists → Lists → Type 0
  HoldingHeld a p q = Numbered a paths lines seeds × HoldingWithin caps a × Stands (held_words a) (held_numbers a) p q

  pub holding_to : (γ : Unit {0}) (a : Holding) (p q : Lists) → holding_read.lays γ a p q → HoldingHeld a p q
  unfolding holding_read times path pattern_line point relay ◌>>=◌ pure
  holding_to γ a p q l =
      let m = l.3 in
      let n = m.3 in
      let ps = each_to (PathHeld caps) (PathWithin caps) path_words path_numbers (λ a r t m. m) l.0 p l.1 l.2.1 in
      let ls = each_to (LineHeld caps) (LineWithin caps) line_words line_numbers (λ a r t m. m) m.0 l.1 m.1 m.2.1 in
      let ss = points_to n.0 m.1 n.1 n.2.1 in
      let s = stands_then ps.1 (stands_then ls.1 ss) in
      let t = subst (λ (ws : List ℕ). Stands (every path_words l.0 ++ ws)
      (every path_numbers l.0 ++ (every line_numbers m.0 ++ every point_numbers n.0)) p n.1) (append-nil (every line_words m.0)) s in
      rw (n.3.0, n.3.1) (record { paths_are = l.2.0; lines_are = m.2.0; seeds_are = n.2.0 }, record { paths = ps.0; lines = ls.0 }, t)

  pub holding_from : (γ : Unit {0}) (a : Holding) (p q : Lists) → HoldingHeld a p q → holding_read.lays γ a p q
  unfolding holding_read times path pattern_line point relay ◌>>=◌ pure
  holding_from γ a p q l =
      let vs = every line_words a.lines in
      let ss = every point_numbers a.seeds in
      let ms = every line_numbers a.lines ++ ss in
      let s = subst (λ (ws : List ℕ). Stands ws ms (between vs ms q) q) (sym (append-nil vs)) (stands_second vs ms q) in
      let s₁ = stands_first (every path_words a.paths) (every path_numbers a.paths) vs ms l.2 in
      let s₂ = stands_first vs (every line_numbers a.lines) [] ss s in
      let ps = each_from (PathHeld caps) (PathWithin caps) path_words path_numbers (λ a r t i m. (i, m)) a.paths p (between vs ms q) l.1.paths s₁ in
      let ls = each_from (LineHeld caps) (LineWithin caps) line_words line_numbers (λ a r t i m. (i, m)) a.lines (between vs ms q) (between [] ss q)
      l.1.lines s₂ in
      let qs = points_from a.seeds (between [] ss q) q (stands_second [] ss q) in (
        a.paths,
        between vs ms q,
        (l.0.paths_are, ps),
        (a.lines, between [] ss q, (l.0.lines_are, ls), (a.seeds, q, (l.0.seeds_are, qs), (refl, refl))),
      )

  unfoldable pub holding : Format lists Holding
  holding = relay holding_read (λ γ. HoldingHeld) holding_to holding_from
