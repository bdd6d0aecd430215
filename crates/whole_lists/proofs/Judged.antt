-- Where the walk ends tells whether a record and its lists are whole, and where a path ends: hatch_lists' laws of the walk, at its end. Assumes nothing.
use mathlib.Core.Path.{◌≡◌, refl, sym, ap, ap₂, ◌∙◌}
use mathlib.Core.Bool.{Bool, true, false, ◌&&◌}
use mathlib.Core.List.{List, []}
use Prim.Native.Nat.{ℕ, ◌-◌, ◌*◌, ◌≤◌}
use native.Mathlib.Omega.{arith}
use Rattle.std.specs.Prelude.{Option, Some, None}
use lib.Dec.{leb, eqb}
use lib.ListN.{length, take, drop, length-drop}
use lib.Seq.{length-take-le, drop-cons, drop-length}
use borrow.Author.Tests.{leb-true, leb-false}
use Rattle.bitcursor.specs.Reading.{Out, got, refused}
use Rattle.hatch_format.specs.Caps.{document_caps}
use Rattle.hatch_format.specs.Values.{Path}
use Rattle.hatch_lists.specs.declared.HatchCounts.{HatchCounts}
use Rattle.hatch_lists.specs.declared.Item.{Item}
use Rattle.hatch_lists.specs.Items.{path_items}
use Rattle.hatch_lists.specs.Lists.{Lists, lists_of}
use Rattle.hatch_lists.specs.Paths.{path}
use Rattle.hatch_lists.specs.Whole.{Held, whole, not_whole, Fitting, fitting, held_if, held}
use Rattle.hatch_lists.specs.WholeLaws.{fitting_fits}
use Rattle.hatch_lists.specs.Steps.{Step, next, broken}
use Rattle.hatch_lists.specs.Walks.{Left, left_of, prepend, here, path_then, walk, end_if, finish}
use Rattle.hatch_lists.specs.Says.{left}
use Rattle.hatch_lists.specs.Follows.{items_then}
use Rattle.hatch_lists.specs.FollowsPaths.{before_path}
use Rattle.hatch_lists.specs.FollowsWhole.{items_held, held_by_walk}
use Rattle.whole_lists.specs.declared.Place.{Place}
use Rattle.whole_lists.specs.declared.ListEnd.{ListEnd}
use Rattle.whole_lists.specs.Stepped.{walk_at}
use Rattle.whole_lists.specs.Ended.{Ends, end_of, EndsPath, ends_whole, is_held, start_of, Judges}

-- whether a walk came to its end
abbrev is_next : Step Left (List Item) → Bool
is_next (next is l) = true
is_next broken = false

next_held : (h : Held) → is_held h ≡ is_next (items_held h)
next_held (whole a) = refl
next_held not_whole = refl

next_behind : (is : List Item) (s : Step Left (List Item)) → is_next (prepend is s) ≡ is_next s
next_behind is (next js l) = refl
next_behind is broken = refl

-- ---- the end of whole lists
none_left : (ws : List ℕ) (word : ℕ) (b : Bool) → word ≤ length ws → leb (length ws) word && b ≡ is_next (end_if (drop word ws) b)
none_left ws word b h = go (leb (length ws) word) refl
  where
    all : (b : Bool) → b ≡ is_next (end_if [] b)
    all true = refl
    all false = refl

    go : (t : Bool) → leb (length ws) word ≡ t → leb (length ws) word && b ≡ is_next (end_if (drop word ws) b)
    go true e =
        let f : word ≡ length ws = omega (arith, leb-true (length ws) word e) in
        rw (e, ap (λ (n : ℕ). drop n ws) f ∙ drop-length ws) (all b)
    go false e = rw (e, drop-cons ws word 0 (leb-false (length ws) word e))

module _ (c : HatchCounts) (ws ns : List ℕ) (fits : Fitting c (length ws) (length ns)) where
  abbrev pub used : List ℕ
  used = take c.words_used ws

  used_long : length used ≡ c.words_used
  used_long = length-take-le c.words_used ws fits.words_long

  pub items_walk : items_held (held_if true c ws ns) ≡ walk_at (finish c.num_seed_points) used c.numbers_used (start_of c)
  items_walk =
      let e : length (take c.numbers_used ns) ≡ c.numbers_used - 0 = length-take-le c.numbers_used ns fits.numbers_long ∙ omega arith in
      held_by_walk document_caps c.num_paths c.num_pattern_lines c.num_seed_points (lists_of used (take c.numbers_used ns))
      ∙ ap (λ (n : ℕ). walk document_caps (finish c.num_seed_points) 0 c.num_paths c.num_pattern_lines (left_of used n)) e

  walk_is : is_held (held_if true c ws ns) ≡ is_next (walk_at (finish c.num_seed_points) used c.numbers_used (start_of c))
  walk_is = next_held (held_if true c ws ns) ∙ ap is_next items_walk

  end_is : (e : Option ListEnd) → Ends used c.numbers_used (start_of c) e
      → ends_whole c e ≡ is_next (walk_at (finish c.num_seed_points) used c.numbers_used (start_of c))
  end_is (Some end) p =
      let b = eqb (c.numbers_used - end.number) (c.num_seed_points * 2) in
      ap (λ (n : ℕ). leb n end.word && b) (sym used_long) ∙ none_left used end.word b p.word_within
      ∙ sym (ap is_next (p.same (finish c.num_seed_points)) ∙ next_behind p.items
      (finish c.num_seed_points (left_of (drop end.word used) (c.numbers_used - end.number))))
  end_is None p = sym (ap is_next (p (finish c.num_seed_points)))

pub judges_no : (c : HatchCounts) (ws : List ℕ) (n : ℕ) → fitting c (length ws) n ≡ false → Judges c ws n false
unfolding held
judges_no c ws n e ns l = sym (ap (λ (b : Bool). is_held (held_if b c ws ns)) (ap (fitting c (length ws)) l ∙ e))

pub judges_end : (c : HatchCounts) (ws : List ℕ) (n : ℕ) (b : Bool) (e : Option ListEnd) → fitting c (length ws) n ≡ true
    → Ends (take c.words_used ws) c.numbers_used (start_of c) e
    → b ≡ ends_whole c e → Judges c ws n b
unfolding held
judges_end c ws n b e fit p same ns l =
    let yes : fitting c (length ws) (length ns) ≡ true = ap (fitting c (length ws)) l ∙ fit in
    let fits = fitting_fits c (length ws) (length ns) yes in
    same ∙ end_is c ws ns fits e p ∙ sym (walk_is c ws ns fits) ∙ sym (ap (λ (t : Bool). is_held (held_if t c ws ns)) yes)

-- ---- the end of one path
left_in : Step Left (List Item) → Left
left_in (next is l) = l
left_in broken = left_of [] 0

differ : {is : List Item} {l : Left} → broken ≡ next is l → ⊥
differ e = let z : ◌≡◌ {A = ℕ} 0 1 = cc in absurd (omega arith)

abbrev end_at : ℕ → ℕ → Option ListEnd
end_at word number = Some (record { word = word; number = number })

abbrev pub path_start : ℕ → ℕ → Place
path_start word number = record { word = word; number = number; parts = 0; paths = 1; lines = 0 }

pub ends_path : (ws : List ℕ) (n word number : ℕ) → number ≤ n → (r : Option ListEnd) → Ends ws n (path_start word number) r → EndsPath ws n word number r
unfolding left_in
ends_path ws n word number h r e ns l = go r e ((path document_caps).read tt p) (read ∙ numbers_left)
  where
    p : Lists
    p = lists_of (drop word ws) (drop number ns)

    read : items_then path_items ((path document_caps).read tt p) (λ q. next [] (left q)) ≡ path_then document_caps here (left p)
    read = (before_path document_caps).at (λ q. next [] (left q)) here (λ q. refl) p

    numbers_left : path_then document_caps here (left p) ≡ walk_at here ws n (path_start word number)
    numbers_left =
        let k : length (drop number ns) ≡ n - number = length-drop number ns ∙ ap (λ (m : ℕ). m - number) l in
        ap (λ (m : ℕ). path_then document_caps here (left_of (drop word ws) m)) k

    there : (q : Lists) (w m : ℕ) → w ≤ length ws → m ≤ n → left q ≡ left_of (drop w ws) (n - m)
        → end_at w m ≡ end_at (length ws - length q.words) (length ns - length q.numbers)
    there q w m hw hm f =
        let i : length q.words ≡ length ws - w = ap (λ (x : Left). length x.words) f ∙ length-drop w ws in
        let j : length q.numbers ≡ n - m = ap (λ (x : Left). x.numbers) f in
        let w_is : w ≡ length ws - length q.words = omega (arith, i, hw) in
        let m_is : m ≡ length ns - length q.numbers = omega (arith, j, hm, l) in
        ap₂ end_at w_is m_is

    go : (r : Option ListEnd) → Ends ws n (path_start word number) r → (o : Out Lists Path)
        → items_then path_items o (λ q. next [] (left q)) ≡ walk_at here ws n (path_start word number) → r ≡ end_of (length ws) (length ns) o
    go (Some z) e (got a q) f = there q z.word z.number e.word_within e.number_within (ap left_in (f ∙ e.same here))
    go (Some z) e (refused k q) f = absurd (differ (f ∙ e.same here))
    go None e (got a q) f = absurd (differ (sym (f ∙ e here)))
    go None e (refused k q) f = refl
