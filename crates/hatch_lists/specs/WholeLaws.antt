-- What it is for a record and its lists to be whole: there are paths, pattern lines and seed points whose entries they are; there is one such
-- holding; whatever is written from allowed ones is whole, with anything behind it; and which numbers stand in the list does not matter.
-- Assumes nothing.
use Rattle.std.specs.Prelude.{◌≡◌, Bool, ◌&&◌, ℕ, ◌≤◌, leb, length, take, drop}
use Rattle.std.proofs.Math.Path.{refl, sym, ap, ap₂}
use Rattle.std.proofs.Common.{subst, ◌∙◌, arith, length-append, length-take, take-append-drop, length-take-le, take_at, le-leb, leb-true}
use Rattle.std.proofs.Math.Bool.{true, false}
use mathlib.Core.List.{List, [], ◌∷◌, ◌++◌, append-nil}
use Rattle.bitcursor.specs.Reading.{Out, got, refused}
use Rattle.bitcursor.specs.Format.{Format, relay}
use Rattle.hatch_format.specs.Caps.{document_caps}
use Rattle.hatch_lists.specs.declared.HatchCounts.{HatchCounts}
use Rattle.hatch_lists.specs.declared.Item.{Item}
use Rattle.hatch_lists.specs.Lists.{Lists, lists, lists_of, Stands}
use Rattle.hatch_lists.specs.Holding.{Holding, held_words, held_numbers, HoldingWithin, Numbered, HoldingHeld, holding}
use Rattle.hatch_lists.specs.Whole.{Fitting, switches, counted, fitting, Whole, Held, whole, not_whole, at_end, ended, held_if, held}
use Rattle.hatch_lists.specs.Items.{held_items}
use Rattle.hatch_lists.specs.Steps.{Step, next, broken}
use Rattle.hatch_lists.specs.Walks.{Left, left_of, walk, finish}
use Rattle.hatch_lists.specs.Says.{left}
use Rattle.hatch_lists.specs.FollowsWhole.{items_held, held_by_walk}

-- ---- the test of the record and of the lengths
both : (s t : Bool) → s && t ≡ true → (s ≡ true) × (t ≡ true)
both true t e = (refl, e)
both false t e = absurd (let z : ◌≡◌ {A = ℕ} 0 1 = cc in omega arith)

pub fitting_fits : (c : HatchCounts) (words numbers : ℕ) → fitting c words numbers ≡ true → Fitting c words numbers
fitting_fits c words numbers e =
    let s = both (switches c) _ e in
    let n = both (counted c) _ s.1 in
    let l = both (leb c.words_used words) _ n.1 in
    let s₁ = both (leb c.solid_fill 1) _ s.0 in
    let s₂ = both (leb c.associative 1) _ s₁.1 in
    let n₁ = both (leb c.num_colors document_caps.colors) _ n.0 in
    let n₂ = both (leb c.num_paths document_caps.paths) _ n₁.1 in
    let n₃ = both (leb c.num_pattern_lines document_caps.pattern_lines) _ n₂.1 in
    record {
      solid = leb-true _ _ s₁.0;
      associative = leb-true _ _ s₂.0;
      double = leb-true _ _ s₂.1;
      colors = leb-true _ _ n₁.0;
      paths = leb-true _ _ n₂.0;
      lines = leb-true _ _ n₃.0;
      seeds = leb-true _ _ n₃.1;
      words_long = leb-true _ _ l.0;
      numbers_long = leb-true _ _ l.1;
    }

pub fits_fitting : (c : HatchCounts) (words numbers : ℕ) → Fitting c words numbers → fitting c words numbers ≡ true
fits_fitting c words numbers h =
    rw (le-leb _ _ h.solid, le-leb _ _ h.associative, le-leb _ _ h.double)
    (rw (le-leb _ _ h.colors, le-leb _ _ h.paths, le-leb _ _ h.lines, le-leb _ _ h.seeds)
    (rw (le-leb _ _ h.words_long, le-leb _ _ h.numbers_long) refl))

-- ---- whole by reading, and whole by what is held
never : {X : Type 0} {a : Holding} → not_whole ≡ whole a → X
never {X} {a} e = absurd (subst F e tt)
  where
    F : Held → Type 0
    F (whole b) = ⊥
    F not_whole = Unit {0}

module _ (c : HatchCounts) where
  -- what is read: as many words and numbers as were used
  abbrev used : List ℕ → List ℕ → Lists
  used ws ns = lists_of (take c.words_used ws) (take c.numbers_used ns)

  abbrev reads : Format lists Holding
  reads = holding document_caps c.num_paths c.num_pattern_lines c.num_seed_points

  abbrev Read : Holding → Lists → Lists → Type 0
  Read = HoldingHeld document_caps c.num_paths c.num_pattern_lines c.num_seed_points

  to_end : (a : Holding) (p : Lists) (o : Out Lists Holding) → reads.read tt p ≡ o → ended o ≡ whole a → Read a p (lists_of [] [])
  unfolding holding relay
  to_end a p (refused k q) e h = never h
  to_end a p (got b q) e h = go q.words q.numbers refl refl h
    where
      go : (ws ns : List ℕ) → q.words ≡ ws → q.numbers ≡ ns → at_end b ws ns ≡ whole a → Read a p (lists_of [] [])
      go [] [] i j h =
          let f : b ≡ a = cc in
          reads.sound tt a p (lists_of [] []) (e ∙ ap₂ got f (ap₂ lists_of i j))
      go [] (n ∷ ns) i j h = never h
      go (w ∷ ws) ns i j h = never h

  pub held_whole : (ws ns : List ℕ) (a : Holding) → held c ws ns ≡ whole a → Whole c ws ns a
  unfolding held
  held_whole ws ns a e = go (fitting c (length ws) (length ns)) refl e
    where
      go : (b : Bool) → fitting c (length ws) (length ns) ≡ b → held_if b c ws ns ≡ whole a → Whole c ws ns a
      go false f h = never h
      go true f h =
          let r = to_end a (used ws ns) (reads.read tt (used ws ns)) refl h in
          record {
            fits = fitting_fits c (length ws) (length ns) f;
            numbered = r.0;
            within = r.1;
            words = r.2.words ∙ append-nil (held_words a);
            numbers = r.2.numbers ∙ append-nil (held_numbers a);
          }

  pub whole_held : (ws ns : List ℕ) (a : Holding) → Whole c ws ns a → held c ws ns ≡ whole a
  unfolding held holding relay
  whole_held ws ns a h =
      let stands : Stands (held_words a) (held_numbers a) (used ws ns) (lists_of [] []) =
      record { words = h.words ∙ sym (append-nil (held_words a)); numbers = h.numbers ∙ sym (append-nil (held_numbers a)) } in
      let e : reads.read tt (used ws ns) ≡ got a (lists_of [] []) =
      reads.complete tt a (used ws ns) (lists_of [] []) (h.numbered, h.within, stands) in
      ap (λ (b : Bool). held_if b c ws ns) (fits_fitting c (length ws) (length ns) h.fits) ∙ ap ended e

  -- there is one such holding
  pub whole_unique : (ws ns : List ℕ) (a b : Holding) → Whole c ws ns a → Whole c ws ns b → a ≡ b
  whole_unique ws ns a b h k =
      let e : whole a ≡ whole b = sym (whole_held ws ns a h) ∙ whole_held ws ns b k in
      cc

-- ---- what is written
-- the record is that of these paths, lines and seeds: it fits lists of as many entries as theirs, has their counts, and says their lengths
pub record Written (c : HatchCounts) (a : Holding) : Type 0 where
  pub fits : Fitting c (length (held_words a)) (length (held_numbers a))
  pub numbered : Numbered a c.num_paths c.num_pattern_lines c.num_seed_points
  pub words_used : c.words_used ≡ length (held_words a)
  pub numbers_used : c.numbers_used ≡ length (held_numbers a)

-- a record that fits lists of some lengths fits those of others, if each length used is within them
fits_also : (c : HatchCounts) {words numbers m n : ℕ} → Fitting c words numbers → c.words_used ≤ m → c.numbers_used ≤ n → Fitting c m n
fits_also c h i j =
    record {
      solid = h.solid;
      associative = h.associative;
      double = h.double;
      colors = h.colors;
      paths = h.paths;
      lines = h.lines;
      seeds = h.seeds;
      words_long = i;
      numbers_long = j;
    }

-- within a list is within what the list begins
longer : (n : ℕ) (l m : List ℕ) → n ≤ length l → n ≤ length (l ++ m)
longer n l m h = omega (arith, length-append l m)

-- the entries of allowed paths, lines and seeds are whole, with anything behind them
pub entries_whole : (a : Holding) (c : HatchCounts) (vs ms : List ℕ) → Written c a → HoldingWithin document_caps a
    → Whole c (held_words a ++ vs) (held_numbers a ++ ms) a
entries_whole a c vs ms h k =
    record {
      fits = fits_also c h.fits (longer _ (held_words a) vs h.fits.words_long) (longer _ (held_numbers a) ms h.fits.numbers_long);
      numbered = h.numbered;
      within = k;
      words = take_at (held_words a) vs c.words_used (sym h.words_used);
      numbers = take_at (held_numbers a) ms c.numbers_used (sym h.numbers_used);
    }

-- and the other way: a whole record is that of what it holds, and its lists begin with the entries of that
pub whole_written : (c : HatchCounts) (ws ns : List ℕ) (a : Holding) → Whole c ws ns a → Written c a
whole_written c ws ns a h =
    let w = sym (length-take-le c.words_used ws h.fits.words_long) ∙ ap length h.words in
    let n = sym (length-take-le c.numbers_used ns h.fits.numbers_long) ∙ ap length h.numbers in
    record { fits = fits_also c h.fits (omega (arith, w)) (omega (arith, n)); numbered = h.numbered; words_used = w; numbers_used = n }

pub whole_begins : (c : HatchCounts) (ws ns : List ℕ) (a : Holding) → Whole c ws ns a
    → (ws ≡ held_words a ++ drop c.words_used ws) × (ns ≡ held_numbers a ++ drop c.numbers_used ns)
whole_begins c ws ns a h = (
  sym (take-append-drop c.words_used ws) ∙ ap (λ (l : List ℕ). l ++ drop c.words_used ws) h.words,
  sym (take-append-drop c.numbers_used ns) ∙ ap (λ (l : List ℕ). l ++ drop c.numbers_used ns) h.numbers,
)

-- ---- other numbers, as many
module _ (c : HatchCounts) (ws : List ℕ) where
  left_used : (ns ms : List ℕ) → length ms ≡ length ns → left (used c ws ms) ≡ left (used c ws ns)
  left_used ns ms e =
      ap (left_of (take c.words_used ws))
      (length-take c.numbers_used ms ∙ rw e (sym (length-take c.numbers_used ns)))

  -- whether record and lists are whole, and of which items, is a matter of the words and of how many numbers there are
  pub items_by_length : (ns ms : List ℕ) → length ms ≡ length ns → items_held (held c ws ms) ≡ items_held (held c ws ns)
  unfolding held
  items_by_length ns ms e = ap (λ (n : ℕ). items_held (held_if (fitting c (length ws) n) c ws ms)) e ∙ go (fitting c (length ws) (length ns))
    where
      walked : (l : List ℕ) → items_held (held_if true c ws l)
          ≡ walk document_caps (finish c.num_seed_points) 0 c.num_paths c.num_pattern_lines (left (used c ws l))
      walked l = held_by_walk document_caps c.num_paths c.num_pattern_lines c.num_seed_points (used c ws l)

      go : (b : Bool) → items_held (held_if b c ws ms) ≡ items_held (held_if b c ws ns)
      go false = refl
      go true =
          walked ms
          ∙ ap (walk document_caps (finish c.num_seed_points) 0 c.num_paths c.num_pattern_lines) (left_used ns ms e)
          ∙ sym (walked ns)

  -- whatever numbers a caller puts in place of the numbers, record and lists stay whole, with the same items
  pub numbers_altered : (ns ms : List ℕ) (a : Holding) → Whole c ws ns a → length ms ≡ length ns
      → (b : Holding) × Whole c ws ms b × (held_items b ≡ held_items a)
  numbers_altered ns ms a h e = go (held c ws ms) refl (items_by_length ns ms e ∙ ap items_held (whole_held c ws ns a h))
    where
      items_in : Step Left (List Item) → List Item
      items_in (next is l) = is
      items_in broken = []

      go : (o : Held) → held c ws ms ≡ o → items_held o ≡ next (held_items a) (left_of [] 0)
          → (b : Holding) × Whole c ws ms b × (held_items b ≡ held_items a)
      go (whole b) f i = (b, held_whole c ws ms b f, ap items_in i)
      go not_whole f i = absurd (let z : ◌≡◌ {A = ℕ} 0 1 = cc in omega arith)

  -- and the same words
  pub same_words : (ns ms : List ℕ) (a b : Holding) → Whole c ws ns a → Whole c ws ms b → held_words b ≡ held_words a
  same_words ns ms a b h k = sym k.words ∙ h.words
