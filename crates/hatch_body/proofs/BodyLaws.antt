-- A body from the answers for its front and its rest: what the definition of the whole reads, and what the lists are then. Assumes nothing.
use mathlib.Core.Path.{◌≡◌, refl, sym, ap, ap₂, subst, ◌∙◌}
use mathlib.Core.Bool.{Bool, true, false, ◌&&◌}
use mathlib.Core.List.{List, [], ◌++◌, append-nil}
use Prim.Native.Nat.{ℕ, ◌^◌, ◌≤◌, ◌<◌}
use native.Mathlib.Nat.{zero-add}
use native.Mathlib.Omega.{arith}
use lib.Dec.{leb}
use lib.ListN.{length}
use borrow.Author.Tests.{le-leb, leb-true}
use Rattle.std.specs.Prelude.{Result, Ok, Err, map}
use Rattle.std.specs.Result.{IsErr, IsErrAnd}
use Rattle.bitcursor.specs.declared.Refusal.TheVariants.{ListTooShort}
use Rattle.bitcursor.specs.declared.Refused.{Refused}
use Rattle.bitcursor.specs.Answers.{value_as}
use Rattle.bitcursor.specs.Fields.{main, lifted}
use Rattle.bitcursor.specs.Inputs.{Places}
use Rattle.bitcursor.specs.Reading.{Out, got, refused, never}
use Rattle.bitcursor.specs.Ranges.{BS_below}
use Rattle.text.specs.declared.version.Version.{Version}
use Rattle.hatch_format.proofs.Rests.{rest_to}
use Rattle.hatch_format.specs.declared.Caps.{Caps}
use Rattle.hatch_format.specs.HandleRule.{Handles}
use Rattle.hatch_format.specs.Values.{Rest as RestValue}
use Rattle.hatch_format.specs.Entries.{every, words, numbers, line_words, line_numbers, point_numbers}
use Rattle.hatch_format.specs.Layouts.{PatternLaid}
use Rattle.hatch_format.specs.Patterns.{rest}
use Rattle.hatch_points.specs.declared.lists.Sizes.{Sizes}
use Rattle.hatch_points.specs.Gathered.{Entries, gathered}
use Rattle.hatch_points.specs.Gathers.{all_both}
use Rattle.hatch_points.specs.Lists.{Lists, lists, store, grow, Stored}
use Rattle.hatch_points.proofs.Laws.{stays, kept_same, sets_out}
use Rattle.hatch_paths.specs.PathGathers.{all_paths}
use Rattle.hatch_rest.specs.declared.rests.Rest.{Rest}
use Rattle.hatch_rest.specs.Rests.{no_sizes, rest_of, SolidBlank, rest_entries, rest_walk}
use Rattle.hatch_front.specs.declared.Front.{Front}
use Rattle.hatch_body.specs.declared.Parts.{Parts}
use Rattle.hatch_body.specs.Parts.{placed, none_lent, long_enough, parts_if, rest_read, laid_if, rest_lists}

pub rest_range : (caps : Caps) (handles : Handles) (v : Version) (xs : List ℕ) (p : ℕ) {a : RestValue} {q : ℕ} → (rest caps handles v).read xs p ≡ got a q
    → (a.tail.pattern_style < 2 ^ 16) × (a.tail.pattern_type < 2 ^ 16)
unfolding rest
rest_range caps handles v xs p {a} {q} e =
    let l = (rest_to caps handles v xs a p q ((rest caps handles v).sound xs a p q e)).2.2.2 in
    (BS_below a.tail.pattern_style l.1.code l.1.listed, BS_below a.tail.pattern_type l.2.1.code l.2.1.listed)

-- the pattern of a solid hatch is zero
pub rest_blank : (caps : Caps) (handles : Handles) (v : Version) (xs : List ℕ) (p : ℕ) {a : RestValue} {q : ℕ} → (rest caps handles v).read xs p ≡ got a q
    → SolidBlank a
unfolding rest
rest_blank caps handles v xs p {a} {q} e s =
    let l = (rest_to caps handles v xs a p q ((rest caps handles v).sound xs a p q e)).2.2.2 in
    (subst (λ (b : Bool). PatternLaid xs caps b a.tail.pattern l.2.0 l.2.2.0) s l.2.2.1).0

-- ---- what the rest lays is the definition's words and numbers
pub laid_words : (a : RestValue) → (rest_entries a).words ≡ words a
laid_words a =
    ap₂ ◌++◌ (ap (λ (e : Entries). e.words) (all_paths a.paths))
    (ap (λ (e : Entries). e.words ++ []) (all_both line_words line_numbers a.tail.pattern.lines) ∙ append-nil (every line_words a.tail.pattern.lines))

pub laid_numbers : (a : RestValue) → (rest_entries a).numbers ≡ numbers a
laid_numbers a =
    ap₂ (λ (m n : List ℕ). m ++ (n ++ every point_numbers a.tail.ending.seed_points)) (ap (λ (e : Entries). e.numbers) (all_paths a.paths))
    (ap (λ (e : Entries). e.numbers) (all_both line_words line_numbers a.tail.pattern.lines))

pub used_words : (a : RestValue) → (grow no_sizes (rest_entries a)).words ≡ length (words a)
used_words a = zero-add (length (rest_entries a).words) ∙ ap length (laid_words a)

pub used_numbers : (a : RestValue) → (grow no_sizes (rest_entries a)).numbers ≡ length (numbers a)
used_numbers a = zero-add (length (rest_entries a).numbers) ∙ ap length (laid_numbers a)

-- ---- from the rest's answer, placed behind the front, what was read
pub record RestRead (p : Places) (o : Out ℕ RestValue) (t : Rest) (z : Sizes) (q : Places) : Type 0 where
  pub value : RestValue
  pub place : ℕ
  pub read : o ≡ got value place
  pub rest : t ≡ rest_of value
  pub used : z ≡ grow no_sizes (rest_entries value)
  pub places : q ≡ placed p place

same_got : {A : Type 0} {a b : A} {p q : Places} → got a p ≡ got b q → (a ≡ b) × (p ≡ q)
same_got e = (cc, cc)

pub rest_got : (p : Places) (o : Out ℕ RestValue) {m : Out ℕ (Rest × Sizes)} {t : Rest} {z : Sizes} {q : Places}
    → m ≡ value_as rest_walk o → got (t, z) q ≡ lifted main p m → RestRead p o t z q
rest_got p (got a n) i e =
    let s = same_got (e ∙ ap (lifted main p) i) in
    record {
      value = a;
      place = n;
      read = refl;
      rest = ap (λ (u : Rest × Sizes). u.0) s.0;
      used = ap (λ (u : Rest × Sizes). u.1) s.0;
      places = s.1;
    }
rest_got p (refused k n) i e = never (sym (e ∙ ap (lifted main p) i))

-- lists as long as what was used are long enough
pub long_enough_lem : (nw nn : ℕ) (z : Sizes) → z.words ≤ nw → z.numbers ≤ nn → long_enough nw nn z ≡ true
long_enough_lem nw nn z g h = rw (le-leb z.words nw g, le-leb z.numbers nn h)

-- ---- the rest behind a front
module _ (f : Front) (nw nn : ℕ) (p : Places) (o : Out ℕ RestValue) {N : Type 0} (of : ℕ → N) where
  abbrev Answered : Result Parts (Refused Places) → Lists N → Lists N → Out ℕ RestValue → Type 0
  Answered r l l' x = (r ≡ rest_read f nw nn p x) × (l' ≡ rest_lists of l nw nn x)

  module _ {t : Rest} {z : Sizes} {q : Places} (h : RestRead p o t z q) where
    same_room : {b : Bool} → long_enough nw nn z ≡ b → long_enough nw nn (grow no_sizes (rest_entries h.value)) ≡ b
    same_room s = ap (long_enough nw nn) (sym h.used) ∙ s

    pub rest_short : {l l' : Lists N} → long_enough nw nn z ≡ false → l' ≡ l → Answered (Err (record { refusal = ListTooShort; place = q })) l l' o
    rest_short {l} {l'} s j =
        let b = same_room s in
        subst (Answered (Err (record { refusal = ListTooShort; place = q })) l l') (sym h.read) (
          ap (λ (x : Places). Err (record { refusal = ListTooShort; place = x })) h.places
              ∙ ap (λ (c : Bool). parts_if c f h.value (placed p h.place)) (sym b),
          j ∙ ap (λ (c : Bool). laid_if of c l h.value) (sym b),
        )

    pub rest_full : (l l' : Lists N) → long_enough nw nn z ≡ true → Stored of (gathered rest_entries o) l no_sizes l'
        → Answered (Ok (record { front = f; rest = t; used = z; places = q })) l l' o
    rest_full l l' s g =
        let a = h.value in
        let b = same_room s in
        let laid : l' ≡ store of l no_sizes (rest_entries a)
        = subst (λ (x : Out ℕ RestValue). Stored of (gathered rest_entries x) l no_sizes l') h.read g in
        let same : Ok (record { front = f; rest = t; used = z; places = q }) ≡ parts_if true f a (placed p h.place)
        = λ i. Ok (record { front = f; rest = h.rest i; used = h.used i; places = h.places i }) in
        subst (Answered (Ok (record { front = f; rest = t; used = z; places = q })) l l') (sym h.read)
        (same ∙ ap (λ (c : Bool). parts_if c f a (placed p h.place)) (sym b), laid ∙ ap (λ (c : Bool). laid_if of c l a) (sym b))

  refused_as : (x : Out ℕ RestValue) {e : Refused Places} (l l' : Lists N) → refused e.refusal e.place ≡ lifted main p (value_as rest_walk x) → l' ≡ l
      → Answered (Err e) l l' x
  refused_as (got a n) l l' k j = never k
  refused_as (refused r n) {e} l l' k j =
      let why : e.refusal ≡ r = cc in
      let stop : e.place ≡ placed p n = cc in
      (λ i. Err (record { refusal = why i; place = stop i }), j)

  pub rest_refused : (r : Result Parts (Refused Places)) {e : Refused Places} {m : Out ℕ (Rest × Sizes)} (l l' : Lists N)
      → IsErr r × IsErrAnd r (λ d. d ≡ e) → m ≡ value_as rest_walk o → refused e.refusal e.place ≡ lifted main p m → l' ≡ l → Answered r l l' o
  rest_refused r l l' s i h j = stays (λ (x : Result Parts (Refused Places)). Answered x l l' o) r s (refused_as o l l' (h ∙ ap (lifted main p) i) j)

-- ---- empty lists take nothing
none_all : (a b : ℕ) → none_lent a b ≡ true → (a ≡ 0) × (b ≡ 0)
none_all a b h = go (leb a 0) (leb b 0) refl refl h
  where
    go : (s t : Bool) → leb a 0 ≡ s → leb b 0 ≡ t → s && t ≡ true → (a ≡ 0) × (b ≡ 0)
    go true true e f h = let x = leb-true a 0 e in let y = leb-true b 0 f in (omega (arith, x), omega (arith, y))
    go true false e f h = let x : ◌≡◌ {A = ℕ} 0 1 = cc in absurd (omega arith)
    go false t e f h = let x : ◌≡◌ {A = ℕ} 0 1 = cc in absurd (omega arith)

pub none_laid : {N : Type 0} (of : ℕ → N) (o : Out ℕ RestValue) (a : List N) (b : List ℕ) → none_lent (length a) (length b) ≡ true
    → Stored of (gathered rest_entries o) (lists a b) no_sizes (lists a b)
none_laid of (refused k q) a b h = kept_same
none_laid of (got v q) a b h =
    let n = none_all (length a) (length b) h in
    let e = rest_entries v in
    λ i. lists (sym (sets_out a 0 (map of e.numbers) (omega (arith, n.0))) i) (sym (sets_out b 0 e.words (omega (arith, n.1))) i)
