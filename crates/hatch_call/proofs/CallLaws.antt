-- A whole call from the answers for its parts, and the tests in front of it. Assumes nothing.
use Rattle.std.specs.Prelude.{◌≡◌, refl, Bool, true, false, ◌&&◌, List, ℕ, ◌^◌, ◌≤◌, ◌<◌, leb, length, Option, Some, None, Result, Ok, Err}
use Rattle.std.specs.Option.{ok_or}
use Rattle.std.specs.Result.{IsErr, IsErrAnd}
use Rattle.std.proofs.Common.{sym, ap, ap₂, subst, ◌∙◌, arith, le-leb, leb→le, leb-false}
use Rattle.std.proofs.lemmas.Bool.{lt-leb}
use Rattle.bitcursor.specs.declared.Refusal.{Refusal}
use Rattle.bitcursor.specs.declared.Refusal.TheVariants.{UnknownRelease, PayloadTooLong, ListTooShort}
use Rattle.bitcursor.specs.declared.Refused.{Refused}
use Rattle.loads.specs.Bits.{limit, within_limit}
use Rattle.bitcursor.specs.Reading.{Out, got, refused, and_then}
use Rattle.bitcursor.specs.Inputs.{Places, Payloads}
use Rattle.bitcursor.specs.Fields.{main, lifted, moved_in}
use Rattle.text.specs.declared.version.Version.{Version}
use Rattle.text.specs.Releases.{known_at, version_of}
use Rattle.hatch_format.specs.declared.Caps.{Caps}
use Rattle.hatch_format.specs.HandleRule.{Handles}
use Rattle.hatch_format.specs.Values.{Gradient, Rest as RestValue, Body}
use Rattle.hatch_format.specs.Entries.{words, numbers}
use Rattle.hatch_format.specs.Patterns.{rest}
use Rattle.hatch_format.specs.Hatch.{hatch}
use Rattle.hatch_format.specs.Call.{room_for, reader_start, call_by, call_on}
use Rattle.hatch_points.specs.Lists.{Lists, grow}
use Rattle.hatch_points.proofs.Laws.{stays}
use Rattle.hatch_rest.specs.Rests.{no_sizes, SolidBlank, rest_entries}
use Rattle.hatch_front.specs.declared.Front.{Front as CodeFront}
use Rattle.hatch_front.specs.Fronts.{Front, front, whole, hatch_front}
use Rattle.hatch_front.specs.Answers.{FillAt, num_colors, gradient_if, gradient_of, front_of, FrontIs}
use Rattle.hatch_body.specs.declared.Parts.{Parts}
use Rattle.hatch_body.specs.Parts.{placed, long_enough, parts_if, rest_read, laid_if, rest_lists}
use Rattle.hatch_call.specs.Calls.{CallIs}
use Rattle.hatch_body.proofs.BodyLaws.{used_words, used_numbers, rest_range, rest_blank}

-- ---- from the front's answer, what was read
pub front_got : (xs : List ℕ) (o : Out Places Front) {f : CodeFront} {p : Places} → FrontIs xs o (Ok (f, p))
    → (a : Front) × (at : ℕ) × (o ≡ got a p) × (f ≡ front_of at a) × FillAt xs at a.gradient
front_got xs (got a q) {f} {p} e =
    let i : got f p ≡ got (front_of e.0 a) q = e.1 in
    let ep : q ≡ p = cc in
    let ef : f ≡ front_of e.0 a = cc in
    (a, e.0, ap (got a) ep, ef, e.2)
front_got xs (refused k q) {f} {p} e =
    let i : got f p ≡ refused k q = e in
    let z : ◌≡◌ {A = ℕ} 0 1 = cc in
    absurd (omega arith)

pub front_refused : (xs : List ℕ) (o : Out Places Front) {e : Refused Places} → FrontIs xs o (Err e) → o ≡ refused e.refusal e.place
front_refused xs (got a q) {e} h =
    let i : refused e.refusal e.place ≡ got (front_of h.0 a) q = h.1 in
    let z : ◌≡◌ {A = ℕ} 0 1 = cc in
    absurd (omega arith)
front_refused xs (refused j q) {e} h =
    let i : ◌≡◌ {A = Out Places CodeFront} (refused e.refusal e.place) (refused j q) = h in
    let ej : j ≡ e.refusal = cc in
    let ep : q ≡ e.place = cc in
    ap₂ refused ej ep

-- ---- the rest behind the front
module _ {N : Type 0} (of : ℕ → N) (caps : Caps) (handles : Handles) (v : Version) (γ : Payloads) (f : Front) (at : ℕ) (q : Places) (nw nn : ℕ)
    (within : length γ.main ≤ limit) (fill : FillAt γ.main at f.gradient) where
  abbrev body : RestValue → Body
  body a = record { gradient = f.gradient; plane = f.plane; name = f.name; rest = a }

  same_room : (a : RestValue) → leb (length (words a)) nw && leb (length (numbers a)) nn ≡ long_enough nw nn (grow no_sizes (rest_entries a))
  same_room a = ap₂ (λ (m n : ℕ). leb m nw && leb n nn) (sym (used_words a)) (sym (used_numbers a))

  abbrev behind : Out ℕ RestValue → Out Places Body
  behind o = room_for nw nn (and_then (lifted main q o) (λ b r. got (body b) r))

  few : (g : Gradient) → length g.colors ≤ 16 → num_colors (gradient_of at g) ≤ 16
  few g h = go g.present
    where
      go : (b : Bool) → num_colors (gradient_if b at g) ≤ 16
      go true = h
      go false = omega arith

  answered : (l : Lists N) (a : RestValue) (t : ℕ) → (a.tail.pattern_style < 2 ^ 16) × (a.tail.pattern_type < 2 ^ 16) → SolidBlank a → (b : Bool)
      → CallIs of γ.main (elim b [ true ↦ got (body a) (moved_in main q t) | false ↦ refused ListTooShort (moved_in main q t) ]) l (laid_if of b l a)
      (parts_if b (front_of at f) a (placed q t))
  answered l a t small blank true = record { body = (at, refl, fill, blank); readable = (within, (few f.gradient fill.colors.few, small)); lists = refl }
  answered l a t small blank false = record { body = refl; readable = tt; lists = refl }

  pub behind_is : (l : Lists N) (p : ℕ) (o : Out ℕ RestValue) → (rest caps handles v).read γ.main p ≡ o
      → CallIs of γ.main (behind o) l (rest_lists of l nw nn o) (rest_read (front_of at f) nw nn q o)
  behind_is l p (refused k t) e = record { body = refl; readable = tt; lists = refl }
  behind_is l p (got a t) e =
      subst (λ (b : Bool). CallIs of γ.main (behind (got a t)) l (laid_if of b l a) (parts_if b (front_of at f) a (placed q t))) (same_room a)
      (answered l a t (rest_range caps handles v γ.main p e) (rest_blank caps handles v γ.main p e) (leb (length (words a)) nw && leb (length (numbers a)) nn))

module _ (caps : Caps) (handles : Handles) (v : Version) (γ : Payloads) where
  abbrev whole_read : Places → ℕ → ℕ → Out Places Body
  whole_read p nw nn = room_for nw nn ((hatch caps handles v).read γ p)

  abbrev rest_at : ℕ → Out ℕ RestValue
  rest_at n = (rest caps handles v).read γ.main n

-- the whole body, from the answer for the rest behind its front
module _ {N : Type 0} (of : ℕ → N) (caps : Caps) (handles : Handles) (v : Version) (γ : Payloads) (p : Places) (nw nn : ℕ) where
  pub body_done : (f : CodeFront) (c : Places) {u : Result Parts (Refused Places)} (l : Lists N) {l' : Lists N} → length γ.main ≤ limit
      → FrontIs γ.main ((front caps v).read γ p) (Ok (f, c))
      → (u ≡ rest_read f nw nn c (rest_at caps handles v γ c.main)) × (l' ≡ rest_lists of l nw nn (rest_at caps handles v γ c.main))
      → CallIs of γ.main (whole_read caps handles v γ p nw nn) l l' u
  body_done f c {u} l {l'} within e k =
      let t = front_got γ.main ((front caps v).read γ p) e in
      let a = t.0 in
      let read : (hatch caps handles v).read γ p ≡ whole caps handles v γ a c =
      hatch_front caps handles v γ p ∙ ap (λ (y : Out Places Front). and_then y (whole caps handles v γ)) t.2 in
      let is = behind_is of caps handles v γ a t.1 c nw nn within t.4 l c.main (rest_at caps handles v γ c.main) refl in
      let same : u ≡ rest_read (front_of t.1 a) nw nn c (rest_at caps handles v γ c.main) = k.0
      ∙ ap (λ (y : CodeFront). rest_read y nw nn c (rest_at caps handles v γ c.main)) t.3 in
      rw (read, same, k.1) is

  pub body_refused : {e : Refused Places} (l : Lists N) → FrontIs γ.main ((front caps v).read γ p) (Err e)
      → CallIs of γ.main (whole_read caps handles v γ p nw nn) l l (Err e)
  body_refused {e} l h =
      let none = front_refused γ.main ((front caps v).read γ p) h in
      let read : (hatch caps handles v).read γ p ≡ refused e.refusal e.place =
      hatch_front caps handles v γ p ∙ ap (λ (y : Out Places Front). and_then y (whole caps handles v γ)) none in
      rw read (record { body = refl; readable = tt; lists = refl })

-- ---- the release, from what its number was taken to be
pub known_version : (release : ℕ) (p : Places) {v : Version} → Ok v ≡ known_at (version_of release) p → version_of release ≡ Some v
known_version release p {v} e = go (version_of release) e
  where
    go : (m : Option Version) → Ok v ≡ known_at m p → m ≡ Some v
    go (Some w) i = let same : v ≡ w = cc in ap Some (sym same)
    go None i = let z : ◌≡◌ {A = ℕ} 0 1 = cc in absurd (omega arith)

pub unknown_version : (release : ℕ) (p : Places) {e : Refused Places} → Err e ≡ known_at (version_of release) p
    → (version_of release ≡ None) × (e ≡ record { refusal = UnknownRelease; place = p })
unknown_version release p {e} h = go (version_of release) h
  where
    go : (m : Option Version) → Err e ≡ known_at m p → (m ≡ None) × (e ≡ record { refusal = UnknownRelease; place = p })
    go (Some w) i = let z : ◌≡◌ {A = ℕ} 0 1 = cc in absurd (omega arith)
    go None i = (refl, cc)

-- ---- a payload, from what its bytes were taken to be
module _ (xs : List ℕ) {o : Option (List ℕ)} (made : o ≡ within_limit xs) (d : Refused Places) where
  pub payload_is : {ys : List ℕ} → Ok ys ≡ ok_or o d → (ys ≡ xs) × (length xs ≤ limit)
  payload_is {ys} h = go (leb (length xs) limit) refl (h ∙ ap (λ (m : Option (List ℕ)). ok_or m d) made)
    where
      go : (b : Bool) → leb (length xs) limit ≡ b → Ok ys ≡ ok_or (elim b [ true ↦ Some xs | false ↦ None ]) d → (ys ≡ xs) × (length xs ≤ limit)
      go true e i = (cc, leb→le (length xs) limit (rw e tt))
      go false e i = let z : ◌≡◌ {A = ℕ} 0 1 = cc in absurd (omega arith)

  pub payload_long : {e : Refused Places} → Err e ≡ ok_or o d → (e ≡ d) × (limit < length xs)
  payload_long {e} h = go (leb (length xs) limit) refl (h ∙ ap (λ (m : Option (List ℕ)). ok_or m d) made)
    where
      go : (b : Bool) → leb (length xs) limit ≡ b → Err e ≡ ok_or (elim b [ true ↦ Some xs | false ↦ None ]) d → (e ≡ d) × (limit < length xs)
      go true f i = let z : ◌≡◌ {A = ℕ} 0 1 = cc in absurd (omega arith)
      go false f i = (cc, leb-false (length xs) limit f)

-- ---- the tests in front
module _ (caps : Caps) (handles : Handles) (nw nn : ℕ) (γ : Payloads) (p : Places) (release : ℕ) where
  abbrev call : Out Places Body
  call = call_on caps handles nw nn γ p release

  pub unknown : version_of release ≡ None → call ≡ refused UnknownRelease p
  unfolding call_on
  unknown e = rw e

  module _ {v : Version} (e : version_of release ≡ Some v) where
    pub main_long : limit < length γ.main → call ≡ refused PayloadTooLong p
    unfolding call_on
    main_long h = rw (e, lt-leb _ _ h)

    pub string_long : length γ.main ≤ limit → limit < length γ.string → call ≡ refused PayloadTooLong p
    unfolding call_on
    string_long g h = rw (e, le-leb _ _ g, lt-leb _ _ h)

    -- the last test: where the string reader stands, from which the body is read, or why it stands nowhere
    module _ (f : length γ.main ≤ limit) (g : length γ.string ≤ limit) where
      abbrev from_start : Out Places (Unit {0}) → Out Places Body
      from_start o = call_by caps handles nw nn γ p (Some v) true true o

      by_tests : call ≡ from_start (reader_start γ.string p)
      unfolding call_on
      by_tests = rw (e, le-leb _ _ f, le-leb _ _ g)

      pub by_start : {o : Out Places (Unit {0})} → o ≡ reader_start γ.string p → call ≡ from_start o
      by_start h = by_tests ∙ ap from_start (sym h)

-- a call that is refused before its fields, by a `?`
pub refused_is : {N : Type 0} (of : ℕ → N) (xs : List ℕ) {o : Out Places Body} {k : Refusal} {p : Places} (l : Lists N) (r : Result Parts (Refused Places))
    {e : Refused Places} → o ≡ refused k p → e ≡ record { refusal = k; place = p } → IsErr r × IsErrAnd r (λ d. d ≡ e) → CallIs of xs o l l r
refused_is of xs {o} {k} {p} l r h i m =
    stays (λ (u : Result Parts (Refused Places)). CallIs of xs o l l u) r m (rw (h, i) (record { body = refl; readable = tt; lists = refl }))

pub call_as : {N : Type 0} (of : ℕ → N) (xs : List ℕ) {o o' : Out Places Body} {u : Result Parts (Refused Places)} (l : Lists N) {l' : Lists N} → o ≡ o'
    → CallIs of xs o' l l' u → CallIs of xs o l l' u
call_as of xs {o} {o'} {u} l {l'} e h = subst (λ (x : Out Places Body). CallIs of xs x l l' u) (sym e) h
