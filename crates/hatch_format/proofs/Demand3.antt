-- Demand 3 for hatch calls, sentence by sentence: theorems about the call's own definition, on any input. Assumes nothing.
use Rattle.std.specs.Prelude.{Option, Some, None, ◌≡◌, Bool, ◌&&◌, ◌↔◌, ℕ, ◌*◌, ◌≤◌, length}
use Rattle.std.proofs.Math.Path.{refl}
use Rattle.std.proofs.Common.{sym, ap, ap₂, subst, ◌∙◌}
use Rattle.std.proofs.Math.Bool.{true, false}
use native.Mathlib.Omega.{arith}
use Rattle.std.proofs.Math.Dec.{leb, leb→le}
use borrow.Author.Tests.{le-leb}
use Rattle.bitcursor.specs.declared.Refusal.{Refusal}
use Rattle.bitcursor.specs.declared.Refusal.TheVariants.{TooFewBits, UnknownRelease, PayloadTooLong, ListTooShort}
use Rattle.loads.specs.Bits.{size, Alike, limit}
use Rattle.bitcursor.specs.Reading.{Out, got, refused, place, never}
use Rattle.bitcursor.specs.Code.{stay}
use Rattle.bitcursor.specs.Format.{Format, relay}
use Rattle.bitcursor.specs.Inputs.{both, Places, Onward, Agree}
use Rattle.bitcursor.specs.Fields.{string, lifted}
use Rattle.string_start.specs.Start.{start_by}
use Rattle.text.specs.declared.version.Version.{Version}
use Rattle.text.specs.Releases.{version_of}
use Rattle.hatch_format.specs.Values.{Body}
use Rattle.hatch_format.specs.Entries.{words, numbers}
use Rattle.hatch_format.specs.Hatch.{hatch}
use Rattle.hatch_format.specs.Begins.{body_begins}
use Rattle.hatch_format.specs.Call.{Strings, string_bytes_of, string_start_of, string_end, has_reader}
use Rattle.hatch_format.specs.Call.{Call, payloads_of, starts_of, room_for, call_by, call_on, hatch_call}
use Rattle.hatch_format.specs.Demand3.{HatchLaid, ReadOrRefused, reading, refusal, FinalPlaces, AlikeStrings, both_none, both_lent, AlikeCalls}
use Rattle.hatch_format.proofs.Bodies.{hatch_to, hatch_from}

-- a list's room
room_got : (nw nn : ℕ) (o : Out Places Body) {a : Body} {q : Places} → room_for nw nn o ≡ got a q
    → (o ≡ got a q) × (length (words a.rest) ≤ nw) × (length (numbers a.rest) ≤ nn)
room_got nw nn (refused r s) e = never e
room_got nw nn (got b s) {a} {q} e = go (leb (length (words b.rest)) nw) (leb (length (numbers b.rest)) nn) refl refl e
  where
    go : (x y : Bool) → leb (length (words b.rest)) nw ≡ x → leb (length (numbers b.rest)) nn ≡ y
        → elim (x && y) [ true ↦ got b s | false ↦ refused ListTooShort s ] ≡ got a q
        → (got b s ≡ got a q) × (length (words a.rest) ≤ nw) × (length (numbers a.rest) ≤ nn)
    go true true f g h =
        let i : b ≡ a = cc in
        let w = leb→le (length (words b.rest)) nw (rw f tt) in
        let n = leb→le (length (numbers b.rest)) nn (rw g tt) in
        (h, subst (λ (z : Body). length (words z.rest) ≤ nw) i w, subst (λ (z : Body). length (numbers z.rest) ≤ nn) i n)
    go true false f g h = never h
    go false y f g h = never h

room_place : (nw nn : ℕ) (o : Out Places Body) → place (room_for nw nn o) ≡ place o
room_place nw nn (refused r s) = refl
room_place nw nn (got b s) = go (leb (length (words b.rest)) nw && leb (length (numbers b.rest)) nn)
  where
    go : (x : Bool) → place {A = Body} (elim x [ true ↦ got b s | false ↦ refused ListTooShort s ]) ≡ s
    go true = refl
    go false = refl

module _ (c : Call) where
  -- the body's format of a release, and the four tests of a call
  abbrev body : Version → Format both Body
  body = hatch c.caps c.handles

  abbrev by : Option Version → Bool → Bool → Bool → Out Places Body
  by m s t u =
      let stands = start_by (size (payloads_of c).string) (starts_of c).string u in
      call_by c.caps c.handles c.words c.numbers (payloads_of c) (starts_of c) m s t (lifted string (starts_of c) stands)

  sound : (a : Body) (q : Places) → hatch_call c ≡ got a q → HatchLaid c a q
  unfolding call_on hatch relay
  sound a q e =
      go (version_of c.release) (leb (length c.main) limit) (leb (length (payloads_of c).string) limit)
      (leb (starts_of c).string (size (payloads_of c).string)) refl refl refl refl e
    where
      go : (m : Option Version) (s t u : Bool) → version_of c.release ≡ m → leb (length c.main) limit ≡ s
          → leb (length (payloads_of c).string) limit ≡ t → leb (starts_of c).string (size (payloads_of c).string) ≡ u
          → by m s t u ≡ got a q → HatchLaid c a q
      go None s t u em es et eu h = never h
      go (Some v) false t u em es et eu h = never h
      go (Some v) true false u em es et eu h = never h
      go (Some v) true true false em es et eu h = never h
      go (Some v) true true true em es et eu h =
          let r = room_got c.words c.numbers ((body v).read (payloads_of c) (starts_of c)) h in
          let l = hatch_to c.caps c.handles v (payloads_of c) a (starts_of c) q ((body v).sound (payloads_of c) a (starts_of c) q r.0) in
          let b = body_begins c.caps c.handles v (payloads_of c) a (starts_of c) q l in
          record {
            version = v;
            known = em;
            main_within = leb→le _ _ (rw es tt);
            string_within = leb→le _ _ (rw et tt);
            main_start = omega (arith, b);
            string_start = leb→le _ _ (rw eu tt);
            laid = l;
            words_fit = r.1;
            numbers_fit = r.2;
          }

  complete : (a : Body) (q : Places) → HatchLaid c a q → hatch_call c ≡ got a q
  unfolding call_on hatch relay
  complete a q l =
      let e = (body l.version).complete (payloads_of c) a (starts_of c) q (hatch_from c.caps c.handles l.version (payloads_of c) a (starts_of c) q l.laid) in
      rw (l.known, le-leb _ _ l.main_within, le-leb _ _ l.string_within, le-leb _ _ l.string_start)
      (ap (room_for c.words c.numbers) e ∙ rw (le-leb _ _ l.words_fit, le-leb _ _ l.numbers_fit, room_for))

  -- "gives a reading exactly when ..": the reading is what was laid out, and the final places are where the layout ends
  pub read_iff_laid : (a : Body) (q : Places) → hatch_call c ≡ got a q ↔ HatchLaid c a q
  read_iff_laid a q = (sound a q, complete a q)

  -- what is laid out from the starts is one body, and ends at one pair of places
  pub laid_once : (a b : Body) (q r : Places) → HatchLaid c a q → HatchLaid c b r → (a ≡ b) × (q ≡ r)
  laid_once a b q r l m =
      let h = complete a q l in
      let k = complete b r m in
      (cc, cc)

  pub refused_none : (n : Refusal) (q : Places) → hatch_call c ≡ refused n q → (a : Body) (r : Places) → HatchLaid c a r → ⊥
  refused_none n q e a r l = never (sym e ∙ complete a r l)

  pub read_or_refused : ReadOrRefused c
  read_or_refused = go (hatch_call c) refl
    where
      go : (o : Out Places Body) → hatch_call c ≡ o → ReadOrRefused c
      go (got a q) e = reading a q (sound a q e) e
      go (refused n q) e = refusal n q e (refused_none n q e)

  pub final_places : FinalPlaces c (place (hatch_call c))
  unfolding call_on
  final_places =
      go (version_of c.release) (leb (length c.main) limit) (leb (length (payloads_of c).string) limit)
      (leb (starts_of c).string (size (payloads_of c).string))
    where
      still : FinalPlaces c (starts_of c)
      still = record { main = stay c.main c.start; string_onward = λ h. omega arith; string_inside = omega arith }

      from : (q : Places) → Onward (payloads_of c) (starts_of c) q → FinalPlaces c q
      from q h = record { main = h.main; string_onward = λ k. h.string.onward; string_inside = h.string.inside }

      past : FinalPlaces c (record { main = c.start; string = size (payloads_of c).string })
      past = record { main = stay c.main c.start; string_onward = λ h. h; string_inside = omega arith }

      go : (m : Option Version) (s t u : Bool) → FinalPlaces c (place (by m s t u))
      go None s t u = still
      go (Some v) false t u = still
      go (Some v) true false u = still
      go (Some v) true true false = past
      go (Some v) true true true =
          rw (room_place c.words c.numbers ((body v).read (payloads_of c) (starts_of c))) (from _ ((body v).grows (payloads_of c) (starts_of c)))

module _ {n : ℕ} where
  same_start : {s t : Strings} → AlikeStrings s t n → string_start_of t ≡ string_start_of s
  same_start both_none = refl
  same_start (both_lent h) = refl

  same_end : {s t : Strings} → AlikeStrings s t n → string_end t ≡ string_end s
  same_end both_none = refl
  same_end (both_lent h) = refl

  same_reader : {s t : Strings} → AlikeStrings s t n → has_reader t ≡ has_reader s
  same_reader both_none = refl
  same_reader (both_lent h) = refl

  alike_bytes : {s t : Strings} → AlikeStrings s t n → Alike (string_bytes_of s) (string_bytes_of t) n
  alike_bytes both_none = record { lengths = refl; bits = λ i h. refl }
  alike_bytes (both_lent h) = h

module _ (c d : Call) where
  module _ {q : Places} (h : AlikeCalls c d q) where
    same_starts : starts_of d ≡ starts_of c
    same_starts = λ i. record { main = h.start i; string = same_start h.strings i }

    same_length : length (string_bytes_of d.strings) ≡ length (string_bytes_of c.strings)
    same_length = (alike_bytes h.strings).lengths

    agree : Agree (payloads_of c) (payloads_of d) q
    agree = record { main = h.main; string = alike_bytes h.strings; reader = same_reader h.strings; end = same_end h.strings }

  by_tests : (m : Option Version) (s t u : Bool) → AlikeCalls c d (place (by c m s t u)) → by d m s t u ≡ by c m s t u
  by_tests None s t u h = ap (refused UnknownRelease) (same_starts h)
  by_tests (Some v) false t u h = ap (refused PayloadTooLong) (same_starts h)
  by_tests (Some v) true false u h = ap (refused PayloadTooLong) (same_starts h)
  by_tests (Some v) true true false h =
      ap₂ (λ (m n : ℕ). refused TooFewBits (record { main = m; string = 8 * n })) h.start (same_length h)
  by_tests (Some v) true true true h =
      let o = (body c v).read (payloads_of c) (starts_of c) in
      let k : AlikeCalls c d (place o) = subst (AlikeCalls c d) (room_place c.words c.numbers o) h in
      let f : (body c v).read (payloads_of d) (starts_of d) ≡ o =
      ap ((body c v).read (payloads_of d)) (same_starts h) ∙ (body c v).frame (payloads_of c) (payloads_of d) (starts_of c) (agree k) in
      rw (h.caps, h.handles, h.words, h.numbers) (ap (room_for c.words c.numbers) f)

  -- ".. give the same reading or the same refusal, and the same final places"
  pub alike_same : AlikeCalls c d (place (hatch_call c)) → hatch_call d ≡ hatch_call c
  unfolding call_on
  alike_same h =
      (λ i. by d (version_of (h.release i)) (leb (h.main.lengths i) limit) (leb (same_length h i) limit)
      (leb (same_start h.strings i) (8 * same_length h i)))
      ∙ (by_tests (version_of c.release) (leb (length c.main) limit) (leb (length (payloads_of c).string) limit)
      (leb (starts_of c).string (size (payloads_of c).string)) h)
