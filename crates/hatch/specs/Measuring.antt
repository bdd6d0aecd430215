-- Measuring: what a call that takes both lists to be as long as can be says of the same call with lists of any lengths. Theorems about the
-- call's own definition, with a reader and without, for any caps. Assumes nothing.
use Rattle.std.specs.Prelude.{Option, Some, None, ◌≡◌, refl, Bool, true, false, ◌⊎◌, ℕ, ◌+◌, ◌*◌, ◌≤◌, ◌<◌, leb, length}
use Rattle.std.proofs.Common.{sym, ap, subst, ◌∙◌, inl, inr, arith, leb→le, le-leb, leb-false}
use Rattle.std.proofs.lemmas.Bool.{lt-leb}
use Rattle.bitcursor.specs.declared.Refusal.{Refusal}
use Rattle.bitcursor.specs.declared.Refusal.TheVariants.{TooFewBits, UnknownRelease, PayloadTooLong, ListTooShort}
use Rattle.loads.specs.Bits.{size, limit}
use Rattle.bitcursor.specs.Reading.{Out, got, refused, place, never}
use Rattle.bitcursor.specs.Whole.{refused_by_fields}
use Rattle.bitcursor.specs.Inputs.{Places, Onward}
use Rattle.text.specs.declared.version.Version.{Version}
use Rattle.text.specs.Releases.{version_of}
use Rattle.hatch_format.specs.Values.{Body}
use Rattle.hatch_format.specs.Entries.{words, numbers}
use Rattle.hatch_format.proofs.Bodies.{hatch_to}
use Rattle.hatch_format.specs.Hatch.{hatch}
use Rattle.hatch_format.specs.Begins.{body_begins}
use Rattle.hatch_format.specs.Call.{Call, payloads_of, starts_of, room_for, call_on, hatch_call}
use Rattle.hatch_format.specs.Starts.{past_places}
use Rattle.hatch.specs.Calls.{most}
use Rattle.hatch.specs.EntryBits.{spans_rest}

-- the same call, with lists of these lengths
abbrev pub lending : Call → ℕ → ℕ → Call
lending c nw nn =
    record {
      release = c.release;
      main = c.main;
      start = c.start;
      strings = c.strings;
      caps = c.caps;
      handles = c.handles;
      words = nw;
      numbers = nn;
    }

abbrev pub measuring : Call → Call
measuring c = lending c most most

-- ---- the lists are looked at last, and no list is longer than the payload has bits
record LooksLast (c : Call) : Type 0 where
  fields : Out Places Body
  last : (nw nn : ℕ) → hatch_call (lending c nw nn) ≡ room_for nw nn fields
  few : (a : Body) (q : Places) → fields ≡ got a q → length (words a.rest) + length (numbers a.rest) ≤ 8 * limit
  not_short : (q : Places) → fields ≡ refused ListTooShort q → ⊥

body_few : (c : Call) (v : Version) (a : Body) (q : Places) → length c.main ≤ limit
    → (hatch c.caps c.handles v).read (payloads_of c) (starts_of c) ≡ got a q → length (words a.rest) + length (numbers a.rest) ≤ 8 * limit
unfolding hatch
body_few c v a q h e =
    let f = hatch c.caps c.handles v in
    let γ = payloads_of c in
    let l = hatch_to c.caps c.handles v γ a (starts_of c) q (f.sound γ a (starts_of c) q e) in
    let on : Onward γ (starts_of c) q = subst (λ (o : Out Places Body). Onward γ (starts_of c) (place o)) e (f.grows γ (starts_of c)) in
    let b = body_begins c.caps c.handles v γ a (starts_of c) q l in
    let r = l.2.2.2 in
    let s = spans_rest γ.main c.caps c.handles v a.rest _ _ r.laid in
    let ends : q.main ≡ r.end = ap (λ (x : Places). x.main) r.moved in
    omega (arith, b, s, ends, on.main.inside, h)

looks_last : (c : Call) → LooksLast c
unfolding call_on
looks_last c = go (version_of c.release) (leb (length c.main) limit) (leb (length (payloads_of c).string) limit)
    (leb (starts_of c).string (size (payloads_of c).string)) refl refl refl refl
  where
    none : (k : Refusal) (p : Places) → (k ≡ ListTooShort → ⊥) → ((nw nn : ℕ) → hatch_call (lending c nw nn) ≡ refused k p) → LooksLast c
    none k p n h =
        record {
          fields = refused k p;
          last = h;
          few = λ a q e. never e;
          not_short = λ q e. n (cc);
        }

    go : (m : Option Version) (s t u : Bool) → version_of c.release ≡ m → leb (length c.main) limit ≡ s → leb (length (payloads_of c).string) limit ≡ t
        → leb (starts_of c).string (size (payloads_of c).string) ≡ u → LooksLast c
    go None s t u e f g h = none UnknownRelease (starts_of c) (λ i. let z : ◌≡◌ {A = ℕ} 0 1 = cc in omega arith) (λ nw nn. rw e)
    go (Some v) false t u e f g h = none PayloadTooLong (starts_of c) (λ i. let z : ◌≡◌ {A = ℕ} 0 1 = cc in omega arith) (λ nw nn. rw (e, f))
    go (Some v) true false u e f g h = none PayloadTooLong (starts_of c) (λ i. let z : ◌≡◌ {A = ℕ} 0 1 = cc in omega arith) (λ nw nn. rw (e, f, g))
    go (Some v) true true false e f g h = none TooFewBits (past_places c)
        (λ i. let z : ◌≡◌ {A = ℕ} 0 1 = cc in omega arith) (λ nw nn. rw (e, f, g, h))
    go (Some v) true true true e f g h =
        record {
          fields = (hatch c.caps c.handles v).read (payloads_of c) (starts_of c);
          last = λ nw nn. rw (e, f, g, h);
          few = λ a q i. body_few c v a q (leb→le (length c.main) limit (rw f tt)) i;
          not_short = λ q i. refused_by_fields (hatch c.caps c.handles v) (payloads_of c) (starts_of c) ListTooShort q i;
        }

module _ (nw nn : ℕ) (a : Body) (q : Places) where
  room_enough : length (words a.rest) ≤ nw → length (numbers a.rest) ≤ nn → room_for nw nn (got a q) ≡ got a q
  room_enough g h = rw (le-leb (length (words a.rest)) nw g, le-leb (length (numbers a.rest)) nn h, room_for)

  room_short : (nw < length (words a.rest)) ⊎ (nn < length (numbers a.rest)) → room_for nw nn (got a q) ≡ refused ListTooShort q
  room_short (inl g) = rw (lt-leb (length (words a.rest)) nw g, room_for)
  room_short (inr h) = go (leb (length (words a.rest)) nw) refl
    where
      go : (b : Bool) → leb (length (words a.rest)) nw ≡ b → room_for nw nn (got a q) ≡ refused ListTooShort q
      go true e = rw (e, lt-leb (length (numbers a.rest)) nn h, room_for)
      go false e = rw (e, room_for)

-- ---- the theorem: where a measuring call reads, the call with lists that are long enough reads the same body with the same final places, and
-- with a shorter list it is refused with 11 at these places; where it is refused, it is not with 11, and every such call is refused with the same
-- number and places
pub data Measures (c : Call) : Type 0 where
  readable : (a : Body) (q : Places) → hatch_call (measuring c) ≡ got a q
      → ((nw nn : ℕ) → length (words a.rest) ≤ nw → length (numbers a.rest) ≤ nn → hatch_call (lending c nw nn) ≡ got a q)
      → ((nw nn : ℕ) → (nw < length (words a.rest)) ⊎ (nn < length (numbers a.rest)) → hatch_call (lending c nw nn) ≡ refused ListTooShort q)
      → Measures c
  unreadable : (k : Refusal) (q : Places) → hatch_call (measuring c) ≡ refused k q → (k ≡ ListTooShort → ⊥)
      → ((nw nn : ℕ) → hatch_call (lending c nw nn) ≡ refused k q) → Measures c

pub measures : (c : Call) → Measures c
measures c = go l.fields refl
  where
    l : LooksLast c
    l = looks_last c

    lent_as : {o : Out Places Body} → l.fields ≡ o → (nw nn : ℕ) → hatch_call (lending c nw nn) ≡ room_for nw nn o
    lent_as e nw nn = l.last nw nn ∙ ap (room_for nw nn) e

    go : (o : Out Places Body) → l.fields ≡ o → Measures c
    go (refused k q) e =
        unreadable k q (lent_as e most most) (λ i. l.not_short q (e ∙ ap (λ (r : Refusal). refused r q) i)) (lent_as e)
    go (got a q) e =
        let few = l.few a q e in
        readable a q (lent_as e most most ∙ room_enough most most a q (omega (arith, few)) (omega (arith, few)))
        (λ nw nn g h. lent_as e nw nn ∙ room_enough nw nn a q g h) (λ nw nn h. lent_as e nw nn ∙ room_short nw nn a q h)

-- a call that reads is measured by its body's lengths and its places
pub read_measured : (c : Call) (nw nn : ℕ) (a : Body) (q : Places) → hatch_call (lending c nw nn) ≡ got a q → hatch_call (measuring c) ≡ got a q
read_measured c nw nn a q h = go (measures c)
  where
    go : Measures c → hatch_call (measuring c) ≡ got a q
    go (unreadable k r e not_short all) = let x = sym (all nw nn) ∙ h in let z : ◌≡◌ {A = ℕ} 0 1 = cc in absurd (omega arith)
    go (readable b r e enough short) = pick (leb (length (words b.rest)) nw) (leb (length (numbers b.rest)) nn) refl refl
      where
        refusal : hatch_call (lending c nw nn) ≡ refused ListTooShort r → hatch_call (measuring c) ≡ got a q
        refusal i = let x = sym i ∙ h in let z : ◌≡◌ {A = ℕ} 0 1 = cc in absurd (omega arith)

        pick : (s t : Bool) → leb (length (words b.rest)) nw ≡ s → leb (length (numbers b.rest)) nn ≡ t → hatch_call (measuring c) ≡ got a q
        pick true true i j =
            let g = leb→le (length (words b.rest)) nw (rw i tt) in
            let k = leb→le (length (numbers b.rest)) nn (rw j tt) in
            e ∙ sym (enough nw nn g k) ∙ h
        pick true false i j = refusal (short nw nn (inr (leb-false (length (numbers b.rest)) nn j)))
        pick false t i j = refusal (short nw nn (inl (leb-false (length (words b.rest)) nw i)))

-- a measuring call never answers 11
pub never_short : (c : Call) (q : Places) → hatch_call (measuring c) ≡ refused ListTooShort q → ⊥
never_short c q h = go (measures c)
  where
    go : Measures c → ⊥
    go (readable a r e enough short) = never (sym h ∙ e)
    go (unreadable k r e not_short all) = not_short (cc)
