-- A code as a format of one payload, and a format of one payload as a part of one of both: one lift for the main and the string
-- payload. The layouts are the code's table, or the part's layouts, at the place in that payload; the other's place stays. Assumes nothing.
use Rattle.std.specs.Prelude.{◌≡◌, Bool, true, false, not, List, ℕ, ◌-◌, ◌*◌, ◌≤◌, ◌<◌, leb}
use Rattle.std.proofs.Math.Path.{refl}
use Rattle.std.proofs.Common.{sym, ap, ◌∙◌, arith, le-leb, leb-true}
use Rattle.std.proofs.lemmas.Bool.{lt-leb, not-false}
use Rattle.bitcursor.specs.declared.Refusal.TheVariants.{CountTooLarge}
use Rattle.loads.specs.Bits.{size, Alike, Begins}
use Rattle.loads.specs.BitLaws.{begins_size}
use Rattle.bitcursor.specs.Reading.{Out, got, refused, place, never, count, Lacking, Fielded}
use Rattle.bitcursor.specs.Code.{Code, Laid, Moves, stay, never_true}
use Rattle.bitcursor.specs.Format.{Format}
use Rattle.bitcursor.specs.Inputs.{one, both, Places, Payloads, Onward, Agree, Longer}

-- from p to q the payload has a code of the value
abbrev pub coded : {A : Type 0} → Code A → Format one A
coded c =
    record {
      read = λ xs p. c.read xs p;
      lays = λ xs a p q. Laid c.codes xs a p q;
      sound = λ xs a p q e. c.sound xs a p q e;
      complete = λ xs a p q l. c.complete xs a p q l;
      grows = λ xs p. c.grows xs p;
      frame = λ xs ys p h. c.frame xs ys p h;
      short = λ xs p. c.short xs p;
      why = λ xs p e. c.why xs p e;
      longer = λ xs ys p h e. c.longer xs ys p h e;
      fielded = λ xs p. c.fielded xs p;
    }

-- n bits at least are left of the payload, with no move; else the refusal of a count that is above them
abbrev pub asked : Bool → ℕ → Out ℕ (Unit {0})
asked true p = got tt p
asked false p = refused CountTooLarge p

module _ (n : ℕ) where
  pub asked_sound : (xs : List ℕ) (u : Unit {0}) (p q : ℕ) (b : Bool) → leb n (size xs - p) ≡ b → asked b p ≡ got u q → (n ≤ size xs - p) × (q ≡ p)
  asked_sound xs u p q true e h = (leb-true _ _ e, cc)
  asked_sound xs u p q false e h = never h

  pub asked_grows : (xs : List ℕ) (p : ℕ) (b : Bool) → Moves xs p (place (asked b p))
  asked_grows xs p true = stay xs p
  asked_grows xs p false = stay xs p

  pub asked_why : (p : ℕ) (b : Bool) → not b ≡ true → Lacking (asked b p)
  asked_why p true e = never_true e
  asked_why p false e = count

  pub asked_longer : (xs ys : List ℕ) (p : ℕ) → Begins xs ys → leb n (size xs - p) ≡ true → asked (leb n (size ys - p)) p ≡ asked (leb n (size xs - p)) p
  asked_longer xs ys p h e =
      let fits : n ≤ size xs - p = leb-true _ _ e in
      let more = begins_size h in
      rw (e, le-leb n (size ys - p) (omega arith))

  pub asked_fielded : (b : Bool) (p : ℕ) → Fielded (asked b p)
  asked_fielded true p = tt
  asked_fielded false p = tt

  unfoldable pub at_least : Format one (Unit {0})
  at_least =
      record {
        read = λ xs p. asked (leb n (size xs - p)) p;
        lays = λ xs u p q. (n ≤ size xs - p) × (q ≡ p);
        sound = λ xs u p q e. asked_sound xs u p q (leb n (size xs - p)) refl e;
        complete = λ xs u p q l. rw (le-leb n (size xs - p) l.0) (ap (got tt) (sym l.1));
        grows = λ xs p. asked_grows xs p (leb n (size xs - p));
        frame = λ xs ys p h. ap (λ (s : ℕ). asked (leb n (8 * s - p)) p) h.lengths;
        short = λ xs p. not (leb n (size xs - p));
        why = λ xs p e. asked_why p (leb n (size xs - p)) e;
        longer = λ xs ys p h e. asked_longer xs ys p h (not-false _ e);
        fielded = λ xs p. asked_fielded (leb n (size xs - p)) p;
      }

  pub at_least_there : (xs : List ℕ) (p : ℕ) → n ≤ size xs - p → at_least.read xs p ≡ got tt p
  unfolding at_least
  at_least_there xs p h = rw (le-leb n (size xs - p) h)

  pub at_least_short : (xs : List ℕ) (p : ℕ) → size xs - p < n → at_least.read xs p ≡ refused CountTooLarge p
  unfolding at_least
  at_least_short xs p h = rw (lt-leb n (size xs - p) h)

-- which payload a part lies in
pub data Payload : Type 0 where
  main string : Payload

abbrev pub bytes_in : Payload → Payloads → List ℕ
bytes_in main γ = γ.main
bytes_in string γ = γ.string

abbrev pub place_in : Payload → Places → ℕ
place_in main p = p.main
place_in string p = p.string

-- the places with one of the two put at n
abbrev pub moved_in : Payload → Places → ℕ → Places
moved_in main p n = record { main = n; string = p.string }
moved_in string p n = record { main = p.main; string = n }

-- an outcome in one payload, at the places of both
abbrev pub lifted : {A : Type 0} → Payload → Places → Out ℕ A → Out Places A
lifted w p (got a n) = got a (moved_in w p n)
lifted w p (refused r n) = refused r (moved_in w p n)

pub onward_in : (w : Payload) (γ : Payloads) (p : Places) (n : ℕ) → Moves (bytes_in w γ) (place_in w p) n → Onward γ p (moved_in w p n)
onward_in main γ p n h = record { main = h; string = stay γ.string p.string }
onward_in string γ p n h = record { main = stay γ.main p.main; string = h }

pub agree_in : (w : Payload) {γ δ : Payloads} (p : Places) (n : ℕ) → Agree γ δ (moved_in w p n) → Alike (bytes_in w γ) (bytes_in w δ) n
agree_in main p n h = h.main
agree_in string p n h = h.string

pub longer_in : (w : Payload) {γ δ : Payloads} → Longer γ δ → Begins (bytes_in w γ) (bytes_in w δ)
longer_in main h = h.main
longer_in string h = h.string

pub lacking_in : {A : Type 0} (w : Payload) (p : Places) (o : Out ℕ A) → Lacking o → Lacking (lifted w p o)
lacking_in w p (got a n) h = h
lacking_in w p (refused r n) h = h

-- from p to q one payload has a layout L; the other payload's place is the same
pub record PartIn {A : Type 0} (w : Payload) (L : List ℕ → A → ℕ → ℕ → Type 0) (γ : Payloads) (a : A) (p q : Places) : Type 0 where
  pub end : ℕ
  pub laid : L (bytes_in w γ) a (place_in w p) end
  pub moved : q ≡ moved_in w p end

module _ {A : Type 0} (w : Payload) (f : Format one A) where
  pub part_sound : (γ : Payloads) (a : A) (p q : Places) (o : Out ℕ A) → f.read (bytes_in w γ) (place_in w p) ≡ o
      → lifted w p o ≡ got a q → PartIn w f.lays γ a p q
  part_sound γ a p q (refused r n) e h = never h
  part_sound γ a p q (got b n) e h =
      let i : b ≡ a = cc in
      let g : q ≡ moved_in w p n = cc in
      record { end = n; laid = f.sound (bytes_in w γ) a (place_in w p) n (e ∙ ap (λ (x : A). got x n) i); moved = g }

  pub part_grows : (γ : Payloads) (p : Places) (o : Out ℕ A) → Moves (bytes_in w γ) (place_in w p) (place o) → Onward γ p (place (lifted w p o))
  part_grows γ p (got a n) h = onward_in w γ p n h
  part_grows γ p (refused r n) h = onward_in w γ p n h

  pub part_frame : (γ δ : Payloads) (p : Places) (o o' : Out ℕ A) → (Alike (bytes_in w γ) (bytes_in w δ) (place o) → o' ≡ o)
      → Agree γ δ (place (lifted w p o)) → lifted w p o' ≡ lifted w p o
  part_frame γ δ p (got a n) o' fr h = rw (fr (agree_in w p n h))
  part_frame γ δ p (refused r n) o' fr h = rw (fr (agree_in w p n h))

  pub part_fielded : (p : Places) (o : Out ℕ A) → Fielded o → Fielded (lifted w p o)
  part_fielded p (got a n) h = tt
  part_fielded p (refused r n) h = h

  unfoldable pub part_in : Format both A
  part_in =
      record {
        read = λ γ p. lifted w p (f.read (bytes_in w γ) (place_in w p));
        lays = PartIn w f.lays;
        sound = λ γ a p q e. part_sound γ a p q (f.read (bytes_in w γ) (place_in w p)) refl e;
        complete = λ γ a p q l.
            rw (f.complete (bytes_in w γ) a (place_in w p) l.end l.laid) (ap (got a) (sym l.moved));
        grows = λ γ p. part_grows γ p (f.read (bytes_in w γ) (place_in w p)) (f.grows (bytes_in w γ) (place_in w p));
        frame = λ γ δ p h.
            part_frame γ δ p (f.read (bytes_in w γ) (place_in w p)) (f.read (bytes_in w δ) (place_in w p))
            (f.frame (bytes_in w γ) (bytes_in w δ) (place_in w p)) h;
        short = λ γ p. f.short (bytes_in w γ) (place_in w p);
        why = λ γ p e. lacking_in w p (f.read (bytes_in w γ) (place_in w p)) (f.why (bytes_in w γ) (place_in w p) e);
        longer = λ γ δ p h e. ap (lifted w p) (f.longer (bytes_in w γ) (bytes_in w δ) (place_in w p) (longer_in w h) e);
        fielded = λ γ p. part_fielded p (f.read (bytes_in w γ) (place_in w p)) (f.fielded (bytes_in w γ) (place_in w p));
      }

  -- what a function that read the one payload knows
  pub part_read : (γ : Payloads) (p : Places) → part_in.read γ p ≡ lifted w p (f.read (bytes_in w γ) (place_in w p))
  unfolding part_in
  part_read γ p = refl

-- a code as a field of both payloads
module _ {A : Type 0} (w : Payload) (c : Code A) where
  abbrev pub Field : Payloads → A → Places → Places → Type 0
  Field = PartIn w (Laid c.codes)

  abbrev pub field : Format both A
  field = part_in w (coded c)
