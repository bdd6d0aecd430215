-- Certified formats: a reading, its layouts, and the proofs that the two say the same, that reading only goes on, that no bit past the
-- final places matters, and that longer payloads read the same unless bits were lacking. What is read from is one payload or both
-- (specs/Inputs). `pure`, `refuse`, `>>=`, `peek`, `relay` and `either` here, and `coded`, `at_least`, `part_in` and `field` of specs/Fields,
-- build every format. Assumes nothing.
use Rattle.std.specs.Prelude.{◌≡◌, refl, Bool, true, false}
use Rattle.std.proofs.Common.{sym, ap₂}
use Rattle.std.proofs.Math.Path.{ap}
use Rattle.bitcursor.specs.declared.Refusal.{Refusal}
use Rattle.bitcursor.specs.Refusals.{OfFields}
use Rattle.bitcursor.specs.Reading.{Out, got, refused, place, and_then, never, Lacking, short_of, short_why, short_longer, Fielded, then_fielded}
use Rattle.bitcursor.specs.Code.{never_true}

-- what a format reads from, and the places in it: `Onward γ p q`, no payload is gone back in from p to q, nor left by a place that is in
-- it; `Agree γ δ q`, alike in lengths, reader or none, its end bit, and every bit before q; `Longer γ δ`, each payload of δ begins with
-- that of γ, and reader or none and its end bit are the same; `known γ`, what a test may look at that asks for no bits: reader or none, and
-- its end bit
pub record Input : Type 1 where
  pub Bytes : Type 0
  pub Place : Type 0
  pub Onward : Bytes → Place → Place → Type 0
  pub Agree : Bytes → Bytes → Place → Type 0
  pub Longer : Bytes → Bytes → Type 0
  pub Known : Type 0
  pub known : Bytes → Known
  pub stay : (γ : Bytes) (p : Place) → Onward γ p p
  pub further : (γ : Bytes) (p q r : Place) → Onward γ p q → Onward γ q r → Onward γ p r
  pub before : (γ δ : Bytes) (p q : Place) → Onward γ p q → Agree γ δ q → Agree γ δ p
  pub agree_known : (γ δ : Bytes) (p : Place) → Agree γ δ p → known δ ≡ known γ
  pub longer_known : (γ δ : Bytes) → Longer γ δ → known δ ≡ known γ

pub record Format (M : Input) (A : Type 0) : Type 1 where
  pub read : M.Bytes → M.Place → Out M.Place A
  pub lays : M.Bytes → A → M.Place → M.Place → Type 0
  pub sound : (γ : M.Bytes) (a : A) (p q : M.Place) → read γ p ≡ got a q → lays γ a p q
  pub complete : (γ : M.Bytes) (a : A) (p q : M.Place) → lays γ a p q → read γ p ≡ got a q
  pub grows : (γ : M.Bytes) (p : M.Place) → M.Onward γ p (place (read γ p))
  pub frame : (γ δ : M.Bytes) (p : M.Place) → M.Agree γ δ (place (read γ p)) → read δ p ≡ read γ p
  -- whether it was refused because a payload has too few bits; where it was not, longer payloads read the same
  pub short : M.Bytes → M.Place → Bool
  pub why : (γ : M.Bytes) (p : M.Place) → short γ p ≡ true → Lacking (read γ p)
  pub longer : (γ δ : M.Bytes) (p : M.Place) → M.Longer γ δ → short γ p ≡ false → read δ p ≡ read γ p
  -- a refusal is one that fields give
  pub fielded : (γ : M.Bytes) (p : M.Place) → Fielded (read γ p)

module _ {M : Input} {A : Type 0} where
  -- a value with no field
  unfoldable pub pure : A → Format M A
  pure a =
      record {
        read = λ γ p. got a p;
        lays = λ γ b p q. (b ≡ a) × (q ≡ p);
        sound = λ γ b p q e. (cc, cc);
        complete = λ γ b p q l. ap₂ got (sym l.0) (sym l.1);
        grows = λ γ p. M.stay γ p;
        frame = λ γ δ p h. refl;
        short = λ γ p. false;
        why = λ γ p e. never_true e;
        longer = λ γ δ p h e. refl;
        fielded = λ γ p. tt;
      }

  -- no layout: a refusal at the places
  unfoldable pub refuse : (n : Refusal) → OfFields n → Format M A
  refuse n of_Fields =
      record {
        read = λ γ p. refused n p;
        lays = λ γ b p q. ⊥;
        sound = λ γ b p q e. never e;
        complete = λ γ b p q l. absurd l;
        grows = λ γ p. M.stay γ p;
        frame = λ γ δ p h. refl;
        short = λ γ p. false;
        why = λ γ p e. never_true e;
        longer = λ γ δ p h e. refl;
        fielded = λ γ p. of_Fields;
      }

-- one format and then the one that its value picks: back to back, some place in between
module _ {M : Input} {A B : Type 0} where
  module _ (f : Format M A) (g : A → Format M B) where
    pub bind_sound : (γ : M.Bytes) (b : B) (p q : M.Place) (o : Out M.Place A) → f.read γ p ≡ o
        → and_then o (λ a r. (g a).read γ r) ≡ got b q → (a : A) × (r : M.Place) × f.lays γ a p r × (g a).lays γ b r q
    bind_sound γ b p q (got a r) e h = (a, r, f.sound γ a p r e, (g a).sound γ b r q h)
    bind_sound γ b p q (refused n r) e h = never h

    pub bind_grows : (γ : M.Bytes) (p : M.Place) (o : Out M.Place A) → M.Onward γ p (place o)
        → M.Onward γ p (place (and_then o (λ a r. (g a).read γ r)))
    bind_grows γ p (got a r) h = M.further γ p r _ h ((g a).grows γ r)
    bind_grows γ p (refused n r) h = h

    pub bind_frame : (γ δ : M.Bytes) (o o' : Out M.Place A) → (M.Agree γ δ (place o) → o' ≡ o)
        → M.Agree γ δ (place (and_then o (λ a r. (g a).read γ r)))
        → and_then o' (λ a r. (g a).read δ r) ≡ and_then o (λ a r. (g a).read γ r)
    bind_frame γ δ (got a r) o' fr h = rw (fr (M.before γ δ r _ ((g a).grows γ r) h)) ((g a).frame γ δ r h)
    bind_frame γ δ (refused n r) o' fr h = rw (fr h)

  infixl 10 ◌>>=◌
  unfoldable pub ◌>>=◌ : Format M A → (A → Format M B) → Format M B
  ◌>>=◌ f g =
      record {
        read = λ γ p. and_then (f.read γ p) (λ a r. (g a).read γ r);
        lays = λ γ b p q. (a : A) × (r : M.Place) × f.lays γ a p r × (g a).lays γ b r q;
        sound = λ γ b p q e. bind_sound f g γ b p q (f.read γ p) refl e;
        complete = λ γ b p q l. rw (f.complete γ l.0 p l.1 l.2) ((g l.0).complete γ b l.1 q l.3);
        grows = λ γ p. bind_grows f g γ p (f.read γ p) (f.grows γ p);
        frame = λ γ δ p h. bind_frame f g γ δ (f.read γ p) (f.read δ p) (f.frame γ δ p) h;
        short = λ γ p. short_of (f.read γ p) (f.short γ p) (λ a r. (g a).short γ r);
        why = λ γ p e.
            short_why (f.short γ p) (λ a r. (g a).short γ r) (λ a r. (g a).read γ r) (f.read γ p) (f.why γ p) (λ a r. (g a).why γ r) e;
        longer = λ γ δ p h e.
            short_longer (f.short γ p) (λ a r. (g a).short γ r) (λ a r. (g a).read γ r) (f.read γ p) (f.read δ p)
            (λ a r. (g a).read δ r) (f.why γ p) (f.longer γ δ p h) (λ a r. (g a).longer γ δ r h) e;
        fielded = λ γ p. then_fielded (f.read γ p) (λ a r. (g a).read γ r) (f.fielded γ p) (λ a r. (g a).fielded γ r);
      }

  -- the step lemmas, by which a function's proof goes through a format
  pub then_got : (f : Format M A) (g : A → Format M B) (γ : M.Bytes) {p q : M.Place} {a : A} → f.read γ p ≡ got a q
      → (f >>= g).read γ p ≡ (g a).read γ q
  unfolding ◌>>=◌
  then_got f g γ e = rw e

  pub then_refused : (f : Format M A) (g : A → Format M B) (γ : M.Bytes) {p q : M.Place} {n : Refusal} → f.read γ p ≡ refused n q
      → (f >>= g).read γ p ≡ refused n q
  unfolding ◌>>=◌
  then_refused f g γ e = rw e

module _ (M : Input) where
  -- what a test of reader, end bit and places says, with no move: it sees neither a bit nor a length
  unfoldable pub peek : {A : Type 0} → (M.Known → M.Place → A) → Format M A
  peek {A} t =
      record {
        read = λ γ p. got (t (M.known γ) p) p;
        lays = λ γ a p q. (a ≡ t (M.known γ) p) × (q ≡ p);
        sound = λ γ a p q e. (cc, cc);
        complete = λ γ a p q l. ap₂ got (sym l.0) (sym l.1);
        grows = λ γ p. M.stay γ p;
        frame = λ γ δ p h. ap (λ (k : M.Known). got (t k p) p) (M.agree_known γ δ p h);
        short = λ γ p. false;
        why = λ γ p e. never_true e;
        longer = λ γ δ p h e. ap (λ (k : M.Known). got (t k p) p) (M.longer_known γ δ h);
        fielded = λ γ p. tt;
      }

module _ {M : Input} {A : Type 0} where
  -- the same reading, its layouts said directly
  unfoldable pub relay : (f : Format M A) (L : M.Bytes → A → M.Place → M.Place → Type 0)
      → ((γ : M.Bytes) (a : A) (p q : M.Place) → f.lays γ a p q → L γ a p q)
      → ((γ : M.Bytes) (a : A) (p q : M.Place) → L γ a p q → f.lays γ a p q) → Format M A
  relay f L to from =
      record {
        read = λ γ p. f.read γ p;
        lays = L;
        sound = λ γ a p q e. to γ a p q (f.sound γ a p q e);
        complete = λ γ a p q l. f.complete γ a p q (from γ a p q l);
        grows = λ γ p. f.grows γ p;
        frame = λ γ δ p h. f.frame γ δ p h;
        short = λ γ p. f.short γ p;
        why = λ γ p e. f.why γ p e;
        longer = λ γ δ p h e. f.longer γ δ p h e;
        fielded = λ γ p. f.fielded γ p;
      }

  -- the first where the test holds, else the second
  unfoldable pub either : Bool → Format M A → Format M A → Format M A
  either true f g = f
  either false f g = g

  pub either_yes : (f g : Format M A) {b : Bool} → b ≡ true → either b f g ≡ f
  unfolding either
  either_yes f g e = ap (λ (t : Bool). either t f g) e

  pub either_no : (f g : Format M A) {b : Bool} → b ≡ false → either b f g ≡ g
  unfolding either
  either_no f g e = ap (λ (t : Bool). either t f g) e

  -- two formats that are one read the same
  pub reads : {f g : Format M A} → f ≡ g → (γ : M.Bytes) (p : M.Place) → f.read γ p ≡ g.read γ p
  reads e γ p = ap (λ (h : Format M A). h.read γ p) e
