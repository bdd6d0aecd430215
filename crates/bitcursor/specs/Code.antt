-- Certified codes of one payload: how a value is read at a place, which bits are its codes, and the proofs that the two say the
-- same, that reading only goes on, that no bit past the final place matters, and that a longer payload reads the same unless bits were
-- lacking. Assumes nothing.
use Rattle.std.specs.Prelude.{◌≡◌, refl, Bool, true, false, not, ℕ, ◌+◌, ◌-◌, ◌*◌, ◌^◌, ◌≤◌, ◌<◌, max, length, leb}
use Rattle.std.proofs.Math.Path.{sym, ap, subst⁻¹}
use Rattle.std.proofs.Common.{ap₂, subst, ◌∙◌, add-zero, mod-eq_of_lt, arith, length-append, leb→le, le-leb, leb-true}
use mathlib.Core.List.{List, [], ◌++◌, append-nil}
use Rattle.std.proofs.lemmas.Bool.{not-false}
use Rattle.bitcursor.specs.declared.Refusal.{Refusal}
use Rattle.bitcursor.specs.declared.Refusal.TheVariants.{TooFewBits}
use Rattle.loads.specs.Bits.{size, window, number, digits, Stands, Alike, Begins}
use Rattle.loads.specs.BitLaws.{length_digits, number_digits, digits_number, number_lt, window_whole}
use Rattle.loads.specs.BitLaws.{stands_fits, stands_window, stands_none, stands_join, stands_left, stands_right}
use Rattle.loads.specs.BitLaws.{alike_down, alike_window, begins_size, begins_window}
use Rattle.bitcursor.specs.Refusals.{OfFields}
use Rattle.bitcursor.specs.Reading.{Out, got, refused, place, and_then, never, missing, Lacking, short_of, short_why, short_longer, lacking_on, Fielded}
use Rattle.bitcursor.specs.Reading.{then_fielded}

-- from p to q the payload is not gone back in, and is not left by a place that is in it
pub record Moves (xs : List ℕ) (p q : ℕ) : Type 0 where
  pub onward : p ≤ q
  pub inside : q ≤ max p (size xs)

pub stay : (xs : List ℕ) (p : ℕ) → Moves xs p p
stay xs p = record { onward = omega arith; inside = omega arith }

pub moves_then : {xs : List ℕ} {p q r : ℕ} → Moves xs p q → Moves xs q r → Moves xs p r
moves_then h k = record { onward = omega arith; inside = omega arith }

-- from p to q the payload has a code of a value, by the table L of a value's codes
pub record Laid {A : Type 0} (L : A → List Bool → Type 0) (xs : List ℕ) (a : A) (p q : ℕ) : Type 0 where
  pub code : List Bool
  pub listed : L a code
  pub stands : Stands xs p code
  pub ends : q ≡ p + length code

pub record Code (A : Type 0) : Type 1 where
  pub read : List ℕ → ℕ → Out ℕ A
  pub codes : A → List Bool → Type 0
  pub sound : (xs : List ℕ) (a : A) (p q : ℕ) → read xs p ≡ got a q → Laid codes xs a p q
  pub complete : (xs : List ℕ) (a : A) (p q : ℕ) → Laid codes xs a p q → read xs p ≡ got a q
  pub grows : (xs : List ℕ) (p : ℕ) → Moves xs p (place (read xs p))
  pub frame : (xs ys : List ℕ) (p : ℕ) → Alike xs ys (place (read xs p)) → read ys p ≡ read xs p
  -- whether it was refused because the payload has too few bits; where it was not, every payload that begins with this one reads the same
  pub short : List ℕ → ℕ → Bool
  pub why : (xs : List ℕ) (p : ℕ) → short xs p ≡ true → Lacking (read xs p)
  pub longer : (xs ys : List ℕ) (p : ℕ) → Begins xs ys → short xs p ≡ false → read ys p ≡ read xs p
  -- a refusal is one that fields give
  pub fielded : (xs : List ℕ) (p : ℕ) → Fielded (read xs p)

-- false is not true
pub never_true : {X : Type 0} → false ≡ true → X
never_true e = let z : ◌≡◌ {A = ℕ} 0 1 = cc in absurd (omega arith)

module _ {A : Type 0} where
  pub laid_none : {L : A → List Bool → Type 0} (xs : List ℕ) (a : A) (p : ℕ) → L a [] → Laid L xs a p p
  laid_none xs a p l = record { code = []; listed = l; stands = stands_none xs p; ends = omega arith }

  -- a value with no bits
  unfoldable pub give : A → Code A
  give a =
      record {
        read = λ xs p. got a p;
        codes = λ b cs. (b ≡ a) × (cs ≡ []);
        sound = λ xs b p q e.
            let f : b ≡ a = cc in
            let g : p ≡ q = cc in
            subst (Laid _ xs b p) g (laid_none xs b p (f, refl));
        complete = λ xs b p q l.
            ap₂ got (sym l.listed.0) (sym (l.ends ∙ ap (λ (cs : List Bool). p + length cs) l.listed.1 ∙ add-zero p));
        grows = λ xs p. stay xs p;
        frame = λ xs ys p h. refl;
        short = λ xs p. false;
        why = λ xs p e. never_true e;
        longer = λ xs ys p h e. refl;
        fielded = λ xs p. tt;
      }

  -- no value: a refusal at the place
  unfoldable pub refuse : (r : Refusal) → OfFields r → Code A
  refuse r of_Fields =
      record {
        read = λ xs p. refused r p;
        codes = λ b cs. ⊥;
        sound = λ xs b p q e. never e;
        complete = λ xs b p q l. absurd l.listed;
        grows = λ xs p. stay xs p;
        frame = λ xs ys p h. refl;
        short = λ xs p. false;
        why = λ xs p e. never_true e;
        longer = λ xs ys p h e. refl;
        fielded = λ xs p. of_Fields;
      }

-- a code, and then the code that its value picks
module _ {A B : Type 0} where
  abbrev pub Joined : (A → List Bool → Type 0) → (A → B → List Bool → Type 0) → B → List Bool → Type 0
  Joined L M b cs = (a : A) × (ds : List Bool) × (es : List Bool) × L a ds × M a b es × (cs ≡ ds ++ es)

  module _ (f : Code A) (g : A → Code B) where
    pub join_sound : (xs : List ℕ) (b : B) (p q : ℕ) (o : Out ℕ A) → f.read xs p ≡ o → and_then o (λ a r. (g a).read xs r) ≡ got b q
        → Laid (Joined f.codes (λ a. (g a).codes)) xs b p q
    join_sound xs b p q (refused n r) e h = never h
    join_sound xs b p q (got a r) e h =
        let l = f.sound xs a p r e in
        let m = (g a).sound xs b r q h in
        record {
          code = l.code ++ m.code;
          listed = (a, l.code, m.code, l.listed, m.listed, refl);
          stands = stands_join xs p l.code m.code l.stands (subst (λ (x : ℕ). Stands xs x m.code) l.ends m.stands);
          ends = omega (arith, l.ends, m.ends, length-append l.code m.code);
        }

    pub join_complete : (xs : List ℕ) (b : B) (p q : ℕ) → Laid (Joined f.codes (λ a. (g a).codes)) xs b p q
        → and_then (f.read xs p) (λ a r. (g a).read xs r) ≡ got b q
    join_complete xs b p q l =
        let a = l.listed.0 in
        let ds = l.listed.1 in
        let es = l.listed.2 in
        let s = subst (Stands xs p) l.listed.5 l.stands in
        let e : q ≡ p + length ds + length es = omega (arith, l.ends, ap length l.listed.5, length-append ds es) in
        rw (f.complete xs a p (p + length ds) (record { code = ds; listed = l.listed.3; stands = stands_left xs p ds es s; ends = refl }))
        ((g a).complete xs b (p + length ds) q (record { code = es; listed = l.listed.4; stands = stands_right xs p ds es s; ends = e }))

    pub join_grows : (xs : List ℕ) (p : ℕ) (o : Out ℕ A) → Moves xs p (place o) → Moves xs p (place (and_then o (λ a r. (g a).read xs r)))
    join_grows xs p (got a r) h = moves_then h ((g a).grows xs r)
    join_grows xs p (refused n r) h = h

    pub join_frame : (xs ys : List ℕ) (o o' : Out ℕ A) → (Alike xs ys (place o) → o' ≡ o)
        → Alike xs ys (place (and_then o (λ a r. (g a).read xs r)))
        → and_then o' (λ a r. (g a).read ys r) ≡ and_then o (λ a r. (g a).read xs r)
    join_frame xs ys (got a r) o' fr h = rw (fr (alike_down ((g a).grows xs r).onward h)) ((g a).frame xs ys r h)
    join_frame xs ys (refused n r) o' fr h = rw (fr h)

  infixl 10 ◌>>=◌
  unfoldable pub ◌>>=◌ : Code A → (A → Code B) → Code B
  ◌>>=◌ f g =
      record {
        read = λ xs p. and_then (f.read xs p) (λ a r. (g a).read xs r);
        codes = Joined f.codes (λ a. (g a).codes);
        sound = λ xs b p q e. join_sound f g xs b p q (f.read xs p) refl e;
        complete = λ xs b p q l. join_complete f g xs b p q l;
        grows = λ xs p. join_grows f g xs p (f.read xs p) (f.grows xs p);
        frame = λ xs ys p h. join_frame f g xs ys (f.read xs p) (f.read ys p) (f.frame xs ys p) h;
        short = λ xs p. short_of (f.read xs p) (f.short xs p) (λ a r. (g a).short xs r);
        why = λ xs p e.
            short_why (f.short xs p) (λ a r. (g a).short xs r) (λ a r. (g a).read xs r) (f.read xs p) (f.why xs p) (λ a r. (g a).why xs r) e;
        longer = λ xs ys p h e.
            short_longer (f.short xs p) (λ a r. (g a).short xs r) (λ a r. (g a).read xs r) (f.read xs p) (f.read ys p)
            (λ a r. (g a).read ys r) (f.why xs p) (f.longer xs ys p h) (λ a r. (g a).longer xs ys r h) e;
        fielded = λ xs p. then_fielded (f.read xs p) (λ a r. (g a).read xs r) (f.fielded xs p) (λ a r. (g a).fielded xs r);
      }

module _ {A : Type 0} where
  -- the same reading, its codes said directly by a table
  unfoldable pub tabled : (f : Code A) (L : A → List Bool → Type 0)
      → ((a : A) (cs : List Bool) → f.codes a cs → L a cs)
      → ((a : A) (cs : List Bool) → L a cs → f.codes a cs) → Code A
  tabled f L to from =
      record {
        read = λ xs p. f.read xs p;
        codes = L;
        sound = λ xs a p q e.
            let l = f.sound xs a p q e in
            record { code = l.code; listed = to a l.code l.listed; stands = l.stands; ends = l.ends };
        complete = λ xs a p q l.
            f.complete xs a p q (record { code = l.code; listed = from a l.code l.listed; stands = l.stands; ends = l.ends });
        grows = λ xs p. f.grows xs p;
        frame = λ xs ys p h. f.frame xs ys p h;
        short = λ xs p. f.short xs p;
        why = λ xs p e. f.why xs p e;
        longer = λ xs ys p h e. f.longer xs ys p h e;
        fielded = λ xs p. f.fielded xs p;
      }

-- the same bits, their value said in another way
module _ {A B : Type 0} (f : A → B) (c : Code A) where
  abbrev pub Mapped : B → List Bool → Type 0
  Mapped b cs = (a : A) × c.codes a cs × (b ≡ f a)

  pub mapped_to : (b : B) (cs : List Bool) → (c >>= λ a. give (f a)).codes b cs → Mapped b cs
  unfolding ◌>>=◌ give
  mapped_to b cs l = (l.0, subst⁻¹ (c.codes l.0) (l.5 ∙ ap (λ (es : List Bool). l.1 ++ es) l.4.1 ∙ append-nil l.1) l.3, l.4.0)

  pub mapped_from : (b : B) (cs : List Bool) → Mapped b cs → (c >>= λ a. give (f a)).codes b cs
  unfolding ◌>>=◌ give
  mapped_from b cs l = (l.0, cs, [], l.1, (l.2, refl), sym (append-nil cs))

  unfoldable pub mapped : Code B
  mapped = tabled (c >>= λ a. give (f a)) Mapped mapped_to mapped_from

-- a code's value with the number of its bits
module _ {A : Type 0} (c : Code A) where
  abbrev pub Measured : ℕ × A → List Bool → Type 0
  Measured m cs = c.codes m.1 cs × (m.0 ≡ length cs)

  abbrev pub measured_out : ℕ → Out ℕ A → Out ℕ (ℕ × A)
  measured_out p o = and_then o (λ a q. got (q - p, a) q)

  pub measured_sound : (xs : List ℕ) (m : ℕ × A) (p q : ℕ) (o : Out ℕ A) → c.read xs p ≡ o → measured_out p o ≡ got m q → Laid Measured xs m p q
  measured_sound xs m p q (refused r t) e h = never h
  measured_sound xs m p q (got a t) e h =
      let f : m ≡ (t - p, a) = cc in
      let g : t ≡ q = cc in
      let l = c.sound xs a p t e in
      let n : t - p ≡ length l.code = omega (arith, l.ends) in
      record { code = l.code; listed = rw f (l.listed, n); stands = l.stands; ends = sym g ∙ l.ends }

  pub measured_complete : (xs : List ℕ) (m : ℕ × A) (p q : ℕ) → Laid Measured xs m p q → measured_out p (c.read xs p) ≡ got m q
  measured_complete xs m p q l =
      let n : q - p ≡ m.0 = omega (arith, l.ends, l.listed.1) in
      rw (c.complete xs m.1 p q (record { code = l.code; listed = l.listed.0; stands = l.stands; ends = l.ends }))
      (ap (λ (k : ℕ). got (k, m.1) q) n)

  pub measured_grows : (xs : List ℕ) (p : ℕ) (o : Out ℕ A) → Moves xs p (place o) → Moves xs p (place (measured_out p o))
  measured_grows xs p (got a q) h = h
  measured_grows xs p (refused r q) h = h

  pub measured_frame : (xs ys : List ℕ) (p : ℕ) (o o' : Out ℕ A) → (Alike xs ys (place o) → o' ≡ o)
      → Alike xs ys (place (measured_out p o)) → measured_out p o' ≡ measured_out p o
  measured_frame xs ys p (got a q) o' fr h = rw (fr h)
  measured_frame xs ys p (refused r q) o' fr h = rw (fr h)

  unfoldable pub measured : Code (ℕ × A)
  measured =
      record {
        read = λ xs p. measured_out p (c.read xs p);
        codes = Measured;
        sound = λ xs m p q e. measured_sound xs m p q (c.read xs p) refl e;
        complete = λ xs m p q l. measured_complete xs m p q l;
        grows = λ xs p. measured_grows xs p (c.read xs p) (c.grows xs p);
        frame = λ xs ys p h. measured_frame xs ys p (c.read xs p) (c.read ys p) (c.frame xs ys p) h;
        short = λ xs p. c.short xs p;
        why = λ xs p e. lacking_on (λ a q. got (q - p, a) q) (c.read xs p) (c.why xs p e);
        longer = λ xs ys p h e. ap (measured_out p) (c.longer xs ys p h e);
        fielded = λ xs p. then_fielded (c.read xs p) (λ a q. got (q - p, a) q) (c.fielded xs p) (λ a q. tt);
      }

-- ---- n raw bits, the number that they spell
module _ (n : ℕ) where
  abbrev pub raw_out : Bool → List ℕ → ℕ → Out ℕ ℕ
  raw_out true xs p = got (number (window xs p n)) (p + n)
  raw_out false xs p = refused TooFewBits p

  abbrev pub Digits : ℕ → List Bool → Type 0
  Digits v cs = (v < 2 ^ n) × (cs ≡ digits n v)

  pub raw_sound : (xs : List ℕ) (v p q : ℕ) (b : Bool) → leb n (size xs - p) ≡ b → raw_out b xs p ≡ got v q → Laid Digits xs v p q
  raw_sound xs v p q false e h = never h
  raw_sound xs v p q true e h =
      let fits : n ≤ size xs - p = leb→le _ _ (rw e tt) in
      let ev : v ≡ number (window xs p n) = cc in
      let eq : q ≡ p + n = cc in
      let l : length (window xs p n) ≡ n = window_whole xs p n fits in
      record {
        code = window xs p n;
        listed = rw ev (rw l at (number_lt (window xs p n)), sym (rw l at (digits_number (window xs p n))));
        stands = stands_window xs p n fits;
        ends = rw l eq;
      }

  pub raw_complete : (xs : List ℕ) (v p q : ℕ) → Laid Digits xs v p q → raw_out (leb n (size xs - p)) xs p ≡ got v q
  raw_complete xs v p q l =
      let len : length l.code ≡ n = ap length l.listed.1 ∙ length_digits n v in
      let fits : n ≤ size xs - p = rw len at (stands_fits xs p l.code l.stands) in
      let w : window xs p n ≡ digits n v = rw len at l.stands ∙ l.listed.1 in
      rw (le-leb _ _ fits, w) (ap₂ got (number_digits n v ∙ mod-eq_of_lt l.listed.0) (sym (rw len at l.ends)))

  pub raw_grows : (xs : List ℕ) (p : ℕ) (b : Bool) → leb n (size xs - p) ≡ b → Moves xs p (place (raw_out b xs p))
  raw_grows xs p true e = let fits : n ≤ size xs - p = leb→le _ _ (rw e tt) in record { onward = omega arith; inside = omega arith }
  raw_grows xs p false e = stay xs p

  pub raw_frame : (xs ys : List ℕ) (p : ℕ) (b : Bool) → leb n (size xs - p) ≡ b → Alike xs ys (place (raw_out b xs p)) → raw_out b ys p ≡ raw_out b xs p
  raw_frame xs ys p true e h = rw (alike_window xs ys p n (leb→le _ _ (rw e tt)) h)
  raw_frame xs ys p false e h = refl

  pub raw_why : (xs : List ℕ) (p : ℕ) (b : Bool) → not b ≡ true → Lacking (raw_out b xs p)
  raw_why xs p true e = never_true e
  raw_why xs p false e = missing

  pub raw_longer : (xs ys : List ℕ) (p : ℕ) → Begins xs ys → leb n (size xs - p) ≡ true
      → raw_out (leb n (size ys - p)) ys p ≡ raw_out (leb n (size xs - p)) xs p
  raw_longer xs ys p h e =
      let fits : n ≤ size xs - p = leb-true _ _ e in
      let more = begins_size h in
      rw (e, le-leb n (size ys - p) (omega arith), begins_window p n h fits)

  pub raw_fielded : (xs : List ℕ) (p : ℕ) (b : Bool) → Fielded (raw_out b xs p)
  raw_fielded xs p true = tt
  raw_fielded xs p false = tt

  unfoldable pub raw : Code ℕ
  raw =
      record {
        read = λ xs p. raw_out (leb n (size xs - p)) xs p;
        codes = Digits;
        sound = λ xs v p q e. raw_sound xs v p q (leb n (size xs - p)) refl e;
        complete = λ xs v p q l. raw_complete xs v p q l;
        grows = λ xs p. raw_grows xs p (leb n (size xs - p)) refl;
        frame = λ xs ys p h.
            ap (λ (s : ℕ). raw_out (leb n (8 * s - p)) ys p) h.lengths ∙ raw_frame xs ys p (leb n (size xs - p)) refl h;
        short = λ xs p. not (leb n (size xs - p));
        why = λ xs p e. raw_why xs p (leb n (size xs - p)) e;
        longer = λ xs ys p h e. raw_longer xs ys p h (not-false _ e);
        fielded = λ xs p. raw_fielded xs p (leb n (size xs - p));
      }
