-- What a walk that gives values tells of the definition, and what it answers from its parts. Assumes nothing.
use mathlib.Core.Path.{◌≡◌, refl, sym, ap, ap₂, subst}
use mathlib.Core.List.{List, []}
use Prim.Native.Nat.{ℕ}
use Rattle.std.specs.Prelude.{Result, Ok, Err}
use Rattle.std.specs.Result.{IsErr, IsErrAnd}
use Rattle.bitcursor.specs.declared.Refusal.{Refusal}
use Rattle.bitcursor.specs.declared.Refused.{Refused}
use Rattle.bitcursor.specs.Reading.{Out, got, refused, never}
use Rattle.bitcursor.specs.Format.{Format, ◌>>=◌, then_got, then_refused}
use Rattle.bitcursor.specs.Inputs.{one}
use Rattle.hatch_format.specs.Values.{Ending as EndingValue}
use Rattle.hatch_points.specs.declared.lists.Sizes.{Sizes}
use Rattle.hatch_points.specs.Gathered.{Entries, gathered}
use Rattle.hatch_points.specs.Lists.{Lists, lists, Kept, Stored, Ready, Walks}
use Rattle.hatch_points.proofs.Laws.{Step, stays, kept_numbers}
use Rattle.hatch_rest.specs.declared.patterns.Ending.{Ending}
use Rattle.hatch_rest.specs.Tails.{Gives, ending_of, ending_entries}

-- ---- a part that was read, or was not, and what follows it
module _ {A B : Type 0} (f : Format one A) (g : A → Format one B) (xs : List ℕ) {p : ℕ} where
  pub read_on : {a : A} {q : ℕ} → got a q ≡ f.read xs p → (f >>= g).read xs p ≡ (g a).read xs q
  read_on e = then_got f g xs (sym e)

  pub read_not : {x : Refused ℕ} → refused x.refusal x.place ≡ f.read xs p → (f >>= g).read xs p ≡ refused x.refusal x.place
  read_not e = then_refused f g xs (sym e)

-- ---- what is answered
module _ {N : Type 0} {of : ℕ → N} {xs : List ℕ} {A V : Type 0} {value : A → V} {e : A → Entries} {o : Out ℕ A} {l l' : Lists N} {z : Sizes} where
  pub gives_refused : {x : Refused ℕ} → o ≡ refused x.refusal x.place → Kept l z l' → Gives of xs value e o l z l' (Err x)
  gives_refused {x} i h =
      subst (λ (w : Out ℕ A). Gives of xs value e w l z l' (Err x)) (sym i) (record { is = refl; stored = h; ready = tt })

  pub gives_ends : {v : V} {y : Sizes} {q : ℕ} (a : A) → o ≡ got a q → v ≡ value a → Step of l z (e a) l' y → Ready xs q y
      → Gives of xs value e o l z l' (Ok ((v, y), q))
  gives_ends {v} {y} {q} a i j s h =
      subst (λ (w : Out ℕ A). Gives of xs value e w l z l' (Ok ((v, y), q))) (sym i)
      (record { is = ap₂ (λ (u : V) (x : Sizes). got (u, x) q) j s.sizes; stored = s.lists; ready = h })

  pub gives_leaves : (r : Result ((V × Sizes) × ℕ) (Refused ℕ)) {x : Refused ℕ} → IsErr r × IsErrAnd r (λ d. d ≡ x)
      → Gives of xs value e o l z l' (Err x) → Gives of xs value e o l z l' r
  gives_leaves r m h = stays (Gives of xs value e o l z l') r m h

-- ---- what is told
same_got : {A : Type 0} {a b : A} {p q : ℕ} → got a p ≡ got b q → (a ≡ b) × (p ≡ q)
same_got e = (cc, cc)

same_refused : {A : Type 0} {j k : Refusal} {p q : ℕ} → ◌≡◌ {A = Out ℕ A} (refused j p) (refused k q) → (j ≡ k) × (p ≡ q)
same_refused e = (cc, cc)

pub record ValueRead {N : Type 0} (of : ℕ → N) {A : Type 0} (e : A → Entries) (o : Out ℕ A) (l : Lists N) (z : Sizes) (l' : Lists N) (q : ℕ)
    (y : Sizes) : Type 0 where
  pub value : A
  pub read : o ≡ got value q
  pub step : Step of l z (e value) l' y

module _ {N : Type 0} {of : ℕ → N} {xs : List ℕ} {A : Type 0} (e : A → Entries) {l l' : Lists N} {z : Sizes} where
  -- by a walk that gathers the entries of what is read
  pub value_read : (o : Out ℕ A) {q : ℕ} {y : Sizes} → Walks of xs (gathered e o) l z l' (Ok (y, q)) → ValueRead of e o l z l' q y
  value_read (got a p) h =
      let i = same_got h.is in
      record { value = a; read = ap (got a) (sym i.1); step = record { lists = h.stored; sizes = i.0 } }
  value_read (refused k p) h = never (sym h.is)

  pub value_refused : (o : Out ℕ A) {x : Refused ℕ} → Walks of xs (gathered e o) l z l' (Err x) → o ≡ refused x.refusal x.place
  value_refused (got a p) h = never h.is
  value_refused (refused k p) {x} h = let i = same_refused h.is in ap₂ refused (sym i.0) (sym i.1)

-- by one that gives the value too
module _ {N : Type 0} {of : ℕ → N} {xs : List ℕ} {A V : Type 0} {value : A → V} {e : A → Entries} {l l' : Lists N} {z : Sizes} where
  pub given : (o : Out ℕ A) {v : V} {y : Sizes} {q : ℕ} → Gives of xs value e o l z l' (Ok ((v, y), q))
      → (t : ValueRead of e o l z l' q y) × (v ≡ value t.value)
  given (got a p) h =
      let i = same_got h.is in (
        record { value = a; read = ap (got a) (sym i.1); step = record { lists = h.stored; sizes = ap (λ (u : V × Sizes). u.1) i.0 } },
        ap (λ (u : V × Sizes). u.0) i.0,
      )
  given (refused k p) h = never (sym h.is)

  pub not_given : (o : Out ℕ A) {x : Refused ℕ} → Gives of xs value e o l z l' (Err x) → o ≡ refused x.refusal x.place
  not_given (got a p) h = never h.is
  not_given (refused k p) {x} h = let i = same_refused h.is in ap₂ refused (sym i.0) (sym i.1)

  pub given_kept : (o : Out ℕ A) {x : Refused ℕ} → Gives of xs value e o l z l' (Err x) → Kept l z l'
  given_kept o h = subst (λ (w : Out ℕ A). Stored of (gathered e w) l z l') (not_given o h) h.stored

-- the seed points store no words
pub ending_words : {N : Type 0} {of : ℕ → N} {xs : List ℕ} (o : Out ℕ EndingValue) {a a' : List N} {z : Sizes}
    {r : Result ((Ending × Sizes) × ℕ) (Refused ℕ)} (ws : List ℕ)
    → Gives of xs ending_of ending_entries o (lists a []) z (lists a' []) r → Gives of xs ending_of ending_entries o (lists a ws) z (lists a' ws) r
ending_words (got b p) ws h = record { is = h.is; stored = λ i. lists (h.stored i).numbers ws; ready = h.ready }
ending_words (refused k p) ws h = record { is = h.is; stored = kept_numbers ws h.stored; ready = h.ready }
