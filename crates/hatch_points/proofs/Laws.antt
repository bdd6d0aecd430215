-- What every walk's proof cites: entries laid over the lists, what an answer tells of the definition, and one step behind another.
-- Assumes nothing.
use mathlib.Core.Path.{◌≡◌, refl, sym, ap, ap₂, subst, subst₂, ◌∙◌}
use mathlib.Core.Bool.{Bool, true, false, ◌||◌}
use mathlib.Core.List.{List, [], ◌∷◌, ◌++◌, append_assoc, append-nil}
use Prim.Native.Nat.{ℕ, suc, ◌+◌, ◌*◌, ◌/◌, ◌≤◌}
use native.Mathlib.Nat.{add-zero, add_assoc}
use native.Mathlib.Omega.{arith}
use lib.ListN.{length, length-append, set, take}
use lib.Seq.{sets, set_out, length-sets, take-set-le, take-take}
use Rattle.std.specs.Prelude.{map, Result, Ok, Err}
use Rattle.std.specs.Result.{IsErr, IsErrAnd}
use Rattle.std.proofs.lemmas.List.{length-map, map-append}
use Rattle.std.proofs.lemmas.Result.{err_from_is_err_and}
use Rattle.bitcursor.specs.declared.Refused.{Refused}
use Rattle.loads.specs.Bits.{odd}
use Rattle.bitcursor.specs.Answers.{value_as}
use Rattle.bitcursor.specs.Reading.{Out, got, refused, and_then, never}
use Rattle.bitcursor.specs.Format.{Format, pure, ◌>>=◌, then_got, then_refused}
use Rattle.bitcursor.specs.Inputs.{one}
use Rattle.hatch_format.specs.Takes.{Takes, moved}
use Rattle.hatch_points.specs.declared.lists.Sizes.{Sizes}
use Rattle.hatch_points.specs.Gathered.{Entries, none, word, words, numbers, flag_entries, plus}
use Rattle.hatch_points.specs.Lists.{Lists, lists, with_numbers, with_words, store, grow, KeptFront, Kept, Stored}
use Rattle.hatch_points.specs.Lists.{Ready, Walks, WordWalks}

-- ---- the laws that go list by list
pub sets_append : {A : Type 0} (l : List A) (i : ℕ) (xs ys : List A) → sets l i (xs ++ ys) ≡ sets (sets l i xs) (i + length xs) ys
sets_append l i [] ys = ap (λ (k : ℕ). sets l k ys) (sym (add-zero i))
sets_append l i (x ∷ xs) ys =
    let e : suc i + length xs ≡ i + suc (length xs) = omega arith in
    sets_append (set l i x) (suc i) xs ys ∙ ap (λ (k : ℕ). sets (sets (set l i x) (suc i) xs) k ys) e

-- stores past a list's end change nothing
pub sets_out : {A : Type 0} (l : List A) (i : ℕ) (vs : List A) → length l ≤ i → sets l i vs ≡ l
sets_out l i [] h = refl
sets_out {A} l i (v ∷ vs) h = ap (λ (m : List A). sets m (suc i) vs) (set_out l i v h) ∙ sets_out l (suc i) vs (omega arith)

or_assoc : (a b c : Bool) → (a || b) || c ≡ a || (b || c)
or_assoc true b c = refl
or_assoc false b c = refl

or_false : (b : Bool) → b || false ≡ b
or_false true = refl
or_false false = refl

plus_plus : (a b c : Entries) → plus (plus a b) c ≡ plus a (plus b c)
plus_plus a b c =
    λ i. record {
      words = append_assoc a.words b.words c.words i;
      numbers = append_assoc a.numbers b.numbers c.numbers i;
      derived = or_assoc a.derived b.derived c.derived i;
    }

pub plus_none : (a : Entries) → plus a none ≡ a
plus_none a = λ i. record { words = append-nil a.words i; numbers = append-nil a.numbers i; derived = or_false a.derived i }

pub grow_none : (z : Sizes) → grow z none ≡ z
grow_none z = λ i. record { numbers = add-zero z.numbers i; words = add-zero z.words i; derived = or_false z.derived i }

more : (n : ℕ) (xs ys : List ℕ) → n + length (xs ++ ys) ≡ n + length xs + length ys
more n xs ys = ap (λ (k : ℕ). n + k) (length-append xs ys) ∙ sym (add_assoc n (length xs) (length ys))

grow_plus : (z : Sizes) (a b : Entries) → grow z (plus a b) ≡ grow (grow z a) b
grow_plus z a b =
    λ i. record {
      numbers = more z.numbers a.numbers b.numbers i;
      words = more z.words a.words b.words i;
      derived = sym (or_assoc z.derived a.derived b.derived) i;
    }

store_numbers : {N : Type 0} (of : ℕ → N) (l : List N) (n : ℕ) (a b : List ℕ)
    → sets l n (map of (a ++ b)) ≡ sets (sets l n (map of a)) (n + length a) (map of b)
store_numbers of l n a b =
    ap (sets l n) (map-append of a b) ∙ sets_append l n (map of a) (map of b)
    ∙ ap (λ (k : ℕ). sets (sets l n (map of a)) (n + k) (map of b)) (length-map a of)

store_plus : {N : Type 0} (of : ℕ → N) (l : Lists N) (z : Sizes) (a b : Entries) → store of l z (plus a b) ≡ store of (store of l z a) (grow z a) b
store_plus of l z a b =
    λ i. lists (store_numbers of l.numbers z.numbers a.numbers b.numbers i) (sets_append l.words z.words a.words b.words i)

-- one word more, one number more
pub one_word : (z : Sizes) (w : ℕ) → with_words z 1 ≡ grow z (word w)
one_word z w = λ i. record { numbers = sym (add-zero z.numbers) i; words = z.words + 1; derived = sym (or_false z.derived) i }

pub more_numbers : (z : Sizes) (ns : List ℕ) → with_numbers z (length ns) ≡ grow z (numbers ns)
more_numbers z ns = λ i. record { numbers = z.numbers + length ns; words = sym (add-zero z.words) i; derived = sym (or_false z.derived) i }

-- so many numbers, and then these
pub numbers_again : (z : Sizes) (m : ℕ) (ns : List ℕ) {n : ℕ} → n ≡ m + length ns → with_numbers z n ≡ grow (with_numbers z m) (numbers ns)
numbers_again z m ns e =
    ap (with_numbers z) e ∙ (λ i. record { numbers = sym (add_assoc z.numbers m (length ns)) i; words = z.words; derived = z.derived })
    ∙ more_numbers (with_numbers z m) ns

pub no_numbers : (z : Sizes) → with_numbers z 0 ≡ z
no_numbers z = λ i. record { numbers = add-zero z.numbers i; words = z.words; derived = z.derived }

-- a front is kept where stores come behind it, and by one who keeps a longer front
take_sets : {A : Type 0} (n : ℕ) (l : List A) (i : ℕ) (vs : List A) → n ≤ i → take n (sets l i vs) ≡ take n l
take_sets n l i [] h = refl
take_sets n l i (v ∷ vs) h = take_sets n (set l i v) (suc i) vs (omega arith) ∙ take-set-le n l i v h

front_same : {A : Type 0} {n : ℕ} {l : List A} → KeptFront n l l
front_same = record { long = refl; front = refl }

front_sets : {A : Type 0} (n : ℕ) (l : List A) (vs : List A) → KeptFront n l (sets l n vs)
front_sets n l vs = record { long = length-sets l n vs; front = take_sets n l n vs (omega arith) }

front_then : {A : Type 0} {n m : ℕ} {l l₁ l₂ : List A} → n ≤ m → KeptFront n l l₁ → KeptFront m l₁ l₂ → KeptFront n l l₂
front_then {A} {n} {m} {l} {l₁} {l₂} le h k =
    record {
      long = k.long ∙ h.long;
      front = sym (take-take n m l₂ le) ∙ ap (take n) k.front ∙ take-take n m l₁ le ∙ h.front;
    }

pub kept_same : {N : Type 0} {l : Lists N} {z : Sizes} → Kept l z l
kept_same = record { numbers = front_same; words = front_same }

kept_store : {N : Type 0} (of : ℕ → N) (l : Lists N) (z : Sizes) (e : Entries) → Kept l z (store of l z e)
kept_store of l z e =
    record {
      numbers = front_sets z.numbers l.numbers (map of e.numbers);
      words = front_sets z.words l.words e.words;
    }

-- the words, or the numbers, of one who stores none
pub kept_numbers : {N : Type 0} {a a' : List N} {z : Sizes} (ws : List ℕ) → Kept (lists a []) z (lists a' []) → Kept (lists a ws) z (lists a' ws)
kept_numbers ws h = record { numbers = h.numbers; words = front_same }

kept_words : {M N : Type 0} (a : List N) {ws ws' : List ℕ} {z : Sizes} → Kept {N = M} (lists [] ws) z (lists [] ws') → Kept (lists a ws) z (lists a ws')
kept_words a h = record { numbers = front_same; words = h.words }

kept_grown : {N : Type 0} {l l₁ l₂ : Lists N} (z : Sizes) (e : Entries) → Kept l z l₁ → Kept l₁ (grow z e) l₂ → Kept l z l₂
kept_grown z e h k =
    record {
      numbers = front_then (omega arith) h.numbers k.numbers;
      words = front_then (omega arith) h.words k.words;
    }

-- ---- from here on no list is named
-- the entries e were laid over l from z on, and the lists and lengths are l' and z' then
pub record Step {N : Type 0} (of : ℕ → N) (l : Lists N) (z : Sizes) (e : Entries) (l' : Lists N) (z' : Sizes) : Type 0 where
  pub lists : l' ≡ store of l z e
  pub sizes : z' ≡ grow z e

module _ {N : Type 0} {of : ℕ → N} where
  pub no_step : {l : Lists N} {z : Sizes} → Step of l z none l z
  no_step {l} {z} = record { lists = refl; sizes = sym (grow_none z) }

  infixr 6 ◌⊕◌
  pub ◌⊕◌ : {l l₁ l₂ : Lists N} {z z₁ z₂ : Sizes} {a b : Entries} → Step of l z a l₁ z₁ → Step of l₁ z₁ b l₂ z₂ → Step of l z (plus a b) l₂ z₂
  ◌⊕◌ {l} {l₁} {l₂} {z} {z₁} {z₂} {a} {b} h k =
      record {
        lists = k.lists ∙ ap₂ (λ (m : Lists N) (y : Sizes). store of m y b) h.lists h.sizes ∙ sym (store_plus of l z a b);
        sizes = k.sizes ∙ ap (λ (y : Sizes). grow y b) h.sizes ∙ sym (grow_plus z a b);
      }

  -- a refusal behind entries that were laid, and behind a walk that was refused behind them
  pub kept_step : {l l' : Lists N} {z z' : Sizes} {e : Entries} → Step of l z e l' z' → Kept l z l'
  kept_step {l} {l'} {z} {z'} {e} s = subst (Kept l z) (sym s.lists) (kept_store of l z e)

  pub kept_then : {l l₁ l₂ : Lists N} {z z₁ : Sizes} {e : Entries} → Step of l z e l₁ z₁ → Kept l₁ z₁ l₂ → Kept l z l₂
  kept_then {l₁ = l₁} {l₂ = l₂} {z = z} {e = e} s k = kept_grown z e (kept_step s) (subst (λ (y : Sizes). Kept l₁ y l₂) s.sizes k)

  pub step_as : {l l' : Lists N} {z z' : Sizes} {a b : Entries} → a ≡ b → Step of l z a l' z' → Step of l z b l' z'
  step_as {l} {l'} {z} {z'} e h = subst (λ (x : Entries). Step of l z x l' z') e h

pub plus_again : (a b c : Entries) → plus (plus a b) c ≡ plus a (plus b c)
plus_again = plus_plus

-- ---- what a `?` that met a refusal returns
pub stays : {A E : Type 0} (P : Result A E → Type 0) (r : Result A E) {e : E} → IsErr r × IsErrAnd r (λ d. d ≡ e) → P (Err e) → P r
stays P r m h = let k = err_from_is_err_and r m.1 in subst P (sym (k.1 ∙ ap Err k.2)) h

-- ---- what an answer tells
done_got : (o : Out ℕ Entries) (z : Sizes) {p : ℕ} {y : Sizes} → got y p ≡ value_as (grow z) o → (e : Entries) × (o ≡ got e p) × (y ≡ grow z e)
done_got (got a q) z e = (a, cc, cc)
done_got (refused k q) z e = never (sym e)

done_refused : (o : Out ℕ Entries) (z : Sizes) (e : Refused ℕ) → refused e.refusal e.place ≡ value_as (grow z) o → o ≡ refused e.refusal e.place
done_refused (got a q) z e h = never h
done_refused (refused j q) z e h = cc

pub record Finished {N : Type 0} (of : ℕ → N) (o : Out ℕ Entries) (l : Lists N) (z : Sizes) (l' : Lists N) (p : ℕ) (y : Sizes) : Type 0 where
  pub entries : Entries
  pub read : o ≡ got entries p
  pub step : Step of l z entries l' y

module _ {N : Type 0} {of : ℕ → N} where
  module _ {xs : List ℕ} {o : Out ℕ Entries} {l l' : Lists N} {z : Sizes} where
    pub walk_finished : {p : ℕ} {y : Sizes} → Walks of xs o l z l' (Ok (y, p)) → Finished of o l z l' p y
    walk_finished h =
        let g = done_got o z h.is in
        record { entries = g.0; read = g.1; step = record { lists = subst (λ (x : Out ℕ Entries). Stored of x l z l') g.1 h.stored; sizes = g.2 } }

    pub walk_refused : {e : Refused ℕ} → Walks of xs o l z l' (Err e) → o ≡ refused e.refusal e.place
    walk_refused {e} h = done_refused o z e h.is

    pub walk_kept : {e : Refused ℕ} → Walks of xs o l z l' (Err e) → Kept l z l'
    walk_kept h = subst (λ (x : Out ℕ Entries). Stored of x l z l') (walk_refused h) h.stored

    pub walks_as : {o' : Out ℕ Entries} {r : Result (Sizes × ℕ) (Refused ℕ)} → Walks of xs o l z l' r → o ≡ o' → Walks of xs o' l z l' r
    walks_as {r = r} h e = subst (λ (x : Out ℕ Entries). Walks of xs x l z l' r) e h

    -- ---- what a walk answers
    pub refuses : {e : Refused ℕ} → o ≡ refused e.refusal e.place → Kept l z l' → Walks of xs o l z l' (Err e)
    refuses {e} i h =
        subst (λ (x : Out ℕ Entries). Walks of xs x l z l' (Err e)) (sym i) (record { is = refl; stored = h; ready = tt })

    pub ends : {y : Sizes} {p : ℕ} (e : Entries) → o ≡ got e p → Step of l z e l' y → Ready xs p (grow z e) → Walks of xs o l z l' (Ok (y, p))
    ends {y} {p} e i s h =
        subst (λ (x : Out ℕ Entries). Walks of xs x l z l' (Ok (y, p))) (sym i)
        (record { is = ap (λ (x : Sizes). got x p) s.sizes; stored = s.lists; ready = subst (Ready xs p) (sym s.sizes) h })

    pub leaves : (r : Result (Sizes × ℕ) (Refused ℕ)) {e : Refused ℕ} → IsErr r × IsErrAnd r (λ d. d ≡ e) → Walks of xs o l z l' (Err e)
        → Walks of xs o l z l' r
    leaves r m h = stays (Walks of xs o l z l') r m h

  -- a walk over other lists, which hold what it gathers as they are
  pub walks_unstored : {M : Type 0} {at : ℕ → M} {xs : List ℕ} (o : Out ℕ Entries) {k k' : Lists M} {l : Lists N} {z : Sizes}
      {r : Result (Sizes × ℕ) (Refused ℕ)}
      → ((e : Entries) (q : ℕ) → o ≡ got e q → l ≡ store of l z e) → Walks at xs o k z k' r → Walks of xs o l z l r
  walks_unstored (got e q) h w = record { is = w.is; stored = h e q refl; ready = w.ready }
  walks_unstored (refused k q) h w = record { is = w.is; stored = kept_same; ready = w.ready }

  -- the last of a row of walks, behind entries w that were laid before it
  pub behind : {xs : List ℕ} {l l₁ l₂ : Lists N} {z y : Sizes} {r : Result (Sizes × ℕ) (Refused ℕ)} {p : ℕ} (f : Format one Entries)
      (g : Entries → Entries) {w : Entries} → Step of l z w l₁ y
      → ((e : Entries) → plus w e ≡ g e) → Walks of xs (f.read xs p) l₁ y l₂ r → Walks of xs ((f >>= λ e. pure (g e)).read xs p) l z l₂ r
  unfolding ◌>>=◌ pure
  behind {xs} {l} {l₁} {l₂} {z} {y} {r} {p} f g s k h = go (f.read xs p) h
    where
      go : (o : Out ℕ Entries) → Walks of xs o l₁ y l₂ r → Walks of xs (and_then o (λ e q. got (g e) q)) l z l₂ r
      go (refused n q) h = record { is = h.is; stored = kept_then s h.stored; ready = h.ready }
      go (got e q) h =
          let t = step_as (k e) (s ⊕ record { lists = h.stored; sizes = refl }) in
          record { is = h.is ∙ ap (λ (x : Sizes). got x q) t.sizes; stored = t.lists; ready = h.ready }

  -- a walk behind words that were stored
  module _ {xs : List ℕ} {a : List N} {ws ws₁ : List ℕ} {l₂ : Lists N} {z : Sizes} {r : Result (Sizes × ℕ) (Refused ℕ)} {p : ℕ} (f : Format one Entries) where
    pub word_then : (n : ℕ) → ws₁ ≡ set ws z.words n → Walks of xs (f.read xs p) (lists a ws₁) (with_words z 1) l₂ r
        → Walks of xs ((f >>= λ e. pure (plus (word n) e)).read xs p) (lists a ws) z l₂ r
    word_then n e h = behind f (plus (word n)) {w = word n} (record { lists = λ i. lists a (e i); sizes = one_word z n }) (λ x. refl) h

    -- behind a path's flags
    pub flags_then : (n : ℕ) → ws₁ ≡ set ws z.words n
        → Walks of xs (f.read xs p) (lists a ws₁) (record { numbers = z.numbers; words = z.words + 1; derived = z.derived || odd (n / 4) }) l₂ r
        → Walks of xs ((f >>= λ e. pure (plus (flag_entries n) e)).read xs p) (lists a ws) z l₂ r
    flags_then n e h =
        behind f (plus (flag_entries n)) {w = flag_entries n}
        (record {
          lists = λ i. lists a (e i);
          sizes = λ i. record { numbers = sym (add-zero z.numbers) i; words = z.words + 1; derived = z.derived || odd (n / 4) };
        }) (λ x. refl) h

    -- or behind several
    pub words_then : (many : List ℕ) (k : ℕ) → length many ≡ k → ws₁ ≡ sets ws z.words many
        → Walks of xs (f.read xs p) (lists a ws₁) (with_words z k) l₂ r
        → Walks of xs ((f >>= λ e. pure (plus (words many) e)).read xs p) (lists a ws) z l₂ r
    words_then many k i e h =
        behind f (plus (words many)) {w = words many}
        (record {
          lists = λ j. lists a (e j);
          sizes = λ j. record { numbers = sym (add-zero z.numbers) j; words = z.words + sym i j; derived = sym (or_false z.derived) j };
        })
        (λ x. refl) h

  -- a walk by a test that is known as another
  pub walks_by : {xs : List ℕ} {l l₂ : Lists N} {n w : ℕ} {r : Result (Sizes × ℕ) (Refused ℕ)} {p : ℕ} (f : Bool → Format one Entries) (e : Bool)
      {b b' d d' : Bool} → b ≡ b' → d ≡ d'
      → Walks of xs ((f b).read xs p) l (record { numbers = n; words = w; derived = e || d }) l₂ r
      → Walks of xs ((f b').read xs p) l (record { numbers = n; words = w; derived = e || d' }) l₂ r
  walks_by {xs} {l} {l₂} {n} {w} {r} {p} f e i j h =
      subst₂ (λ (b d : Bool). Walks of xs ((f b).read xs p) l (record { numbers = n; words = w; derived = e || d }) l₂ r) i j h

-- the words of a walk that gathers none, and the numbers of one that gathers none
abbrev pub Wordless : Out ℕ Entries → Type 0
Wordless o = (e : Entries) (q : ℕ) → o ≡ got e q → e.words ≡ []

abbrev pub Numberless : Out ℕ Entries → Type 0
Numberless o = (e : Entries) (q : ℕ) → o ≡ got e q → e.numbers ≡ []

module _ {N : Type 0} {of : ℕ → N} where
  pub words_kept : {xs : List ℕ} (o : Out ℕ Entries) {a a' : List N} {z : Sizes} {r : Result (Sizes × ℕ) (Refused ℕ)} (ws : List ℕ) → Wordless o
      → Walks of xs o (lists a []) z (lists a' []) r → Walks of xs o (lists a ws) z (lists a' ws) r
  words_kept (refused k p) ws w h =
      record { is = h.is; stored = kept_numbers ws h.stored; ready = h.ready }
  words_kept (got e p) {z = z} ws w h =
      record { is = h.is; stored = λ i. lists (h.stored i).numbers (sets ws z.words (sym (w e p refl) i)); ready = h.ready }

  pub numbers_kept : {xs : List ℕ} (o : Out ℕ Entries) (a : List N) {ws ws' : List ℕ} {z : Sizes} {r : Result (Sizes × ℕ) (Refused ℕ)} → Numberless o
      → WordWalks xs o ws z ws' r → Walks of xs o (lists a ws) z (lists a ws') r
  numbers_kept (refused k p) a w h =
      record { is = h.is; stored = kept_words a h.stored; ready = h.ready }
  numbers_kept (got e p) a {z = z} w h =
      record {
        is = h.is;
        stored = λ i. lists (sets a z.numbers (map of (sym (w e p refl) i))) (h.stored i).words;
        ready = h.ready;
      }

  pub words_still : {o : Out ℕ Entries} {l l' : Lists N} {z y : Sizes} {p : ℕ} (t : Finished of o l z l' p y) → Wordless o → y.words ≡ z.words
  words_still {z = z} t w =
      ap (λ (x : Sizes). x.words) t.step.sizes ∙ ap (λ (ws : List ℕ). z.words + length ws) (w t.entries _ t.read) ∙ add-zero z.words

-- ---- the first of a row, as a `?` gives it
module _ {A B : Type 0} (f : Format one A) (g : A → Format one B) (xs : List ℕ) {p : ℕ} where
  pub then_read : {a : A} {q : ℕ} → got a q ≡ f.read xs p → (f >>= g).read xs p ≡ (g a).read xs q
  then_read e = then_got f g xs (sym e)

  pub then_none : {e : Refused ℕ} → refused e.refusal e.place ≡ f.read xs p → (f >>= g).read xs p ≡ refused e.refusal e.place
  then_none e = then_refused f g xs (sym e)

-- ---- where a reading ends, and that a walk can go on there
module _ {A : Type 0} (f : Format one A) (n : ℕ) (t : Takes n f) (xs : List ℕ) (p : ℕ) {a : A} {q : ℕ} (e : got a q ≡ f.read xs p) where
  pub onward : p ≤ 8 * length xs → (p + n ≤ q) × (q ≤ 8 * length xs)
  onward h =
      let l = f.sound xs a p q (sym e) in
      let m = moved f xs a p q l in
      (t xs a p q l, omega (arith, m.inside))

  pub ready_on : (z : Sizes) → Ready xs p z → Ready xs q z
  ready_on z h =
      let on = onward h.1.0 in
      (h.0, (on.1, (omega (arith, on.0, h.1.1.0), omega (arith, on.0, h.1.1.1))))

  -- behind a field of so many bits there is room for as many words more
  pub ready_words : (k : ℕ) → k ≤ n → (z : Sizes) → Ready xs p z → Ready xs q (with_words z k)
  ready_words k le z h =
      let on = onward h.1.0 in
      (h.0, (on.1, (omega (arith, on.0, h.1.1.0), omega (arith, on.0, le, h.1.1.1))))
