-- A loop that repeats a walk: what is left to read, behind what was gathered, is what the whole reads. Assumes nothing.
use mathlib.Core.Path.{◌≡◌, refl, sym, ap, subst, ◌∙◌}
use mathlib.Core.List.{List, [], ◌∷◌}
use Prim.Native.Nat.{ℕ, zero, suc, ◌+◌, ◌-◌, ◌*◌, ◌≤◌, ◌<◌}
use native.Mathlib.Nat.{sub-zero}
use native.Mathlib.Omega.{arith}
use lib.ListN.{length, length-append}
use Rattle.std.specs.Prelude.{map, Result, Ok, Err}
use Rattle.bitcursor.specs.declared.Refused.{Refused}
use Rattle.bitcursor.specs.Doubles.{BD}
use Rattle.bitcursor.specs.Reading.{Out, got, refused, and_then, never}
use Rattle.bitcursor.specs.Format.{Format, pure, ◌>>=◌}
use Rattle.bitcursor.specs.Inputs.{one}
use Rattle.hatch_points.specs.declared.lists.Sizes.{Sizes}
use Rattle.hatch_points.specs.Gathered.{Entries, none, numbers, plus, repeated}
use Rattle.hatch_points.specs.Walks.{single_walk}
use Rattle.hatch_points.specs.Lists.{Lists, lists, with_numbers, store, grow, Kept, Ready, Walks, Passes}
use Rattle.hatch_points.proofs.Laws.{Step, no_step, ◌⊕◌, plus_none, plus_again, kept_then, walk_finished, walk_refused, walk_kept}
use Rattle.hatch_points.proofs.Laws.{walks_as, walks_unstored, refuses, ends, behind, sets_out, no_numbers}

-- the entries a, and then what the rest has
abbrev pub onto : Entries → Out ℕ Entries → Out ℕ Entries
onto a o = and_then o (λ e q. got (plus a e) q)

onto_none : (o : Out ℕ Entries) → onto none o ≡ o
onto_none (got e q) = refl
onto_none (refused k q) = refl

onto_onto : (a b : Entries) (o : Out ℕ Entries) → onto a (onto b o) ≡ onto (plus a b) o
onto_onto a b (got e q) = ap (λ (x : Entries). got x q) (sym (plus_again a b e))
onto_onto a b (refused k q) = refl

-- n times k
abbrev pub many : ℕ → ℕ → ℕ
many zero k = 0
many (suc n) k = k + many n k

pub many_1 : (n : ℕ) → many n 1 ≡ n
many_1 zero = refl
many_1 (suc n) = let h = many_1 n in omega (arith, h)

pub many_3 : (n : ℕ) → many n 3 ≡ 3 * n
many_3 zero = refl
many_3 (suc n) = let h = many_3 n in omega (arith, h)

module _ (d : Format one Entries) (xs : List ℕ) where
  unfoldable pub left : ℕ → ℕ → Out ℕ Entries
  left n p = (repeated n d).read xs p

  left_more : (n p : ℕ) → left (suc n) p ≡ and_then (d.read xs p) (λ e q. onto e (left n q))
  unfolding left repeated ◌>>=◌ pure
  left_more n p = refl

  left_none : (p : ℕ) → left 0 p ≡ got none p
  unfolding left repeated pure
  left_none p = refl

  -- m turns and then n
  left_add : (m n p : ℕ) → left (m + n) p ≡ and_then (left m p) (λ a q. onto a (left n q))
  left_add zero n p =
      let e : 0 + n ≡ n = omega arith in
      ap (λ (k : ℕ). left k p) e ∙ sym (onto_none (left n p)) ∙ sym (ap (λ (o : Out ℕ Entries). and_then o (λ a q. onto a (left n q))) (left_none p))
  left_add (suc m) n p =
      let e : suc m + n ≡ suc (m + n) = omega arith in
      ap (λ (k : ℕ). left k p) e ∙ left_more (m + n) p ∙ go (λ q. left_add m n q) (d.read xs p)
      ∙ sym (ap (λ (o : Out ℕ Entries). and_then o (λ a q. onto a (left n q))) (left_more m p))
    where
      last : (e : Entries) (o : Out ℕ Entries) → onto e (and_then o (λ a q. onto a (left n q))) ≡ and_then (onto e o) (λ a q. onto a (left n q))
      last e (got a q) = onto_onto e a (left n q)
      last e (refused k q) = refl

      go : ((q : ℕ) → left (m + n) q ≡ and_then (left m q) (λ a r. onto a (left n r))) → (o : Out ℕ Entries)
          → and_then o (λ e q. onto e (left (m + n) q)) ≡ and_then (and_then o (λ e q. onto e (left m q))) (λ a q. onto a (left n q))
      go h (got e q) = ap (onto e) (h q) ∙ last e (left m q)
      go h (refused k q) = refl

  -- n walks of k numbers each gather n times as many
  module _ (k : ℕ) (each : (p : ℕ) (e : Entries) (q : ℕ) → d.read xs p ≡ got e q → length e.numbers ≡ k) where
    pub numbers_long : (n p : ℕ) (e : Entries) (q : ℕ) → left n p ≡ got e q → length e.numbers ≡ many n k
    numbers_long zero p e q i =
        let f : got none p ≡ got e q = sym (left_none p) ∙ i in
        let g : none ≡ e = cc in
        sym (ap (λ (x : Entries). length x.numbers) g)
    numbers_long (suc n) p e q i = go (λ r e₂ t j. numbers_long n r e₂ t j) (d.read xs p) refl (sym (left_more n p) ∙ i)
      where
        last : ((r : ℕ) (e₂ : Entries) (t : ℕ) → left n r ≡ got e₂ t → length e₂.numbers ≡ many n k) → (e₁ : Entries) → length e₁.numbers ≡ k
            → (r : ℕ) (o : Out ℕ Entries) → left n r ≡ o → onto e₁ o ≡ got e q → length e.numbers ≡ many (suc n) k
        last ih e₁ h r (got e₂ t) j f =
            let g : plus e₁ e₂ ≡ e = cc in
            sym (ap (λ (x : Entries). length x.numbers) g) ∙ length-append e₁.numbers e₂.numbers
            ∙ omega (arith, h, ih r e₂ t j)
        last ih e₁ h r (refused x t) j f = never f

        go : ((r : ℕ) (e₂ : Entries) (t : ℕ) → left n r ≡ got e₂ t → length e₂.numbers ≡ many n k) → (o : Out ℕ Entries) → d.read xs p ≡ o
            → and_then o (λ a r. onto a (left n r)) ≡ got e q → length e.numbers ≡ many (suc n) k
        go ih (got e₁ r) j f = last ih e₁ (each p e₁ r j) r (left n r) refl f
        go ih (refused x r) j f = never f

    -- so they use as many more of the numbers
    pub used_after : {N : Type 0} {of : ℕ → N} (n p : ℕ) {l l' : Lists N} {z : Sizes} {q : ℕ} {y : Sizes}
        → Walks of xs ((repeated n d).read xs p) l z l' (Ok (y, q)) → y.numbers ≡ z.numbers + many n k
    unfolding left
    used_after n p {z = z} {q = q} h =
        let t = walk_finished h in
        ap (λ (x : Sizes). x.numbers) t.step.sizes ∙ ap (λ (m : ℕ). z.numbers + m) (numbers_long n p t.entries q t.read)

-- of n turns the first m are one walk, and the others another behind it
module _ (d : Format one Entries) (n m p : ℕ) (le : m ≤ n) where
  parts : (xs : List ℕ) → left d xs n p ≡ and_then (left d xs m p) (λ a q. onto a (left d xs (n - m) q))
  parts xs = let e : n ≡ m + (n - m) = omega arith in ap (λ (k : ℕ). left d xs k p) e ∙ left_add d xs m (n - m) p

  module _ {N : Type 0} {of : ℕ → N} {xs : List ℕ} {l l₁ : Lists N} {z : Sizes} where
    pub parts_walk : {q : ℕ} {y : Sizes} {l₂ : Lists N} {r : Result (Sizes × ℕ) (Refused ℕ)}
        → Walks of xs ((repeated m d).read xs p) l z l₁ (Ok (y, q)) → Walks of xs ((repeated (n - m) d).read xs q) l₁ y l₂ r
        → Walks of xs ((repeated n d).read xs p) l z l₂ r
    unfolding left ◌>>=◌ pure
    parts_walk {q} h k =
        let t = walk_finished h in
        walks_as (behind (repeated (n - m) d) (plus t.entries) t.step (λ a. refl) k)
        (sym (parts xs ∙ ap (λ (o : Out ℕ Entries). and_then o (λ a q. onto a (left d xs (n - m) q))) t.read))

    pub parts_refuse : {e : Refused ℕ} → Walks of xs ((repeated m d).read xs p) l z l₁ (Err e) → Walks of xs ((repeated n d).read xs p) l z l₁ (Err e)
    unfolding left
    parts_refuse h =
        refuses (parts xs ∙ ap (λ (o : Out ℕ Entries). and_then o (λ a q. onto a (left d xs (n - m) q))) (walk_refused h)) (walk_kept h)

-- i of the n turns are done
pub record Along {N : Type 0} (of : ℕ → N) (d : Format one Entries) (xs : List ℕ) (n p₀ : ℕ) (l₀ : Lists N) (z₀ : Sizes) (i p : ℕ) (l : Lists N)
    (z : Sizes) : Type 0 where
  pub gathered : Entries
  pub whole : left d xs n p₀ ≡ onto gathered (left d xs (n - i) p)
  pub step : Step of l₀ z₀ gathered l z
  pub ready : Ready xs p z

module _ {N : Type 0} {of : ℕ → N} {d : Format one Entries} {xs : List ℕ} where
  pub start : {n p : ℕ} {l : Lists N} {z : Sizes} → Ready xs p z → Along of d xs n p l z 0 p l z
  start {n} {p} h =
      record {
        gathered = none;
        whole = sym (onto_none (left d xs (n - 0) p) ∙ ap (λ (k : ℕ). left d xs k p) (sub-zero n));
        step = no_step;
        ready = h;
      }

  pub start_numbers : {n p : ℕ} {l : Lists N} {z : Sizes} → Ready xs p z → Along of d xs n p l z 0 p l (with_numbers z 0)
  start_numbers {n} {p} {l} {z} h = subst (Along of d xs n p l z 0 p l) (sym (no_numbers z)) (start h)

  module _ {n p₀ : ℕ} {l₀ : Lists N} {z₀ : Sizes} {i p : ℕ} {l : Lists N} {z : Sizes} (h : Along of d xs n p₀ l₀ z₀ i p l z) where
    turn : i < n → left d xs n p₀ ≡ onto h.gathered (and_then (d.read xs p) (λ e q. onto e (left d xs (n - (i + 1)) q)))
    turn lt =
        let e : n - i ≡ suc (n - (i + 1)) = omega arith in
        h.whole ∙ ap (λ (k : ℕ). onto h.gathered (left d xs k p)) e ∙ ap (onto h.gathered) (left_more d xs (n - (i + 1)) p)

    -- one turn more
    pub next : {q : ℕ} {l' : Lists N} {z' : Sizes} (e : Entries) → i < n → d.read xs p ≡ got e q → Step of l z e l' z' → Ready xs q (grow z e)
        → Along of d xs n p₀ l₀ z₀ (i + 1) q l' z'
    next {q} e lt r s y =
        record {
          gathered = plus h.gathered e;
          whole = turn lt ∙ ap (λ (o : Out ℕ Entries). onto h.gathered (and_then o (λ e q. onto e (left d xs (n - (i + 1)) q)))) r
              ∙ onto_onto h.gathered e (left d xs (n - (i + 1)) q);
          step = h.step ⊕ s;
          ready = subst (Ready xs q) (sym s.sizes) y;
        }

    -- the walk refuses, so the loop does
    stop : {e : Refused ℕ} → i < n → d.read xs p ≡ refused e.refusal e.place → left d xs n p₀ ≡ refused e.refusal e.place
    stop lt r = turn lt ∙ ap (λ (o : Out ℕ Entries). onto h.gathered (and_then o (λ e q. onto e (left d xs (n - (i + 1)) q)))) r

    -- all turns are done
    finish : n ≤ i → left d xs n p₀ ≡ got h.gathered p
    finish le =
        let e : n - i ≡ 0 = omega arith in
        h.whole ∙ ap (λ (k : ℕ). onto h.gathered (left d xs k p)) e ∙ ap (onto h.gathered) (left_none d xs p)
        ∙ ap (λ (x : Entries). got x p) (plus_none h.gathered)

    -- what the loop answers: a turn's refusal, or its end
    pub loop_refuses : {e : Refused ℕ} {l' : Lists N} → i < n → d.read xs p ≡ refused e.refusal e.place → Kept l z l'
        → Walks of xs ((repeated n d).read xs p₀) l₀ z₀ l' (Err e)
    unfolding left
    loop_refuses lt r k = refuses (stop lt r) (kept_then h.step k)

    pub loop_ends : n ≤ i → Walks of xs ((repeated n d).read xs p₀) l₀ z₀ l (Ok (z, p))
    unfolding left
    loop_ends le = ends h.gathered (finish le) h.step (subst (Ready xs p) h.step.sizes h.ready)

    pub loop_ends_as : {y : Sizes} → y ≡ z → n ≤ i → Walks of xs ((repeated n d).read xs p₀) l₀ z₀ l (Ok (y, p))
    loop_ends_as e le = subst (λ (y : Sizes). Walks of xs ((repeated n d).read xs p₀) l₀ z₀ l (Ok (y, p))) (sym e) (loop_ends le)

    -- a turn that is a walk by itself
    module _ {l' : Lists N} (lt : i < n) where
      pub walk_next : {q : ℕ} {y : Sizes} → Walks of xs (d.read xs p) l z l' (Ok (y, q)) → Along of d xs n p₀ l₀ z₀ (i + 1) q l' y
      walk_next {q} w = let t = walk_finished w in next t.entries lt t.read t.step (subst (Ready xs q) t.step.sizes w.ready)

      pub walk_refuses : {e : Refused ℕ} → Walks of xs (d.read xs p) l z l' (Err e) → Walks of xs ((repeated n d).read xs p₀) l₀ z₀ l' (Err e)
      walk_refuses w = loop_refuses lt (walk_refused w) (walk_kept w)

-- a walk that was lent no lists, said of a list of numbers that has no room for what it gathers
module _ {N : Type 0} {of : ℕ → N} (d : Format one Entries) (xs : List ℕ) (n p : ℕ) {z : Sizes} {r : Result (Sizes × ℕ) (Refused ℕ)} (a : List N) where
  pub past_room : (0 < n → length a ≤ z.numbers) → Passes xs ((repeated n d).read xs p) z r
      → Walks of xs ((repeated n d).read xs p) (lists a []) z (lists a []) r
  unfolding repeated pure
  past_room h k = walks_unstored ((repeated n d).read xs p) (λ e q i. unstored n refl e q i) k
    where
      unstored : (m : ℕ) → n ≡ m → (e : Entries) (q : ℕ) → (repeated n d).read xs p ≡ got e q → lists a [] ≡ store of (lists a []) z e
      unstored zero j e q i =
          let f : got none p ≡ got e q = sym (ap (λ (m : ℕ). (repeated m d).read xs p) j) ∙ i in
          let g : none ≡ e = cc in
          ap (store of (lists a []) z) g
      unstored (suc m) j e q i =
          let room = h (omega arith) in
          λ t. lists (sym (sets_out a z.numbers (map of e.numbers) (omega arith)) t) (sym (sets_out [] z.words e.words (omega arith)) t)

-- one BD
pub single_read : (xs : List ℕ) (p : ℕ) {v q : ℕ} → got v q ≡ BD.read xs p → single_walk.read xs p ≡ got (numbers (v ∷ [])) q
unfolding single_walk ◌>>=◌ pure
single_read xs p e = rw (← e)

pub single_long : (xs : List ℕ) (p : ℕ) (e : Entries) (q : ℕ) → single_walk.read xs p ≡ got e q → length e.numbers ≡ 1
unfolding single_walk ◌>>=◌ pure
single_long xs p e q i = go (BD.read xs p) i
  where
    go : (o : Out ℕ ℕ) → and_then o (λ v r. got (numbers (v ∷ [])) r) ≡ got e q → length e.numbers ≡ 1
    go (got v r) j = let g : numbers (v ∷ []) ≡ e = cc in sym (ap (λ (x : Entries). length x.numbers) g)
    go (refused k r) j = never j

pub single_refused : (xs : List ℕ) (p : ℕ) {e : Refused ℕ} → refused e.refusal e.place ≡ BD.read xs p → single_walk.read xs p ≡ refused e.refusal e.place
unfolding single_walk ◌>>=◌ pure
single_refused xs p e = rw (← e)
