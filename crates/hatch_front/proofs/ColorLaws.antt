-- Colours one behind the other, and the record's sixteen filled with them from the front. Assumes nothing.
use mathlib.Core.Path.{◌≡◌, refl, sym, ap, ap₂, ◌∙◌}
use mathlib.Core.List.{List, [], ◌∷◌, ◌++◌}
use Prim.Native.Nat.{ℕ, zero, suc, ◌+◌, ◌-◌, ◌≤◌, ◌<◌}
use native.Mathlib.Omega.{arith}
use lib.ListN.{set, replicate, take, drop, length}
use Rattle.std.proofs.lemmas.List.{take-map, drop-map, take-replicate, drop-replicate, map-append, append-nil}
use Rattle.std.specs.Prelude.{map}
use lib.Seq.{set_at, append_snoc}
use Rattle.bitcursor.specs.declared.Refusal.{Refusal}
use Rattle.bitcursor.specs.Reading.{Out, got, refused, and_then}
use Rattle.bitcursor.specs.Format.{◌>>=◌, pure, relay}
use Rattle.hatch_format.specs.declared.GradientColorBits.{GradientColorBits}
use Rattle.hatch_format.specs.Counts.{times_read, times}
use Rattle.hatch_format.specs.Gradients.{color}
use Rattle.hatch_format.specs.Record.{zero_color, sixteen}
use Rattle.hatch_points.specs.Runs.{times_length, times_add, then_items}

-- ---- i colours were read, from `at` to p
pub record ReadTo (xs : List ℕ) (at i p : ℕ) : Type 0 where
  pub items : List GradientColorBits
  pub are : (times i color).read xs at ≡ got items p

unfoldable pub none_read : (xs : List ℕ) (at : ℕ) → ReadTo xs at 0 at
unfolding times relay times_read pure
none_read xs at = record { items = []; are = refl }

module _ {xs : List ℕ} {at i p : ℕ} (h : ReadTo xs at i p) where
  unfoldable pub one_read : {c : GradientColorBits} {q : ℕ} → color.read xs p ≡ got c q → ReadTo xs at (i + 1) q
  unfolding times relay times_read ◌>>=◌ pure
  one_read {c} {q} e =
      record {
        items = h.items ++ (c ∷ []);
        are = times_add color xs i 1 at ∙ ap (λ (o : Out ℕ (List GradientColorBits)). and_then o (then_items color xs 1)) h.are ∙ rw e;
      }

  pub one_refused : {n q : ℕ} {k : Refusal} → i < n → color.read xs p ≡ refused k q → (times n color).read xs at ≡ refused k q
  unfolding times relay times_read ◌>>=◌ pure
  one_refused {n} lt e =
      let g : n ≡ i + suc (n - (i + 1)) = omega arith in
      ap (λ (m : ℕ). (times m color).read xs at) g ∙ times_add color xs i (suc (n - (i + 1))) at
      ∙ ap (λ (o : Out ℕ (List GradientColorBits)). and_then o (then_items color xs (suc (n - (i + 1))))) h.are ∙ rw e

  pub all_read : {n : ℕ} → i ≡ n → (times n color).read xs at ≡ got h.items p
  all_read e = ap (λ (m : ℕ). (times m color).read xs at) (sym e) ∙ h.are

-- ---- room for n, taken of the sixteen: what was read, and zero behind it
abbrev pub filled : (n : ℕ) {xs : List ℕ} {at i p : ℕ} → ReadTo xs at i p → List GradientColorBits
filled n {xs} {at} {i} {p} h = h.items ++ replicate (n - i) zero_color

pub filled_more : {n : ℕ} {xs : List ℕ} {at i p : ℕ} (h : ReadTo xs at i p) {c : GradientColorBits} {q : ℕ} (e : color.read xs p ≡ got c q) → i < n
    → set (filled n h) i c ≡ filled n (one_read h e)
unfolding one_read
filled_more {n} {xs} {at} {i} h {c} {q} e lt =
    let l = times_length color xs i at h.are in
    let g : n - i ≡ suc (n - (i + 1)) = omega (arith, lt) in
    let behind = replicate (n - (i + 1)) zero_color in
    ap (λ (m : ℕ). set (h.items ++ replicate m zero_color) i c) g ∙ set_at h.items zero_color behind c i l ∙ sym (append_snoc h.items c behind)

-- ---- the same, each colour as a caller has it
pub set_as : {C : Type 0} (of : GradientColorBits → C) (l : List GradientColorBits) (i : ℕ) (c : GradientColorBits)
    → set (map of l) i (of c) ≡ map of (set l i c)
set_as of [] i c = refl
set_as of (a ∷ l) zero c = refl
set_as of (a ∷ l) (suc i) c = ap (λ (m : List _). of a ∷ m) (set_as of l i c)

pub filled_none : {C : Type 0} (of : GradientColorBits → C) (n : ℕ) (xs : List ℕ) (at : ℕ) → n ≤ 16
    → take n (map of (sixteen [])) ≡ map of (filled n (none_read xs at))
unfolding none_read
filled_none of n xs at few =
    let all : n ≡ n - 0 = omega arith in
    take-map of n (sixteen []) ∙ ap (map of) (take-replicate n 16 zero_color few) ∙ ap (λ (m : ℕ). map of (replicate m zero_color)) all

-- all n are read: with the zeros behind them they are the sixteen
pub filled_all : {C : Type 0} (of : GradientColorBits → C) {n : ℕ} {xs : List ℕ} {at i p : ℕ} (h : ReadTo xs at i p) → i ≡ n
    → map of (filled n h) ++ drop n (map of (sixteen [])) ≡ map of (sixteen h.items)
filled_all of {n} {xs} {at} {i} h e =
    let none : n - i ≡ 0 = omega (arith, e) in
    let long : length h.items ≡ n = times_length color xs i at h.are ∙ e in
    let read = ap (λ (m : ℕ). map of (h.items ++ replicate m zero_color)) none ∙ ap (map of) (append-nil h.items) in
    let zeros = drop-map of n (sixteen []) ∙ ap (map of) (drop-replicate n 16 zero_color) ∙ ap (λ (m : ℕ). map of (replicate (16 - m) zero_color)) (sym long) in
    ap₂ (λ (a b : List _). a ++ b) read zeros ∙ sym (map-append of h.items (replicate (16 - length h.items) zero_color))
