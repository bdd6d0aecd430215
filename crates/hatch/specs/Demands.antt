-- Demands 1 and 3 of the calls themselves: what a caller is handed, by value and in both lists. `c` is what the caller gives, and `answer` is
-- how the reading is handed over: `as_hatch` of doubles or of their 64 bits; the contracts of `decode` and `decode_with_strings` equate
-- answer and lists with these. Assumes nothing.
use Rattle.std.specs.Prelude.{◌≡◌, refl, List, ◌++◌, ℕ, length, drop, Ok, Err, IsOk}
use Rattle.std.proofs.Common.{ap, arith}
use Rattle.std.proofs.lemmas.List.{map-id}
use Rattle.bitcursor.specs.declared.Refusal.{Refusal}
use Rattle.bitcursor.specs.Reading.{Out, got, refused, place}
use Rattle.bitcursor.specs.Inputs.{Places}
use Rattle.hatch_format.specs.Values.{Rest, Body}
use Rattle.hatch_format.specs.Entries.{numbers}
use Rattle.hatch_format.specs.Record.{record_of, as_doubles, hatch_as_bits}
use Rattle.hatch_format.specs.Call.{Call, hatch_call}
use Rattle.hatch_format.specs.Demand3.{HatchLaid, AlikeCalls}
use Rattle.hatch_format.proofs.Demand3.{read_iff_laid, refused_none, alike_same}
use Rattle.hatch.specs.Calls.{as_hatch, as_bits, as_data, filled, numbers_as, numbers_after}

-- what is handed over of a reading and of a refusal, in both forms
pub bits_read : (a : Body) (q : Places) → as_bits (got a q) ≡ Ok (record_of a q)
bits_read a q = refl

pub doubles_read : (a : Body) (q : Places) → as_data (got a q) ≡ Ok (as_doubles (record_of a q))
doubles_read a q = refl

pub bits_refused : (k : Refusal) (q : Places) → as_bits (refused k q) ≡ Err (record { refusal = k; place = q })
bits_refused k q = refl

pub doubles_refused : (k : Refusal) (q : Places) → as_data (refused k q) ≡ Err (record { refusal = k; place = q })
doubles_refused k q = refl

-- both forms have the same outcome: a record in both, or a refusal in both
pub both_ok : (o : Out Places Body) → (IsOk (as_data o) → IsOk (as_bits o)) × (IsOk (as_bits o) → IsOk (as_data o))
both_ok (got a q) = (λ h. h, λ h. h)
both_ok (refused k q) = (λ h. h, λ h. h)

-- over 64 bits the record is handed over as it is
pub bits_are : (o : Out Places Body) → as_hatch (λ n. n) (λ c. c) o ≡ as_bits o
bits_are (got a q) = ap Ok (hatch_as_bits (record_of a q))
bits_are (refused k q) = refl

-- and its list holds the numbers as they are
pub numbers_are : (o : Out Places Body) (l : List ℕ) → filled (numbers_as (λ n. n)) o l ≡ numbers_after o l
numbers_are (got a q) l = ap (λ (ns : List ℕ). ns ++ drop (length ns) l) (map-id (numbers a.rest))
numbers_are (refused k q) l = refl

module _ (c : Call) {R : Type 0} (answer : Out Places Body → R) where
  -- the call's reading or refusal, by the definition
  abbrev pub reading : Out Places Body
  reading = hatch_call c

  -- ---- demand 1: the whole reading, with every entry of a list, or a refusal with its places and the list unchanged. `e` is what a body has
  -- for a list: words, numbers as 64 bits, or doubles
  pub data Given {A : Type 0} (e : Rest → List A) (l : List A) : Type 0 where
    whole : (a : Body) (q : Places) → HatchLaid c a q → answer reading ≡ answer (got a q)
        → filled e reading l ≡ e a.rest ++ drop (length (e a.rest)) l → Given e l
    none : (k : Refusal) (q : Places) → ((a : Body) (r : Places) → HatchLaid c a r → ⊥) → answer reading ≡ answer (refused k q)
        → filled e reading l ≡ l → Given e l

  pub given : {A : Type 0} (e : Rest → List A) (l : List A) → Given e l
  given {A} e l = go reading refl
    where
      go : (o : Out Places Body) → reading ≡ o → Given e l
      go (got a q) i = whole a q ((read_iff_laid c a q).0 i) (ap answer i) (ap (λ (x : Out Places Body). filled e x l) i)
      go (refused k q) i = none k q (refused_none c k q i) (ap answer i) (ap (λ (x : Out Places Body). filled e x l) i)

  -- ---- demand 3: a reading exactly when a layout begins there and both lists are long enough; the record is what was laid out
  pub read_when_laid : (a : Body) (q : Places) → HatchLaid c a q → answer reading ≡ answer (got a q)
  read_when_laid a q l = ap answer ((read_iff_laid c a q).1 l)

  -- asked of the answer as 64 bits; `both_ok` says that it is the same of the answer as doubles
  pub laid_when_read : IsOk (as_bits reading) → (a : Body) × (q : Places) × HatchLaid c a q × (answer reading ≡ answer (got a q))
  laid_when_read h = go reading refl h
    where
      go : (o : Out Places Body) → reading ≡ o → IsOk (as_bits o) → (a : Body) × (q : Places) × HatchLaid c a q × (answer reading ≡ answer (got a q))
      go (got a q) i k = (a, q, (read_iff_laid c a q).0 i, ap answer i)
      go (refused n q) i k = let z : ◌≡◌ {A = ℕ} 0 1 = cc in absurd (omega arith)

  -- two calls alike up to the first one's final places are answered alike
  pub same_answer : (d : Call) → AlikeCalls c d (place reading) → answer (hatch_call d) ≡ answer reading
  same_answer d h = ap answer (alike_same c d h)

  -- and lay the same in a list
  pub same_list : (d : Call) → AlikeCalls c d (place reading) → {A : Type 0} (e : Rest → List A) (l : List A) → filled e (hatch_call d) l ≡ filled e reading l
  same_list d h e l = ap (λ (x : Out Places Body). filled e x l) (alike_same c d h)
