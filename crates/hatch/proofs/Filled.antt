-- A call's answer from the parts that were handed on, and its lists: where it read, its entries fit, so what was laid over them is their front. Assumes
-- nothing.
use Rattle.std.specs.Prelude.{◌≡◌, refl, Bool, true, false, List, ◌++◌, ℕ, ◌+◌, ◌≤◌, length, drop, map, is_none, unwrap_or, Result, Ok}
use Rattle.std.proofs.Common.{sym, ap, subst, ◌∙◌, arith, zero-add}
use Rattle.std.proofs.lemmas.List.{length-map}
use Rattle.std.proofs.lemmas.List.Edits.{sets}
use lib.Seq.{sets-eq}
use Rattle.bitcursor.specs.declared.Refused.{Refused}
use Rattle.bitcursor.specs.Reading.{Out, got, refused}
use Rattle.bitcursor.specs.Inputs.{Places, Payloads}
use Rattle.hatch_format.specs.declared.Caps.{Caps}
use Rattle.hatch_format.specs.HandleRule.{in_payload}
use Rattle.hatch_format.specs.declared.GradientColorBits.{GradientColorBits}
use Rattle.hatch_format.specs.Values.{Pattern, no_pattern, Gradient, Body}
use Rattle.hatch_format.specs.Entries.{words, numbers}
use Rattle.hatch_format.specs.Record.{fill_of, fill_as, record_of, hatch_as}
use Rattle.hatch_format.specs.Call.{Call, call_on, hatch_call}
use Rattle.hatch_format.proofs.Demand3.{read_iff_laid}
use Rattle.hatch_points.specs.Lists.{Lists}
use Rattle.hatch_rest.specs.Tails.{open_of, pattern_of}
use Rattle.hatch_rest.specs.Rests.{SolidBlank}
use Rattle.hatch_front.specs.Answers.{FillAt, gradient_of}
use Rattle.hatch_body.specs.declared.Parts.{Parts}
use Rattle.hatch_body.specs.Parts.{parts_of, BodyIs}
use Rattle.hatch_body.proofs.BodyLaws.{laid_words, laid_numbers, used_words, used_numbers}
use Rattle.hatch_call.specs.Calls.{laid_over, CallIs}
use Rattle.hatch_record.specs.Records.{fill_by, pattern_in, colors_in, answer_in, lengths_of}
use Rattle.hatch.specs.Calls.{as_hatch, filled, numbers_as, as_lengths, ReadsParts}

-- ---- the record from the parts is the definition's
-- the gradient with its colours, read again from where they stand; zero where there is none
fill_is : {N C : Type 0} (of : ℕ → N) (make : GradientColorBits → C) (xs : List ℕ) (at : ℕ) (g : Gradient) → FillAt xs at g
    → fill_by of (map make (colors_in xs (gradient_of at g))) (gradient_of at g) ≡ fill_as of make (fill_of g)
fill_is of make xs at g h = go g.present refl
  where
    go : (b : Bool) → g.present ≡ b → fill_by of (map make (colors_in xs (gradient_of at g))) (gradient_of at g) ≡ fill_as of make (fill_of g)
    go true e = rw (e, h.colors.read) refl
    go false e = rw (h.absent e) refl

-- the pattern's fields; zero where the hatch is solid, and then there is none
pattern_is : (at : ℕ) (a : Body) (q : Places) → SolidBlank a.rest
    → (is_none (parts_of at a q).rest.tail.pattern ≡ a.rest.solid) × (pattern_in (parts_of at a q) ≡ open_of a.rest.tail.pattern)
pattern_is at a q h = go a.rest.solid h
  where
    p : Pattern
    p = a.rest.tail.pattern

    go : (b : Bool) → (b ≡ true → p ≡ no_pattern) → (is_none (pattern_of b p) ≡ b) × (unwrap_or (pattern_of b p) (open_of no_pattern) ≡ open_of p)
    go true k = (refl, ap open_of (sym (k refl)))
    go false k = (refl, refl)

pub answer_is : {N C : Type 0} (of : ℕ → N) (make : GradientColorBits → C) (xs : List ℕ) (o : Out Places Body) (r : Result Parts (Refused Places))
    → BodyIs xs o r → answer_in of make xs r ≡ as_hatch of make o
answer_is of make xs (refused k q) r e = ap (answer_in of make xs) e
answer_is of make xs (got a q) r e =
    let fill = fill_is of make xs e.0 a.gradient e.2 in
    let pattern = pattern_is e.0 a q e.3 in
    ap (answer_in of make xs) e.1
    ∙ (λ i. Ok (record (hatch_as of make (record_of a q)) {
      gradient = fill i;
      solid_fill = pattern.0 i;
      pattern_angle = of (pattern.1 i).angle;
      pattern_scale = of (pattern.1 i).scale;
      pattern_double = (pattern.1 i).double;
      num_pattern_lines = (pattern.1 i).lines;
      words_used = used_words a.rest i;
      numbers_used = used_numbers a.rest i;
    }))

pub lengths_are : (xs : List ℕ) (o : Out Places Body) (r : Result Parts (Refused Places)) → BodyIs xs o r → lengths_of r ≡ as_lengths o
lengths_are xs (refused k q) r e = ap lengths_of e
lengths_are xs (got a q) r e = ap lengths_of e.1 ∙ rw (used_words a.rest, used_numbers a.rest)

-- ---- the lists
sets_front : {A : Type 0} (l vs : List A) → length vs ≤ length l → sets l 0 vs ≡ vs ++ drop (length vs) l
sets_front l vs h =
    let h' : 0 + length vs ≤ length l = omega arith in
    sets-eq vs l 0 h' ∙ ap (λ (k : ℕ). vs ++ drop k l) (zero-add (length vs))

module _ {N : Type 0} (of : ℕ → N) where
  -- the call by caps that are known as others
  pub call_by : {x y : Caps} → x ≡ y → (xs : List ℕ) (nw nn : ℕ) (γ : Payloads) (p : Places) (release : ℕ) {l l' : Lists N}
      {r : Result Parts (Refused Places)}
      → CallIs of xs (call_on x in_payload nw nn γ p release) l l' r → CallIs of xs (call_on y in_payload nw nn γ p release) l l' r
  call_by e xs nw nn γ p release {l} {l'} {r} h = subst (λ (z : Caps). CallIs of xs (call_on z in_payload nw nn γ p release) l l' r) e h

  module _ (c : Call) where
    fits : {a : Body} {q : Places} → hatch_call c ≡ got a q → (length (words a.rest) ≤ c.words) × (length (numbers a.rest) ≤ c.numbers)
    fits {a} {q} e = let l = (read_iff_laid c a q).0 e in (l.words_fit, l.numbers_fit)

    filled_words : (l : Lists N) → length l.words ≡ c.words → (laid_over of l (hatch_call c)).words ≡ filled words (hatch_call c) l.words
    filled_words l n = go (hatch_call c) refl
      where
        go : (o : Out Places Body) → hatch_call c ≡ o → (laid_over of l o).words ≡ filled words o l.words
        go (refused k q) e = refl
        go (got a q) e = ap (sets l.words 0) (laid_words a.rest) ∙ sets_front l.words (words a.rest) (let h = fits e in omega (arith, h.0, n))

    filled_numbers : (l : Lists N) → length l.numbers ≡ c.numbers
        → (laid_over of l (hatch_call c)).numbers ≡ filled (numbers_as of) (hatch_call c) l.numbers
    filled_numbers l n = go (hatch_call c) refl
      where
        go : (o : Out Places Body) → hatch_call c ≡ o → (laid_over of l o).numbers ≡ filled (numbers_as of) o l.numbers
        go (refused k q) e = refl
        go (got a q) e =
            ap (λ (ns : List ℕ). sets l.numbers 0 (map of ns)) (laid_numbers a.rest)
            ∙ sets_front l.numbers (map of (numbers a.rest)) (let h = fits e in omega (arith, h.1, n, length-map (numbers a.rest) of))

    pub reads_parts : (xs : List ℕ) (l : Lists N) {l' : Lists N} {r : Result Parts (Refused Places)} → CallIs of xs (hatch_call c) l l' r
        → length l.words ≡ c.words → length l.numbers ≡ c.numbers
        → ReadsParts (numbers_as of) xs (hatch_call c) r l.numbers l'.numbers l.words l'.words
    reads_parts xs l h w n =
        record {
          body = h.body;
          readable = h.readable;
          numbers_then = ap (λ (x : Lists N). x.numbers) h.lists ∙ filled_numbers l n;
          words_then = ap (λ (x : Lists N). x.words) h.lists ∙ filled_words l w;
        }
