-- Two lists as what formats read from: words and numbers. A place is what is left of each list, so the format reads from the front. Assumes nothing.
use Rattle.std.specs.Prelude.{◌≡◌, Bool, List, [], ◌∷◌, ◌++◌, ℕ, zero, suc, ◌≤◌}
use Rattle.std.proofs.Math.Path.{refl}
use Rattle.std.proofs.Common.{sym, ap, ap₂, subst, ◌∙◌, append_assoc, le-leb, leb-true}
use Rattle.std.proofs.Math.Bool.{true, false}
use Rattle.std.proofs.Math.Dec.{leb}
use Rattle.loads.specs.Bits.{bit}
use Rattle.bitcursor.specs.declared.Refusal.TheVariants.{TooFewBits, CountTooLarge}
use Rattle.bitcursor.specs.Reading.{Out, got, refused, never, Fielded}
use Rattle.bitcursor.specs.Code.{never_true}
use Rattle.bitcursor.specs.Format.{Input, Format, pure, refuse, ◌>>=◌, relay, either}

-- what is left of the words and of the numbers, doubles as their 64 bits
pub record Lists : Type 0 where
  pub words : List ℕ
  pub numbers : List ℕ

abbrev pub lists_of : List ℕ → List ℕ → Lists
lists_of ws ns = record { words = ws; numbers = ns }

-- all that is read from stands in the place
abbrev pub lists : Input
lists =
    record {
      Bytes = Unit {0};
      Place = Lists;
      Onward = λ γ p q. Unit {0};
      Agree = λ γ δ p. Unit {0};
      Longer = λ γ δ. Unit {0};
      Known = Unit {0};
      known = λ γ. tt;
      stay = λ γ p. tt;
      further = λ γ p q r h k. tt;
      before = λ γ δ p q h a. tt;
      agree_known = λ γ δ p h. refl;
      longer_known = λ γ δ h. refl;
    }

-- from p to q stand these words and these numbers
pub record Stands (ws ns : List ℕ) (p q : Lists) : Type 0 where
  pub words : p.words ≡ ws ++ q.words
  pub numbers : p.numbers ≡ ns ++ q.numbers

pub stands_none : (p : Lists) → Stands [] [] p p
stands_none p = record { words = refl; numbers = refl }

pub stands_then : {ws ns vs ms : List ℕ} {p r q : Lists} → Stands ws ns p r → Stands vs ms r q → Stands (ws ++ vs) (ns ++ ms) p q
stands_then {ws} {ns} {vs} {ms} {p} {r} {q} h k =
    record {
      words = h.words ∙ ap (λ (l : List ℕ). ws ++ l) k.words ∙ sym (append_assoc ws vs q.words);
      numbers = h.numbers ∙ ap (λ (l : List ℕ). ns ++ l) k.numbers ∙ sym (append_assoc ns ms q.numbers);
    }

-- and what stands in a row stands one behind the other
abbrev pub between : List ℕ → List ℕ → Lists → Lists
between vs ms q = record { words = vs ++ q.words; numbers = ms ++ q.numbers }

pub stands_first : (ws ns vs ms : List ℕ) {p q : Lists} → Stands (ws ++ vs) (ns ++ ms) p q → Stands ws ns p (between vs ms q)
stands_first ws ns vs ms {p} {q} h =
    record { words = h.words ∙ append_assoc ws vs q.words; numbers = h.numbers ∙ append_assoc ns ms q.numbers }

pub stands_second : (vs ms : List ℕ) (q : Lists) → Stands vs ms (between vs ms q) q
stands_second vs ms q = record { words = refl; numbers = refl }

pub stands_nothing : {p q : Lists} → Stands [] [] p q → p ≡ q
stands_nothing {p} {q} h = ap₂ lists_of h.words h.numbers

-- ---- one entry of either list
pub data Which : Type 0 where
  word number : Which

abbrev pub left_in : Which → Lists → List ℕ
left_in word p = p.words
left_in number p = p.numbers

abbrev pub put_in : Which → Lists → List ℕ → Lists
put_in word p l = lists_of l p.numbers
put_in number p l = lists_of p.words l

abbrev pub words_in : Which → List ℕ → List ℕ
words_in word l = l
words_in number l = []

abbrev pub numbers_in : Which → List ℕ → List ℕ
numbers_in word l = []
numbers_in number l = l

module _ (w : Which) where
  abbrev pub first : List ℕ → Lists → Out Lists ℕ
  first [] p = refused TooFewBits p
  first (a ∷ l) p = got a (put_in w p l)

  abbrev pub Entry : ℕ → Lists → Lists → Type 0
  Entry a p q = Stands (words_in w (a ∷ [])) (numbers_in w (a ∷ [])) p q

pub first_stands : (w : Which) (a : ℕ) (l : List ℕ) (p : Lists) → left_in w p ≡ a ∷ l → Entry w a p (put_in w p l)
first_stands word a l p e = record { words = e; numbers = refl }
first_stands number a l p e = record { words = refl; numbers = e }

pub first_sound : (w : Which) (a : ℕ) (p q : Lists) (l : List ℕ) → left_in w p ≡ l → first w l p ≡ got a q → Entry w a p q
first_sound w a p q [] e h = never h
first_sound w a p q (b ∷ l) e h =
    let i : b ≡ a = cc in
    let j : put_in w p l ≡ q = cc in
    subst (Entry w a p) j (first_stands w a l p (e ∙ ap (λ (n : ℕ). n ∷ l) i))

pub first_complete : (w : Which) (a : ℕ) (p q : Lists) → Entry w a p q → first w (left_in w p) p ≡ got a q
first_complete word a p q l = rw l.words (ap (λ (ns : List ℕ). got a (lists_of q.words ns)) l.numbers)
first_complete number a p q l = rw l.numbers (ap (λ (ws : List ℕ). got a (lists_of ws q.numbers)) l.words)

pub first_fielded : (w : Which) (l : List ℕ) (p : Lists) → Fielded (first w l p)
first_fielded w [] p = tt
first_fielded w (a ∷ l) p = tt

-- the next entry of a list; refused where none is left
unfoldable pub entry : Which → Format lists ℕ
entry w =
    record {
      read = λ γ p. first w (left_in w p) p;
      lays = λ γ a p q. Entry w a p q;
      sound = λ γ a p q e. first_sound w a p q (left_in w p) refl e;
      complete = λ γ a p q l. first_complete w a p q l;
      grows = λ γ p. tt;
      frame = λ γ δ p h. refl;
      short = λ γ p. false;
      why = λ γ p e. never_true e;
      longer = λ γ δ p h e. refl;
      fielded = λ γ p. first_fielded w (left_in w p) p;
    }

-- ---- a switch: the word 0 or 1
unfoldable pub switch_of : ℕ → Format lists Bool
switch_of zero = pure false
switch_of (suc zero) = pure true
switch_of (suc (suc n)) = refuse CountTooLarge tt

unfoldable pub switch_read : Format lists Bool
switch_read = do
  n ← entry word
  switch_of n

abbrev pub Switch : Bool → Lists → Lists → Type 0
Switch b = Stands (bit b ∷ []) []

pub switch_to : (γ : Unit {0}) (b : Bool) (p q : Lists) → switch_read.lays γ b p q → Switch b p q
unfolding switch_read switch_of entry pure refuse ◌>>=◌
switch_to γ b p q l = go l.0 l.2 l.3
  where
    go : (n : ℕ) → Entry word n p l.1 → (switch_of n).lays γ b l.1 q → Switch b p q
    go zero e m = rw (m.0, m.1) e
    go (suc zero) e m = rw (m.0, m.1) e
    go (suc (suc n)) e m = absurd m

pub switch_from : (γ : Unit {0}) (b : Bool) (p q : Lists) → Switch b p q → switch_read.lays γ b p q
unfolding switch_read switch_of entry pure ◌>>=◌
switch_from γ true p q l = (1, q, l, (refl, refl))
switch_from γ false p q l = (0, q, l, (refl, refl))

unfoldable pub switch : Format lists Bool
switch = relay switch_read (λ γ. Switch) switch_to switch_from

-- ---- a count: a word that is not above its cap
module _ (cap : ℕ) where
  unfoldable pub count_read : Format lists ℕ
  count_read = do
    n ← entry word
    either (leb n cap) (pure n) (refuse CountTooLarge tt)

  abbrev pub Count : ℕ → Lists → Lists → Type 0
  Count n p q = (n ≤ cap) × Stands (n ∷ []) [] p q

  pub count_to : (γ : Unit {0}) (n : ℕ) (p q : Lists) → count_read.lays γ n p q → Count n p q
  unfolding count_read entry either pure refuse ◌>>=◌
  count_to γ n p q l = go (leb l.0 cap) refl l.3
    where
      go : (s : Bool) → leb l.0 cap ≡ s → (either {M = lists} s (pure l.0) (refuse CountTooLarge tt)).lays γ n l.1 q → Count n p q
      go true e m = rw (m.0, m.1) (leb-true l.0 cap e, l.2)
      go false e m = absurd m

  pub count_from : (γ : Unit {0}) (n : ℕ) (p q : Lists) → Count n p q → count_read.lays γ n p q
  unfolding count_read entry either pure ◌>>=◌
  count_from γ n p q l = (n, q, l.1, rw (le-leb n cap l.0) (refl, refl))

  unfoldable pub count : Format lists ℕ
  count = relay count_read (λ γ. Count) count_to count_from
