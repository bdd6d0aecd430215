-- Demand 3 for hatch calls, sentence by sentence: what it says; that every call meets it is proved in proofs/Demand3. Assumes nothing.
use Rattle.std.specs.Prelude.{Some, ◌≡◌, List, ℕ, ◌≤◌, max, length}
use Rattle.bitcursor.specs.declared.Refusal.{Refusal}
use Rattle.loads.specs.Bits.{size, Alike, limit}
use Rattle.bitcursor.specs.Reading.{got, refused}
use Rattle.bitcursor.specs.Code.{Moves}
use Rattle.bitcursor.specs.Inputs.{Places}
use Rattle.text.specs.declared.version.Version.{Version}
use Rattle.text.specs.Releases.{version_of}
use Rattle.hatch_format.specs.Values.{Body}
use Rattle.hatch_format.specs.Layouts.{BodyLaid}
use Rattle.hatch_format.specs.Entries.{words, numbers}
use Rattle.hatch_format.specs.Call.{Strings, none, lent}
use Rattle.hatch_format.specs.Call.{Call, payloads_of, starts_of, hatch_call}

-- "its release is known, its payloads are within document 01's limit and, from the start bits, begin with a layout of a hatch body for that
-- release .., and both lists are long enough"
pub record HatchLaid (c : Call) (a : Body) (q : Places) : Type 0 where
  pub version : Version
  pub known : version_of c.release ≡ Some version
  pub main_within : length c.main ≤ limit
  pub string_within : length (payloads_of c).string ≤ limit
  pub main_start : c.start ≤ size c.main
  pub string_start : (starts_of c).string ≤ size (payloads_of c).string
  pub laid : BodyLaid c.caps c.handles version (payloads_of c) a (starts_of c) q
  pub words_fit : length (words a.rest) ≤ c.words
  pub numbers_fit : length (numbers a.rest) ≤ c.numbers

module _ (c : Call) where
  -- "every other hatch call is refused": there is a layout and its reading, or a refusal and no layout
  pub data ReadOrRefused : Type 0 where
    reading : (a : Body) (q : Places) → HatchLaid c a q → hatch_call c ≡ got a q → ReadOrRefused
    refusal : (n : Refusal) (q : Places) → hatch_call c ≡ refused n q → ((a : Body) (r : Places) → HatchLaid c a r → ⊥) → ReadOrRefused

  -- final places never lie before the starts nor past the payloads, but for a start that is past its payload itself: there the main place
  -- is that start, and the string's is that start or the payload's end
  pub record FinalPlaces (q : Places) : Type 0 where
    pub main : Moves c.main c.start q.main
    pub string_onward : (starts_of c).string ≤ size (payloads_of c).string → (starts_of c).string ≤ q.string
    pub string_inside : q.string ≤ max (starts_of c).string (size (payloads_of c).string)

-- "two hatch calls alike in release, start bits, reader or none, its end bit, payload lengths, list lengths and every bit before" the places q;
-- and in their caps, and in where their handles lie
pub data AlikeStrings : Strings → Strings → ℕ → Type 0 where
  both_none : {n : ℕ} → AlikeStrings none none n
  both_lent : {xs ys : List ℕ} {start end n : ℕ} → Alike xs ys n → AlikeStrings (lent xs start end) (lent ys start end) n

pub record AlikeCalls (c d : Call) (q : Places) : Type 0 where
  pub release : d.release ≡ c.release
  pub start : d.start ≡ c.start
  pub caps : d.caps ≡ c.caps
  pub handles : d.handles ≡ c.handles
  pub words : d.words ≡ c.words
  pub numbers : d.numbers ≡ c.numbers
  pub main : Alike c.main d.main q.main
  pub strings : AlikeStrings c.strings d.strings q.string
