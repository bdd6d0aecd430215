-- What formats read from: one payload, or the main payload and the string payload of a reader where one is lent. Assumes nothing.
use Rattle.std.specs.Prelude.{◌≡◌, refl, Bool, List, ℕ}
use Rattle.std.proofs.Common.{ap₂}
use Rattle.loads.specs.Bits.{Alike, Begins}
use Rattle.loads.specs.BitLaws.{alike_down}
use Rattle.bitcursor.specs.Code.{Moves, stay, moves_then}
use Rattle.bitcursor.specs.Format.{Input}
use Rattle.bitcursor.specs.declared.places.Places.{Places as CodePlaces}

-- one payload and a bit number in it
abbrev pub one : Input
one =
    record {
      Bytes = List ℕ;
      Place = ℕ;
      Onward = Moves;
      Agree = Alike;
      Longer = Begins;
      Known = Unit {0};
      known = λ xs. tt;
      stay = stay;
      further = λ xs p q r h k. moves_then h k;
      before = λ xs ys p q h a. alike_down h.onward a;
      agree_known = λ xs ys p h. refl;
      longer_known = λ xs ys h. refl;
    }

-- a place in each payload; without a reader the second is 0
abbrev pub Places : Type 0
Places = CodePlaces

-- both payloads, whether a string reader is lent, and its end bit
pub record Payloads : Type 0 where
  pub main : List ℕ
  pub string : List ℕ
  pub reader : Bool
  pub end : ℕ

pub record Onward (γ : Payloads) (p q : Places) : Type 0 where
  pub main : Moves γ.main p.main q.main
  pub string : Moves γ.string p.string q.string

-- alike in lengths, reader or none, end bit, and every bit before the places of q
pub record Agree (γ δ : Payloads) (q : Places) : Type 0 where
  pub main : Alike γ.main δ.main q.main
  pub string : Alike γ.string δ.string q.string
  pub reader : δ.reader ≡ γ.reader
  pub end : δ.end ≡ γ.end

-- each payload begins with the other's, with the same reader or none and end bit
pub record Longer (γ δ : Payloads) : Type 0 where
  pub main : Begins γ.main δ.main
  pub string : Begins γ.string δ.string
  pub reader : δ.reader ≡ γ.reader
  pub end : δ.end ≡ γ.end

-- whether a string reader is lent, and its end bit
pub record Reader : Type 0 where
  pub has_reader : Bool
  pub end : ℕ

abbrev pub reader_of : Bool → ℕ → Reader
reader_of has_reader end = record { has_reader = has_reader; end = end }

pub stay_both : (γ : Payloads) (p : Places) → Onward γ p p
stay_both γ p = record { main = stay γ.main p.main; string = stay γ.string p.string }

pub onward_then : {γ : Payloads} {p q r : Places} → Onward γ p q → Onward γ q r → Onward γ p r
onward_then h k = record { main = moves_then h.main k.main; string = moves_then h.string k.string }

pub agree_down : {γ δ : Payloads} {p q : Places} → Onward γ p q → Agree γ δ q → Agree γ δ p
agree_down h a =
    record {
      main = alike_down h.main.onward a.main;
      string = alike_down h.string.onward a.string;
      reader = a.reader;
      end = a.end;
    }

-- both payloads and a place in each
abbrev pub both : Input
both =
    record {
      Bytes = Payloads;
      Place = Places;
      Onward = Onward;
      Agree = Agree;
      Longer = Longer;
      Known = Reader;
      known = λ γ. reader_of γ.reader γ.end;
      stay = stay_both;
      further = λ γ p q r h k. onward_then h k;
      before = λ γ δ p q h a. agree_down h a;
      agree_known = λ γ δ p h. ap₂ reader_of h.reader h.end;
      longer_known = λ γ δ h. ap₂ reader_of h.reader h.end;
    }
