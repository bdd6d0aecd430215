-- A body as its parts, which a call's functions hand on, and the room that the lists must have. Assumes nothing.
use Rattle.std.specs.Prelude.{◌≡◌, Bool, true, false, ◌&&◌, List, ℕ, ◌^◌, ◌≤◌, ◌<◌, leb, length, Result, Ok, Err}
use Rattle.loads.specs.Bits.{limit}
use Rattle.bitcursor.specs.declared.Refused.{Refused}
use Rattle.bitcursor.specs.declared.Refusal.TheVariants.{ListTooShort}
use Rattle.bitcursor.specs.Reading.{Out, got, refused}
use Rattle.bitcursor.specs.Inputs.{Places}
use Rattle.hatch_format.specs.Values.{Body, Rest as RestValue}
use Rattle.hatch_points.specs.declared.lists.Sizes.{Sizes}
use Rattle.hatch_points.specs.Lists.{Lists, store, grow}
use Rattle.hatch_rest.specs.Rests.{no_sizes, rest_of, SolidBlank, rest_entries}
use Rattle.hatch_front.specs.declared.Front.{Front}
use Rattle.hatch_front.specs.Answers.{FillAt, num_colors, front_of}
use Rattle.hatch_body.specs.declared.Parts.{Parts}

-- ---- a body's parts; its colours stand from `at` on
abbrev pub parts_of : ℕ → Body → Places → Parts
parts_of at a q =
    record {
      front = front_of at (record { gradient = a.gradient; plane = a.plane; name = a.name });
      rest = rest_of a.rest;
      used = grow no_sizes (rest_entries a.rest);
      places = q;
    }

-- what is answered for a reading or a refusal
abbrev pub BodyIs : List ℕ → Out Places Body → Result Parts (Refused Places) → Type 0
BodyIs xs (got a q) r = (at : ℕ) × (r ≡ Ok (parts_of at a q)) × FillAt xs at a.gradient × SolidBlank a.rest
BodyIs xs (refused k q) r = r ≡ Err (record { refusal = k; place = q })

-- small enough for the record's fields, and the payload, of which colours are read again, within the limit
abbrev pub Small : Parts → Type 0
Small a = (num_colors a.front.gradient ≤ 16) × ((a.rest.tail.style < 2 ^ 16) × (a.rest.tail.kind < 2 ^ 16))

abbrev pub Readable : List ℕ → Result Parts (Refused Places) → Type 0
Readable xs (Ok a) = (length xs ≤ limit) × Small a
Readable xs (Err e) = Unit {0}

-- ---- the rest behind a front, whose main place it starts from
abbrev pub placed : Places → ℕ → Places
placed p q = record { main = q; string = p.string }

-- both lists are empty
abbrev pub none_lent : ℕ → ℕ → Bool
none_lent numbers words = leb numbers 0 && leb words 0

-- both lists are long enough for what the walk used
abbrev pub long_enough : ℕ → ℕ → Sizes → Bool
long_enough nw nn z = leb z.words nw && leb z.numbers nn

abbrev pub parts_if : Bool → Front → RestValue → Places → Result Parts (Refused Places)
parts_if true f a p = Ok (record { front = f; rest = rest_of a; used = grow no_sizes (rest_entries a); places = p })
parts_if false f a p = Err (record { refusal = ListTooShort; place = p })

abbrev pub rest_read : Front → ℕ → ℕ → Places → Out ℕ RestValue → Result Parts (Refused Places)
rest_read f nw nn p (got a q) = parts_if (long_enough nw nn (grow no_sizes (rest_entries a))) f a (placed p q)
rest_read f nw nn p (refused k q) = Err (record { refusal = k; place = placed p q })

-- the lists are as they were but where the body is read, and then they hold its entries
module _ {N : Type 0} (of : ℕ → N) where
  abbrev pub laid_if : Bool → Lists N → RestValue → Lists N
  laid_if true l a = store of l no_sizes (rest_entries a)
  laid_if false l a = l

  abbrev pub rest_lists : Lists N → ℕ → ℕ → Out ℕ RestValue → Lists N
  rest_lists l nw nn (got a q) = laid_if (long_enough nw nn (grow no_sizes (rest_entries a))) l a
  rest_lists l nw nn (refused k q) = l
