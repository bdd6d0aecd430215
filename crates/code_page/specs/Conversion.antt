-- A lent list converted into another, either way: what a call answers, and every entry of the output afterwards. Assumes nothing.
use Rattle.std.specs.Prelude.{◌≡◌, Bool, true, false, Option, Some, None, Result, Ok, Err, List, [], ◌∷◌, ◌++◌, ℕ, ltb, length, drop}
use Rattle.code_page.specs.declared.refusal.ConversionRefusal.{ConversionRefusal}
use Rattle.code_page.specs.declared.refusal.ConversionRefusal.TheVariants.{UndefinedCharacter, OutputTooShort}

-- the numbers of document 02's table
abbrev pub conversion_refusal_number : ConversionRefusal → ℕ
conversion_refusal_number UndefinedCharacter = 14
conversion_refusal_number OutputTooShort = 11

-- ---- all entries of a list mapped, or none of them where one is undefined
abbrev pub joined : {B : Type 0} → Option B → Option (List B) → Option (List B)
joined None rest = None
joined (Some y) None = None
joined (Some y) (Some ys) = Some (y ∷ ys)

abbrev pub mapped_all : {A B : Type 0} → (A → Option B) → List A → Option (List B)
mapped_all f [] = Some []
mapped_all f (x ∷ xs) = joined (f x) (mapped_all f xs)

-- ---- a call's outcome, what is written or why not: 14 for an entry that is undefined, then 11 for an output shorter than the input
abbrev pub Conversion : Type 0 → Type 0
Conversion B = Result (List B) ConversionRefusal

abbrev pub with_room : {B : Type 0} → Bool → Option (List B) → Conversion B
with_room short None = Err UndefinedCharacter
with_room true (Some ys) = Err OutputTooShort
with_room false (Some ys) = Ok ys

unfoldable pub conversion : {A B : Type 0} → (A → Option B) → List A → ℕ → Conversion B
conversion f xs room = with_room (ltb room (length xs)) (mapped_all f xs)

-- the output afterwards: entries past those written stay; on a refusal all stay
abbrev pub after : {B : Type 0} → Conversion B → List B → List B
after (Ok ys) out = ys ++ drop (length ys) out
after (Err k) out = out

-- ---- what a call ensures: its answer with how many were written, and every entry of the output before and after it
abbrev pub answer_of : {B : Type 0} → Conversion B → Result ℕ ConversionRefusal
answer_of (Ok ys) = Ok (length ys)
answer_of (Err k) = Err k

abbrev pub Converts : {A B : Type 0} → (A → Option B) → List A → Result ℕ ConversionRefusal → (out out' : List B) → Type 0
Converts f xs r out out' = let o = conversion f xs (length out) in (r ≡ answer_of o) × (out' ≡ after o out)
