-- The numbers of document 01's table, "Why a reading stops". Assumes nothing.
use Rattle.std.specs.Prelude.{ℕ}
use Rattle.bitcursor.specs.declared.Refusal.{Refusal}
use Rattle.bitcursor.specs.declared.Refusal.TheVariants.{TooFewBits, ReservedTag, CountTooLarge, EdgeKind, HandleCounter, TextPastEnd, NotUtf16}
use Rattle.bitcursor.specs.declared.Refusal.TheVariants.{TooManyXdataBlocks, UnknownRelease, PayloadTooLong, ListTooShort}

abbrev pub refusal_number : Refusal → ℕ
refusal_number TooFewBits = 1
refusal_number ReservedTag = 2
refusal_number CountTooLarge = 3
refusal_number EdgeKind = 4
refusal_number HandleCounter = 5
refusal_number TextPastEnd = 6
refusal_number NotUtf16 = 7
refusal_number TooManyXdataBlocks = 8
refusal_number UnknownRelease = 9
refusal_number PayloadTooLong = 10
refusal_number ListTooShort = 11

-- the refusals that a reading of fields gives, 1 to 8: 9, 10 and 11 are a call's, before its fields and behind them
abbrev pub OfFields : Refusal → Type 0
OfFields TooFewBits = Unit {0}
OfFields ReservedTag = Unit {0}
OfFields CountTooLarge = Unit {0}
OfFields EdgeKind = Unit {0}
OfFields HandleCounter = Unit {0}
OfFields TextPastEnd = Unit {0}
OfFields NotUtf16 = Unit {0}
OfFields TooManyXdataBlocks = Unit {0}
OfFields UnknownRelease = ⊥
OfFields PayloadTooLong = ⊥
OfFields ListTooShort = ⊥
