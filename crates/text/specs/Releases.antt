-- Document 01's numbers of the seven releases. Assumes nothing.
use Rattle.std.specs.Prelude.{ℕ, zero, suc, Option, Some, None, Result, Ok, Err}
use Rattle.bitcursor.specs.declared.Refusal.{Refusal}
use Rattle.bitcursor.specs.declared.Refusal.TheVariants.{UnknownRelease}
use Rattle.bitcursor.specs.declared.Refused.{Refused}
use Rattle.text.specs.declared.version.Version.{Version}
use Rattle.text.specs.declared.version.Version.TheVariants.{R14, R2000, R2004, R2007, R2010, R2013, R2018}

abbrev pub release_number : Version → ℕ
release_number R14 = 1
release_number R2000 = 2
release_number R2004 = 3
release_number R2007 = 4
release_number R2010 = 5
release_number R2013 = 6
release_number R2018 = 7

-- the release of a number, if it is 1 to 7
abbrev pub version_of : ℕ → Option Version
version_of zero = None
version_of (suc zero) = Some R14
version_of (suc (suc zero)) = Some R2000
version_of (suc (suc (suc zero))) = Some R2004
version_of (suc (suc (suc (suc zero)))) = Some R2007
version_of (suc (suc (suc (suc (suc zero))))) = Some R2010
version_of (suc (suc (suc (suc (suc (suc zero)))))) = Some R2013
version_of (suc (suc (suc (suc (suc (suc (suc zero))))))) = Some R2018
version_of (suc (suc (suc (suc (suc (suc (suc (suc n)))))))) = None

-- the release, or refusal 9
abbrev pub known : Option Version → Result Version Refusal
known (Some v) = Ok v
known None = Err UnknownRelease

-- the same at a place
abbrev pub known_at : {P : Type 0} → Option Version → P → Result Version (Refused P)
known_at (Some v) p = Ok v
known_at None p = Err (record { refusal = UnknownRelease; place = p })
