-- What each code without a tag and each signed code reads, by the reading of what it is over; and what proves the calls: a payload within the limit is read
-- as `within` reads it, one above the limit is refused. Assumes nothing.
use Rattle.std.specs.Prelude.{◌≡◌, refl, List, ℕ, eqb}
use Rattle.bitcursor.specs.Code.{raw, mapped, tabled}
use Rattle.bitcursor.specs.Bytes.{low_first}
use Rattle.bitcursor.specs.Codes.{B, B_read, BB, «3B», RC, RS, RL, RD, BS, BL, signed, signed_BS, signed_BL}
pub use Rattle.bitcursor.proofs.Steps.{reading, limit_within, limit_above}
pub use Rattle.bitcursor.proofs.Smalls.{smalls}

module _ (xs : List ℕ) (p : ℕ) where
  pub B_reads : B.read xs p ≡ (mapped (eqb 1) (raw 1)).read xs p
  unfolding B tabled B_read
  B_reads = refl

  pub BB_reads : BB.read xs p ≡ (raw 2).read xs p
  unfolding BB
  BB_reads = refl

  pub three_reads : «3B».read xs p ≡ (raw 3).read xs p
  unfolding «3B»
  three_reads = refl

  pub RC_reads : RC.read xs p ≡ (low_first 1).read xs p
  unfolding RC
  RC_reads = refl

  pub RS_reads : RS.read xs p ≡ (mapped (signed 16) (low_first 2)).read xs p
  unfolding RS
  RS_reads = refl

  pub RL_reads : RL.read xs p ≡ (low_first 4).read xs p
  unfolding RL
  RL_reads = refl

  pub RD_reads : RD.read xs p ≡ (low_first 8).read xs p
  unfolding RD
  RD_reads = refl

  pub BS_signed_reads : signed_BS.read xs p ≡ (mapped (signed 16) BS).read xs p
  unfolding signed_BS
  BS_signed_reads = refl

  pub BL_signed_reads : signed_BL.read xs p ≡ (mapped (signed 32) BL).read xs p
  unfolding signed_BL
  BL_signed_reads = refl

pub ruleset readings = (B_reads, BB_reads, three_reads, RC_reads, RS_reads, RL_reads, RD_reads, BS_signed_reads, BL_signed_reads)

pub ruleset calls = (reading, readings, smalls, limit_within, limit_above)
