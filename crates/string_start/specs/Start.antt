-- Where a string reader starts (document 01, string_stream.rs; document 02, L4), by the payload's length in bits and the start bit alone: no bit of the
-- payload is given, so none is looked at. Assumes nothing.
use Rattle.std.specs.Prelude.{◌≡◌, refl, Bool, true, false, ℕ, ◌≤◌, ◌<◌, leb}
use Rattle.std.proofs.Common.{arith, leb→le, le-leb, leb-false}
use Rattle.std.proofs.lemmas.Bool.{lt-leb}
use Rattle.bitcursor.specs.declared.Refusal.{Refusal}
use Rattle.bitcursor.specs.declared.Refusal.TheVariants.{TooFewBits}
use Rattle.bitcursor.specs.Reading.{Out, got, refused, never}

-- within the payload the reader stands at the start; past it refusal 1 at the payload's end
abbrev pub start_by : (bits start : ℕ) → (within : Bool) → Out ℕ (Unit {0})
start_by bits start true = got tt start
start_by bits start false = refused TooFewBits bits

-- the one test: a start is within a payload of so many bits up to its length, that included
abbrev pub start_in : (bits start : ℕ) → Out ℕ (Unit {0})
start_in bits start = start_by bits start (leb start bits)

module _ (bits start : ℕ) where
  pub inside : start ≤ bits → start_in bits start ≡ got tt start
  inside h = rw (le-leb _ _ h)

  pub past : bits < start → start_in bits start ≡ refused TooFewBits bits
  past h = rw (lt-leb _ _ h)

  -- a reader that stands somewhere stands at its start, which is within the payload
  pub stands : (u : Unit {0}) (q : ℕ) → start_in bits start ≡ got u q → (q ≡ start) × (start ≤ bits)
  stands u q e = go (leb start bits) refl e
    where
      go : (b : Bool) → leb start bits ≡ b → start_by bits start b ≡ got u q → (q ≡ start) × (start ≤ bits)
      go true f h = (cc, leb→le start bits (rw f tt))
      go false f h = never h

  -- a start is refused for being past the payload alone
  pub refused_past : (k : Refusal) (q : ℕ) → start_in bits start ≡ refused k q → (k ≡ TooFewBits) × ((q ≡ bits) × (bits < start))
  refused_past k q e = go (leb start bits) refl e
    where
      go : (b : Bool) → leb start bits ≡ b → start_by bits start b ≡ refused k q → (k ≡ TooFewBits) × ((q ≡ bits) × (bits < start))
      go true f h = let z : ◌≡◌ {A = ℕ} 0 1 = cc in absurd (omega arith)
      go false f h = (cc, (cc, leb-false start bits f))
