-- The two highest bits of the word are the tag, and each tag picks what the table has for it.
use mathlib.Core.Path.{◌≡◌, sym, ap, ◌∙◌}
use mathlib.Core.List.{List}
use Prim.Native.Nat.{ℕ, ◌+◌, ◌*◌, ◌/◌, ◌^◌, ◌≤◌}
use native.Mathlib.Omega.{arith}
use lib.ListN.{length}
use Rattle.bitcursor.specs.declared.Refusal.TheVariants.{ReservedTag}
use Rattle.bitcursor.specs.Reading.{got, refused}
use Rattle.bitcursor.specs.Answers.{outcome}
use Rattle.bitcursor.specs.Code.{tabled, give, refuse, raw}
use Rattle.bitcursor.specs.Bytes.{low_first, raw_there}
use Rattle.loads.specs.Bytes.{low_number, bytes_at}
use Rattle.bitcursor.specs.Stops.{low_there}
use Rattle.bitcursor.specs.Doubles.{BD, BD_read, one_pattern}
use Rattle.bitcursor.proofs.Steps.{tag_00, tag_01, tag_10, tag_11}
use Rattle.loads.proofs.LoadLaws.{top, top_two}
use Rattle.std.proofs.Common.{rules}
use Rattle.bitcursor.proofs.within.read_bd_there.Goals as goal

-- x is the word with the tag on top; its two bits pick
module _ (s : List ℕ) (at x : ℕ) (fits : at / 8 + 10 ≤ length s) (e : x ≡ top s at) where
  tag_read : got (x / 2 ^ 62) (at + 2) ≡ (raw 2).read s at
  tag_read = rw (e, top_two s at (omega arith)) (sym (raw_there 2 s at (omega arith)))

  full : x / 2 ^ 62 ≡ 0 → BD.read s at ≡ got (low_number (bytes_at s (at + 2) 8)) (at + 66)
  unfolding BD tabled BD_read
  full z =
      let p : at + 2 + 8 * 8 ≡ at + 66 = omega arith in
      tag_00 (low_first 8) (give one_pattern) (give 0) (refuse ReservedTag tt) s at tag_read z
      ∙ low_there 8 s (at + 2) (omega arith) ∙ ap (got (low_number (bytes_at s (at + 2) 8))) p

  one : x / 2 ^ 62 ≡ 1 → BD.read s at ≡ got one_pattern (at + 2)
  unfolding BD tabled BD_read give
  one z = tag_01 (low_first 8) (give one_pattern) (give 0) (refuse ReservedTag tt) s at tag_read z

  none : x / 2 ^ 62 ≡ 2 → BD.read s at ≡ got 0 (at + 2)
  unfolding BD tabled BD_read give
  none z = tag_10 (low_first 8) (give one_pattern) (give 0) (refuse ReservedTag tt) s at tag_read z

  reserved : (x / 2 ^ 62 ≡ 0 → ⊥) → (x / 2 ^ 62 ≡ 1 → ⊥) → (x / 2 ^ 62 ≡ 2 → ⊥) → BD.read s at ≡ refused ReservedTag (at + 2)
  unfolding BD tabled BD_read refuse
  reserved h₀ h₁ h₂ = tag_11 (low_first 8) (give one_pattern) (give 0) (refuse ReservedTag tt) s at tag_read h₀ h₁ h₂

-- the same of the payload whose bytes are s
reading_of : {xs s : List ℕ} (at : ℕ) → s ≡ xs → (BD).read s at ≡ (BD).read xs at
reading_of at e = ap (λ (ys : List ℕ). (BD).read ys at) e

pub returns-in-0 : goal.returns-in-0
returns-in-0 c =
    let word = c.top_at-top in
    let a = c.args in
    let s = c.bytes-bytes.result.now in
    let is = c.bytes-bytes.ensures.all in
    ap (λ (v : ℕ). got v (a.at + 66)) c.low_behind.ensures
    ∙ sym (full s a.at word.result (omega (arith, ap length is)) word.ensures c.in-0.is) ∙ reading_of a.at is

pub returns-in-1 : goal.returns-in-1
returns-in-1 c =
    let word = c.top_at-top in
    let a = c.args in
    let s = c.bytes-bytes.result.now in
    let is = c.bytes-bytes.ensures.all in
    sym (one s a.at word.result (omega (arith, ap length is)) word.ensures c.in-1.is) ∙ reading_of a.at is

pub returns-in-2 : goal.returns-in-2
returns-in-2 c =
    let word = c.top_at-top in
    let a = c.args in
    let s = c.bytes-bytes.result.now in
    let is = c.bytes-bytes.ensures.all in
    sym (none s a.at word.result (omega (arith, ap length is)) word.ensures c.in-2.is) ∙ reading_of a.at is

pub returns-in_default : goal.returns-in_default
returns-in_default c =
    let word = c.top_at-top in
    let a = c.args in
    let s = c.bytes-bytes.result.now in
    let is = c.bytes-bytes.ensures.all in
    ap outcome c.refuse.ensures
    ∙ sym (reserved s a.at word.result (omega (arith, ap length is)) word.ensures (search rules) (search rules) (search rules)) ∙ reading_of a.at is
