-- What one call wrote, the other gives back, into every output that is long enough: over any two mappings, and units after bytes. Bytes after units are in
-- proofs/ThereAndBack.antt. Assumes nothing.
use Rattle.std.proofs.Math.Path.{◌≡◌, refl, ap}
use Rattle.std.proofs.Common.{◌∙◌, arith, take_at}
use Rattle.std.specs.Prelude.{Bool, Option, Some, None, Ok, List, ℕ, ◌≤◌, ltb, take, drop}
use Rattle.std.proofs.Math.Bool.{true, false}
use Rattle.std.proofs.Math.ListN.{length}
use borrow.Author.Tests.{le-ltb}
use Rattle.code_page.specs.Mapping.{unit_of, byte_of}
use Rattle.code_page.specs.Conversion.{mapped_all, with_room, conversion, after}
use Rattle.code_page.specs.Inverse.{there}
use Rattle.code_page.specs.MappedLists.{all_length, mapped_back}

-- over any two mappings of which the second undoes the first: one law for both ways
module _ (f g : ℕ → Option ℕ) (inverse : (x y : ℕ) → f x ≡ Some y → g y ≡ Some x) (xs ys out : List ℕ)
    (converted : conversion f xs (length out) ≡ Ok ys) where
  mapped : mapped_all f xs ≡ Some ys
  unfolding conversion
  mapped = go (mapped_all f xs) refl (ltb (length out) (length xs)) converted
    where
      go : (m : Option (List ℕ)) → mapped_all f xs ≡ m → (s : Bool) → with_room s m ≡ Ok ys → mapped_all f xs ≡ Some ys
      go None e s h = cc
      go (Some zs) e true h = cc
      go (Some zs) e false h = let same : zs ≡ ys = cc in e ∙ ap Some same

  -- what was written stands at the front of the output
  written : take (length xs) (after (conversion f xs (length out)) out) ≡ ys
  written = rw converted (take_at ys (drop (length ys) out) (length xs) (all_length f xs ys mapped))

  pub undone : (room : ℕ) → length xs ≤ room → conversion g (take (length xs) (after (conversion f xs (length out)) out)) room ≡ Ok xs
  unfolding conversion
  undone room h =
      let long : length ys ≤ room = omega (arith, all_length f xs ys mapped) in
      rw (written, mapped_back f g inverse xs ys mapped, le-ltb room (length ys) long)

module _ (units bytes out : List ℕ) (room : ℕ) (h : length units ≤ room) where
  pub there_after_back : conversion byte_of units (length out) ≡ Ok bytes
      → conversion unit_of (take (length units) (after (conversion byte_of units (length out)) out)) room ≡ Ok units
  there_after_back e = undone byte_of unit_of there units bytes out e room h
