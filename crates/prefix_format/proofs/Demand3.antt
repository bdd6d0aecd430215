-- Demand 3 for prefix calls: theorems about the call's own definition, on any bytes, any start and any release number. Assumes nothing.
use Rattle.std.specs.Prelude.{◌≡◌, Bool, List, ◌↔◌, ℕ, length, Option, Some, None}
use Rattle.std.proofs.Math.Path.{refl}
use Rattle.std.proofs.Common.{sym, ap, ◌∙◌}
use Rattle.std.proofs.Math.Bool.{true, false}
use Rattle.std.proofs.Math.Dec.{leb, leb→le}
use borrow.Author.Tests.{le-leb}
use Rattle.bitcursor.specs.declared.Refusal.{Refusal}
use Rattle.bitcursor.specs.declared.Refusal.TheVariants.{PayloadTooLong, UnknownRelease}
use Rattle.loads.specs.Bits.{Alike, limit}
use Rattle.bitcursor.specs.Reading.{Out, got, refused, place, never}
use Rattle.bitcursor.specs.Code.{Moves, stay}
use Rattle.bitcursor.specs.Format.{relay}
use Rattle.bitcursor.specs.Answers.{limited}
use Rattle.text.specs.declared.version.Version.{Version}
use Rattle.text.specs.Releases.{version_of}
use Rattle.text.specs.Answers.{released}
use Rattle.prefix_format.specs.declared.CommonEntityData.{CommonEntityData}
use Rattle.prefix_format.proofs.Format.{prefix}
use Rattle.prefix_format.specs.Call.{prefix_call}
use Rattle.prefix_format.specs.Demand3.{PrefixLaid}

-- what a call is, by whether the release is known and whether the payload is within the limit
abbrev by : Option Version → Bool → List ℕ → ℕ → Out ℕ (CommonEntityData ℕ)
by None b xs p = refused UnknownRelease p
by (Some v) true xs p = (prefix v).read xs p
by (Some v) false xs p = refused PayloadTooLong p

-- a call's fields are read as the certified prefix reads them
pub by_certified : (release : ℕ) (xs : List ℕ) (p : ℕ) → prefix_call release xs p ≡ released (λ v. limited (prefix v).read) (version_of release) xs p
unfolding prefix_call prefix relay
by_certified release xs p = refl

call_by : (release : ℕ) (xs : List ℕ) (p : ℕ) → prefix_call release xs p ≡ by (version_of release) (leb (length xs) limit) xs p
unfolding prefix_call released limited prefix relay
call_by release xs p = go (version_of release) (leb (length xs) limit) refl
  where
    go : (m : Option Version) (b : Bool) → leb (length xs) limit ≡ b → released (λ v. limited (prefix v).read) m xs p ≡ by m b xs p
    go None b e = refl
    go (Some v) true e = rw (e, limited)
    go (Some v) false e = rw (e, limited)

module _ (release : ℕ) (xs : List ℕ) (p : ℕ) where
  sound : (d : CommonEntityData ℕ) (q : ℕ) → prefix_call release xs p ≡ got d q → PrefixLaid release xs d p q
  unfolding prefix relay
  sound d q e = go (version_of release) (leb (length xs) limit) refl refl (sym (call_by release xs p) ∙ e)
    where
      go : (m : Option Version) (b : Bool) → version_of release ≡ m → leb (length xs) limit ≡ b → by m b xs p ≡ got d q → PrefixLaid release xs d p q
      go None b em eb h = never h
      go (Some v) false em eb h = never h
      go (Some v) true em eb h = record { version = v; known = em; within = leb→le _ _ (rw eb tt); laid = (prefix v).sound xs d p q h }

  complete : (d : CommonEntityData ℕ) (q : ℕ) → PrefixLaid release xs d p q → prefix_call release xs p ≡ got d q
  unfolding prefix relay
  complete d q l =
      call_by release xs p ∙ rw (l.known, le-leb _ _ l.within) ((prefix l.version).complete xs d p q l.laid)

  -- a reading exactly where there is a layout; the record is what was laid out, and the final place is where the layout ends
  pub read_iff_laid : (d : CommonEntityData ℕ) (q : ℕ) → prefix_call release xs p ≡ got d q ↔ PrefixLaid release xs d p q
  read_iff_laid d q = (sound d q, complete d q)

  -- what is laid out from a start is one record, and ends at one place
  pub laid_once : (d e : CommonEntityData ℕ) (q r : ℕ) → PrefixLaid release xs d p q → PrefixLaid release xs e p r → (d ≡ e) × (q ≡ r)
  laid_once d e q r l m =
      let h = complete d q l in
      let k = complete e r m in
      (cc, cc)

  -- a refusal: nothing is laid out from there
  pub refused_none : (n : Refusal) (q : ℕ) → prefix_call release xs p ≡ refused n q → (d : CommonEntityData ℕ) (r : ℕ) → PrefixLaid release xs d p r → ⊥
  refused_none n q e d r l = never (sym e ∙ complete d r l)

  -- the final place, of a reading and of a refusal, does not lie before the start, nor past a payload that the start is in
  pub final_place : Moves xs p (place (prefix_call release xs p))
  final_place = rw (call_by release xs p) (go (version_of release) (leb (length xs) limit))
    where
      go : (m : Option Version) (b : Bool) → Moves xs p (place (by m b xs p))
      go None b = stay xs p
      go (Some v) true = (prefix v).grows xs p
      go (Some v) false = stay xs p

  -- two calls alike in release, start, payload length and every bit before the first call's final place give the same reading or the
  -- same refusal, and the same final place
  pub alike_same : (ys : List ℕ) → Alike xs ys (place (prefix_call release xs p)) → prefix_call release ys p ≡ prefix_call release xs p
  alike_same ys h =
      call_by release ys p ∙ ap (λ (n : ℕ). by (version_of release) (leb n limit) ys p) h.lengths
      ∙ go (version_of release) (leb (length xs) limit) (rw (call_by release xs p) at h) ∙ sym (call_by release xs p)
    where
      go : (m : Option Version) (b : Bool) → Alike xs ys (place (by m b xs p)) → by m b ys p ≡ by m b xs p
      go None b k = refl
      go (Some v) true k = (prefix v).frame xs ys p k
      go (Some v) false k = refl
