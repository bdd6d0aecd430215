-- What paths are read from is laid out as specs/Layouts says, and what is so laid out is read. Assumes nothing.
use Rattle.std.specs.Prelude.{◌≡◌, Bool, List, ℕ, ◌+◌}
use Rattle.std.proofs.Math.Path.{refl}
use Rattle.std.proofs.Math.Bool.{true, false}
use Rattle.std.proofs.Common.{le-leb}
use Rattle.std.proofs.Math.Dec.{leb, leb→le}
use Rattle.bitcursor.specs.declared.Refusal.TheVariants.{CountTooLarge}
use Rattle.bitcursor.specs.Codes.{BL}
use Rattle.bitcursor.specs.Format.{pure, refuse, ◌>>=◌, relay, either}
use Rattle.bitcursor.specs.Inputs.{one}
use Rattle.text.specs.declared.version.Version.{Version}
use Rattle.hatch_format.specs.declared.Caps.{Caps}
use Rattle.hatch_format.specs.HandleRule.{Handles, in_payload, in_stream}
use Rattle.hatch_format.specs.Values.{Segments, polyline, edges, Path}
use Rattle.hatch_format.specs.Layouts.{HandlesLaid, SegmentsLaid, PathLaid}
use Rattle.hatch_format.specs.Counts.{capped, bounded, listed}
use Rattle.hatch_format.specs.Points.{vertex}
use Rattle.hatch_format.specs.Edges.{edge}
use Rattle.std.specs.Prelude.{[], ◌∷◌}
use Rattle.bitcursor.specs.Chains.{EachBy}
use Rattle.hatch_format.specs.Paths.{handle_count_read, handle_count, segments_read, segments, path_read}
use Rattle.hatch_format.proofs.Edges.{edge_to, edge_from}

-- items that are laid out in one way are laid out in another that follows from it
pub each_by : {A S P : Type 0} {L M : S → A → P → P → Type 0} (add : S → A → S) → ((s : S) (a : A) (p q : P) → L s a p q → M s a p q)
    → (s : S) (items : List A) (p q : P) → EachBy L add s items p q → EachBy M add s items p q
each_by add f s [] p q l = l
each_by add f s (a ∷ items) p q l = (l.0, f s a p l.0 l.1, each_by add f (add s a) items l.0 q l.2)

module _ (cap : ℕ) where
  pub handle_count_to : (handles : Handles) (sum : ℕ) (xs : List ℕ) (n p q : ℕ)
      → (handle_count_read cap handles sum).lays xs n p q → HandlesLaid xs cap handles sum n p q
  unfolding handle_count_read bounded capped relay ◌>>=◌ either pure refuse
  handle_count_to in_payload sum xs n p q l = l
  handle_count_to (in_stream number) sum xs n p q l = go (leb (sum + l.0) number) refl l.3
    where
      go : (s : Bool) → leb (sum + l.0) number ≡ s → (either {M = one} s (pure l.0) (refuse CountTooLarge tt)).lays xs n l.1 q
          → HandlesLaid xs cap (in_stream number) sum n p q
      go true e m = rw (m.0, m.1) (l.2, leb→le (sum + l.0) number (rw e tt))
      go false e m = absurd m

  pub handle_count_from : (handles : Handles) (sum : ℕ) (xs : List ℕ) (n p q : ℕ)
      → HandlesLaid xs cap handles sum n p q → (handle_count_read cap handles sum).lays xs n p q
  unfolding handle_count_read bounded capped relay ◌>>=◌ either pure
  handle_count_from in_payload sum xs n p q l = l
  handle_count_from (in_stream number) sum xs n p q l = (n, q, l.0, rw (le-leb (sum + n) number l.1) (refl, refl))

  -- in the payload it reads as any count does
  pub handles_bounded : (sum : ℕ) (xs : List ℕ) (p : ℕ) → (handle_count cap in_payload sum).read xs p ≡ (bounded cap BL).read xs p
  unfolding handle_count handle_count_read relay
  handles_bounded sum xs p = refl

module _ (caps : Caps) (v : Version) where
  pub segments_to : (b : Bool) (xs : List ℕ) (a : Segments) (p q : ℕ) → (segments_read caps v b).lays xs a p q → SegmentsLaid xs caps v b a p q
  unfolding segments_read listed vertex edge relay ◌>>=◌ pure
  segments_to true xs a p q l = let e = l.3.3.3 in rw (e.0, e.1) (l.1, l.2, (l.3.1, l.3.2, l.3.3.2))
  segments_to false xs a p q l = rw (l.3.0, l.3.1) (l.2.0, l.2.1, each_by (λ s a. s) (λ s. edge_to caps v xs) tt _ _ _ l.2.2)

  pub segments_from : (b : Bool) (xs : List ℕ) (a : Segments) (p q : ℕ) → SegmentsLaid xs caps v b a p q → (segments_read caps v b).lays xs a p q
  unfolding segments_read listed vertex edge relay ◌>>=◌ pure
  segments_from true xs (polyline bulge closed vertices) p q l =
      (bulge, l.0, l.1, (closed, l.2.0, l.2.1, (vertices, q, l.2.2, (refl, refl))))
  segments_from true xs (edges es) p q l = absurd l
  segments_from false xs (edges es) p q l = (es, q, (l.0, l.1, each_by (λ s a. s) (λ s. edge_from caps v xs) tt _ _ _ l.2), (refl, refl))
  segments_from false xs (polyline bulge closed vertices) p q l = absurd l

module _ (caps : Caps) (handles : Handles) (v : Version) where
  pub path_to : (sum : ℕ) (xs : List ℕ) (a : Path) (p q : ℕ) → (path_read caps handles v sum).lays xs a p q → PathLaid xs caps handles v sum a p q
  unfolding path_read segments handle_count relay ◌>>=◌ pure
  path_to sum xs a p q l = let e = l.3.3.3 in rw (e.0, e.1) (
    l.1,
    l.2,
    (l.3.1, segments_to caps v _ xs _ _ _ l.3.2, handle_count_to caps.boundary_handles handles sum xs _ _ _ l.3.3.2),
  )

  pub path_from : (sum : ℕ) (xs : List ℕ) (a : Path) (p q : ℕ) → PathLaid xs caps handles v sum a p q → (path_read caps handles v sum).lays xs a p q
  unfolding path_read segments handle_count relay ◌>>=◌ pure
  path_from sum xs a p q l = (
    a.flags,
    l.0,
    l.1,
    (
      a.segments,
      l.2.0,
      segments_from caps v _ xs _ _ _ l.2.1,
      (a.boundary_handles, q, handle_count_from caps.boundary_handles handles sum xs _ _ _ l.2.2, (refl, refl)),
    ),
  )
