-- What a path holds for the lists is what its walk gathers. Assumes nothing.
use Rattle.std.specs.Prelude.{◌≡◌, Bool, ◌||◌, List, [], ◌∷◌, ◌++◌, length}
use Rattle.std.proofs.Math.Path.{refl, sym}
use Rattle.std.proofs.Common.{ap, ◌∙◌, append-nil}
use Rattle.std.proofs.Math.Bool.{true, false}
use Prim.Native.Nat.{ℕ, ◌/◌}
use Rattle.loads.specs.Bits.{bit, odd}
use Rattle.bitcursor.specs.Reading.{Out, got, refused, and_then}
use Rattle.bitcursor.specs.Codes.{B, BL}
use Rattle.bitcursor.specs.Format.{Format, pure, ◌>>=◌, relay}
use Rattle.bitcursor.specs.Inputs.{one}
use Rattle.bitcursor.specs.Fields.{coded}
use Rattle.text.specs.declared.version.Version.{Version}
use Rattle.hatch_format.specs.declared.Caps.{Caps}
use Rattle.hatch_format.specs.Values.{Segments, polyline, edges, Path, polylined, derived}
use Rattle.hatch_format.specs.Entries.{every, vertex_numbers, edge_words, edge_numbers, segment_words, path_words, path_numbers, segment_numbers}
use Rattle.hatch_format.specs.HandleRule.{in_payload}
use Rattle.hatch_format.specs.Counts.{times}
use Rattle.hatch_format.specs.Points.{vertex, takes_vertex}
use Rattle.hatch_format.specs.Edges.{edge, takes_edge}
use Rattle.hatch_format.specs.Paths.{handle_count, segments_read, segments, path_read, path}
use Rattle.hatch_points.specs.Gathered.{Entries, word, words, flag_entries, plus, all, gathered, same_first, first_gathers}
use Rattle.hatch_points.specs.Gathered.{last_gathers, more_gathers, repeated}
use Rattle.hatch_points.specs.Walks.{vertices_walk}
use Rattle.hatch_paths.specs.PathWalks.{edge_walk, polyline_walk, edges_walk, segments_walk, handles_walk, after_flags_walk, path_walk}
use Rattle.hatch_points.specs.Runs.{vertex_entries, vertices_gather, times_gather}
use Rattle.hatch_points.specs.Gathers.{all_numbers, all_both, listed_gathers}
use Rattle.hatch_paths.specs.EdgeGathers.{edge_entries, fit_release, edge_gathers}

abbrev pub segment_entries : Segments → Entries
segment_entries a = record { words = segment_words a; numbers = segment_numbers a; derived = false }

abbrev pub path_entries : Path → Entries
path_entries a = record { words = path_words a; numbers = path_numbers a; derived = odd (a.flags / 4) }

-- the paths of a hatch
pub all_paths : (paths : List Path)
    → all path_entries paths ≡ record { words = every path_words paths; numbers = every path_numbers paths; derived = derived paths }
all_paths [] = refl
all_paths (a ∷ paths) = ap (plus (path_entries a)) (all_paths paths)

or_false : (b : Bool) → b || false ≡ b
or_false true = refl
or_false false = refl

module _ (xs : List ℕ) (caps : Caps) (v : Version) where
  -- the rule for handle counts, of handles in the payload, where it does not look at the sum
  abbrev handles_of : Format one ℕ
  handles_of = handle_count caps.boundary_handles in_payload 0

  pub segments_gather : (b : Bool) (p : ℕ)
      → gathered segment_entries ((segments caps v b).read xs p) ≡ (segments_walk caps (fit_release xs caps v) b).read xs p
  unfolding segments segments_read segments_walk polyline_walk edges_walk relay
  segments_gather true p =
      same_first segment_entries xs p (coded B) _ _ (λ bulge q h.
      same_first segment_entries xs q (coded B) _ _ (λ closed q h.
      listed_gathers segment_entries xs caps.vertices BL (vertex bulge) (takes_vertex bulge) (vertex_entries xs bulge) (vertices_walk bulge)
      (vertices_gather xs bulge)
      (λ vertices. pure (polyline bulge closed vertices)) (λ n a. pure (plus (words (bit bulge ∷ (bit closed ∷ (n ∷ [])))) a))
      (λ vertices q. last_gathers segment_entries xs q _
      (ap (plus (words (bit bulge ∷ (bit closed ∷ (length vertices ∷ []))))) (sym (all_numbers (vertex_numbers bulge) vertices)))) q))
  segments_gather false p =
      listed_gathers segment_entries xs caps.edges BL (edge caps v) (takes_edge caps v) edge_entries (λ n. repeated n (edge_walk caps (fit_release xs caps v)))
      (times_gather (edge caps v) xs edge_entries (edge_walk caps (fit_release xs caps v)) (edge_gathers xs caps v))
      (λ es. pure (edges es)) (λ n a. pure (plus (word n) a))
      (λ es q. last_gathers segment_entries xs q _ (ap (plus (word (length es))) (sym (all_both edge_words edge_numbers es)))) p

  -- what follows the flags
  abbrev pub behind_flags : Path → Entries
  behind_flags a = plus (segment_entries a.segments) (word a.boundary_handles)

  handle_word : (h : Entries → Entries) (q : ℕ)
      → (handles_of >>= λ n. pure {M = one} (h (word n))).read xs q ≡ (handles_walk caps.boundary_handles >>= λ e. pure {M = one} (h e)).read xs q
  unfolding handles_walk ◌>>=◌ pure
  handle_word h q = go (handles_of.read xs q)
    where
      go : (o : Out ℕ ℕ) → and_then o (λ n r. got (h (word n)) r) ≡ and_then (and_then o (λ n r. got (word n) r)) (λ e r. got (h e) r)
      go (got n r) = refl
      go (refused k r) = refl

  after_flags_gathers : (flags : ℕ) (p : ℕ)
      → gathered behind_flags
      ((segments caps v (polylined flags) >>= λ a. handles_of >>= λ n. pure {M = one}
      (record { flags = flags; segments = a; boundary_handles = n })).read xs p)
      ≡ (after_flags_walk caps (fit_release xs caps v) (polylined flags)).read xs p
  unfolding after_flags_walk
  after_flags_gathers flags p =
      first_gathers behind_flags xs p segment_entries (segments caps v (polylined flags))
      (segments_walk caps (fit_release xs caps v) (polylined flags)) _ _ (segments_gather (polylined flags) p) (λ a q h.
      same_first behind_flags xs q handles_of _ (λ n. pure (plus (segment_entries a) (word n))) (λ n q h. last_gathers behind_flags xs q _ refl)
      ∙ handle_word (plus (segment_entries a)) q)

  path_made : (flags : ℕ) (a : Path) (q r : ℕ)
      → (segments caps v (polylined flags) >>= λ b. handles_of >>= λ n. pure {M = one}
      (record { flags = flags; segments = b; boundary_handles = n })).read xs q
      ≡ got a r
      → path_entries a ≡ plus (flag_entries flags) (behind_flags a)
  unfolding ◌>>=◌ pure
  path_made flags a q r e =
      let f : Format one Path = segments caps v (polylined flags) >>= λ b. handles_of >>= λ n. pure
      (record { flags = flags; segments = b; boundary_handles = n }) in
      let l = f.sound xs a q r e in
      let b = l.0 in
      let n = l.3.0 in
      rw l.3.3.0
      (λ i. record {
        words = flags ∷ (segment_words b ++ (n ∷ []));
        numbers = sym (append-nil (segment_numbers b)) i;
        derived = sym (or_false (odd (flags / 4))) i;
      })

  pub path_gathers : (p : ℕ) → gathered path_entries ((path caps in_payload v 0).read xs p) ≡ (path_walk caps (fit_release xs caps v)).read xs p
  unfolding path path_read path_walk relay
  path_gathers p =
      same_first path_entries xs p (coded BL) _ _ (λ flags q h.
      more_gathers path_entries behind_flags (flag_entries flags)
      (segments caps v (polylined flags) >>= λ a. handles_of >>= λ n. pure (record { flags = flags; segments = a; boundary_handles = n })) _ xs q
      (after_flags_gathers flags q) (λ a r e. path_made flags a q r e))

  pub paths_gather : (n p : ℕ)
      → gathered (all path_entries) ((times n (path caps in_payload v 0)).read xs p) ≡ (repeated n (path_walk caps (fit_release xs caps v))).read xs p
  paths_gather = times_gather (path caps in_payload v 0) xs path_entries (path_walk caps (fit_release xs caps v)) path_gathers
