-- What an edge holds for the lists is what its walk gathers. Assumes nothing.
use Rattle.std.specs.Prelude.{◌≡◌, Bool, leb, length}
use Rattle.std.proofs.Math.Path.{refl, ap₂}
use Rattle.std.proofs.Common.{sym, ap, ◌∙◌}
use Rattle.std.proofs.Math.Bool.{true, false}
use mathlib.Core.List.{List, [], ◌∷◌, ◌++◌}
use Prim.Native.Nat.{ℕ, zero, suc, ◌*◌}
use Rattle.bitcursor.specs.declared.Refusal.TheVariants.{EdgeKind}
use Rattle.loads.specs.Bits.{bit}
use Rattle.bitcursor.specs.Reading.{Out, got, refused, and_then}
use Rattle.bitcursor.specs.Codes.{B, RC, BL}
use Rattle.bitcursor.specs.Doubles.{BD}
use Rattle.bitcursor.specs.Format.{Format, pure, refuse, ◌>>=◌, relay}
use Rattle.bitcursor.specs.Inputs.{one}
use Rattle.bitcursor.specs.Fields.{coded}
use Rattle.text.specs.declared.version.Version.{Version}
use Rattle.text.specs.Releases.{release_number}
use Rattle.hatch_format.specs.declared.Caps.{Caps}
use Rattle.hatch_format.specs.Values.{Point, Vertex, Arc, Ellipse, Fits, unfitted, fitted, Spline, Edge, arc, ellipse, spline}
use Rattle.hatch_format.specs.Entries.{every, point_numbers, vertex_numbers, fit_count, fit_numbers, edge_words, edge_numbers}
use Rattle.hatch_format.specs.Counts.{times, bounded, counted}
use Rattle.hatch_format.specs.Points.{point, vertex, arc_read, arc_edge, ellipse_read, ellipse_edge}
use Rattle.hatch_format.specs.Splines.{fitted_by, fits_read, fits, spline_lists, spline_controls, spline_counts, spline_read, spline_edge}
use Rattle.hatch_format.specs.Edges.{edge_of, edge_read, edge}
use Rattle.hatch_points.specs.Gathered.{Entries, word, words, numbers, plus, all, gathered, same_first, first_gathers, last_gathers, more_gathers}
use Rattle.hatch_points.specs.Walks.{raw_run, double_run, vertices_walk}
use Rattle.hatch_paths.specs.PathWalks.{bit_walk, curve_walk, fits_walk, fitted_raw, spline_lists_walk, spline_walk, edge_of_walk, edge_walk}
use Rattle.hatch_points.specs.Runs.{point_entries, vertex_entries, times_length, point_gathers, points_gather, vertices_gather}
use Rattle.hatch_points.specs.Gathers.{all_numbers, raw_split, raw_none, three, then_same}

abbrev pub edge_entries : Edge → Entries
edge_entries a = record { words = edge_words a; numbers = edge_numbers a; derived = false }

-- behind the kind
abbrev pub arc_entries : Arc → Entries
arc_entries a = record { words = bit a.counter_clockwise ∷ []; numbers = edge_numbers (arc a); derived = false }

abbrev pub ellipse_entries : Ellipse → Entries
ellipse_entries a = record { words = bit a.counter_clockwise ∷ []; numbers = edge_numbers (ellipse a); derived = false }

abbrev pub fit_entries : Fits → Entries
fit_entries a = record { words = fit_count a ∷ []; numbers = fit_numbers a; derived = false }

-- behind both counts
abbrev pub list_entries : Spline → Entries
list_entries a = record { words = fit_count a.fits ∷ []; numbers = edge_numbers (spline a); derived = false }

abbrev pub spline_entries : Spline → Entries
spline_entries a =
    plus (words (a.degree ∷ (bit a.rational ∷ (bit a.periodic ∷ (length a.knots ∷ (length a.control_points ∷ [])))))) (list_entries a)

-- n BD
pub run : (xs : List ℕ) (n p : ℕ) → gathered numbers ((times n (coded BD)).read xs p) ≡ (double_run n).read xs p
unfolding double_run ◌>>=◌ pure
run xs n p = refl

module _ (xs : List ℕ) where
  -- ---- 3 BD and B, behind points
  bit_word : (h : Entries → Entries) (p : ℕ)
      → (coded B >>= λ b. pure {M = one} (h (word (bit b)))).read xs p ≡ (bit_walk >>= λ e. pure {M = one} (h e)).read xs p
  unfolding bit_walk ◌>>=◌ pure
  bit_word h p = go (B.read xs p)
    where
      go : (o : Out ℕ Bool) → and_then o (λ b q. got (h (word (bit b))) q) ≡ and_then (and_then o (λ b q. got (word (bit b)) q)) (λ e q. got (h e) q)
      go (got b q) = refl
      go (refused k q) = refl

  curve_angles : (n p : ℕ)
      → (raw_run n >>= λ a. coded BD >>= λ r. coded BD >>= λ s. coded BD >>= λ e. coded B >>= λ ccw. pure
      (plus a (plus (numbers (r ∷ (s ∷ (e ∷ [])))) (word (bit ccw))))).read xs p
      ≡ (curve_walk n).read xs p
  unfolding curve_walk
  curve_angles n p =
      then_same xs (raw_run n) _ _ (λ a q.
      three xs (λ b. coded B >>= λ ccw. pure (plus a (plus b (word (bit ccw))))) q
      ∙ then_same xs (double_run 3) _ _ (λ b r. bit_word (λ e. plus a (plus b e)) r) q) p

  pub arc_gathers : (p : ℕ) → gathered arc_entries (arc_edge.read xs p) ≡ (curve_walk 2).read xs p
  unfolding arc_edge arc_read relay
  arc_gathers p =
      first_gathers arc_entries xs p (point_entries xs) point (raw_run 2) _ _ (point_gathers xs p) (λ a q h.
      same_first arc_entries xs q (coded BD) _ _ (λ r q h.
      same_first arc_entries xs q (coded BD) _ _ (λ s q h.
      same_first arc_entries xs q (coded BD) _ _ (λ e q h.
      same_first arc_entries xs q (coded B) _ _ (λ ccw q h. last_gathers arc_entries xs q _ refl)))))
      ∙ curve_angles 2 p

  pub ellipse_gathers : (p : ℕ) → gathered ellipse_entries (ellipse_edge.read xs p) ≡ (curve_walk 4).read xs p
  unfolding ellipse_edge ellipse_read relay
  ellipse_gathers p =
      first_gathers ellipse_entries xs p (point_entries xs) point (raw_run 2) _
      (λ a. raw_run 2 >>= λ b. angles (plus a b)) (point_gathers xs p) (λ a q h.
      first_gathers ellipse_entries xs q (point_entries xs) point (raw_run 2) _ (λ b. angles (plus (point_entries xs a) b)) (point_gathers xs q) (λ b q h.
      same_first ellipse_entries xs q (coded BD) _ _ (λ r q h.
      same_first ellipse_entries xs q (coded BD) _ _ (λ s q h.
      same_first ellipse_entries xs q (coded BD) _ _ (λ e q h.
      same_first ellipse_entries xs q (coded B) _ _ (λ ccw q h. last_gathers ellipse_entries xs q _ refl))))))
      ∙ raw_split xs 2 2 angles p ∙ curve_angles 4 p
    where
      angles : Entries → Format one Entries
      angles a = coded BD >>= λ r. coded BD >>= λ s. coded BD >>= λ e. coded B >>= λ ccw. pure (plus a (plus (numbers (r ∷ (s ∷ (e ∷ [])))) (word (bit ccw))))

  -- ---- fits
  pub fitted_gathers : (n p : ℕ) → gathered fit_entries ((fitted_by n).read xs p) ≡ (raw_run (fitted_raw n) >>= λ e. pure (plus (word n) e)).read xs p
  unfolding fitted_by
  fitted_gathers zero p = last_gathers fit_entries xs p unfitted refl ∙ raw_none xs (λ e. pure (plus (word 0) e)) p
  fitted_gathers (suc n) p =
      first_gathers fit_entries xs p (all (point_entries xs)) (times (suc n) point) (raw_run (2 * suc n)) _
      (λ a. raw_run 4 >>= λ b. pure (plus (word (suc n)) (plus a b))) (points_gather xs (suc n) p) (λ points q h.
      first_gathers fit_entries xs q (point_entries xs) point (raw_run 2) _
      (λ b. raw_run 2 >>= λ c. pure (plus (word (suc n)) (plus (all (point_entries xs) points) (plus b c)))) (point_gathers xs q) (λ start q i.
      first_gathers fit_entries xs q (point_entries xs) point (raw_run 2) _ _ (point_gathers xs q)
      (λ end q j. last_gathers fit_entries xs q _ (made points start end h)))
      ∙ raw_split xs 2 2 (λ b. pure (plus (word (suc n)) (plus (all (point_entries xs) points) b))) q)
      ∙ raw_split xs (2 * suc n) 4 (λ a. pure (plus (word (suc n)) a)) p
    where
      made : (points : List Point) (start end : Point) {q : ℕ} → (times (suc n) point).read xs p ≡ got points q
          → fit_entries (fitted points start end)
          ≡ plus (word (suc n)) (plus (all (point_entries xs) points) (plus (point_entries xs start) (point_entries xs end)))
      made points start end h =
          ap₂ (λ (m : ℕ) (e : Entries). plus (word m) (plus e (plus (point_entries xs start) (point_entries xs end))))
          (times_length point xs (suc n) p h) (sym (all_numbers point_numbers points))

  pub fits_gathers : (cap : ℕ) (b : Bool) (p : ℕ) → gathered fit_entries ((fits cap b).read xs p) ≡ (fits_walk cap b).read xs p
  unfolding fits fits_read fits_walk counted relay
  fits_gathers cap true p = same_first fit_entries xs p (bounded cap BL) fitted_by _ (λ n q h. fitted_gathers n q)
  fits_gathers cap false p = last_gathers fit_entries xs p unfitted refl

  -- ---- splines
  module _ (caps : Caps) (v : Version) where
    abbrev pub fit_release : Bool
    fit_release = leb 5 (release_number v)

    module _ (degree : ℕ) (rational periodic : Bool) (knots controls : ℕ) where
      pub lists_gather : (p : ℕ)
          → gathered list_entries ((spline_lists caps v degree rational periodic knots controls).read xs p)
          ≡ (spline_lists_walk caps fit_release rational knots controls).read xs p
      unfolding spline_lists spline_lists_walk
      lists_gather p =
          first_gathers list_entries xs p numbers (times knots (coded BD)) (double_run knots) _ _ (run xs knots p) (λ ks q h.
          first_gathers list_entries xs q (all (vertex_entries xs rational)) (times controls (vertex rational)) (vertices_walk rational controls) _ _
          (vertices_gather xs rational controls q) (λ cs q i.
          first_gathers list_entries xs q fit_entries (fits caps.fit_points fit_release) (fits_walk caps.fit_points fit_release) _ _
          (fits_gathers caps.fit_points fit_release q) (λ fs q j.
          last_gathers list_entries xs q _ (ap (λ (e : Entries). plus (numbers ks) (plus e (fit_entries fs))) (sym (all_numbers
          (vertex_numbers rational) cs))))))

      -- what the lists were made of
      pub lists_made : (a : Spline) (p q : ℕ) → (spline_lists caps v degree rational periodic knots controls).read xs p ≡ got a q
          → spline_entries a ≡ plus (words (degree ∷ (bit rational ∷ (bit periodic ∷ (knots ∷ (controls ∷ [])))))) (list_entries a)
      unfolding spline_lists times relay ◌>>=◌ pure
      lists_made a p q e =
          let l = (spline_lists caps v degree rational periodic knots controls).sound xs a p q e in
          let m = l.3.3.3 in
          rw m.0 (ap₂ (counts_made l.0 l.3.0 l.3.3.0) l.2.0 l.3.2.0)
        where
          counts_made : List ℕ → List Vertex → Fits → ℕ → ℕ → Entries
          counts_made ks cs fs i j =
              record {
                words = degree ∷ (bit rational ∷ (bit periodic ∷ (i ∷ (j ∷ (fit_count fs ∷ [])))));
                numbers = ks ++ (every (vertex_numbers rational) cs ++ fit_numbers fs);
                derived = false;
              }

    pub spline_gathers : (p : ℕ) → gathered spline_entries ((spline_edge caps v).read xs p) ≡ (spline_walk caps fit_release).read xs p
    unfolding spline_edge spline_read spline_counts spline_controls spline_walk counted relay
    spline_gathers p =
        same_first spline_entries xs p (coded BL) _ _ (λ degree q h.
        same_first spline_entries xs q (coded B) _ _ (λ rational q h.
        same_first spline_entries xs q (coded B) _ _ (λ periodic q h.
        same_first spline_entries xs q (bounded caps.knots BL) (spline_controls caps v degree rational periodic) _ (λ knots q h.
        same_first spline_entries xs q (bounded caps.control_points BL) (spline_lists caps v degree rational periodic knots) _ (λ controls q h.
        more_gathers spline_entries list_entries (words (degree ∷ (bit rational ∷ (bit periodic ∷ (knots ∷ (controls ∷ []))))))
        (spline_lists caps v degree rational periodic knots controls) _ xs q
        (lists_gather degree rational periodic knots controls q) (λ a r e. lists_made degree rational periodic knots controls a q r e))))))

    -- ---- edges
    none_such : (k p : ℕ)
        → gathered edge_entries ((refuse {M = one} EdgeKind tt).read xs p) ≡ (refuse {M = one} EdgeKind tt >>= λ e. pure (plus (word k) e)).read xs p
    unfolding refuse ◌>>=◌
    none_such k p = refl

    pub edge_of_gathers : (k p : ℕ)
        → gathered edge_entries ((edge_of caps v k).read xs p) ≡ (edge_of_walk caps fit_release k >>= λ e. pure (plus (word k) e)).read xs p
    unfolding edge_of edge_of_walk
    edge_of_gathers zero p = none_such 0 p
    edge_of_gathers (suc zero) p =
        first_gathers edge_entries xs p (point_entries xs) point (raw_run 2) _ (λ a. raw_run 2 >>= λ b. pure (plus (word 1) (plus a b)))
        (point_gathers xs p) (λ a q h.
        first_gathers edge_entries xs q (point_entries xs) point (raw_run 2) _ _ (point_gathers xs q) (λ b q i. last_gathers edge_entries xs q _ refl))
        ∙ raw_split xs 2 2 (λ a. pure (plus (word 1) a)) p
    edge_of_gathers (suc (suc zero)) p =
        first_gathers edge_entries xs p arc_entries arc_edge (curve_walk 2) _ _ (arc_gathers p) (λ a q h. last_gathers edge_entries xs q _ refl)
    edge_of_gathers (suc (suc (suc zero))) p =
        first_gathers edge_entries xs p ellipse_entries ellipse_edge (curve_walk 4) _ _ (ellipse_gathers p) (λ a q h. last_gathers edge_entries xs q _ refl)
    edge_of_gathers (suc (suc (suc (suc zero)))) p =
        first_gathers edge_entries xs p spline_entries (spline_edge caps v) (spline_walk caps fit_release) _ _ (spline_gathers p)
        (λ a q h. last_gathers edge_entries xs q _ refl)
    edge_of_gathers (suc (suc (suc (suc (suc k))))) p = none_such (suc (suc (suc (suc (suc k))))) p

    pub edge_gathers : (p : ℕ) → gathered edge_entries ((edge caps v).read xs p) ≡ (edge_walk caps fit_release).read xs p
    unfolding edge edge_read edge_walk relay
    edge_gathers p = same_first edge_entries xs p (coded RC) _ _ (λ k q h. edge_of_gathers k q)
