-- Runs of items: n walks gather what n items hold, and points are runs of RD. Assumes nothing.
use Rattle.std.specs.Prelude.{◌≡◌, Bool, length}
use Rattle.std.proofs.Math.Path.{refl, sym, ap}
use Rattle.std.proofs.Common.{◌∙◌, zero-add}
use Rattle.std.proofs.Math.Bool.{true, false}
use mathlib.Core.List.{List, [], ◌∷◌, ◌++◌}
use Prim.Native.Nat.{ℕ, zero, suc, ◌+◌, ◌*◌}
use native.Mathlib.Omega.{arith}
use Rattle.bitcursor.specs.Reading.{Out, got, refused, and_then}
use Rattle.bitcursor.specs.Code.{give}
use Rattle.bitcursor.specs.Codes.{RD}
use Rattle.bitcursor.specs.Doubles.{BD}
use Rattle.bitcursor.specs.Held.{held}
use Rattle.bitcursor.specs.Format.{Format, pure, ◌>>=◌, relay}
use Rattle.bitcursor.specs.Inputs.{one}
use Rattle.bitcursor.specs.Fields.{coded}
use Rattle.hatch_format.specs.Values.{Point, Vertex}
use Rattle.hatch_format.specs.Entries.{point_numbers, vertex_numbers}
use Rattle.hatch_format.specs.Counts.{times_read, times}
use Rattle.hatch_format.specs.Points.{point_read, point, vertex_read, vertex}
use Rattle.hatch_points.specs.Gathered.{Entries, numbers, plus, all, gathered, first_gathers, repeated}
use Rattle.hatch_points.specs.Walks.{raw_run, double_run, vertex_walk, vertices_walk}

-- ---- n items
module _ {A : Type 0} (f : Format one A) (xs : List ℕ) where
  -- as many as asked for
  pub times_length : (n p : ℕ) {items : List A} {q : ℕ} → (times n f).read xs p ≡ got items q → length items ≡ n
  unfolding times relay
  times_length n p {items} {q} e = ((times n f).sound xs items p q e).0

  -- m items and then n
  abbrev pub then_items : ℕ → List A → ℕ → Out ℕ (List A)
  then_items n items q = and_then ((times n f).read xs q) (λ more r. got (items ++ more) r)

  pub times_add : (m n p : ℕ) → (times (m + n) f).read xs p ≡ and_then ((times m f).read xs p) (then_items n)
  unfolding times relay times_read ◌>>=◌ pure
  times_add zero n p = ap (λ (k : ℕ). (times_read k f).read xs p) (zero-add n) ∙ go ((times_read n f).read xs p)
    where
      go : (o : Out ℕ (List A)) → o ≡ and_then o (λ more r. got more r)
      go (got a q) = refl
      go (refused k q) = refl
  times_add (suc m) n p =
      let e : suc m + n ≡ suc (m + n) = omega arith in
      ap (λ (k : ℕ). (times_read k f).read xs p) e ∙ one_more (λ q. times_add m n q) (f.read xs p)
    where
      tail : (a : A) (o : Out ℕ (List A))
          → and_then (and_then o (λ items q. and_then ((times_read n f).read xs q) (λ more r. got (items ++ more) r))) (λ items q. got (a ∷ items) q)
          ≡ and_then (and_then o (λ items q. got (a ∷ items) q)) (λ items q. and_then ((times_read n f).read xs q) (λ more r. got (items ++ more) r))
      tail a (refused k q) = refl
      tail a (got items q) = last ((times_read n f).read xs q)
        where
          last : (o : Out ℕ (List A))
              → and_then (and_then o (λ more r. got (items ++ more) r)) (λ items q. got (a ∷ items) q) ≡ and_then o (λ more r. got (a ∷ (items ++ more)) r)
          last (got more r) = refl
          last (refused k r) = refl

      one_more : ((q : ℕ) → (times_read (m + n) f).read xs q ≡ and_then ((times_read m f).read xs q)
          (λ items r. and_then ((times_read n f).read xs r) (λ more t. got (items ++ more) t)))
          → (o : Out ℕ A)
          → and_then o (λ a q. and_then ((times_read (m + n) f).read xs q) (λ items r. got (a ∷ items) r))
          ≡ and_then (and_then o (λ a q. and_then ((times_read m f).read xs q) (λ items r. got (a ∷ items) r)))
          (λ items q. and_then ((times_read n f).read xs q) (λ more r. got (items ++ more) r))
      one_more ih (refused k q) = refl
      one_more ih (got a q) = ap (λ (o : Out ℕ (List A)). and_then o (λ items r. got (a ∷ items) r)) (ih q) ∙ tail a ((times_read m f).read xs q)

  -- n walks gather what n items hold
  module _ (e : A → Entries) (d : Format one Entries) (g : (p : ℕ) → gathered e (f.read xs p) ≡ d.read xs p) where
    pub times_gather : (n p : ℕ) → gathered (all e) ((times n f).read xs p) ≡ (repeated n d).read xs p
    unfolding times relay times_read repeated pure
    times_gather zero p = refl
    times_gather (suc n) p =
        first_gathers (all e) xs p e f d _ _ (g p) (λ a q i.
        first_gathers (all e) xs q (all e) (times_read n f) (repeated n d) _ _ (times_gather n q) (λ items r j. refl))

-- ---- points are runs of RD
module _ (xs : List ℕ) where
  abbrev pub point_entries : Point → Entries
  point_entries a = numbers (point_numbers a)

  abbrev pub vertex_entries : Bool → Vertex → Entries
  vertex_entries more a = numbers (vertex_numbers more a)

  -- a run and what follows it
  pub raw_add : (m n p : ℕ)
      → (raw_run (m + n)).read xs p ≡ and_then ((raw_run m).read xs p) (λ a q. and_then ((raw_run n).read xs q) (λ b r. got (plus a b) r))
  unfolding raw_run ◌>>=◌ pure
  raw_add m n p = ap (gathered numbers) (times_add (coded RD) xs m n p) ∙ go ((times m (coded RD)).read xs p)
    where
      second : (ms : List ℕ) (o : Out ℕ (List ℕ))
          → gathered numbers (and_then o (λ more r. got (ms ++ more) r)) ≡ and_then (and_then o (λ ns q. got (numbers ns) q)) (λ b r. got (plus
          (numbers ms) b) r)
      second ms (got ns q) = refl
      second ms (refused k q) = refl

      go : (o : Out ℕ (List ℕ))
          → gathered numbers (and_then o (then_items (coded RD) xs n))
          ≡ and_then (and_then o (λ ms q. got (numbers ms) q))
          (λ a q. and_then (and_then ((times n (coded RD)).read xs q) (λ ns r. got (numbers ns) r)) (λ b r. got (plus a b) r))
      go (got ms q) = second ms ((times n (coded RD)).read xs q)
      go (refused k q) = refl

  pub point_gathers : (p : ℕ) → gathered point_entries (point.read xs p) ≡ (raw_run 2).read xs p
  unfolding point point_read raw_run times times_read relay ◌>>=◌ pure
  point_gathers p = first (RD.read xs p)
    where
      second : (x : ℕ) (o : Out ℕ ℕ)
          → gathered point_entries (and_then o (λ y r. got (record { x = x; y = y }) r))
          ≡ and_then (and_then (and_then o (λ y r. got (y ∷ []) r)) (λ ys r. got (x ∷ ys) r)) (λ ns r. got (numbers ns) r)
      second x (got y r) = refl
      second x (refused k r) = refl

      first : (o : Out ℕ ℕ)
          → gathered point_entries (and_then o (λ x q. and_then (RD.read xs q) (λ y r. got (record { x = x; y = y }) r)))
          ≡ and_then (and_then o (λ x q. and_then (and_then (RD.read xs q) (λ y r. got (y ∷ []) r)) (λ ys r. got (x ∷ ys) r))) (λ ns r. got (numbers ns) r)
      first (got x q) = second x (RD.read xs q)
      first (refused k q) = refl

  -- n points
  pub repeated_raw : (n p : ℕ) → (repeated n (raw_run 2)).read xs p ≡ (raw_run (2 * n)).read xs p
  unfolding repeated raw_run times times_read relay ◌>>=◌ pure
  repeated_raw zero p = refl
  repeated_raw (suc n) p =
      let e : 2 * suc n ≡ 2 + 2 * n = omega arith in
      go (λ q. repeated_raw n q) ((raw_run 2).read xs p) ∙ sym (ap (λ (k : ℕ). (raw_run k).read xs p) e ∙ raw_add 2 (2 * n) p)
    where
      go : ((q : ℕ) → (repeated n (raw_run 2)).read xs q ≡ (raw_run (2 * n)).read xs q) → (o : Out ℕ Entries)
          → and_then o (λ a q. and_then ((repeated n (raw_run 2)).read xs q) (λ b r. got (plus a b) r))
          ≡ and_then o (λ a q. and_then ((raw_run (2 * n)).read xs q) (λ b r. got (plus a b) r))
      go ih (got a q) = ap (λ (o : Out ℕ Entries). and_then o (λ b r. got (plus a b) r)) (ih q)
      go ih (refused k q) = refl

  pub points_gather : (n p : ℕ) → gathered (all point_entries) ((times n point).read xs p) ≡ (raw_run (2 * n)).read xs p
  points_gather n p = times_gather point xs point_entries (raw_run 2) point_gathers n p ∙ repeated_raw n p

  -- a vertex without a double behind it is a point
  pub bare_gathers : (p : ℕ) → gathered (vertex_entries false) ((vertex false).read xs p) ≡ (raw_run 2).read xs p
  unfolding vertex vertex_read relay ◌>>=◌ pure held give
  bare_gathers p = go (point.read xs p) ∙ point_gathers p
    where
      go : (o : Out ℕ Point) → gathered (vertex_entries false) (and_then o (λ a r. got (record { point = a; extra = 0 }) r)) ≡ gathered point_entries o
      go (got a q) = refl
      go (refused k q) = refl

  extra_gathers : (a : Point) (q : ℕ)
      → gathered (vertex_entries true) ((coded (held true BD 0) >>= λ extra. pure {M = one} (record { point = a; extra = extra })).read xs q)
      ≡ (double_run 1 >>= λ e. pure {M = one} (plus (point_entries a) e)).read xs q
  unfolding held double_run times times_read relay ◌>>=◌ pure
  extra_gathers a q = go (BD.read xs q)
    where
      go : (o : Out ℕ ℕ)
          → gathered (vertex_entries true) (and_then o (λ extra r. got (record { point = a; extra = extra }) r))
          ≡ and_then (and_then (and_then o (λ v r. got (v ∷ []) r)) (λ ns r. got (numbers ns) r)) (λ e r. got (plus (point_entries a) e) r)
      go (got v r) = refl
      go (refused k r) = refl

  pub vertex_gathers : (p : ℕ) → gathered (vertex_entries true) ((vertex true).read xs p) ≡ vertex_walk.read xs p
  unfolding vertex vertex_read relay vertex_walk
  vertex_gathers p = first_gathers (vertex_entries true) xs p point_entries point (raw_run 2) _ _ (point_gathers p) (λ a q i. extra_gathers a q)

  pub vertices_gather : (more : Bool) (n p : ℕ) → gathered (all (vertex_entries more)) ((times n (vertex more)).read xs p) ≡ (vertices_walk more n).read xs p
  unfolding vertices_walk
  vertices_gather true n p = times_gather (vertex true) xs (vertex_entries true) vertex_walk vertex_gathers n p
  vertices_gather false n p = times_gather (vertex false) xs (vertex_entries false) (raw_run 2) bare_gathers n p ∙ repeated_raw n p
