-- A vertex is the two RD at its place and the BD behind them. Assumes nothing.
use mathlib.Core.Path.{◌≡◌, refl, sym, ap, ◌∙◌}
use mathlib.Core.List.{List, [], ◌∷◌}
use Prim.Native.Nat.{ℕ, ◌+◌, ◌-◌, ◌*◌, ◌/◌, ◌≤◌, ◌<◌}
use native.Mathlib.Omega.{arith}
use lib.ListN.{length, length-append}
use Rattle.std.specs.Prelude.{Result, Ok, Err}
use Rattle.bitcursor.specs.declared.Refusal.{Refusal}
use Rattle.bitcursor.specs.declared.Refusal.TheVariants.{TooFewBits}
use Rattle.bitcursor.specs.declared.Refused.{Refused}
use Rattle.bitcursor.specs.Answers.{outcome, passing, value_as}
use Rattle.loads.specs.Bits.{size}
use Rattle.bitcursor.specs.Reading.{Out, got, refused, place, and_then, never}
use Rattle.bitcursor.specs.Codes.{RD}
use Rattle.bitcursor.specs.Doubles.{BD}
use Rattle.bitcursor.specs.Fields.{coded}
use Rattle.bitcursor.specs.Format.{pure, ◌>>=◌, relay, then_got, then_refused}
use Rattle.hatch_format.specs.Counts.{times, times_read}
use Rattle.hatch_format.specs.Takes.{takes_BD}
use Rattle.hatch_points.specs.Gathered.{Entries, numbers, plus}
use Rattle.hatch_points.specs.Runs.{times_length}
use Rattle.hatch_points.specs.Stores.{raw_at}
use Rattle.hatch_points.specs.Vertices.{vertex_at, VertexThere, Extra}
use Rattle.hatch_points.specs.Walks.{raw_run, double_run, vertex_walk}
use Rattle.hatch_points.proofs.Laws.{onward}
use Rattle.hatch_points.proofs.RawRuns.{raw_there, raw_short}

one_double : (xs : List ℕ) (p : ℕ) {v q : ℕ} → BD.read xs p ≡ got v q → (double_run 1).read xs p ≡ got (numbers (v ∷ [])) q
unfolding double_run times times_read relay ◌>>=◌ pure
one_double xs p e = rw e

no_double : (xs : List ℕ) (p : ℕ) {k : Refusal} {q : ℕ} → BD.read xs p ≡ refused k q → (double_run 1).read xs p ≡ refused k q
unfolding double_run times times_read relay ◌>>=◌ pure
no_double xs p e = rw e

-- what a reader of a vertex's double shows that gives its place alone
abbrev pub ExtraPassed : List ℕ → ℕ → Result ℕ (Refused ℕ) → Type 0
ExtraPassed xs p (Ok q) = (v : ℕ) × VertexThere xs p v q
ExtraPassed xs p (Err e) = vertex_walk.read xs p ≡ refused e.refusal e.place

module _ (xs : List ℕ) (p : ℕ) where
  module _ (h : 128 ≤ size xs - p) where
    point : (raw_run 2).read xs p ≡ got (numbers (raw_at xs p 2)) (p + 128)
    point = raw_there xs 2 p h

    vertex_there : {v q : ℕ} → BD.read xs (p + 128) ≡ got v q → vertex_walk.read xs p ≡ got (numbers (vertex_at xs p v)) q
    unfolding vertex_walk raw_at pure
    vertex_there e =
        then_got (raw_run 2) (λ a. double_run 1 >>= λ b. pure (plus a b)) xs point
        ∙ then_got (double_run 1) (λ b. pure (plus (numbers (raw_at xs p 2)) b)) xs (one_double xs (p + 128) e)

    vertex_no : {k : Refusal} {q : ℕ} → BD.read xs (p + 128) ≡ refused k q → vertex_walk.read xs p ≡ refused k q
    unfolding vertex_walk
    vertex_no e =
        then_got (raw_run 2) (λ a. double_run 1 >>= λ b. pure (plus a b)) xs point
        ∙ then_refused (double_run 1) (λ b. pure (plus (numbers (raw_at xs p 2)) b)) xs (no_double xs (p + 128) e)

    -- the double is read, or the vertex is refused as the double is
    pub extra_on : {q : ℕ} (r : Result (ℕ × ℕ) (Refused ℕ)) → q ≡ p + 128 → outcome r ≡ BD.read xs q → Extra xs p r
    extra_on {q} (Ok v) e d =
        let at_point : got v.0 v.1 ≡ BD.read xs (p + 128) = d ∙ ap (λ (k : ℕ). BD.read xs k) e in
        let on = onward (coded BD) 2 takes_BD xs (p + 128) at_point (omega arith) in
        record { read = vertex_there (sym at_point); onward = omega (arith, on.0); inside = on.1 }
    extra_on {q} (Err x) e d = vertex_no (sym (d ∙ ap (λ (k : ℕ). BD.read xs k) e))

    -- the same, where the double's value is not wanted
    pub extra_passed : {q : ℕ} (r : Result ℕ (Refused ℕ)) → q ≡ p + 128 → passing r ≡ value_as (λ v. tt) (BD.read xs q) → ExtraPassed xs p r
    extra_passed {q} r e d = go (BD.read xs (p + 128)) refl r (d ∙ ap (λ (k : ℕ). value_as (λ v. tt) (BD.read xs k)) e)
      where
        go : (o : Out ℕ ℕ) → BD.read xs (p + 128) ≡ o → (r : Result ℕ (Refused ℕ)) → passing r ≡ value_as (λ v. tt) o → ExtraPassed xs p r
        go (got v t) i (Ok u) j = (v, extra_on (Ok (v, u)) refl ((λ k. got v (place (j k))) ∙ sym i))
        go (got v t) i (Err x) j = never j
        go (refused n t) i (Ok u) j = never (sym j)
        go (refused n t) i (Err x) j = let k : ◌≡◌ {A = Out ℕ ℕ} (refused x.refusal x.place) (refused n t) = cc in extra_on (Err x) refl (k ∙ sym i)

  -- the point is not there
  pub extra_short : size xs - p < 128 → vertex_walk.read xs p ≡ refused TooFewBits (p + (size xs - p) / 8 * 8)
  unfolding vertex_walk
  extra_short h = then_refused (raw_run 2) (λ a. double_run 1 >>= λ b. pure (plus a b)) xs (raw_short xs 2 p h)

-- a vertex is three numbers
pub vertex_long : (xs : List ℕ) (p : ℕ) (e : Entries) (q : ℕ) → vertex_walk.read xs p ≡ got e q → length e.numbers ≡ 3
unfolding vertex_walk raw_run double_run ◌>>=◌ pure
vertex_long xs p e q i = first ((times 2 (coded RD)).read xs p) refl i
  where
    second : (ns : List ℕ) → length ns ≡ 2 → (r : ℕ) (o : Out ℕ (List ℕ)) → (times 1 (coded BD)).read xs r ≡ o
        → and_then (and_then o (λ ms t. got (numbers ms) t)) (λ b t. got (plus (numbers ns) b) t) ≡ got e q → length e.numbers ≡ 3
    second ns h r (got ms t) j f =
        let g : plus (numbers ns) (numbers ms) ≡ e = cc in
        let k = times_length (coded BD) xs 1 r j in
        sym (ap (λ (x : Entries). length x.numbers) g) ∙ length-append ns ms ∙ omega (arith, h, k)
    second ns h r (refused x t) j f = never f

    first : (o : Out ℕ (List ℕ)) → (times 2 (coded RD)).read xs p ≡ o
        → and_then (and_then o (λ ns r. got (numbers ns) r))
        (λ a r. and_then (and_then ((times 1 (coded BD)).read xs r) (λ ms t. got (numbers ms) t)) (λ b t. got (plus a b) t))
        ≡ got e q
        → length e.numbers ≡ 3
    first (got ns r) j f = second ns (times_length (coded RD) xs 2 p j) r ((times 1 (coded BD)).read xs r) refl f
    first (refused x r) j f = never f
