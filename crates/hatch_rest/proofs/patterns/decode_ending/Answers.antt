-- The pixel size, the count of the seed points, and the points as a run of RD.
use mathlib.Core.Path.{◌≡◌, sym, ◌∙◌}
use mathlib.Core.List.{List}
use Prim.Native.Nat.{ℕ, ◌*◌, ◌^◌, ◌≤◌, ◌<◌}
use native.Mathlib.Omega.{arith}
use lib.ListN.{length}
use Rattle.loads.specs.Bits.{limit}
use Rattle.bitcursor.specs.Reading.{got}
use Rattle.bitcursor.specs.Codes.{BL}
use Rattle.bitcursor.specs.Doubles.{BD}
use Rattle.bitcursor.specs.Held.{held}
use Rattle.bitcursor.specs.Fields.{coded}
use Rattle.bitcursor.specs.Format.{Format, pure, relay, then_got, then_refused}
use Rattle.bitcursor.specs.Inputs.{one}
use Rattle.hatch_format.specs.Values.{Point, Ending}
use Rattle.hatch_format.specs.Entries.{point_numbers}
use Rattle.hatch_format.specs.Takes.{takes_none, takes_BL}
use Rattle.hatch_format.specs.Counts.{times, bounded}
use Rattle.hatch_format.specs.Points.{point, takes_point}
use Rattle.hatch_format.specs.Patterns.{ending_read, ending}
use Rattle.hatch_points.specs.Gathered.{all}
use Rattle.hatch_points.specs.Runs.{point_entries, times_length, points_gather}
use Rattle.hatch_points.specs.Gathers.{all_numbers}
use Rattle.hatch_points.proofs.Laws.{walks_as, walk_kept, onward, ready_on, step_as, kept_same}
use Rattle.hatch_points.proofs.Rows.{count_left, listed_row}
use Rattle.hatch_rest.proofs.Given.{read_on, read_not, gives_refused, gives_ends, gives_leaves, value_read, value_refused}
use Rattle.hatch_rest.proofs.patterns.decode_ending.Goals as goal

few : (cap : ℕ) (xs : List ℕ) (p : ℕ) {n q : ℕ} → got n q ≡ (bounded cap BL).read xs p → length xs ≤ limit → p ≤ 8 * length xs → 2 * n < 2 ^ 32
few cap xs p e h k = let c = count_left cap BL 2 takes_BL xs p e k in omega (arith, c.0, c.1, h)

unfoldable with_seeds : ℕ → List Point → Format one Ending
with_seeds pixel seeds = pure (record { pixel_size = pixel; seed_points = seeds })

pub overflow_mul-seed_points : goal.overflow_mul-seed_points
overflow_mul-seed_points g c =
    let a = c.args in
    let size = coded (held a.has BD 0) in
    let on = onward size 0 (takes_none size) a.s.now a.at c.in_ok-pixel_size.ensures c.requires.1.0 in
    let h = few a.caps.seed_points a.s.now _ c.in_ok-n.ensures c.requires.0 on.1 in
    omega (arith, h)

pub raw_run-requires : goal.raw_run-requires
raw_run-requires g c =
    let a = c.args in
    let s = a.s.now in
    let size = coded (held a.has BD 0) in
    let count = bounded a.caps.seed_points BL in
    let r = ready_on size 0 (takes_none size) s a.at c.in_ok-pixel_size.ensures a.used c.requires in
    (ready_on count 0 (takes_none count) s _ c.in_ok-n.ensures a.used r, few a.caps.seed_points s _ c.in_ok-n.ensures r.0 r.1.0)

pub returns : goal.returns
unfolding ending ending_read relay with_seeds pure
returns g c =
    let a = c.args in
    let s = a.s.now in
    let cap = a.caps.seed_points in
    let pixel = c.in_ok-pixel_size.pixel_size in
    let n = c.in_ok-n.n in
    let p = c.in_ok-n.p in
    let walk = c.in_ok-used.ensures in
    let t = value_read (all (point_entries s)) ((times n point).read s p) (walks_as walk (sym (points_gather s n p))) in
    let m = times_length point s n p t.read in
    gives_ends (record { pixel_size = pixel; seed_points = t.value })
    (read_on (coded (held a.has BD 0)) _ s c.in_ok-pixel_size.ensures ∙ listed_row s cap BL point takes_point (with_seeds pixel) _
    ∙ read_on (bounded cap BL) _ s c.in_ok-n.ensures ∙ then_got (times n point) (with_seeds pixel) s t.read)
    (λ i. record { pixel_size = pixel; seed_points = sym m i }) (step_as (all_numbers point_numbers t.value) t.step) walk.ready

pub returns-in_err-used : goal.returns-in_err-used
unfolding ending ending_read relay with_seeds
returns-in_err-used g c =
    let a = c.args in
    let s = a.s.now in
    let cap = a.caps.seed_points in
    let pixel = c.in_ok-pixel_size.pixel_size in
    let n = c.in_ok-n.n in
    let p = c.in_ok-n.p in
    let walk = c.in_err-used.ensures in
    let no = value_refused (all (point_entries s)) ((times n point).read s p) (walks_as walk (sym (points_gather s n p))) in
    gives_leaves _ c.from_residual-in_err-used.ensures
    (gives_refused
    (read_on (coded (held a.has BD 0)) _ s c.in_ok-pixel_size.ensures ∙ listed_row s cap BL point takes_point (with_seeds pixel) _
    ∙ read_on (bounded cap BL) _ s c.in_ok-n.ensures ∙ then_refused (times n point) (with_seeds pixel) s no) (walk_kept walk))

pub returns-in_err-n : goal.returns-in_err-n
unfolding ending ending_read relay with_seeds
returns-in_err-n g c =
    let a = c.args in
    let s = a.s.now in
    let cap = a.caps.seed_points in
    gives_leaves _ c.from_residual-in_err-n.ensures
    (gives_refused
    (read_on (coded (held a.has BD 0)) _ s c.in_ok-pixel_size.ensures
    ∙ listed_row s cap BL point takes_point (with_seeds c.in_ok-pixel_size.pixel_size) _ ∙ read_not (bounded cap BL) _ s c.in_err-n.ensures) kept_same)

pub returns-in_err-pixel_size : goal.returns-in_err-pixel_size
unfolding ending ending_read relay
returns-in_err-pixel_size g c =
    let a = c.args in
    gives_leaves _ c.from_residual.ensures (gives_refused (read_not (coded (held a.has BD 0)) _ a.s.now c.in_err-pixel_size.ensures) kept_same)
