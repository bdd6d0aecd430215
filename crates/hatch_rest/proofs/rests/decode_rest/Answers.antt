-- Two switches and a count, the paths, and what follows them, one behind the other.
use mathlib.Core.Path.{refl, ◌≡◌, sym, ap, ◌∙◌}
use mathlib.Core.Bool.{Bool}
use mathlib.Core.List.{List}
use Prim.Native.Nat.{ℕ, ◌≤◌}
use native.Mathlib.Omega.{arith}
use Rattle.std.specs.Prelude.{Result}
use Rattle.bitcursor.specs.declared.Refused.{Refused}
use Rattle.bitcursor.specs.declared.Refusal.TheVariants.{TooFewBits}
use Rattle.bitcursor.specs.Reading.{Out, refused, and_then}
use Rattle.loads.specs.Bits.{size}
use Rattle.bitcursor.specs.Code.{mapped, tabled}
use Rattle.bitcursor.specs.Codes.{B, B_read, BL}
use Rattle.bitcursor.specs.Stops.{past_opened}
use Rattle.bitcursor.specs.Fields.{coded}
use Rattle.bitcursor.specs.Format.{Format, pure, ◌>>=◌, then_got, then_refused}
use Rattle.bitcursor.specs.Inputs.{one}
use Rattle.text.specs.declared.version.Version.{Version}
use Rattle.hatch_format.specs.declared.Caps.{Caps}
use Rattle.hatch_format.specs.Values.{Path, derived}
use Rattle.hatch_format.specs.HandleRule.{in_payload}
use Rattle.hatch_format.specs.Takes.{takes_none}
use Rattle.hatch_format.specs.Counts.{times, bounded}
use Rattle.hatch_format.specs.Paths.{path, takes_path, paths, paths_in_payload}
use Rattle.hatch_format.specs.Patterns.{tail, rest_read, rest}
use Rattle.hatch_points.specs.declared.lists.Sizes.{Sizes}
use Rattle.hatch_points.specs.Gathered.{Entries, all, gathered, repeated}
use Rattle.hatch_points.specs.Lists.{Lists, Ready, Walks}
use Rattle.hatch_points.specs.Runs.{times_length}
use Rattle.hatch_points.proofs.Laws.{◌⊕◌, walks_as, walk_kept, ready_on, kept_then, kept_same}
use Rattle.hatch_points.proofs.Rows.{listed_row}
use Rattle.hatch_paths.specs.Fits.{has_fits}
use Rattle.hatch_paths.specs.PathWalks.{path_walk}
use Rattle.hatch_paths.specs.PathGathers.{path_entries, all_paths, paths_gather}
use Rattle.hatch_rest.specs.Rests.{no_sizes}
use Rattle.hatch_rest.proofs.Given.{read_on, read_not, gives_refused, gives_ends, gives_leaves, ValueRead, value_read, value_refused}
use Rattle.hatch_rest.proofs.Given.{given, not_given, given_kept}
use Rattle.hatch_rest.proofs.rests.decode_rest.Goals as goal

-- a flag at the payload's end, or past it
B_past : (xs : List ℕ) (p : ℕ) → size xs ≤ p → B.read xs p ≡ refused TooFewBits p
unfolding B B_read mapped tabled
B_past xs p h = past_opened 1 _ xs p (omega arith) h

-- the count of paths, the paths, and what follows them; in the payload no path looks at the sum of the handle counts
paths_row : {A : Type 0} (xs : List ℕ) (caps : Caps) (v : Version) (g : List Path → Format one A) (p : ℕ)
    → (paths caps in_payload v >>= g).read xs p ≡ (bounded caps.paths BL >>= λ n. times n (path caps in_payload v 0) >>= g).read xs p
unfolding ◌>>=◌
paths_row xs caps v g p =
    ap (λ (o : Out ℕ (List Path)). and_then o (λ a r. (g a).read xs r)) (paths_in_payload caps v xs p)
    ∙ listed_row xs caps.paths BL (path caps in_payload v 0) (takes_path caps in_payload v 0) g p

-- the walk over the paths gathers what they hold
paths_walk : {N : Type 0} {of : ℕ → N} (xs : List ℕ) (caps : Caps) (v : Version) (n p : ℕ) {l l' : Lists N} {z : Sizes}
    {r : Result (Sizes × ℕ) (Refused ℕ)} → Walks of xs ((repeated n (path_walk caps (has_fits v))).read xs p) l z l' r
    → Walks of xs (gathered (all path_entries) ((times n (path caps in_payload v 0)).read xs p)) l z l' r
paths_walk xs caps v n p h = walks_as h (sym (paths_gather xs caps v n p))

-- and says whether one came from a boundary object
has : {N : Type 0} {of : ℕ → N} {o : Out ℕ (List Path)} {l l' : Lists N} {q : ℕ} {y : Sizes}
    (t : ValueRead of (all path_entries) o l no_sizes l' q y) → y.derived ≡ derived t.value
has t = ap (λ (z : Sizes). z.derived) t.step.sizes ∙ ap (λ (e : Entries). e.derived) (all_paths t.value)

pub returns-then-size-at : goal.returns-then-size-at
unfolding rest rest_read
returns-then-size-at g c =
    let s = c.args.s.now in
    let past = B_past s c.args.at (omega (arith, c.size.ensures.all)) in
    record { same = (refl, refl); gives = rw c.refuse.ensures (gives_refused (then_refused (coded B) _ s past) kept_same) }

pub repeat-requires : goal.repeat-requires
repeat-requires g c =
    let a = c.args in
    let s = a.s.now in
    let flag = takes_none (coded B) in
    let count = bounded a.rules.caps.paths BL in
    let starts : Ready s a.at no_sizes = (c.size.ensures.within, (omega (arith, c.size.ensures.all), (omega arith, omega arith))) in
    let r = ready_on (coded B) 0 flag s a.at c.in_ok-solid.ensures no_sizes starts in
    let t = ready_on (coded B) 0 flag s _ c.in_ok-associative.ensures no_sizes r in
    ready_on count 0 (takes_none count) s _ c.in_ok-n.ensures no_sizes t

pub returns : goal.returns
unfolding rest rest_read pure
returns g c =
    let a = c.args in
    let s = a.s.now in
    let n = c.in_ok-n.n in
    let p = c.in_ok-n.p in
    let item = path a.rules.caps in_payload a.rules.version 0 in
    let t = value_read (all path_entries) ((times n item).read s p) (paths_walk s a.rules.caps a.rules.version n p c.in_ok-used.ensures.walk) in
    let o = (tail a.rules.caps c.in_ok-solid.solid c.in_ok-used.used.derived).read s c.in_ok-used.p in
    let u = given o c.in_ok-tail.ensures.gives in
    let m = times_length item s n p t.read in
    record {
      same = (c.in_ok-tail.ensures.same.0 ∙ c.in_ok-used.ensures.same.0, c.in_ok-tail.ensures.same.1 ∙ c.in_ok-used.ensures.same.1);
      gives = gives_ends
          (record { solid = c.in_ok-solid.solid; associative = c.in_ok-associative.associative; paths = t.value; tail = u.0.value })
          (read_on (coded B) _ s c.in_ok-solid.ensures ∙ read_on (coded B) _ s c.in_ok-associative.ensures ∙ paths_row s a.rules.caps a.rules.version _ _
          ∙ read_on (bounded a.rules.caps.paths BL) _ s c.in_ok-n.ensures ∙ then_got (times n item) _ s t.read
          ∙ then_got (tail a.rules.caps c.in_ok-solid.solid (derived t.value)) _ s
          (ap (λ (b : Bool). (tail a.rules.caps c.in_ok-solid.solid b).read s c.in_ok-used.p) (sym (has t)) ∙ u.0.read))
          (λ i. record {
            associative = c.in_ok-associative.associative;
            paths = sym m i;
            tail = u.1 i;
          }) (t.step ⊕ u.0.step) c.in_ok-tail.ensures.gives.ready;
    }

pub returns-in_err-tail : goal.returns-in_err-tail
unfolding rest rest_read
returns-in_err-tail g c =
    let a = c.args in
    let s = a.s.now in
    let n = c.in_ok-n.n in
    let p = c.in_ok-n.p in
    let item = path a.rules.caps in_payload a.rules.version 0 in
    let t = value_read (all path_entries) ((times n item).read s p) (paths_walk s a.rules.caps a.rules.version n p c.in_ok-used.ensures.walk) in
    let o = (tail a.rules.caps c.in_ok-solid.solid c.in_ok-used.used.derived).read s c.in_ok-used.p in
    let no = c.in_err-tail.ensures.gives in
    record {
      same = (c.in_err-tail.ensures.same.0 ∙ c.in_ok-used.ensures.same.0, c.in_err-tail.ensures.same.1 ∙ c.in_ok-used.ensures.same.1);
      gives = gives_leaves _ c.from_residual-in_err-tail.ensures
          (gives_refused
          (read_on (coded B) _ s c.in_ok-solid.ensures ∙ read_on (coded B) _ s c.in_ok-associative.ensures ∙ paths_row s a.rules.caps a.rules.version _ _
          ∙ read_on (bounded a.rules.caps.paths BL) _ s c.in_ok-n.ensures ∙ then_got (times n item) _ s t.read
          ∙ then_refused (tail a.rules.caps c.in_ok-solid.solid (derived t.value)) _ s
          (ap (λ (b : Bool). (tail a.rules.caps c.in_ok-solid.solid b).read s c.in_ok-used.p) (sym (has t)) ∙ not_given o no))
          (kept_then t.step (given_kept o no)));
    }

pub returns-in_err-used : goal.returns-in_err-used
unfolding rest rest_read
returns-in_err-used g c =
    let a = c.args in
    let s = a.s.now in
    let n = c.in_ok-n.n in
    let p = c.in_ok-n.p in
    let item = path a.rules.caps in_payload a.rules.version 0 in
    let walk = paths_walk s a.rules.caps a.rules.version n p c.in_err-used.ensures.walk in
    record {
      same = c.in_err-used.ensures.same;
      gives = gives_leaves _ c.from_residual-in_err-used.ensures
          (gives_refused
          (read_on (coded B) _ s c.in_ok-solid.ensures ∙ read_on (coded B) _ s c.in_ok-associative.ensures ∙ paths_row s a.rules.caps a.rules.version _ _
          ∙ read_on (bounded a.rules.caps.paths BL) _ s c.in_ok-n.ensures
          ∙ then_refused (times n item) _ s (value_refused (all path_entries) ((times n item).read s p) walk)) (walk_kept walk));
    }

pub returns-in_err-n : goal.returns-in_err-n
unfolding rest rest_read
returns-in_err-n g c =
    let a = c.args in
    let s = a.s.now in
    record {
      same = (refl, refl);
      gives = gives_leaves _ c.from_residual-in_err-n.ensures
          (gives_refused
          (read_on (coded B) _ s c.in_ok-solid.ensures ∙ read_on (coded B) _ s c.in_ok-associative.ensures ∙ paths_row s a.rules.caps a.rules.version _ _
          ∙ read_not (bounded a.rules.caps.paths BL) _ s c.in_err-n.ensures) kept_same);
    }

pub returns-in_err-associative : goal.returns-in_err-associative
unfolding rest rest_read
returns-in_err-associative g c =
    let s = c.args.s.now in
    record {
      same = (refl, refl);
      gives = gives_leaves _ c.from_residual-in_err-associative.ensures
          (gives_refused (read_on (coded B) _ s c.in_ok-solid.ensures ∙ read_not (coded B) _ s c.in_err-associative.ensures) kept_same);
    }

pub returns-in_err-solid : goal.returns-in_err-solid
unfolding rest rest_read
returns-in_err-solid g c =
    record {
      same = (refl, refl);
      gives = gives_leaves _ c.from_residual.ensures (gives_refused (read_not (coded B) _ c.args.s.now c.in_err-solid.ensures) kept_same);
    }
