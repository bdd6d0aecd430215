-- A solid hatch has the empty pattern, which is handed on as none; another has the fields in front of the lines, and so many lines.
use mathlib.Core.Path.{◌≡◌, refl, sym, ap, ◌∙◌}
use mathlib.Core.Bool.{Bool, false}
use mathlib.Core.List.{List}
use Prim.Native.Nat.{ℕ}
use Rattle.std.specs.Prelude.{Some}
use Rattle.bitcursor.specs.Format.{pure, relay, then_got, then_refused, ◌>>=◌}
use Rattle.hatch_format.specs.declared.Caps.{Caps}
use Rattle.hatch_format.specs.Values.{Pattern, no_pattern}
use Rattle.hatch_format.specs.Counts.{times}
use Rattle.hatch_format.specs.Patterns.{pattern_line, pattern_read, pattern}
use Rattle.hatch_format.specs.Takes.{takes_none}
use Rattle.hatch_points.specs.Gathered.{all}
use Rattle.hatch_points.specs.Runs.{times_length, times_gather}
use Rattle.hatch_points.proofs.Laws.{walks_as, walk_kept, ready_on, kept_same, no_step}
use Rattle.hatch_rest.specs.Heads.{pattern_head, pattern_after_head, pattern_reads}
use Rattle.hatch_rest.specs.LineGathers.{line_entries, line_walk, line_gathers}
use Rattle.hatch_rest.specs.Tails.{pattern_of}
use Rattle.hatch_rest.proofs.Given.{read_on, read_not, gives_refused, gives_ends, gives_leaves, value_read, value_refused}
use Rattle.hatch_rest.proofs.patterns.decode_pattern.Goals as goal

-- what is read of one that is not solid
open_reads : (xs : List ℕ) (caps : Caps) (solid : Bool) (p : ℕ) → solid ≡ false
    → (pattern caps solid).read xs p ≡ (pattern_head caps.pattern_lines >>= pattern_after_head caps).read xs p
open_reads xs caps solid p e = ap (λ (b : Bool). (pattern caps b).read xs p) e ∙ pattern_reads xs caps p

pub returns-then-solid : goal.returns-then-solid
unfolding pattern pattern_read relay pure
returns-then-solid g c =
    let a = c.args in
    record {
      same = (refl, refl);
      gives = gives_ends no_pattern (ap (λ (b : Bool). (pattern a.caps b).read a.s.now a.at) c.if-solid.true)
          (ap (λ (b : Bool). pattern_of b no_pattern) (sym c.if-solid.true)) no_step c.requires;
    }

pub repeat-requires : goal.repeat-requires
repeat-requires g c =
    let a = c.args in
    let head = pattern_head a.caps.pattern_lines in
    ready_on head 0 (takes_none head) a.s.now a.at c.in_ok-pattern.ensures a.used c.requires

pub returns : goal.returns
unfolding pure
returns g c =
    let a = c.args in
    let s = a.s.now in
    let line = pattern_line a.caps.dashes in
    let h = c.in_ok-pattern.pattern in
    let p = c.in_ok-pattern.p in
    let walk = c.in_ok-used.ensures.walk in
    let t = value_read (all line_entries) ((times h.lines line).read s p)
    (walks_as walk (sym (times_gather line s line_entries (line_walk a.caps.dashes) (line_gathers s a.caps.dashes) h.lines p))) in
    let m = times_length line s h.lines p t.read in
    let value : Pattern = record { angle = h.angle; scale = h.scale; double = h.double; lines = t.value } in
    record {
      same = c.in_ok-used.ensures.same;
      gives = gives_ends value
          (open_reads s a.caps a.solid a.at c.if-solid.false ∙ read_on (pattern_head a.caps.pattern_lines) (pattern_after_head a.caps) s c.in_ok-pattern.ensures
          ∙ then_got (times h.lines line) _ s t.read)
          ((λ i. Some (record { angle = h.angle; scale = h.scale; double = h.double; lines = sym m i }))
          ∙ ap (λ (b : Bool). pattern_of b value) (sym c.if-solid.false)) t.step walk.ready;
    }

pub returns-in_err-used : goal.returns-in_err-used
returns-in_err-used g c =
    let a = c.args in
    let s = a.s.now in
    let line = pattern_line a.caps.dashes in
    let h = c.in_ok-pattern.pattern in
    let p = c.in_ok-pattern.p in
    let walk = c.in_err-used.ensures.walk in
    let no = value_refused (all line_entries) ((times h.lines line).read s p)
    (walks_as walk (sym (times_gather line s line_entries (line_walk a.caps.dashes) (line_gathers s a.caps.dashes) h.lines p))) in
    record {
      same = c.in_err-used.ensures.same;
      gives = gives_leaves _ c.from_residual-in_err-used.ensures
          (gives_refused
          (open_reads s a.caps a.solid a.at c.if-solid.false ∙ read_on (pattern_head a.caps.pattern_lines) (pattern_after_head a.caps) s c.in_ok-pattern.ensures
          ∙ then_refused (times h.lines line) _ s no) (walk_kept walk));
    }

pub returns-in_err-pattern : goal.returns-in_err-pattern
returns-in_err-pattern g c =
    let a = c.args in
    let s = a.s.now in
    record {
      same = (refl, refl);
      gives = gives_leaves _ c.from_residual.ensures
          (gives_refused
          (open_reads s a.caps a.solid a.at c.if-solid.false
          ∙ read_not (pattern_head a.caps.pattern_lines) (pattern_after_head a.caps) s c.in_err-pattern.ensures) kept_same);
    }
