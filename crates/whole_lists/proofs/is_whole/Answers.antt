-- A record that fits its lists is whole exactly where the walk over the used parts ends behind the last word and before the seed points.
use mathlib.Core.Path.{refl, sym, subst, ◌∙◌}
use mathlib.Core.Bool.{false}
use lib.ListN.{take}
use Rattle.std.specs.Prelude.{Some, None}
use Rattle.whole_lists.specs.Ended.{Ends}
use Rattle.whole_lists.proofs.Judged.{judges_no, judges_end}
use Rattle.whole_lists.proofs.is_whole.Goals as goal

pub returns-then-not-is_fitting : goal.returns-then-not-is_fitting
returns-then-not-is_fitting c =
    let a = c.args in
    judges_no a.c a.words.now a.numbers (sym c.is_fitting.ensures ∙ c.if-not-is_fitting.true)

pub returns-in-Some : goal.returns-in-Some
returns-in-Some c =
    let a = c.args in
    let fit = sym c.is_fitting.ensures ∙ c.if-not-is_fitting.false in
    let ends = subst (λ p. Ends (take a.c.words_used a.words.now) a.c.numbers_used p (Some c.in-Some.end)) c.start.ensures c.in-Some.ensures in
    judges_end a.c a.words.now a.numbers c.is_end.result (Some c.in-Some.end) fit ends c.is_end.ensures

pub returns-in-None : goal.returns-in-None
returns-in-None c =
    let a = c.args in
    let fit = sym c.is_fitting.ensures ∙ c.if-not-is_fitting.false in
    let ends = subst (λ p. Ends (take a.c.words_used a.words.now) a.c.numbers_used p None) c.start.ensures c.in-None.ensures in
    judges_end a.c a.words.now a.numbers false None fit ends refl
