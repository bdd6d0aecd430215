-- Every entry is judged before the first store: what judging denies is not so.
use Rattle.std.specs.Prelude.{IsSome}
use Rattle.std.specs.List.{All}
use Rattle.std.proofs.Common.{rules}
use Rattle.code_page.proofs.CallLaws.{gives_undefined}
use Rattle.code_page.proofs.conversion.convert_by_table.Goals as goal

pub returns-then-not-defined : goal.returns-then-not-defined
returns-then-not-defined g c =
    let some_not : All (λ x. IsSome (g.T.Character.mapped x)) c.args.input.now → ⊥ = search rules in
    gives_undefined g.T.Character.mapped c.args.input.now c.args.output.now some_not
