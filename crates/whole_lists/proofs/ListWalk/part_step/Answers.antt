-- The walk begins with the last part, a handle count, or with an edge, and goes on behind what was found.
use Prim.Native.Nat.{◌-◌}
use native.Mathlib.Omega.{arith}
use Rattle.hatch_lists.specs.declared.Item.{Item}
use Rattle.whole_lists.proofs.StepLaws.{steps_found, steps_broken, begins_handles, begins_edge}
use Rattle.whole_lists.proofs.ListWalk.part_step.Goals as goal
use Rattle.whole_lists.proofs.ListWalk.part_step.Goals.{then-at-eq-LAST_PART+in_ok-handles_item, else-at-eq-LAST_PART+in_ok-i}

pub returns-in_err-i : goal.returns-in_err-i
returns-in_err-i c =
    let a = c.args in
    steps_broken (λ i. i) (λ i. a.self.at.parts - 1) (begins_edge a.self.words.now a.self.numbers a.self.at (omega (arith, c.requires))) c.in_err-i.ensures
    c.from_residual-in_err-i.ensures

pub returns : goal.returns
returns c =
    let a = c.args in
    let few = λ (i : Item). a.self.at.parts - 1 in
    elim c.if-at-eq-LAST_PART.branch [
      | then-at-eq-LAST_PART+in_ok-handles_item w ↦
          (let f = w.in_ok-handles_item.ensures in
          steps_found (λ i. i) few (begins_handles a.self.words.now a.self.numbers a.self.at w.if-at-eq-LAST_PART.true) a.self.within f.0 f.1 f.2 (omega arith)
          (rw w.word-is at c.pass.ensures))
      | else-at-eq-LAST_PART+in_ok-i w ↦
          (let f = w.in_ok-i.ensures in
          steps_found (λ i. i) few (begins_edge a.self.words.now a.self.numbers a.self.at (omega (arith, c.requires))) a.self.within f.0 f.1 f.2
          (omega (arith, a.self.within.parts)) (rw w.word-is at c.pass.ensures))
    ]
