-- The walk begins with a path's head, and goes on behind what was found with the parts that it says.
use Rattle.hatch_lists.specs.declared.Head.{Head}
use Rattle.whole_lists.proofs.StepLaws.{steps_found, begins_path}
use Rattle.whole_lists.proofs.ListWalk.path_step.Goals as goal

pub returns : goal.returns
returns c =
    let a = c.args in
    let f = c.in_ok-head.ensures in
    steps_found (λ (h : Head). h.item) (λ (h : Head). h.parts) (begins_path a.self.words.now a.self.numbers a.self.at c.requires.0 c.requires.1)
    a.self.within f.0 f.1 f.2.0 f.2.1 c.pass.ensures
