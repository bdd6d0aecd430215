-- The walk begins with a pattern line, and goes on behind what was found.
use Rattle.whole_lists.proofs.StepLaws.{steps_found, begins_line}
use Rattle.whole_lists.proofs.ListWalk.line_step.Goals as goal

pub returns : goal.returns
returns c =
    let a = c.args in
    let f = c.in_ok-i.ensures in
    steps_found (λ i. i) (λ i. a.self.at.parts) (begins_line a.self.words.now a.self.numbers a.self.at c.requires.0 c.requires.1.0 c.requires.1.1)
    a.self.within f.0 f.1 f.2 a.self.within.parts c.pass.ensures
