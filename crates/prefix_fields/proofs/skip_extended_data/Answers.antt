-- What is left of the chain reads what the whole reads; each turn takes one block off.
use Rattle.std.specs.Prelude.{◌≡◌, true, ℕ, ◌-◌, ◌+◌, ◌<◌, ltb}
use Rattle.std.proofs.Common.{sym, ap, ap₂, ◌∙◌, arith, le-leb}
use Rattle.bitcursor.specs.Answers.{outcome}
use Rattle.bitcursor.proofs.Steps.{left}
use Rattle.prefix_fields.specs.Blocks.{chain_from, chain_whole, chain_ends, chain_on, chain_stops, chain_over}
use Rattle.prefix_fields.proofs.skip_extended_data.Goals as goal

pub returns-then-not-more : goal.returns-then-not-more
returns-then-not-more c =
    let a = c.args in
    let l = c.loop-blocks in
    let some : 0 < 256 - l.blocks = omega arith in
    sym (chain_whole a.s.now a.at ∙ l.invariant ∙ chain_ends (ltb 0 l.blocks) (256 - l.blocks) a.s.now l.p some c.in_ok-more.ensures c.if-not-more.true)

pub loop-blocks-preserved : goal.loop-blocks-preserved
loop-blocks-preserved c =
    let a = c.args in
    let l = c.loop-blocks in
    let some : 0 < 256 - l.blocks = omega arith in
    let one_less : 256 - l.blocks - 1 ≡ 256 - (l.blocks + 1) = omega arith in
    let one_more : true ≡ ltb 0 (l.blocks + 1) = sym (le-leb 1 (l.blocks + 1) (omega arith)) in
    l.invariant ∙ chain_on (ltb 0 l.blocks) (256 - l.blocks) a.s.now l.p some c.in_ok-more.ensures c.if-not-more.false
    ∙ ap₂ (λ (n : ℕ) b. chain_from n b a.s.now c.in_ok-more.q) one_less one_more

pub returns-in_err-more : goal.returns-in_err-more
returns-in_err-more c =
    let a = c.args in
    let l = c.loop-blocks in
    let some : 0 < 256 - l.blocks = omega arith in
    left _ c.from_residual.ensures ∙ sym (chain_whole a.s.now a.at ∙ l.invariant
    ∙ chain_stops (ltb 0 l.blocks) (256 - l.blocks) a.s.now l.p some c.in_err-more.ensures)

pub returns : goal.returns
returns c =
    let a = c.args in
    let l = c.loop-blocks in
    let none : 256 - l.blocks ≡ 0 = omega arith in
    ap outcome c.refuse.ensures
    ∙ sym (chain_whole a.s.now a.at ∙ l.invariant ∙ ap (λ (n : ℕ). chain_from n (ltb 0 l.blocks) a.s.now l.p) none ∙ chain_over (ltb 0 l.blocks) a.s.now l.p)
