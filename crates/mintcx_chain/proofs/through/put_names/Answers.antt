use Rattle.std.proofs.Common.{◌++◌, ℕ, List, take, ap, ◌∙◌, sym, append_assoc}
use Rattle.mintcx_chain.specs.Gates.{short_name}
use Rattle.mintcx_chain.specs.Through.{few_text, next_text}
use Rattle.mintcx_chain.proofs.ThroughLaws.{names_more}
use Rattle.mintcx_chain.proofs.through.put_names.Goals as goal

pub loop-at-preserved : goal.loop-at-preserved
loop-at-preserved c =
    let lines = c.args.lines.now in
    let gates = c.args.gates.now in
    let i = c.loop-at.at in
    let gate = c.index-gates-at.result in
    let next = next_text i (short_name gate) in
    c.in_ok-put_next.ensures ∙ ap (λ (v : List ℕ). v ++ next) c.loop-at.invariant
    ∙ append_assoc lines (few_text (take i gates)) next
    ∙ ap (λ (v : List ℕ). lines ++ v) (sym (names_more gates i gate c.loop-at-test.true c.index-gates-at.is))
