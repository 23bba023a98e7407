use Rattle.std.proofs.Common.{[], ◌∷◌, ◌++◌, ℕ, List, get_or, ap, ◌∙◌, sym}
use Rattle.std.proofs.lemmas.List.{get_or_default}
use Rattle.mintcx_chain.specs.Gates.{gates_of}
use Rattle.mintcx_chain.proofs.GateLaws.{gates_more}
use Rattle.mintcx_chain.proofs.gates.gates_of.Goals as goal

pub loop-number-preserved : goal.loop-number-preserved
loop-number-preserved c =
    let design = c.args.flat.now in
    let arcs = c.args.arcs.now in
    let i = c.loop-number.number-index in
    let n = get_or arcs i 0 in
    let below = c.loop-number-test.true in
    c.in_ok-push_gate.ensures ∙ ap (λ (v : List (List ℕ)). v ++ gates_of design (n ∷ [])) c.loop-number.invariant
    ∙ sym (gates_more design arcs i n below (get_or_default arcs i 0 n below))
