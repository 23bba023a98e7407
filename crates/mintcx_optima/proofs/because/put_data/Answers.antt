use Rattle.std.proofs.Common.{◌≡◌, ◌==◌, ◌++◌, false, List, ℕ, length, ap, ◌∙◌, sym}
use Rattle.std.proofs.lemmas.Result.{on_ok_weaker}
use Rattle.mintcx_chain.specs.Gates.{gates_of}
use Rattle.mintcx_chain.specs.Through.{gates_text}
use Rattle.mintcx_optima.proofs.WrittenLaws.{through}
use Rattle.mintcx_optima.proofs.because.put_data.Goals as goal

pub returns : goal.returns
returns c =
    let gates : List (List ℕ) = gates_of c.args.flat.now c.args.arcs.now in
    let first : c.items.result.now ≡ gates = c.items.ensures ∙ c.in_ok-gates.ensures in
    let second : c.items-2.result.now ≡ gates = c.items-2.ensures ∙ c.in_ok-gates.ensures in
    let some : (length gates == 0) ≡ false = ap (λ (gs : List (List ℕ)). length gs == 0) (sym first) ∙ sym c.is_empty.ensures ∙ c.if-is_empty.false in
    on_ok_weaker c.put_gates.result
    (λ e. through c.args.lines.now c.put.new.self c.put-2.new.self c.put_gates.new.lines gates some c.in_ok-put.ensures.ok c.in_ok-put-2.ensures.ok
    (e ∙ ap (λ (gs : List (List ℕ)). c.put-2.new.self ++ gates_text gs) second))
    c.put_gates.ensures
