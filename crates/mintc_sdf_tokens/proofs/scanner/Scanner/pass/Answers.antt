use Rattle.std.proofs.Common.{arith, length, sym, ap, ◌∙◌, length-drop, drop, Some}
use Rattle.mintc_text_scan.proofs.SharedTokenLaws.{few}
use Rattle.mintc_sdf_tokens.specs.Scans.{Scan}
use Rattle.mintc_sdf_tokens.specs.Tokens.{piece_of}
use Rattle.mintc_sdf_tokens.specs.Reading.{passing}
use Rattle.mintc_sdf_tokens.proofs.ItemLaws.{passed-list, step-open, step-close, step-closing, step-end}
use Rattle.mintc_sdf_tokens.proofs.scanner.Scanner.pass.Goals as goal

pub overflow_add-depth : goal.overflow_add-depth
overflow_add-depth c =
    let some = step-open c.loop-depth.self.tokens (sym c.step.ensures.kind ∙ c.in-Open.is) in
    let bs = drop c.self.inside.at c.self.inside.text.now in
    let most = few piece_of 0 bs in
    let same = ap (λ (s : Scan). length s.tokens) c.self.view_is in
    omega (arith, some, most, same, length-drop c.self.inside.at c.self.inside.text.now, c.loop-depth.invariant.few)

pub returns-in-Close-clause-some : goal.returns-in-Close-clause-some
returns-in-Close-clause-some c =
    let closed = step-close c.loop-depth.self.tokens (sym c.step.ensures.kind ∙ c.in-Close.is) in
    sym (passed-list c.args.self.now.tokens) ∙ c.loop-depth.invariant.same ∙ ap (λ d. passing d c.loop-depth.self.tokens) c.if-depth-eq0.true ∙ closed ∙ ap Some (sym c.step.ensures.rest)

pub returns-in-Close-clause-within : goal.returns-in-Close-clause-within
returns-in-Close-clause-within c =
    let some = ap length (step-closing c.loop-depth.self.tokens (sym c.step.ensures.kind ∙ c.in-Close.is)) in
    let same = ap length c.place-place.ensures.tokens in
    let most = few piece_of 0 (drop c.place-place.result c.loop-depth.self.text) in
    let size = length-drop c.place-place.result c.loop-depth.self.text in
    let text = ap length c.loop-depth.invariant.ahead.same in (
      omega (arith, c.place-place.ensures.place, c.loop-depth.invariant.ahead.later),
      omega (arith, some, same, most, size, text),
    )

pub returns-in-End-clause-none : goal.returns-in-End-clause-none
returns-in-End-clause-none c =
    sym (passed-list c.args.self.now.tokens) ∙ c.loop-depth.invariant.same ∙ step-end c.loop-depth.depth c.loop-depth.self.tokens (sym c.step.ensures.kind ∙ c.in-End.is)
