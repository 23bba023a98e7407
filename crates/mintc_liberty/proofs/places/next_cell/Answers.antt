use Rattle.std.proofs.Common.{◌≡◌, ◌∷◌, [], ◌++◌, Some, sym, ap, ◌∙◌, arith}
use Rattle.mintc_liberty_tokens.proofs.SharedNestLaws.{step-shorter}
use Rattle.mintc_liberty_tokens.proofs.SharedPassingLaws.{ahead-then}
use Rattle.mintc_liberty.specs.Places.{opened, cells_next, named_cells, entry_from, entry_at}
use Rattle.mintc_liberty.proofs.NextLaws.{at-none, cells-step, cells-end}
use Rattle.mintc_liberty.proofs.places.next_cell.Goals as goal

pub returns-in_default-clause-none : goal.returns-in_default-clause-none
returns-in_default-clause-none c = c.loop-place.invariant.same ∙ cells-end c.loop-place.scanner.tokens (at-none _ c.pass.result c.pass.ensures.passed c.in_default.not-Some)

pub returns-then-is_cell-clause-some : goal.returns-then-is_cell-clause-some
returns-then-is_cell-clause-some c =
    let ts = c.loop-place.scanner.tokens in
    let us = c.pass.new.scanner.tokens in
    let cell = c.if-is_cell.ensures in
    let opens : opened ts ≡ Some cell.0 = ap opened (sym c.at-reader.ensures) ∙ cell.1 in
    c.loop-place.invariant.same ∙ cells-step ts us c.in-Some.ensures.passed
    ∙ ap (λ es. es ++ named_cells us) (ap cells_next (sym c.at-reader.ensures) ∙ cell.2
    ∙ ap (λ vs. entry_from vs ∷ []) (sym (c.in-Some.ensures.place cell.0 opens)) ∙ ap (λ text. entry_at text c.in-Some.place ∷ []) c.loop-place.invariant.ahead.same)

pub returns-then-is_cell-clause-shorter : goal.returns-then-is_cell-clause-shorter
returns-then-is_cell-clause-shorter c =
    let less = step-shorter 63 c.loop-place.scanner.tokens c.pass.new.scanner.tokens c.in-Some.ensures.passed in
    omega (arith, less, c.loop-place.invariant.shorter)

pub loop-place-smaller : goal.loop-place-smaller
loop-place-smaller c = step-shorter 63 c.loop-place.scanner.tokens c.pass.new.scanner.tokens c.in-Some.ensures.passed

pub loop-place-preserved : goal.loop-place-preserved
loop-place-preserved c =
    let ts = c.loop-place.scanner.tokens in
    let us = c.pass.new.scanner.tokens in
    let less = step-shorter 63 ts us c.in-Some.ensures.passed in
    record {
      same = c.loop-place.invariant.same ∙ cells-step ts us c.in-Some.ensures.passed ∙ ap (λ es. es ++ named_cells us) (ap cells_next (sym c.at-reader.ensures) ∙ c.if-is_cell.ensures);
      shorter = omega (arith, less, c.loop-place.invariant.shorter);
      ahead = ahead-then _ _ _ c.loop-place.invariant.ahead c.pass.ensures.ahead;
    }
