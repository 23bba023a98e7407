use Rattle.std.proofs.Common.{◌++◌, sym, ap, ◌∙◌}
use Rattle.mintc_liberty_cell.specs.Passing.{value_bytes}
use Rattle.mintc_liberty_cell.proofs.BytesLaws.{empty, some, first}
use Rattle.mintc_liberty_cell.proofs.ValueLaws.{value-there, value-none}
use Rattle.mintc_liberty_cell.proofs.bytes.ValueBytes.byte.Goals as goal

pub loop-self-init : goal.loop-self-init
loop-self-init c = c.self.view_is

pub returns-in_default-clause-none : goal.returns-in_default-clause-none
returns-in_default-clause-none c =
    let piece = c.loop-self.self-inside.piece.now in
    let here = c.loop-self.self-inside.behind in
    let none = empty piece c.loop-self-test.ensures in
    let over = value-none here c.in_default.ensures.none.0 in (
      sym c.loop-self.invariant ∙ ap (λ xs. xs ++ value_bytes here) none ∙ over,
      ap (λ ts. piece ++ value_bytes ts) c.in_default.ensures.none.1 ∙ ap (λ xs. xs ++ value_bytes here) none ∙ over,
    )

pub loop-self-smaller : goal.loop-self-smaller
loop-self-smaller c = (value-there c.loop-self.self-inside.behind c.value_token.new.reader c.in-Some.piece.now c.in-Some.ensures.some).2

pub loop-self-preserved : goal.loop-self-preserved
loop-self-preserved c =
    let here = c.loop-self.self-inside.behind in
    let there = value-there here c.value_token.new.reader c.in-Some.piece.now c.in-Some.ensures.some in
    let none = empty c.loop-self.self-inside.piece.now c.loop-self-test.ensures in
    sym there.1 ∙ sym (ap (λ xs. xs ++ value_bytes here) none) ∙ c.loop-self.invariant

pub returns-clause-some : goal.returns-clause-some
returns-clause-some c =
    let piece = c.loop-self.self-inside.piece.now in
    sym c.loop-self.invariant ∙ first piece (value_bytes c.loop-self.self-inside.behind) (some piece c.loop-self-test.ensures)
