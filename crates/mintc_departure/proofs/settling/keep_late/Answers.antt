use Rattle.std.proofs.lemmas.Grind.{common_steps}
use Rattle.std.proofs.Common.{◌≡◌, ◌≤◌, ℤ, pos, List, length, arith, ap, ◌∙◌}
use Rattle.std.proofs.lemmas.List.{ext_get_or}
use Rattle.mintc_departure.proofs.settling.keep_late.Goals as goal

pub returns : goal.returns
returns c =
    let i = c.loop-number.invariant in
    let values = c.args.room.now.values in
    let late = c.loop-number.room.late in
    let all : length values ≤ c.loop-number.number = rw c.values-count.ensures at c.loop-number-test.false in
    let same : late ≡ values = ext_get_or (pos 0) late values i.count (λ k h. i.copied k (omega arith)) in
    i.kept ∙ ap (λ (xs : List ℤ). record c.args.room.now { late = xs }) same

pub loop-number-init : goal.loop-number-init
loop-number-init c = grind (arith, common_steps)
