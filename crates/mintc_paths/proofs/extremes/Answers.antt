use Rattle.std.proofs.Common.{◌≤◌, ap, arith}
use Rattle.mintc_text.specs.declared.limits.Most.{Most}
use Rattle.mintc_paths.specs.Found.{most_count}
use Rattle.mintc_paths.proofs.SharedFinding.{pairs_found, few_found, many_found}
use Rattle.mintc_paths.proofs.Refusing.{stop_passed_on}
use Rattle.mintc_paths.proofs.extremes.Goals as goal

pub returns-in_err-pairs-clause-stop : goal.returns-in_err-pairs-clause-stop
returns-in_err-pairs-clause-stop c = stop_passed_on c.args.limits.now c.args.flat.now c.in_err-pairs.field-0.0 c.from_residual.result c.in_err-pairs.ensures.stop c.from_residual.ensures.1

pub returns-then-count-limit-clause-stop : goal.returns-then-count-limit-clause-stop
returns-then-count-limit-clause-stop c =
    let found = c.in_ok-pairs.field-0 in
    let value = ap (λ (m : Most). m.pairs) c.most-most.ensures.value in
    let few : found.count ≤ most_count = c.in_ok-pairs.ensures.few in
    (c.in_ok-pairs.ensures.short, many_found c.args.limits.now.pairs c.args.flat.now found c.in_ok-pairs.ensures.found (omega (arith, value)) few)

pub returns-clause-pairs : goal.returns-clause-pairs
returns-clause-pairs c =
    pairs_found c.args.flat.now c.in_ok-pairs.field-0 c.in_ok-pairs.ensures.found (omega (arith, c.in_ok-pairs.ensures.most))

pub returns-clause-few : goal.returns-clause-few
returns-clause-few c =
    let value = ap (λ (m : Most). m.pairs) c.most-most.ensures.value in
    few_found c.args.limits.now.pairs c.args.flat.now c.in_ok-pairs.field-0 c.in_ok-pairs.ensures.found (omega (arith, value, c.in_ok-pairs.ensures.most)) (omega (arith, value))
