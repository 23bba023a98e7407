use Rattle.std.proofs.Common.{◌≡◌, arith, ◌∙◌}
use Rattle.mintc_senses.proofs.NoteLaws.{less-than}
use Rattle.mintc_senses.proofs.texts.places.Goals as goal

pub returns-clause-length : goal.returns-clause-length
returns-clause-length c =
    let end : c.loop-place._place ≡ c.args.count = omega arith in
    c.loop-place.invariant.length ∙ end

pub returns-clause-none : goal.returns-clause-none
returns-clause-none c = λ k h.
    let end : c.loop-place._place ≡ c.args.count = omega arith in
    c.loop-place.invariant.none k (less-than end h)
