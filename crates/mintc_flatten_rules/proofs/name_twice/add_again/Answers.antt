use Rattle.std.proofs.Common.{sym, ap, ◌∙◌, not, ℕ, List}
use Rattle.mintc_text_names.specs.Names.{is_among, with_name}
use Rattle.mintc_flatten_rules.proofs.TwiceLaws.{step_new}
use Rattle.mintc_flatten_rules.proofs.name_twice.add_again.Goals as goal

pub loop-name-preserved : goal.loop-name-preserved
loop-name-preserved c =
    let seen = c.loop-name.names in
    let both = step_new c.args.names.now seen c.add.new.self c.args.more.now c.loop-name.name-index c.name-item.result c.loop-name-test.true c.name-item.is c.loop-name.invariant.names c.loop-name.invariant.again
    (sym c.if-not-branch.false ∙ c.in_ok-add.ensures.added ∙ ap (λ (n : List ℕ). not (is_among n seen)) c.bytes.ensures) (c.in_ok-add.ensures.names ∙ ap (with_name seen) c.bytes.ensures) in
    record { names = both.0; again = both.1 }
