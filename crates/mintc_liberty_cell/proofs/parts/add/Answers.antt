use Rattle.std.proofs.lemmas.Bool.{MatchBool-at_true}
use Rattle.mintc_liberty_cell.specs.Seen.{pins_seen, group_seen}
use Rattle.mintc_liberty_cell.specs.Held.{held}
use Rattle.mintc_liberty_tokens.proofs.SharedPassingLaws.{second-way}
use Rattle.mintc_liberty_cell.proofs.HeldLaws.{wide, broken, some-held, none-held, second, next-plain, next-kept}
use Rattle.mintc_liberty_cell.proofs.parts.add.Goals as goal

pub returns-then-is_wide-clause-same : goal.returns-then-is_wide-clause-same
returns-then-is_wide-clause-same c = wide (held c.args.room c.args.parts.now) (group_seen c.args.room c.args.group) c.if-is_wide.ensures

pub returns-then-not-branch-clause-same : goal.returns-then-not-branch-clause-same
returns-then-not-branch-clause-same c =
    broken (held c.args.room c.args.parts.now) (group_seen c.args.room c.args.group) (second-way _ _ c.in_ok-add_pins.field-0 c.in_ok-add_pins.ensures c.if-not-branch.true)

pub returns-then-not-is_keeping-clause-same : goal.returns-then-not-is_keeping-clause-same
returns-then-not-is_keeping-clause-same c =
    next-plain (held c.args.room c.args.parts.now) (group_seen c.args.room c.args.group) (pins_seen c.add_pins.new.pins.items)
    c.if-is_wide.ensures (MatchBool-at_true _ _ c.if-not-branch.false c.in_ok-add_pins.ensures).0 c.if-not-is_keeping.ensures

pub returns-then-is_some-clause-same : goal.returns-then-is_some-clause-same
returns-then-is_some-clause-same c =
    let k = some-held c.args.room c.args.parts.now.keeper c.if-is_some.ensures in
    second (held c.args.room c.args.parts.now) (group_seen c.args.room c.args.group) k.0 c.if-not-is_keeping.ensures k.1

pub returns-clause-same : goal.returns-clause-same
returns-clause-same c =
    next-kept (held c.args.room c.args.parts.now) (group_seen c.args.room c.args.group) (pins_seen c.add_pins.new.pins.items)
    c.if-is_wide.ensures (MatchBool-at_true _ _ c.if-not-branch.false c.in_ok-add_pins.ensures).0 c.if-not-is_keeping.ensures
    (none-held c.args.room c.args.parts.now.keeper c.if-is_some.ensures)
