use Rattle.std.proofs.Common.{ap, ◌∙◌}
use Rattle.toml.specs.View.{view, table_view, members_view}
use Rattle.liberty2toml_command.specs.Puts.{put_member}
use Rattle.liberty2toml_command.proofs.PrintLaws.{put-view}
use Rattle.liberty2toml_command.proofs.tables.put.Goals as goal

pub returns : goal.returns
returns c =
    ap members_view c.in_ok-insert.ensures.entries
    ∙ put-view c.args.members.now.entries c.in_ok-key.key c.args.value
    ∙ ap (λ k. put_member k (view c.args.value) (table_view c.args.members.now)) c.in_ok-key.ensures.ok
