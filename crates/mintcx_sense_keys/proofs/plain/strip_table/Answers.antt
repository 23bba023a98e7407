use Rattle.std.proofs.Common.{ap, ◌∙◌, codes, rules}
use Rattle.toml.specs.View.{members_view}
use Rattle.mintcx_sense_keys.specs.Plain.{without}
use Rattle.mintcx_sense_keys.proofs.PlainLaws.{removed, no_clock}
use Rattle.mintcx_sense_keys.proofs.plain.strip_table.Goals as goal

pub returns-then-ne : goal.returns-then-ne
returns-then-ne c =
    let once = ap members_view c.remove.ensures.entries ∙ removed (codes "positive") c.args.table.now.entries in
    let both = ap members_view c.remove-then-ne.ensures.entries ∙ removed (codes "negative") c.remove.new.self.entries ∙ ap (without (codes "negative")) once in
    no_clock (members_view c.args.table.now.entries) (members_view c.remove-then-ne.new.self.entries) (search rules) both
