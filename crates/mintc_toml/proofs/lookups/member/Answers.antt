use Rattle.toml.specs.Data.{get_member}
use Rattle.toml.specs.View.{table_view}
use Rattle.toml.proofs.Views.{table_get}
use Rattle.mintc_toml.proofs.LookupsLaws.{found}
use Rattle.mintc_toml.proofs.lookups.member.Goals as goal

pub returns : goal.returns
returns c =
    found c.get.result (get_member c.args.key.now (table_view c.args.table.now)) (table_get c.get.result c.args.key.now c.args.table.now.entries c.get.ensures.value)
