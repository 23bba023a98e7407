use Rattle.std.proofs.Common.{◌≡◌, sym, rules, true, codes, [], ◌∷◌}
use Rattle.toml.specs.View.{view, table_view}
use Rattle.mintc_toml.specs.Lookups.{has_only}
use Rattle.mintc_cells.specs.CellsOf.{entries, AreRead, IsFirstBad, AreDescribed, AreInTable, IsBadTable, bad_entry}
use Rattle.mintc_cells.proofs.EntriesLaws.{described_at, carried, nothing_ordered, nothing_described}
use Rattle.mintc_cells.proofs.read.read_document.Goals as goal

pub returns-in-Some-as_table-clause-value : goal.returns-in-Some-as_table-clause-value
returns-in-Some-as_table-clause-value c =
    let ms = table_view c.args.document.now in
    let es = entries (table_view c.in-Some-as_table.table.now) in
    let known : has_only (codes "cell" ∷ []) ms ≡ true = search rules in
    let are : AreDescribed ms es = record {
      is_list = described_at ms (table_view c.in-Some-as_table.table.now) (view c.in-Some.value.now) known c.in-Some.ensures (sym c.in-Some-as_table.ensures);
      ascending = c.read_entries.ensures.ascending;
    } in
    carried c.read_entries.result (λ v. AreRead es v.items) (λ v. AreInTable ms v.items) (IsFirstBad es) (IsBadTable ms)
    (λ v read. record { list = es; are_described = are; read = read }) (λ n rule first. bad_entry es are first) c.read_entries.ensures.value

pub returns-in-None-clause-ordered : goal.returns-in-None-clause-ordered
returns-in-None-clause-ordered c = nothing_ordered c.new.result.items c.new.ensures.items

pub returns-in-None-clause-value : goal.returns-in-None-clause-value
returns-in-None-clause-value c =
    let known : has_only (codes "cell" ∷ []) (table_view c.args.document.now) ≡ true = search rules in
    nothing_described (table_view c.args.document.now) c.new.result.items known c.in-None.ensures c.new.ensures.items
