use Rattle.std.proofs.Common.{◌≡◌, length, sym, ◌∙◌, arith}
use Rattle.std.specs.Option.{option_copied}
use Rattle.mintc_flatten_hierarchy.specs.Sources.{source_of}
use Rattle.mintc_flatten.proofs.RefusalLaws.{one_of}
use Rattle.mintc_flatten_hierarchy.proofs.SharedShapeLaws.{top_there, top_live}
use Rattle.mintc_flatten.proofs.flattening.one_top.Goals as goal

pub returns-then-len-eq1-clause-there : goal.returns-then-len-eq1-clause-there
returns-then-len-eq1-clause-there c =
    let count : length c.in_ok-tops.tops.items ≡ 1 = omega arith in
    top_there (source_of c.args.cells.now c.args.modules.now) (option_copied c.args.top) c.index.result.now (sym c.in_ok-tops.ensures ∙ one_of c.in_ok-tops.tops.items c.index.result.now count c.index.ensures)

pub returns-then-len-eq1-clause-live : goal.returns-then-len-eq1-clause-live
returns-then-len-eq1-clause-live c =
    let count : length c.in_ok-tops.tops.items ≡ 1 = omega arith in
    top_live (source_of c.args.cells.now c.args.modules.now) (option_copied c.args.top) c.index.result.now (sym c.in_ok-tops.ensures ∙ one_of c.in_ok-tops.tops.items c.index.result.now count c.index.ensures)
