use Rattle.std.proofs.Common.{codes}
use Rattle.std.proofs.lemmas.Result.{on_ok_weaker}
use Rattle.mintcx_json.specs.Objects.{count, name}
use Rattle.mintcx_json.proofs.PieceLaws.{in_five}
use Rattle.mintcx_json.proofs.refusals.put_spotted.Goals as goal

pub returns : goal.returns
returns c =
    let spotted = c.args.spotted.now in
    on_ok_weaker c.put_name-2.result
    (λ e. in_five c.args.sheet.now (codes "file", name c.args.file.now) (codes "line", count spotted.line) (codes "column", count spotted.column)
    (codes "length", count spotted.length) (codes "label", name c.args.label.now)
    c.in_ok-put_name.ensures c.in_ok-put_count.ensures c.in_ok-put_count-2.ensures c.in_ok-put_count-3.ensures e)
    c.put_name-2.ensures
