use Rattle.std.proofs.Common.{codes, map}
use Rattle.std.specs.List.{range_with_len}
use Rattle.std.proofs.lemmas.Result.{on_ok_weaker}
use Rattle.mintcx_json.specs.Objects.{array_of, name}
use Rattle.mintcx_json.specs.Judgements.{names_of}
use Rattle.mintcx_json.proofs.PieceLaws.{one_array, one_field}
use Rattle.mintcx_json.proofs.judgements.put_of.Goals as goal

pub returns : goal.returns
returns c =
    let values = map name (names_of c.args.system.now c.args.broken.now) in
    on_ok_weaker c.close_array.result
    (λ e. one_field c.args.sheet.now (codes "of") (array_of values) c.in_ok-key.ensures
    (one_array c.key.new.self values c.in_ok-open_array.ensures c.in_ok-put_names.ensures e))
    c.close_array.ensures
