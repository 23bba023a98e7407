use Rattle.std.proofs.Common.{[], codes}
use Rattle.std.proofs.lemmas.Result.{on_ok_weaker}
use Rattle.json.specs.Json.{string}
use Rattle.mintcx_json.specs.Objects.{array_of, count, name}
use Rattle.mintcx_json.proofs.PieceLaws.{in_seven}
use Rattle.mintcx_json.proofs.fields.put_head.Goals as goal

pub returns : goal.returns
returns c =
    on_ok_weaker c.put_word-3.result
    (λ e. in_seven c.args.sheet.now (codes "mintcx", count 1) (codes "command", string c.args.command.now) (codes "status", count c.args.status)
    (codes "warnings", array_of []) (codes "answer", string c.args.answer.now) (codes "design", name c.args.subject.now) (codes "unit", string (codes "fs"))
    c.in_ok-put_count.ensures c.in_ok-put_word.ensures c.in_ok-put_count-2.ensures c.in_ok-put_none.ensures c.in_ok-put_word-2.ensures c.in_ok-put_name.ensures e)
    c.put_word-3.ensures
