use Rattle.std.proofs.Common.{◌++◌, ◌∙◌, ap}
use Rattle.std.specs.Prelude.{decimal}
use Rattle.std.proofs.lemmas.Result.{on_ok_weaker}
use Rattle.mintcx_warnings.specs.Ports.{plural}
use Rattle.mintcx_warnings.proofs.WrittenLaws.{in_three}
use Rattle.mintcx_warnings.proofs.ports.put_so_many.Goals as goal

pub returns : goal.returns
returns c =
    on_ok_weaker c.put-2.result
    (λ e. in_three c.args.lines.now (decimal c.args.count) c.args.kind.now (plural c.args.count) c.in_ok-put_number.ensures c.in_ok-put.ensures.ok (e ∙ ap (λ v. c.put.new.self ++ v) c.plural.ensures))
    c.put-2.ensures.ok
