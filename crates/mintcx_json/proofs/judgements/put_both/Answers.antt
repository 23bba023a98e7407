use Rattle.std.proofs.Common.{◌∷◌, [], sym, append-nil}
use Rattle.std.proofs.lemmas.Result.{on_ok_weaker}
use Rattle.mintcx_json.specs.Objects.{name}
use Rattle.mintcx_json.proofs.PieceLaws.{one_more}
use Rattle.mintcx_json.proofs.judgements.put_both.Goals as goal

pub returns : goal.returns
returns c =
    on_ok_weaker c.name-2.result
    (λ e. one_more c.args.sheet.now (name c.args.one.now ∷ []) (name c.args.other.now)
    (one_more c.args.sheet.now [] (name c.args.one.now) (sym (append-nil c.args.sheet.now)) c.in_ok-name.ensures) e)
    c.name-2.ensures
