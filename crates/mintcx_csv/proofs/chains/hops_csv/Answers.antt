use Rattle.std.proofs.Common.{◌≡◌, ◌∙◌, ap, take}
use Rattle.std.proofs.lemmas.List.{take_all}
use Rattle.std.proofs.lemmas.Result.{IfOk-weaker}
use Rattle.mintcx_csv.specs.Chains.{hop_record, hop_records}
use Rattle.mintcx_csv.specs.Tables.{text_of}
use Rattle.mintcx_csv.proofs.TableLaws.{is_table, made_of}
use Rattle.mintcx_csv.proofs.chains.hops_csv.Goals as goal

pub returns : goal.returns
returns c =
    let design = c.args.flat.now in
    let stages = c.args.stages.now in
    let all : take c.loop-stage.stage-index stages ≡ stages = take_all c.loop-stage.stage-index stages c.loop-stage-test.false in
    let text = c.loop-stage.invariant.text ∙ ap (λ shown. text_of (hop_records design shown)) all in
    let several = made_of (hop_record design) (λ stage. tt) stages in
    IfOk-weaker c.text_of.result _ _ (λ found e. is_table (hop_records design stages) found (e ∙ text) (tt, several)) c.text_of.ensures
