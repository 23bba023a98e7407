use Rattle.std.proofs.Common.{Some}
use Rattle.mintc_text.specs.declared.refusals.Refusal.TheVariants as refusal
use Rattle.mintcx_refusals.specs.Files.{teller}
use Rattle.mintcx_run.proofs.RefusalLaws.{object_told}
use Rattle.mintcx_run.proofs.objects.corner_object.Goals as goal

pub returns : goal.returns
returns c =
    let inputs = c.inputs_of-inputs.ensures in
    let told = c.told_of-told.ensures in
    let outer = refusal.Corner c.args.corner in
    let own = c.args.own.now in
    object_told c.refused_json.result c.told_of-told.result c.in_ok-parts.parts c.cause_of-cause.result c.args.order.now c.args.file.now outer (teller outer own) own (Some own)
    (rw (inputs.roles, inputs.names) at c.in_ok-parts.ensures) told.command told.cause c.cause_of-cause.ensures
    (c.cause_of-own_cause.result, told.own, c.cause_of-own_cause.ensures) told.name told.spotted c.refused_json.ensures
