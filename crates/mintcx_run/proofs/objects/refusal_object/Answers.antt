use Rattle.std.proofs.Common.{None}
use Rattle.mintcx_run.proofs.RefusalLaws.{object_told}
use Rattle.mintcx_run.proofs.objects.refusal_object.Goals as goal

pub returns : goal.returns
returns c =
    let inputs = c.inputs_of-inputs.ensures in
    let told = c.told_of-told.ensures in
    let refused = c.args.refusal.now in
    object_told c.refused_json.result c.told_of-told.result c.in_ok-parts.parts c.cause_of-cause.result c.args.order.now c.args.file.now refused refused refused None
    (rw (inputs.roles, inputs.names) at c.in_ok-parts.ensures) told.command told.cause c.cause_of-cause.ensures told.own told.name told.spotted c.refused_json.ensures
