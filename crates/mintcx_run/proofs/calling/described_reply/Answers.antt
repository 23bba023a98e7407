use Rattle.std.proofs.Common.{◌∙◌, Some, List, length, arith, ap, inr, subst, sym}
use Rattle.std.specs.Vec.{with_items}
use Rattle.std.proofs.lemmas.List.{with_items_is}
use Rattle.mintcx_requests.specs.Requests.{Text}
use Rattle.mintcx_run.specs.Libraries.{AreDescribed, restored}
use Rattle.mintcx_translation.specs.Calls.{cells_place}
use Rattle.mintcx_run.proofs.ReplyLaws.{given_back, put_back, taken_unfit}
use Rattle.mintcx_run.proofs.calling.described_reply.Goals as goal

pub returns-in-Ok-clause-reply : goal.returns-in-Ok-clause-reply
returns-in-Ok-clause-reply g c fronts clamps =
    let order = c.args.order in
    let at = cells_place order.call.command in
    let taken = c.args.files.items in
    let given = with_items c.args.files c.describe.new.files in
    let same_length = ap (λ (fs : List Text). length fs) c.as_mut_slice.ensures.value in
    let is = with_items_is c.args.files c.describe.new.files (omega (arith, c.args.files.ok.0, c.describe.auto.files, same_length)) in
    let described = rw (c.items.ensures, c.as_mut_slice.ensures.value, c.cells_place-at.ensures) at c.in-Ok.ensures.value in
    let put = subst (λ (fs : List Text). AreDescribed at order.call.gates taken fs) (sym is) described in
    let library = rw (c.as_mut_slice.ensures.value, c.cells_place-at.ensures) at c.in-Ok.ensures.library in
    let back = ap (λ (fs : List Text). restored fs at (Some c.in-Ok.library)) (is ∙ described.2) ∙ put_back taken at described.0 c.in-Ok.library library in
    given_back _ order fronts _ taken given.items c.design_reply.result back (c.design_reply.ensures.reply fronts clamps) (inr (c.requires.described, put))

pub returns-in-Err-clause-reply : goal.returns-in-Err-clause-reply
returns-in-Err-clause-reply g c fronts clamps =
    let unfit = rw (c.items.ensures, c.as_mut_slice.ensures.value, c.cells_place-at.ensures) at c.in-Err.ensures.unfit in
    taken_unfit _ c.args.order fronts c.args.files.items c.in-Err.why c.unfit_reply.result (c.requires.described, unfit) c.unfit_reply.ensures.reply
