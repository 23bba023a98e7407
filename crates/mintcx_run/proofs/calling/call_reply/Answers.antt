use Rattle.std.proofs.Common.{◌∙◌, List, length, arith, ap, subst}
use Rattle.std.specs.Vec.{with_items}
use Rattle.std.proofs.lemmas.List.{with_items_is}
use Rattle.mintcx_requests.specs.Requests.{Text}
use Rattle.mintcx_run.specs.Replies.{IsTakenReply, read_as}
use Rattle.mintcx_run.proofs.ReplyLaws.{call_taken, clamps_as_read}
use Rattle.mintcx_run.proofs.calling.call_reply.Goals as goal

pub returns-in-Ok-take_files-clause-reply : goal.returns-in-Ok-take_files-clause-reply
returns-in-Ok-take_files-clause-reply g c =
    let fronts = c.in-Ok.files.items in
    let taken = c.take_files.new.files in
    let order = c.read_as-order.result in
    let same_length = ap (λ (fs : List Text). length fs) c.as_mut_slice.ensures.value in
    let is = with_items_is c.in-Ok.files taken (omega (arith, c.in-Ok.files.ok.0, c.take_files.auto.files, same_length)) in
    let same = c.read_as-order.ensures.value ∙ ap (read_as c.args.order) (c.as_slice-in-Ok-take_files.ensures.value ∙ is) in
    let clamps = clamps_as_read c.args.order order fronts taken c.clamps_for-clamps.result same (rw c.as_slice.ensures.value at c.clamps_for-clamps.ensures) in
    let told = subst (λ (fs : List Text). IsTakenReply (g.S.Shelf.files c.read_files.new.shelf) order fronts fs c.taken_reply.result) is (c.taken_reply.ensures.reply fronts clamps) in
    call_taken _ c.args.order order fronts taken c.taken_reply.result same (rw c.items.ensures at c.in-Ok.ensures.fronts) (rw c.as_mut_slice.ensures.value at c.in-Ok-take_files.ensures.taken) (rw c.in-Ok.ensures.same at told)
