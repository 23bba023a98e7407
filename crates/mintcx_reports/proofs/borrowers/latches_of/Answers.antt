use Rattle.std.proofs.Common.{◌++◌, ◌∷◌, [], ℕ, List, ap, ◌∙◌, sym}
use Rattle.std.specs.Prelude.{filter}
use Rattle.mintcx_reports.specs.Borrowers.{may_borrow}
use Rattle.mintcx_reports.proofs.PlaceLaws.{latches_more}
use Rattle.mintcx_reports.proofs.borrowers.latches_of.Goals as goal

pub loop-element-preserved : goal.loop-element-preserved
loop-element-preserved c =
    let t = c.args.system.now in
    let l = c.loop-element.element in
    c.in_ok-push_latch.ensures ∙ ap (λ (ls : List ℕ). ls ++ filter (may_borrow t) (l ∷ [])) c.loop-element.invariant ∙ sym (latches_more t l)
