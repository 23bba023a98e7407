use Rattle.std.proofs.Common.{ℕ, List, Option, length, sym, ap, ◌∙◌, subst}
use Rattle.mintc_annotate.specs.declared.searching.Drive.{Drive}
use Rattle.mintc_annotate.specs.declared.searching.Jump.{Jump}
use Rattle.mintc_annotate.specs.Phases.{drives}
use Rattle.mintc_annotate.specs.Searches.{AreDrivers, AreLongJumps}
use Rattle.mintc_annotate.proofs.tracing.trace_all.Goals as goal

pub trace-requires-clause-jumps : goal.trace-requires-clause-jumps
trace-requires-clause-jumps c =
    let ds : List Drive = drives c.args.hierarchy.now c.args.cells.now in
    let drivers : AreDrivers ds (length c.in_ok-table.table.items) c.in_ok-table.table.items = subst (λ (n : ℕ). AreDrivers ds n c.in_ok-table.table.items) (sym c.in_ok-table.ensures.size) c.in_ok-table.ensures in
    let here : AreDrivers ds (length c.deref.result.now) c.deref.result.now = subst (λ (t : List (Option Drive)). AreDrivers ds (length t) t) (sym c.deref.ensures.value) drivers in
    subst (λ (v : List Jump). AreLongJumps ds (length c.args.hierarchy.now.inner) v) (sym c.deref-3.ensures.value)
    (subst (λ (n : ℕ). AreLongJumps ds n c.in_ok-jumps.jumps.items) (ap length c.deref.ensures.value ∙ c.in_ok-table.ensures.size) (c.in_ok-jumps.ensures ds here))
