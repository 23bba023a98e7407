use Rattle.std.proofs.Common.{length, ap, ◌∙◌, sym, subst}
use Rattle.std.specs.Prelude.{All}
use Rattle.mintc_certificate.specs.Valid.{IsMember, counts, ring}
use Rattle.mintc_report.proofs.report.report_text.Goals as goal

pub least_text-requires-clause-starts : goal.least_text-requires-clause-starts
least_text-requires-clause-starts c = ((rw c.in-Least.is at c.requires.valid) counts).0

pub least_text-requires-clause-widths : goal.least_text-requires-clause-widths
least_text-requires-clause-widths c = ((rw c.in-Least.is at c.requires.valid) counts).1

pub least_text-requires-clause-departures : goal.least_text-requires-clause-departures
least_text-requires-clause-departures c = ap length c.items.ensures ∙ ((rw c.in-Least.is at c.requires.valid) counts).2

pub least_text-requires-clause-members : goal.least_text-requires-clause-members
least_text-requires-clause-members c = subst (All (IsMember c.args.system.now)) (sym c.items-in-Least.ensures) ((rw c.in-Least.is at c.requires.valid) ring).0

pub never_text-requires-clause-members : goal.never_text-requires-clause-members
never_text-requires-clause-members c = subst (All (IsMember c.args.system.now)) (sym c.items-in-Never.ensures) ((rw c.in-Never.is at c.requires.valid) ring).0
