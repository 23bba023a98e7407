use Rattle.std.proofs.Common.{◌≡◌, ◌++◌, ℕ, pos, ◌≤ℤ◌, List, ap, ◌∙◌, sym, arith}
use Rattle.std.proofs.lemmas.Int.{ints, clamps}
use Rattle.std.proofs.lemmas.List.{append-nil}
use Rattle.mintcx_reports.proofs.HopLaws.{no_hop}
use Rattle.mintcx_reports.proofs.hops.push_some.Goals as goal

pub returns-then-hop-le0-clause-ok : goal.returns-then-hop-le0-clause-ok
returns-then-hop-le0-clause-ok c =
    let rows = c.args.table.now.rows in
    let none : c.args.hop.delay ≤ℤ pos 0 = omega (arith, ints, clamps, c.if-hop-le0.true) in
    sym (ap (λ (v : List (List (List ℕ))). rows ++ v) (no_hop c.args.told.now.schedule.now c.args.told.now.unit c.args.hop.delay c.args.hop.ends c.args.what.now none) ∙ append-nil rows)
