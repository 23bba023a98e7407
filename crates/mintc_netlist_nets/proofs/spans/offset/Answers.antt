use Rattle.std.proofs.Common.{◌≡◌, ◌<◌, Some, sym, ◌∙◌, subst, arith}
use Rattle.std.specs.Int.{abs_diff}
use Rattle.mintc_netlist_nets.specs.Tables.{bit_count}
use Rattle.mintc_netlist_nets.proofs.SharedSpanLaws.{near_by, index_count}
use Rattle.mintc_netlist_nets.proofs.spans.offset.Goals as goal

pub returns-in-Some-Some-clause-within : goal.returns-in-Some-Some-clause-within
returns-in-Some-Some-clause-within c =
    let s = c.in-Some-Some.span in
    let at = c.in-Some-Some.at in
    let same : c.from.result ≡ abs_diff at s.lsb = c.from.ensures ∙ c.abs_diff.ensures in
    let near = near_by at s.msb s.lsb (sym c.is_inside.ensures ∙ c.if-is_inside.true) in
    let below : c.from.result < bit_count (Some s) = omega (arith, near, index_count s, same) in
    subst (λ span. c.from.result < bit_count span) (sym c.in-Some-Some.is-0) below
