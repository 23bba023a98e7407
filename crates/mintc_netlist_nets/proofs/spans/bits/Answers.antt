use Rattle.std.proofs.Common.{◌+◌, ℕ, sym, ◌∙◌, ap}
use Rattle.mintc_netlist_nets.specs.Tables.{bit_count}
use Rattle.mintc_netlist_nets.proofs.SharedSpanLaws.{index_count}
use Rattle.mintc_netlist_nets.proofs.spans.bits.Goals as goal

pub returns-in-Some-clause-value : goal.returns-in-Some-clause-value
returns-in-Some-clause-value c = ap (λ (n : ℕ). n + 1) (c.from.ensures ∙ c.abs_diff.ensures) ∙ sym (index_count c.in-Some.span) ∙ ap bit_count (sym c.in-Some.is)
