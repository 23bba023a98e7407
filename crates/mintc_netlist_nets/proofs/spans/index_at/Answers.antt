use Rattle.std.proofs.Common.{◌≡◌, ◌+◌, ◌<◌, ◌≤◌, ◌-◌, length, ℕ, arith, rules, nat_le, true, false}
use Rattle.std.proofs.lemmas.Bool.Decides.{nat_tests}
use Rattle.mintc_netlist.specs.Nets.{indexes}
use Rattle.mintc_netlist_nets.proofs.SharedSpanLaws.{index_up, index_down, index_count}
use Rattle.mintc_netlist_nets.proofs.spans.index_at.Goals as goal

is_up : (a b : ℕ) → b ≤ a → nat_le b a ≡ true
is_up a b h = grind (arith, nat_tests)

is_down : (a b : ℕ) → a < b → nat_le b a ≡ false
is_down a b h = grind (arith, nat_tests)

below : (a b k n : ℕ) → b ≤ a → n ≡ ((a - b) + (b - a)) + 1 → k < n → b + k ≤ a
below a b k n h e g = omega arith

above : (a b k n : ℕ) → a < b → n ≡ ((a - b) + (b - a)) + 1 → k < n → k ≤ b
above a b k n h e g = omega arith

pub returns-then-span : goal.returns-then-span
returns-then-span c = index_up c.args.span c.args.number (is_up c.args.span.msb c.args.span.lsb c.if-span.true) c.requires

pub returns-else-span : goal.returns-else-span
returns-else-span c = index_down c.args.span c.args.number (is_down c.args.span.msb c.args.span.lsb c.if-span.false) c.requires

pub overflow_add-result : goal.overflow_add-result
overflow_add-result c =
    let fits : c.args.span.lsb + c.args.number ≤ c.args.span.msb = below c.args.span.msb c.args.span.lsb c.args.number (length (indexes c.args.span)) c.if-span.true (index_count c.args.span) c.requires in
    search rules

pub overflow_sub-result : goal.overflow_sub-result
overflow_sub-result c = above c.args.span.msb c.args.span.lsb c.args.number (length (indexes c.args.span)) c.if-span.false (index_count c.args.span) c.requires
