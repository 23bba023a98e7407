use Rattle.std.proofs.Common.{◌≡◌, ◌<◌, ℕ, length}
use Rattle.std.specs.List.{All, Contains}
use Rattle.mintc_timing.specs.Design.{pair_at}
use Rattle.mintc_slack.proofs.finding.entries.Given as goal

-- the entries of the pairs below this one
abbrev pub invariant-loop-number : goal.invariant-loop-number
invariant-loop-number l = record {
  of_pairs : All (λ e. (e.number < length l.system.pairs) × (e.to ≡ (pair_at l.system e.number).to)) l.entries.items;
  all : (n : ℕ) → n < l.number → Contains l.entries.items (record { to = (pair_at l.system n).to; number = n });
}
