use Rattle.std.proofs.Common.{◌≡◌, ◌≤◌, ◌&&◌, take}
use Rattle.std.specs.Bool.{beq}
use Rattle.std.specs.List.{count_by}
use Rattle.mintcx_lint.specs.Leaving.{is_left}
use Rattle.mintcx_lint.proofs.ports.count_left.Given as goal

-- those of the ports so far, and no more than these
abbrev pub invariant-loop-port : goal.invariant-loop-port
invariant-loop-port l = record {
  sum : l.count ≡ count_by (λ p. beq p.output l.output && is_left l.named.phases.now l.named.listed p) (take l.port-index l.ports);
  few : l.count ≤ l.port-index;
}
