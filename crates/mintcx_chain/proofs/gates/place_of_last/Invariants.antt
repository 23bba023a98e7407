use Rattle.std.proofs.Common.{◌≡◌, ◌<◌, take}
use Rattle.std.specs.Prelude.{IfSome}
use Rattle.mintcx_chain.specs.Gates.{place_of_last}
use Rattle.mintcx_chain.proofs.gates.place_of_last.Given as goal

-- where it stands last so far
abbrev pub invariant-loop-at : goal.invariant-loop-at
invariant-loop-at l = record {
  is : l.last ≡ place_of_last l.byte (take l.at l.name);
  inside : IfSome l.last (λ n. n < l.at);
}
