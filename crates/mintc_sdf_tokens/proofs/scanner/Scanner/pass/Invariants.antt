use Rattle.std.proofs.Common.{◌≡◌, ◌≤◌, ◌+◌, length}
use Rattle.mintc_sdf_tokens.specs.Scans.{IsAhead}
use Rattle.mintc_sdf_tokens.specs.Reading.{passing}
use Rattle.mintc_sdf_tokens.proofs.scanner.Scanner.pass.Given as goal

-- what is left closes the lists that are open
abbrev pub invariant-loop-depth : goal.invariant-loop-depth
invariant-loop-depth l = record {
  same : passing 0 l.initial.self.tokens ≡ passing l.depth l.self.tokens;
  few : l.depth + length l.self.tokens ≤ length l.initial.self.tokens;
  ahead : IsAhead l.initial.self l.self;
}

abbrev pub decreases-loop-depth : goal.decreases-loop-depth
decreases-loop-depth l = length l.self.tokens
