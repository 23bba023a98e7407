-- The lines of the sums of a chain with cycles.
use Rattle.std.proofs.Common.{◌≡◌, ◌==◌, ℕ, Bool, false, ◌++◌, arith, ap, sym, if◌then◌else◌}
use Rattle.std.specs.Prelude.{codes}
use Rattle.std.proofs.lemmas.Bool.Decides.{nat_tests}
use Rattle.mintc_fraction.specs.Ratio.{Ratio}
use Rattle.mintc_certificate.specs.declared.sums.ChainSums.{ChainSums}
use Rattle.mintcx_amounts.specs.declared.unit.Unit.{Unit}
use Rattle.mintcx_amounts.specs.Amounts.{amount_text}
use Rattle.mintcx_verdicts.specs.Chains.{asks, laps_of, stuck_line, takes, tight_line}

pub has_laps : (m n : ℕ) → m ≡ n → (m ≡ 0 → ⊥) → (n == 0) ≡ false
has_laps m n e h = grind (arith, nat_tests)

module _ (unit : Unit) (sums : ChainSums) (some : (laps_of sums == 0) ≡ false) where
  pub stuck_with : takes unit sums ++ (codes ", which forbids no cycle time of " ++ asks unit sums ++ codes " or more") ≡ stuck_line unit sums
  stuck_with =
      ap (λ (b : Bool). takes unit sums ++ (if b then codes ", which forbids no cycle time" else codes ", which forbids no cycle time of " ++ asks unit sums ++ codes " or more")) (sym some)

  pub tight_with : (cycle : Ratio) →
      takes unit sums ++ (codes ", which asks for " ++ asks unit sums ++ codes ", and the schedule has " ++ amount_text unit cycle) ≡ tight_line unit cycle sums
  tight_with cycle =
      ap (λ (b : Bool). takes unit sums ++ (if b then codes ", and so asks for no cycle time"
      else codes ", which asks for " ++ asks unit sums ++ codes ", and the schedule has " ++ amount_text unit cycle)) (sym some)
