-- Words where there is something to say, and what is told as a rule.
use Rattle.std.proofs.Common.{◌≡◌, ◌≢◌, ℕ, zero, suc, ℤ, List, refl}
use Rattle.std.specs.Prelude.{codes}
use Rattle.mintc_timing.specs.declared.clocking.Schedule.{Schedule}
use Rattle.mintc_timing.specs.declared.violation.Broken.{Broken}
use Rattle.mintc_timing.specs.declared.violation.Broken.TheVariants as broken
use Rattle.mintc_timing.specs.Design.{Timing}
use Rattle.mintcx_amounts.specs.declared.unit.Unit.{Unit}
use Rattle.mintcx_judgements.specs.Fails.{broken_lines}
use Rattle.mintcx_judgements.specs.Rules.{less_cycles, rule_lines}

-- the cycles of a bound that has some
pub some_cycles : (n : ℕ) → n ≢ 0 → less_cycles n ≡ codes ", less a cycle"
some_cycles zero h = absurd (h refl)
some_cycles (suc n) h = refl

-- what is neither a loop nor a setup nor a hold is told as a rule
module _ (t : Timing) (s : Schedule) (late early : List ℤ) (unit : Unit) where
  pub as_rule : (b : Broken) (amount : ℤ) → ((ring : List ℕ) → b ≡ broken.Loop ring → ⊥) → ((l : ℕ) → b ≡ broken.Setup l → ⊥) → ((l : ℕ) → b ≡ broken.Hold l → ⊥) →
      broken_lines t s late early unit b amount ≡ rule_lines t s unit b amount
  as_rule (broken.Loop ring) amount loop setup hold = absurd (loop ring refl)
  as_rule (broken.Setup l) amount loop setup hold = absurd (setup l refl)
  as_rule (broken.Hold l) amount loop setup hold = absurd (hold l refl)
  as_rule rule amount loop setup hold = refl
