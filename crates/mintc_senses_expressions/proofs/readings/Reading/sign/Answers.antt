use Rattle.std.proofs.Common.{◌≡◌, Option, Some, None, MatchBool, sym, subst}
use Rattle.mintc_senses_expressions.specs.declared.transitions.Transitions.{Transitions}
use Rattle.mintc_senses_expressions.specs.Reading.{State}
use Rattle.mintc_senses_expressions.specs.Seen.{seen}
use Rattle.mintc_senses_expressions.proofs.ReadLaws.{plain-sign}
use Rattle.mintc_senses_expressions.proofs.readings.Reading.sign.Goals as goal

pub returns-in_default : goal.returns-in_default
returns-in_default c =
    subst (λ (o : Option (State Transitions)). MatchBool c.operate.result (o ≡ Some (seen c.operate.new.self)) (o ≡ None))
    (sym (plain-sign c.args.sign (seen c.args.self.now) c.in_default.not-Opening c.in_default.not-Closing)) c.operate.ensures
