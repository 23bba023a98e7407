-- The sense of a function, by what is read.
use Rattle.std.proofs.Common.{◌≡◌, ℕ, Bool, true, false, if◌then◌else◌, List, Option, Some, None, option_map, option_and_then, refl, sym, ap, subst, ◌∙◌}
use Rattle.mintc_senses_expressions.specs.declared.transitions.Transitions.{Transitions}
use Rattle.mintc_senses_expressions.specs.Transitions.{has_some}
use Rattle.mintc_senses_expressions.specs.Expressions.{Expression, sense, CoverChanges}
use Rattle.mintc_senses_expressions.specs.Grammar.{IsExpressionOf}
use Rattle.mintc_senses_expressions.specs.Reading.{start, some_of, function_sense}
use Rattle.mintc_senses_expressions.specs.Seen.{read_from}
use Rattle.mintc_senses_expressions.proofs.CoverLaws.{covers}
use Rattle.mintc_senses_expressions.proofs.SenseLaws.{sense_read, some-sense}
use Rattle.mintc_senses_expressions.proofs.ReadBackLaws.{read-back}

pub some-read : (n text : List ℕ) (t : Transitions) (b : Bool) → read_from n text 0 0 start ≡ Some t → b ≡ has_some t → function_sense text n ≡ (if b then Some t else None)
some-read n text t b e h = sym (some-sense n text) ∙ ap (option_and_then some_of) e ∙ ap (λ v. if v then Some t else None) (sym h)

pub none-read : (n text : List ℕ) → read_from n text 0 0 start ≡ None → function_sense text n ≡ None
none-read n text e = sym (some-sense n text) ∙ ap (option_and_then some_of) e

pub read-covers : (n text : List ℕ) (t : Transitions) → read_from n text 0 0 start ≡ Some t → (e : Expression) → IsExpressionOf text e → CoverChanges n e t
read-covers n text t h e w =
    let both : Some (sense n e) ≡ Some t = sym (sense_read n text ∙ ap (option_map (sense n)) (read-back text e w)) ∙ h in
    let same : sense n e ≡ t = cc in
    subst (CoverChanges n e) same (covers n e)
