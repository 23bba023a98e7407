-- Two answers to `corners` on the same files are the same but for chains and arcs.
use Rattle.std.proofs.Common.{◌≡◌, ◌≤◌, ◌*◌, ℕ, suc, List, [], ◌∷◌, length, drop, flat_map, refl, sym, ap, ◌∙◌, subst, arith}
use Rattle.mintc_text.specs.Limits.{AreLimits}
use Rattle.mintc_text.specs.declared.limits.Most.{Most}
use Rattle.mintc_text.specs.declared.limits.TheConstants.{MOST_ELEMENTS}
use Rattle.mintc_timing.specs.Design.{Design, Timing, element_count}
use Rattle.mintc_paths.specs.Existing.{AcceptedDesignsHaveSystems}
use Rattle.mintc_build.specs.Laws.{CornersDifferInNumbers}
use Rattle.mintc_corners.specs.Joint.{AreCorners}
use Rattle.mintc_corners.specs.Laws.{AreSystems}
use Rattle.mintc_command_answers.specs.Answers.{IsContentAnswer, IsDefined}
use Rattle.mintc_command_answers.specs.Commands.{roles_of}
use Rattle.mintc_command_answers.specs.Corners.{AreGiven, corners_of, elements_together}
use Rattle.mintc_command_answers.specs.Laws.{RefusalsAreDetermined, StatusesAreDetermined}
use Rattle.mintc_command_answers.specs.Optima.{JointOptimaAreDetermined}
use Rattle.mintc_command_answers.specs.Sources.{Gives}
use Rattle.mintc_command_answers.specs.declared.command.Command.TheVariants.{Corners}
use Rattle.mintc_command_answers.specs.declared.command.Source.TheVariants.{Files}
use Rattle.mintc_command_answers.specs.declared.status.Status.{Status}
use Rattle.mintc_command_answers.specs.declared.status.Status.TheVariants.{Done, Found, Refused, Usage, ReadFault, WriteFault, OutOfMemory}
use Rattle.mintc_answer_laws.specs.Corners.{AreSameCorners, CornerAnswersAreTheSame, DifferInJointChains}
use Rattle.mintc_answer_laws.proofs.AlikeLaws.{AllAlike, alike_long, optimum_of_alike}
use Rattle.mintc_answer_laws.proofs.CornerLaws.{corner_refusals_lem}
use Rattle.mintc_answer_laws.proofs.SharedCornerLaws.{all_elements, are_corners, as_many}
use Rattle.mintc_answer_laws.proofs.GivenLaws.{AreSourceLaws, given_alike}
use Rattle.mintc_answer_laws.proofs.OrderLaws.{timing_of}

-- what the definitions of the parts say
pub record AreJointLaws : Type 0 where
  pub sources : AreSourceLaws
  pub systems : AcceptedDesignsHaveSystems
  pub numbers : CornersDifferInNumbers
  pub optima : JointOptimaAreDetermined

together_alike : (ts us : List Timing) → AllAlike ts us → elements_together ts ≡ elements_together us
together_alike [] [] all = refl
together_alike [] (u ∷ us) all = absurd all
together_alike (t ∷ ts) [] all = absurd all
together_alike (t ∷ ts) (u ∷ us) all =
    ap (λ (n : ℕ). suc n * element_count t.flat) (alike_long ts us all.1) ∙ ap (λ (d : Design). suc (length us) * element_count d) all.0.flat

module _ (law : AreJointLaws) (most : Most) (limits : AreLimits most) where
  -- Corners that are given are given as systems, with orders of their arcs.
  systems_given : (corners : List (List (List ℕ))) (ts : List Timing) → AreGiven most corners ts → (vs : List Timing) × AreGiven most corners vs × AreSystems vs
  systems_given [] [] given = ([], tt, tt)
  systems_given [] (t ∷ ts) given = absurd given
  systems_given (files ∷ corners) [] given = absurd given
  systems_given (files ∷ corners) (t ∷ ts) given =
      let own = given.0 in
      let found = law.systems most limits t.flat own.accepted in
      let v : Timing = timing_of t.flat found.1 found.0 in
      let gives : Gives most Files files v = record { design = own.design; accepted = own.accepted; pairs = found.2.extremes } in
      let rest = systems_given corners ts given.1 in
      (v ∷ rest.0, (gives, rest.1), (own.accepted.limits, found.2, rest.2))

  all_alike : (corners : List (List (List ℕ))) (ts us : List Timing) → AreGiven most corners ts → AreGiven most corners us → AllAlike ts us
  all_alike [] [] [] a b = tt
  all_alike [] [] (u ∷ us) a b = absurd b
  all_alike [] (t ∷ ts) us a b = absurd a
  all_alike (files ∷ corners) [] us a b = absurd a
  all_alike (files ∷ corners) (t ∷ ts) [] a b = absurd b
  all_alike (files ∷ corners) (t ∷ ts) (u ∷ us) a b = (given_alike law.sources most Files files t u a.0 b.0, all_alike corners ts us a.1 b.1)

  content_same : (count : ℕ) (texts : List (List ℕ)) (status : Status) (text another : List ℕ) → length texts ≡ length (roles_of (Corners count)) → 2 ≤ count → count ≤ 4 →
      IsContentAnswer most (Corners count) texts status text → IsContentAnswer most (Corners count) texts status another → DifferInJointChains text another
  content_same count texts status text another many some few (ts, given, together, (c, is, e, w)) (us, given_too, together_too, (d, is_too, f, v)) =
      let systems = systems_given (corners_of texts) ts given in
      let vs = systems.0 in
      let long : length vs ≡ count = as_many most texts count vs many systems.1 in
      let corners : AreCorners vs = are_corners law.numbers most texts (drop 3 texts) vs (omega (arith, long, some)) systems.1 in
      let first = all_alike (corners_of texts) ts vs given systems.1 in
      let second = all_alike (corners_of texts) us vs given_too systems.1 in
      let same = together_alike ts vs first in
      let elements : length (flat_map (λ (t : Timing). t.flat.elements) vs) ≤ MOST_ELEMENTS = omega (arith, all_elements vs corners, same, together, limits.elements) in
      (c, d, law.optima vs c d corners systems.2 (omega (arith, long, few)) elements (optimum_of_alike ts vs c first is) (optimum_of_alike us vs d second is_too), w, v)

  answers_same : RefusalsAreDetermined → (count : ℕ) (files : List (List ℕ)) (status : Status) (text another : List ℕ) → length files ≡ length (roles_of (Corners count)) → 2 ≤ count → count ≤ 4 →
      IsDefined most (Corners count) files status text → IsDefined most (Corners count) files status another → AreSameCorners status text another
  answers_same refusals count files Refused text another many some few h g = corner_refusals_lem refusals most count files text another h g
  answers_same refusals count files Done text another many some few h g = content_same count files Done text another many some few h.1 g.1
  answers_same refusals count files Found text another many some few h g = content_same count files Found text another many some few h.1 g.1
  answers_same refusals count files Usage text another many some few h g = content_same count files Usage text another many some few h.1 g.1
  answers_same refusals count files ReadFault text another many some few h g = content_same count files ReadFault text another many some few h.1 g.1
  answers_same refusals count files WriteFault text another many some few h g = content_same count files WriteFault text another many some few h.1 g.1
  answers_same refusals count files OutOfMemory text another many some few h g = content_same count files OutOfMemory text another many some few h.1 g.1

pub corner_answers_lem : AreJointLaws → RefusalsAreDetermined → StatusesAreDetermined → CornerAnswersAreTheSame
corner_answers_lem law refusals statuses most limits count files status other text another many some few h g =
    let same : status ≡ other = statuses most (Corners count) files status other text another h g in
    let turned : IsDefined most (Corners count) files status another = subst (λ (x : Status). IsDefined most (Corners count) files x another) (sym same) g in
    (same, answers_same law most limits refusals count files status text another many some few h turned)
