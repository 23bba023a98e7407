use Rattle.std.proofs.Common.{◌≡◌, ◌≢◌, sym, ap, ◌∙◌, arith, false, SFits, w64, of_z, ⊎_elim}
use Rattle.std.specs.Int.{w128, int_max}
use Rattle.std.proofs.lemmas.Int.{ints, clamps, to_z-of_z}
use Rattle.mintc_timing.specs.declared.parts.Element.{Element}
use Rattle.mintc_timing.specs.Design.{element_at}
use Rattle.mintc_departure.specs.declared.arrivals.TheConstants.{NEVER}
use Rattle.mintc_departure.specs.Rounds.{IsArrivalSum}
use Rattle.mintc_departure.proofs.SharedLesser.{first-some}
use Rattle.mintc_departure.proofs.rounds.departure_by.Goals as goal

pub returns : goal.returns
returns c d is =
    let t = c.args.clocked.now.system.now in
    let first = c.args.first in
    let ne : first ≢ NEVER = λ e. c.if-first-eq-NEVER.false (ap (of_z w128) e) in
    let range : IsArrivalSum first = ⊎_elim (λ e. absurd (ne e)) (λ r. r) c.requires.first in
    let start = c.early_start-start.ensures in
    let latch : (element_at t.flat c.args.number).flop ≡ false = sym (ap (λ (e : Element). e.flop) c.element.ensures.value) ∙ c.if-element.false in
    let larger : c.max.result ≡ int_max c.early_start-start.result first = omega (arith, ints, clamps, c.max.ensures.value) in
    let fits : SFits w64 c.max.result = omega (arith, ints, clamps) in
    rw (latch, first-some _ first is ne) (to_z-of_z w64 c.max.result fits ∙ larger ∙ ap (λ z. int_max z first) (rw latch at start.value))
