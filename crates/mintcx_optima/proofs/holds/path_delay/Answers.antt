use Rattle.std.proofs.Common.{◌≡◌, List, ap, ◌∙◌, sym, subst, arith, w64, to_z, of_z}
use Rattle.std.proofs.lemmas.Int.{clamps, ints, to_z-of_z}
use Rattle.mintc_timing.specs.declared.parts.TimingArc.{TimingArc}
use Rattle.mintc_timing.specs.Limits.{IsDelay}
use Rattle.mintc_timing.specs.Paths.{input_of, least_delay, output_of}
use Rattle.mintc_certificate.proofs.SharedPathDelays.{Leads-inside}
use Rattle.mintcx_optima.proofs.HoldLaws.{least_range}
use Rattle.mintcx_optima.proofs.holds.path_delay.Goals as goal

pub least_delay-requires-clause-path : goal.least_delay-requires-clause-path
least_delay-requires-clause-path c = rw c.arcs.ensures.value (Leads-inside c.args.flat.now.arcs (output_of c.args.from) c.args.path.now (input_of c.args.to) c.requires.path.1)

pub returns-clause-range : goal.returns-clause-range
returns-clause-range c =
    let is = c.least_delay.ensures ∙ ap (λ (arcs : List TimingArc). least_delay arcs c.args.path.now) c.arcs.ensures.value in
    let here : IsDelay c.least_delay.result =
    subst IsDelay (sym is) (least_range c.args.flat.now c.arcs.ensures.kept c.requires.short c.args.from (input_of c.args.to) c.args.path.now c.requires.from c.requires.path.1) in
    let low = here.0 in
    let high = here.1 in
    let read : to_z w64 (of_z w64 c.least_delay.result) ≡ c.least_delay.result = to_z-of_z w64 c.least_delay.result (omega (arith, ints, clamps)) in
    subst IsDelay (sym read) here
