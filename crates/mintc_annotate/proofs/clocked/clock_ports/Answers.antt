use Rattle.std.proofs.Common.{◌∙◌, ◌+◌, true, false, length, min, Some, None, ap}
use Rattle.std.proofs.lemmas.Result.{err_from_is_err_and}
use Rattle.mintc_clock.specs.ClockOf.{first_failing}
use Rattle.mintc_annotate.specs.ClockPorts.{has_listed_in, has_phases_in, has_ports_in, first_false}
use Rattle.mintc_annotate.specs.Phases.{spots_of}
use Rattle.mintc_annotate.specs.Made.{bits_in}
use Rattle.mintc_annotate.proofs.ListingLaws.{clock_parts, entry_stops, in_first, in_second, in_third}
use Rattle.mintc_annotate.proofs.clocked.clock_ports.Goals as goal

pub returns-in_err-spots : goal.returns-in_err-spots
returns-in_err-spots c =
    let parts = clock_parts c.args.names.now c.args.ports.now c.args.clock.now c.items-phases.result.now c.items-inputs.result.now c.items-outputs.result.now c.items-phases.ensures c.items-inputs.ensures c.items-outputs.ensures in
    let p = err_from_is_err_and c.from_residual.result c.from_residual.ensures.1 in
    rw (p.1, p.2) (entry_stops (first_failing (λ test. test) 1 (has_phases_in c.args.names.now c.args.ports.now c.items-phases.result.now)) (first_false (has_ports_in c.args.names.now c.args.ports.now c.args.clock.now)) c.in_err-spots.field-0.0
    (λ e h. parts ∙ in_first _ _ _ e h) c.in_err-spots.ensures.value)

pub returns-in_err-input_bits : goal.returns-in_err-input_bits
returns-in_err-input_bits c =
    let parts = clock_parts c.args.names.now c.args.ports.now c.args.clock.now c.items-phases.result.now c.items-inputs.result.now c.items-outputs.result.now c.items-phases.ensures c.items-inputs.ensures c.items-outputs.ensures in
    let p = err_from_is_err_and c.from_residual-in_err-input_bits.result c.from_residual-in_err-input_bits.ensures.1 in
    rw (p.1, p.2) (entry_stops (first_failing (λ test. test) (length c.items-phases.result.now + 1) (has_listed_in c.args.ports.now false c.items-inputs.result.now)) (first_false (has_ports_in c.args.names.now c.args.ports.now c.args.clock.now)) c.in_err-input_bits.field-0.0
    (λ e h. parts ∙ in_second _ _ _ e c.in_ok-spots.ensures.value.0 h) c.in_err-input_bits.ensures)

pub returns : goal.returns
returns c =
    let parts = clock_parts c.args.names.now c.args.ports.now c.args.clock.now c.items-phases.result.now c.items-inputs.result.now c.items-outputs.result.now c.items-phases.ensures c.items-inputs.ensures c.items-outputs.ensures in
    record {
      there = parts ∙ in_third _ _ _ None c.in_ok-spots.ensures.value.0 c.in_ok-input_bits.ensures.0 c.in_ok-output_bits.ensures.0;
      spots = c.in_ok-spots.ensures.value.1 ∙ ap (spots_of c.args.names.now c.args.ports.now) c.items-phases.ensures;
      few = c.in_ok-spots.ensures.few;
      inputs = c.in_ok-input_bits.ensures.1 ∙ ap (λ l. min (length (bits_in c.args.ports.now false l)) 1000000000) c.items-inputs.ensures;
      outputs = c.in_ok-output_bits.ensures.1 ∙ ap (λ l. min (length (bits_in c.args.ports.now true l)) 1000000000) c.items-outputs.ensures;
    }

pub returns-in_err-output_bits : goal.returns-in_err-output_bits
returns-in_err-output_bits c =
    let parts = clock_parts c.args.names.now c.args.ports.now c.args.clock.now c.items-phases.result.now c.items-inputs.result.now c.items-outputs.result.now c.items-phases.ensures c.items-inputs.ensures c.items-outputs.ensures in
    let p = err_from_is_err_and c.from_residual-in_err-output_bits.result c.from_residual-in_err-output_bits.ensures.1 in
    rw (p.1, p.2) (entry_stops (first_failing (λ test. test) (length c.items-phases.result.now + length c.items-inputs.result.now + 1) (has_listed_in c.args.ports.now true c.items-outputs.result.now)) (first_false (has_ports_in c.args.names.now c.args.ports.now c.args.clock.now)) c.in_err-output_bits.field-0.0
    (λ e h. parts ∙ in_third _ _ _ (Some e) c.in_ok-spots.ensures.value.0 c.in_ok-input_bits.ensures.0 h) c.in_err-output_bits.ensures)
