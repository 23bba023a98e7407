use Rattle.std.proofs.Common.{arith, length, ◌++◌, ◌∷◌, [], ◌-◌, List, ℕ, ℤ, ap, ◌∙◌, w64}
use Rattle.std.proofs.lemmas.Int.{to_z-of_z}
use Rattle.std.proofs.lemmas.Result.{on_ok_weaker}
use Rattle.mintcx_sdc.specs.Delays.{at_text, from_text}
use Rattle.mintcx_sdc.proofs.ListedLaws.{listed_phase}
use Rattle.mintcx_sdc.proofs.WrittenLaws.{in_three}
use Rattle.mintcx_sdc.proofs.delays.put_delay.Goals as goal

pub place_of-requires : goal.place_of-requires
place_of-requires c = (listed_phase (length c.args.phases.now) c.args.listed.now c.requires).0

pub put_from-requires : goal.put_from-requires
put_from-requires c =
    let phase = listed_phase (length c.args.phases.now) c.args.listed.now c.requires in
    omega (arith, phase.0, phase.1, c.place_of.ensures)

pub returns : goal.returns
returns c =
    let phases = c.args.phases.now in
    let listed = c.args.listed.now in
    let kind = c.args.kind.now in
    let time = to_z-of_z w64 c.args.time c.ranges.time in
    on_ok_weaker c.put.result
    (λ e. in_three c.args.lines.now c.put_from.new.lines c.put_at.new.lines c.put.new.self
    (from_text phases c.args.way (listed.phase - 1)) (at_text kind c.args.time listed.port) (10 ∷ [])
    (c.in_ok-put_from.ensures ∙ ap (λ (at : ℕ). c.args.lines.now ++ from_text phases c.args.way at) c.place_of.ensures)
    (c.in_ok-put_at.ensures ∙ ap (λ (x : ℤ). c.put_from.new.lines ++ at_text kind x c.bytes.result.now) time
    ∙ ap (λ (port : List ℕ). c.put_from.new.lines ++ at_text kind c.args.time port) c.bytes.ensures)
    e)
    c.put.ensures.ok
