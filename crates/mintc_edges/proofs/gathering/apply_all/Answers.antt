use Rattle.std.proofs.Common.{◌≡◌, List, Some, length, take, refl, sym, ap, ◌∙◌, subst, arith}
use Rattle.std.proofs.lemmas.List.{take_all}
use Rattle.std.proofs.lemmas.Result.{err_from_is_err_and}
use Rattle.mintc_sdf_edges.specs.declared.delays.EdgeDelay.{EdgeDelay}
use Rattle.mintc_annotate_resolve.specs.Resolution.{resolved, refusal_of, first_refusal}
use Rattle.mintc_annotate_resolve.proofs.SharedInstanceLaws.{at_top}
use Rattle.mintc_edges.specs.Claims.{HasClaims, claims}
use Rattle.mintc_edges.specs.Numbers.{without_edges}
use Rattle.mintc_edges.proofs.ClaimLaws.{no-claims, all-told}
use Rattle.mintc_annotate_delays.proofs.SharedLeafLaws.{stops_more}
use Rattle.mintc_edges.proofs.TakenLaws.{unrefused_more, refused_here, told-more}
use Rattle.mintc_edges.proofs.gathering.apply_all.Goals as goal

pub loop-delay-init : goal.loop-delay-init
loop-delay-init c = record {
  unrefused = refl;
  told = no-claims c.args.lookup.now.hierarchy.now c.args.lookup.now.cells.now c.args.told.now c.requires.empty;
  room = λ bits leaves room. room;
  last = at_top c.args.lookup.now.hierarchy.now c.requires.lookup.shape.some_scope;
}

pub apply_delay-requires-clause-room : goal.apply_delay-requires-clause-room
apply_delay-requires-clause-room c =
    let h = c.args.lookup.now.hierarchy.now in
    c.loop-delay.invariant.room (length h.inner) (length h.leaves) c.requires.room

pub loop-delay-preserved : goal.loop-delay-preserved
loop-delay-preserved c =
    let h = c.args.lookup.now.hierarchy.now in
    let cells = c.args.lookup.now.cells.now in
    let d = c.delay-item.result in
    record {
      unrefused = unrefused_more h cells c.args.delays.now c.loop-delay.delay-index d c.loop-delay-test.true c.delay-item.is c.loop-delay.invariant.unrefused c.in_ok-last.ensures.ok.unrefused;
      told = told-more h cells c.args.delays.now c.loop-delay.delay-index d c.loop-delay.told c.apply_delay.new.told c.loop-delay-test.true c.delay-item.is c.loop-delay.invariant.told c.in_ok-last.ensures.ok;
      room = λ bits leaves room. c.in_ok-last.ensures.ok.room bits leaves (c.loop-delay.invariant.room bits leaves room);
      last = c.in_ok-last.ensures.stands;
    }

pub returns-in_err-last-clause-err : goal.returns-in_err-last-clause-err
returns-in_err-last-clause-err c =
    let h = c.args.lookup.now.hierarchy.now in
    let cells = c.args.lookup.now.cells.now in
    let d = c.delay-item.result.delay in
    let p = err_from_is_err_and c.from_residual.result c.from_residual.ensures.1 in
    rw (p.1, p.2) (stops_more (λ r. refusal_of d.entry (resolved h cells d) ≡ Some r) (λ r. first_refusal h cells (without_edges c.args.delays.now) ≡ Some r)
    (λ r known. refused_here h cells c.args.delays.now c.loop-delay.delay-index c.delay-item.result r c.loop-delay-test.true c.delay-item.is c.loop-delay.invariant.unrefused known) c.in_err-last.field-0.0 c.in_err-last.ensures.err)

pub returns-clause-ok : goal.returns-clause-ok
returns-clause-ok c =
    let h = c.args.lookup.now.hierarchy.now in
    let cells = c.args.lookup.now.cells.now in
    let all : take c.loop-delay.delay-index c.args.delays.now ≡ c.args.delays.now = take_all c.loop-delay.delay-index c.args.delays.now (omega (arith, c.loop-delay-test.false)) in (
      all-told h cells c.args.delays.now c.loop-delay.told (subst (λ (l : List EdgeDelay). HasClaims h cells (claims h cells l) c.loop-delay.told) all c.loop-delay.invariant.told),
      ap (λ (l : List EdgeDelay). first_refusal h cells (without_edges l)) (sym all) ∙ c.loop-delay.invariant.unrefused,
    )
