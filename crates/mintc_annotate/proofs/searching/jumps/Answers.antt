use Rattle.std.proofs.Common.{◌≡◌, ◌<◌, ◌+◌, Bool, ℕ, List, length, map, All, sym, ap, ◌∙◌, subst, arith}
use Rattle.std.specs.Bool.{OnTrue}
use Rattle.mintc_annotate.specs.declared.searching.Jump.{Jump}
use Rattle.mintc_annotate.specs.Searches.{AreJumps, doubled_jump}
use Rattle.mintc_annotate.proofs.JumpLaws.{first_are, doubled_are, stays_long}
use Rattle.mintc_annotate.proofs.searching.jumps.Goals as goal

pub loop-steps-init : goal.loop-steps-init
loop-steps-init c = (omega arith, λ ds drivers. subst (λ (v : List Jump). AreJumps ds 1 (length c.args.table.now) v) (sym c.in_ok-found.ensures) (first_are ds c.args.table.now drivers))

pub twice_as_far-requires : goal.twice_as_far-requires
twice_as_far-requires c =
    let are = c.loop-steps.invariant.1 c.requires.table.0 c.requires.table.1 in
    subst (λ (v : List Jump). All (λ j. j.bit < length v) v) (sym c.deref.ensures.value) (subst (λ (n : ℕ). All (λ j. j.bit < n) c.loop-steps.found.items) (sym are.size) are.within)

pub loop-steps-preserved : goal.loop-steps-preserved
loop-steps-preserved c = (
  omega (arith, c.loop-steps.invariant.0),
  λ ds drivers.
      let are = doubled_are ds c.loop-steps.steps (length c.args.table.now) c.loop-steps.found.items (c.loop-steps.invariant.1 ds drivers) in
      subst (λ (v : List Jump). AreJumps ds (c.loop-steps.steps + c.loop-steps.steps) (length c.args.table.now) v) (sym (c.in_ok-twice_as_far.ensures.twice ∙ ap (λ (v : List Jump). map (doubled_jump v) v) c.deref.ensures.value)) are,
)

pub returns-then-branch : goal.returns-then-branch
returns-then-branch c = λ ds drivers.
    let still : map (doubled_jump c.loop-steps.found.items) c.loop-steps.found.items ≡ c.loop-steps.found.items =
    subst (λ (v : List Jump). map (doubled_jump v) v ≡ v) c.deref.ensures.value (subst (λ (b : Bool). OnTrue b (map (doubled_jump c.deref.result.now) c.deref.result.now ≡ c.deref.result.now)) c.if-branch.true c.in_ok-twice_as_far.ensures.ended) in
    let long = stays_long ds (length c.args.table.now) c.loop-steps.steps (length c.args.table.now) c.loop-steps.found.items c.loop-steps.invariant.0 still (c.loop-steps.invariant.1 ds drivers) in
    (long.0, omega (arith, long.1), long.2)

pub returns : goal.returns
returns c = λ ds drivers. (c.loop-steps.steps, omega (arith, c.loop-steps-test.false), c.loop-steps.invariant.1 ds drivers)
