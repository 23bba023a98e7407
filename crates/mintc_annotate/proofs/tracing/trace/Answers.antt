use Rattle.std.proofs.Common.{◌≡◌, ◌<◌, ◌+◌, ◌++◌, ◌∷◌, [], ◌∙◌, sym, ap, subst, List, ℕ, length, take, drop, filter, arith, append-nil, true, false, rules, ◌≤◌}
use Rattle.std.specs.List.{AllZip}
use Rattle.std.proofs.lemmas.List.Elements.{AllZip-push}
use Rattle.std.proofs.lemmas.Slice.Zip.{AllZip-long}
use Rattle.mintc_annotate.specs.Phases.{drives, IsPhaseOf}
use Rattle.mintc_annotate_resolve.specs.Pins.{all_leaves}
use Rattle.mintc_annotate.specs.Searches.{AreDrivers, AreLongJumps}
use Rattle.mintc_annotate.proofs.SharedTraceLaws.{stored, stored_more, stored_split, stored_all, phase_of_leaf, none_of_leaf}
use Rattle.mintc_annotate.proofs.tracing.trace.Goals as goal

pub loop-number-preserved-in_default : goal.loop-number-preserved-in_default
loop-number-preserved-in_default c =
    let within : c.loop-number.number < length c.args.hierarchy.now.leaves = omega (arith, c.loop-number-test.true, ap length c.items-number-end.ensures) in
    let same = stored_more c.args.hierarchy.now c.args.cells.now c.loop-number.number false within c.in_default.ensures ∙ append-nil (filter (stored c.args.hierarchy.now c.args.cells.now) (take c.loop-number.number (all_leaves c.args.hierarchy.now))) in
    subst (λ (l : List ℕ). AllZip (IsPhaseOf c.args.hierarchy.now c.args.cells.now c.args.spots.now) l c.loop-number.phases.items) (sym same) c.loop-number.invariant

pub returns-in_default-phase_from : goal.returns-in_default-phase_from
returns-in_default-phase_from c =
    let within : c.loop-number.number < length c.args.hierarchy.now.leaves = omega (arith, c.loop-number-test.true, ap length c.items-number-end.ensures) in
    let drivers : AreDrivers (drives c.args.hierarchy.now c.args.cells.now) (length c.args.table.now) c.args.table.now =
    subst (λ (n : ℕ). AreDrivers (drives c.args.hierarchy.now c.args.cells.now) n c.args.table.now) (sym c.requires.table.size) c.requires.table in
    let ways : AreLongJumps (drives c.args.hierarchy.now c.args.cells.now) (length c.args.table.now) c.args.jumps.now =
    subst (λ (n : ℕ). AreLongJumps (drives c.args.hierarchy.now c.args.cells.now) n c.args.jumps.now) (sym c.requires.table.size) c.requires.jumps in
    let count : c.in_ok-element.element ≡ length c.loop-number.phases.items = search rules in
    record {
      before = filter (stored c.args.hierarchy.now c.args.cells.now) (take c.loop-number.number (all_leaves c.args.hierarchy.now));
      phases = c.loop-number.phases.items;
      leaf = c.loop-number.number;
      after = filter (stored c.args.hierarchy.now c.args.cells.now) (drop (c.loop-number.number + 1) (all_leaves c.args.hierarchy.now));
      whole = stored_split c.args.hierarchy.now c.args.cells.now c.loop-number.number within c.in-Some.ensures.0;
      traced = c.loop-number.invariant;
      none = none_of_leaf c.args.hierarchy.now c.args.cells.now c.args.spots.now c.loop-number.number c.in-Some.start c.in-Some.ensures.1 (c.in_default-phase_from.ensures (drives c.args.hierarchy.now c.args.cells.now) drivers ways);
      count = count ∙ AllZip-long (IsPhaseOf c.args.hierarchy.now c.args.cells.now c.args.spots.now) (filter (stored c.args.hierarchy.now c.args.cells.now) (take c.loop-number.number (all_leaves c.args.hierarchy.now))) c.loop-number.phases.items c.loop-number.invariant;
    }

pub loop-number-preserved : goal.loop-number-preserved
loop-number-preserved c =
    let within : c.loop-number.number < length c.args.hierarchy.now.leaves = omega (arith, c.loop-number-test.true, ap length c.items-number-end.ensures) in
    let drivers : AreDrivers (drives c.args.hierarchy.now c.args.cells.now) (length c.args.table.now) c.args.table.now =
    subst (λ (n : ℕ). AreDrivers (drives c.args.hierarchy.now c.args.cells.now) n c.args.table.now) (sym c.requires.table.size) c.requires.table in
    let ways : AreLongJumps (drives c.args.hierarchy.now c.args.cells.now) (length c.args.table.now) c.args.jumps.now =
    subst (λ (n : ℕ). AreLongJumps (drives c.args.hierarchy.now c.args.cells.now) n c.args.jumps.now) (sym c.requires.table.size) c.requires.jumps in
    let phase = phase_of_leaf c.args.hierarchy.now c.args.cells.now c.args.spots.now c.loop-number.number c.in-Some-phase_from.phase c.in-Some.start c.in-Some.ensures.1 (c.in-Some-phase_from.ensures (drives c.args.hierarchy.now c.args.cells.now) drivers ways) in
    let more = AllZip-push (IsPhaseOf c.args.hierarchy.now c.args.cells.now c.args.spots.now) _ c.loop-number.phases.items c.loop-number.number c.in-Some-phase_from.phase c.loop-number.invariant phase in
    let listed = subst (λ (l : List ℕ). AllZip (IsPhaseOf c.args.hierarchy.now c.args.cells.now c.args.spots.now) l (c.loop-number.phases.items ++ c.in-Some-phase_from.phase ∷ []))
    (sym (stored_more c.args.hierarchy.now c.args.cells.now c.loop-number.number true within c.in-Some.ensures.0)) more in
    subst (λ (l : List ℕ). AllZip (IsPhaseOf c.args.hierarchy.now c.args.cells.now c.args.spots.now) (filter (stored c.args.hierarchy.now c.args.cells.now) (take (c.loop-number.number + 1) (all_leaves c.args.hierarchy.now))) l)
    (sym c.in_ok-push.ensures.items) listed

pub returns : goal.returns
returns c =
    let past : length c.args.hierarchy.now.leaves ≤ c.loop-number.number = omega (arith, c.loop-number-test.false, ap length c.items-number-end.ensures) in
    subst (λ (l : List ℕ). AllZip (IsPhaseOf c.args.hierarchy.now c.args.cells.now c.args.spots.now) l c.new.result) (stored_all c.args.hierarchy.now c.args.cells.now c.loop-number.number past)
    (subst (λ (l : List ℕ). AllZip (IsPhaseOf c.args.hierarchy.now c.args.cells.now c.args.spots.now) (filter (stored c.args.hierarchy.now c.args.cells.now) (take c.loop-number.number (all_leaves c.args.hierarchy.now))) l) (sym c.new.ensures) c.loop-number.invariant)
