use Rattle.std.proofs.Common.{◌≡◌, ◌<◌, ◌+◌, ◌*◌, ◌∙◌, ℕ, length, arith, subst}
use Rattle.std.proofs.lemmas.List.{get_or_default}
use Rattle.mintc_paths_sums.specs.Placed.{row_of}
use Rattle.mintc_paths.specs.Worklist.{IsReady}
use Rattle.mintc_paths.proofs.Marking.{marked_more}
use Rattle.mintc_paths.proofs.SharedWaking.{IsAwake-none}
use Rattle.mintc_paths.proofs.Beginning.{IsBegun}
use Rattle.mintc_paths.proofs.Rowing.{AreBegun-placed_none, AreBegun-placed_more}
use Rattle.mintc_paths.proofs.sums.clear.Goals as goal

pub loop-lane-init : goal.loop-lane-init
loop-lane-init c =
    let along = c.args.sequence.now.along in
    let count : c.len.result ≡ length along.items = omega (arith, c.len.ensures, along.ok.0) in
    let ready : IsReady (length along.items) c.renew.new.self = subst (λ (n : ℕ). IsReady n c.renew.new.self) count c.renew.ensures.ready in
    record {
      begun = λ arcs order. AreBegun-placed_none arcs order c.args.first (length c.args.sums.now) c.args.sequence.now.rows c.requires.rows c.wipe.new.sums c.wipe.ensures.count c.wipe.ensures.none;
      marked = c.wipe.ensures.marked;
      awake = IsAwake-none c.args.sequence.now.along.items 0 c.wipe.new.reached c.renew.new.self ready c.wipe.ensures.off;
      count = c.wipe.ensures.count;
    }

pub loop-lane-preserved : goal.loop-lane-preserved
loop-lane-preserved c =
    let rows = c.args.sequence.now.rows.of_bits.items in
    let n : ℕ = length c.args.sums.now in
    let lane : ℕ = c.loop-lane.lane in
    let bit : ℕ = 2 * (c.args.first + lane) + 1 in
    let row : ℕ = c.index-row.result.now in
    let old = c.loop-lane.sums in
    let new = c.begin.new.self in
    let inside : bit < n = omega arith in
    let is_row : row ≡ row_of rows bit = c.index-row.ensures ∙ get_or_default rows bit row 0 (omega (arith, c.requires.rows.of_bits.count)) in
    let begun : IsBegun old new row lane = record { others = c.begin.ensures.others; lanes = c.in_ok-begin.ensures.lanes; own = c.in_ok-begin.ensures.own } in
    record {
      begun = λ arcs order.
          AreBegun-placed_more arcs order c.args.first lane n c.args.sequence.now.rows c.requires.rows old new (omega arith) inside
          (rw is_row at begun) (c.loop-lane.invariant.begun arcs order);
      marked = rw c.reach.ensures.reached (marked_more old new c.loop-lane.reached row c.begin.ensures.count c.begin.ensures.others c.loop-lane.invariant.marked);
      awake = c.reach.ensures.awake 0 c.loop-lane.invariant.awake;
      count = c.begin.ensures.count ∙ c.loop-lane.invariant.count;
    }

pub returns-clause-begun : goal.returns-clause-begun
returns-clause-begun c = λ arcs order.
    let done : c.loop-lane.lane ≡ c.args.lanes = omega arith in
    rw done at (c.loop-lane.invariant.begun arcs order)
