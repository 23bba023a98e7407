use Rattle.std.proofs.Common.{◌≡◌, ◌≢◌, ◌<◌, ◌+◌, ◌≤◌, ℕ, ℤ, List, pos, length, set, arith, sym, ap, ◌∙◌, SFits, w64, of_z, length-set, below_more, get_or-set_other, Option, Some, None}
use Rattle.std.specs.Int.{w128}
use Rattle.std.proofs.lemmas.Int.{ints, to_z-of_z}
use Rattle.mintc_constraints.specs.Rooms.{Space}
use Rattle.mintc_graph_walks.specs.Walks.{value_at}
use Rattle.mintc_timing.specs.Design.{element_count}
use Rattle.mintc_timing.specs.Departures.{departure, early_departure, early_arrivals}
use Rattle.mintc_timing.specs.Extremes.{least_of}
use Rattle.mintc_timing.proofs.SharedFitting.{same_bits}
use Rattle.mintc_departure.specs.Rounds.{IsFirst}
use Rattle.mintc_departure.specs.Settled.{IsSum}
use Rattle.mintc_departure.proofs.Filling.{filled-more, kept-early}
use Rattle.mintc_departure.proofs.rounds.raise.Goals as goal
use Rattle.mintc_departure.proofs.rounds.raise.Goals.{then-time-before, else-time-before}

first-fits : (o : Option ℤ) (v : ℤ) → IsFirst o v → SFits w128 v
first-fits None v is = rw is (omega (arith, ints))
first-fits (Some a) v is = let e = is.0 in let r = is.1 in omega (arith, ints)

rest-more : (old xs ys : List ℤ) (n : ℕ) (y : ℤ) → ys ≡ set xs n y → ((k : ℕ) → n ≤ k → departure xs k ≡ departure old k) → (k : ℕ) → n + 1 ≤ k → departure ys k ≡ departure old k
rest-more old xs ys n y e rest k h = let ne : k ≢ n = omega arith in rw e (get_or-set_other xs n k y (pos 0) ne ∙ rest k (omega arith))

pub loop-number-preserved : goal.loop-number-preserved
loop-number-preserved c =
    let t = c.args.clocked.now.system.now in
    let s = c.args.clocked.now.schedule.now in
    let old = c.args.room.now.early in
    let i = c.loop-number.invariant in
    let n = c.loop-number.number in
    let xs = c.loop-number.room.early in
    let x = c.departure_by-time.result in
    let h : n < element_count t.flat = omega (arith, c.count-number-end.ensures.value) in
    let value = ap (λ (vs : List ℤ). value_at vs n) (c.values.ensures ∙ ap (λ (r : Space). r.values) i.kept) in
    let first : IsFirst (least_of (early_arrivals t s old n)) (value_at c.args.room.now.values n) = c.requires.firsts n h in
    let time_is : x ≡ early_departure t s old n = c.departure_by-time.ensures old (rw (value, to_z-of_z w128 _ (first-fits _ _ first)) first) in
    let fits : SFits w64 x = record { sfits = c.departure_by-time.type_inv } in
    let write = ap (λ (r : Space). r.early) c.set_early.ensures in
    let written : c.set_early.new.self.early ≡ set xs n x = write ∙ ap (λ z. set xs n z) (to_z-of_z w64 x fits) in
    let inside : n < length xs = omega (arith, i.count) in
    let before : departure c.early.result.now n ≡ departure old n = ap (λ (ds : List ℤ). departure ds n) c.early.ensures ∙ i.rest n (omega arith) in
    let kept = kept-early c.args.room.now c.loop-number.room c.set_early.new.self _ c.set_early.ensures i.kept in
    let count = ap length written ∙ length-set xs n x ∙ i.count in
    let done = filled-more (early_departure t s old) xs c.set_early.new.self.early n x written inside time_is i.done in
    let rest = rest-more old xs c.set_early.new.self.early n x written i.rest in
    elim c.if-time-before.branch [
      | then-time-before w ↦ record {
        kept = kept;
        count = count;
        done = done;
        rest = rest;
        still = λ e. absurd (cc);
        differs = λ e. (n, h, λ same. w.if-time-before.true (ap (of_z w64) (time_is ∙ same ∙ sym before)));
      }
      | else-time-before w ↦ record {
        kept = kept;
        count = count;
        done = done;
        rest = rest;
        still = λ e. below_more (λ k. early_departure t s old k ≡ departure old k) n (i.still (sym w.changed-is ∙ e))
            (sym time_is ∙ same_bits x (departure c.early.result.now n) fits (let r : IsSum (departure old n) = c.requires.departures.each n h in rw before (omega (arith, ints))) w.if-time-before.false ∙ before);
        differs = λ e. i.differs (sym w.changed-is ∙ e);
      }
    ]
