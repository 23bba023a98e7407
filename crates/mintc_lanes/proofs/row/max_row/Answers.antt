use Rattle.std.proofs.Common.{◌≡◌, ◌∙◌, ℕ, ◌+◌, ◌%◌, ℤ, List, length, pos, rules, arith, w64, subst, sym}
use Rattle.std.specs.Int.{int_max}
use Rattle.std.proofs.lemmas.Int.{to_z-of_z}
use Rattle.std.proofs.lemmas.List.{get_or_default}
use Rattle.mintc_lanes.specs.declared.TheConstants.{ABSENT}
use Rattle.mintc_lanes.specs.Lanes.{AreLanes}
use Rattle.mintc_lanes.specs.Vectors.{IsVector, HasNumbers, number_at}
use Rattle.mintc_lanes.proofs.Greatest.{IsGreatestLane-from_turns, AreTurns, turn_is, AreNear, AreNear-row, AreNear-turn, turn_differs}
use Rattle.mintc_lanes.proofs.Reading.{read, read_is, read_vector}
use Rattle.mintc_lanes.proofs.row.max_row.Goals as goal

-- the greater of a vector and of its turn has numbers of lanes, as the code reads them
near_next : (v turned w : List ℤ) (o : ℕ) → IsVector v → AreNear v → IsVector turned → HasNumbers turned (λ k. number_at (read v) ((k + o) % 8)) →
    HasNumbers w (λ k. int_max (number_at (read v) k) (number_at (read turned) k)) → AreNear w
near_next v turned w o p near q places greater =
    AreNear-turn v w o (turn_is v turned w o (subst (λ (u : List ℤ). HasNumbers turned (λ k. number_at u ((k + o) % 8))) (read_is v p) places)
    (subst (λ (u : List ℤ). HasNumbers w (λ k. int_max (number_at v k) (number_at u k))) (read_is turned q)
    (subst (λ (u : List ℤ). HasNumbers w (λ k. int_max (number_at u k) (number_at (read turned) k))) (read_is v p) greater))) near

near_four : (row v turned w : List ℤ) → IsVector v → v ≡ row → AreLanes row → IsVector turned → HasNumbers turned (λ k. number_at (read v) ((k + 4) % 8)) →
    HasNumbers w (λ k. int_max (number_at (read v) k) (number_at (read turned) k)) → AreNear w
near_four row v turned w p e lanes q places greater = near_next v turned w 4 p (subst AreNear (sym e) (AreNear-row row lanes)) q places greater

pub turned_by_four-requires : goal.turned_by_four-requires
turned_by_four-requires c = read_vector _ c.numbers-lanes.ensures.vector

pub greater-lanes-requires-clause-x : goal.greater-lanes-requires-clause-x
greater-lanes-requires-clause-x c = read_vector _ c.numbers-lanes.ensures.vector

pub greater-lanes-requires-clause-y : goal.greater-lanes-requires-clause-y
greater-lanes-requires-clause-y c = read_vector _ c.turned_by_four.ensures.vector

pub turned_by_two-requires : goal.turned_by_two-requires
turned_by_two-requires c = read_vector _ c.greater-lanes.ensures.vector

pub greater-lanes-requires-2-clause-x : goal.greater-lanes-requires-2-clause-x
greater-lanes-requires-2-clause-x c = read_vector _ c.greater-lanes.ensures.vector

pub greater-lanes-requires-2-clause-y : goal.greater-lanes-requires-2-clause-y
greater-lanes-requires-2-clause-y c = read_vector _ c.turned_by_two.ensures.vector

pub turned_by_one-requires : goal.turned_by_one-requires
turned_by_one-requires c = read_vector _ c.greater-lanes-2.ensures.vector

pub greater-lanes-requires-3-clause-x : goal.greater-lanes-requires-3-clause-x
greater-lanes-requires-3-clause-x c = read_vector _ c.greater-lanes-2.ensures.vector

pub greater-lanes-requires-3-clause-y : goal.greater-lanes-requires-3-clause-y
greater-lanes-requires-3-clause-y c = read_vector _ c.turned_by_one.ensures.vector

pub greater-lanes-requires-clause-near : goal.greater-lanes-requires-clause-near
greater-lanes-requires-clause-near c =
    let v = c.numbers-lanes in
    let four = c.turned_by_four in
    let v_is : read v.result ≡ c.args.row.now = read_is v.result v.ensures.vector ∙ v.ensures.numbers in
    rw (read_is four.result four.ensures.vector) (turn_differs (read v.result) four.result 4 (subst AreNear (sym v_is) (AreNear-row c.args.row.now c.requires)) four.ensures.numbers)

pub greater-lanes-requires-2-clause-near : goal.greater-lanes-requires-2-clause-near
greater-lanes-requires-2-clause-near c =
    let v = c.numbers-lanes in
    let w = c.greater-lanes in
    let two = c.turned_by_two in
    let near : AreNear w.result = near_four c.args.row.now v.result c.turned_by_four.result w.result v.ensures.vector v.ensures.numbers c.requires
    c.turned_by_four.ensures.vector c.turned_by_four.ensures.numbers w.ensures.numbers in
    rw (read_is two.result two.ensures.vector) (turn_differs (read w.result) two.result 2 (subst AreNear (sym (read_is w.result w.ensures.vector)) near) two.ensures.numbers)

pub greater-lanes-requires-3-clause-near : goal.greater-lanes-requires-3-clause-near
greater-lanes-requires-3-clause-near c =
    let v = c.numbers-lanes in
    let w = c.greater-lanes in
    let x = c.greater-lanes-2 in
    let one = c.turned_by_one in
    let near : AreNear w.result = near_four c.args.row.now v.result c.turned_by_four.result w.result v.ensures.vector v.ensures.numbers c.requires
    c.turned_by_four.ensures.vector c.turned_by_four.ensures.numbers w.ensures.numbers in
    let nearer : AreNear x.result = near_next w.result c.turned_by_two.result x.result 2 w.ensures.vector near c.turned_by_two.ensures.vector c.turned_by_two.ensures.numbers x.ensures.numbers in
    rw (read_is one.result one.ensures.vector) (turn_differs (read x.result) one.result 1 (subst AreNear (sym (read_is x.result x.ensures.vector)) nearer) one.ensures.numbers)

pub returns : goal.returns
returns c =
    let v = c.numbers-lanes in
    let w = c.greater-lanes in
    let x = c.greater-lanes-2 in
    let y = c.greater-lanes-3 in
    let row = c.args.row.now in
    let v_is : read v.result ≡ row = read_is v.result v.ensures.vector ∙ v.ensures.numbers in
    let w_is = read_is w.result w.ensures.vector in
    let x_is = read_is x.result x.ensures.vector in
    let y_is = read_is y.result y.ensures.vector in
    let four = c.turned_by_four in
    let two = c.turned_by_two in
    let one = c.turned_by_one in
    let turns : AreTurns row w.result x.result y.result = record {
      four = turn_is row four.result w.result 4 (rw v_is at four.ensures.numbers) (rw (v_is, read_is four.result four.ensures.vector) at w.ensures.numbers);
      two = turn_is w.result two.result x.result 2 (rw w_is at two.ensures.numbers) (rw (w_is, read_is two.result two.ensures.vector) at x.ensures.numbers);
      one = turn_is x.result one.result y.result 1 (rw x_is at one.ensures.numbers) (rw (x_is, read_is one.result one.ensures.vector) at y.ensures.numbers);
    } in
    let count : length row ≡ 8 = search rules in
    let known = y.ensures.vector.count in
    let first = get_or_default y.result 0 (pos 0) ABSENT (omega arith) in
    let fits = y.ensures.vector.fits 0 (omega arith) in
    rw (y_is, first, to_z-of_z w64 (number_at y.result 0) fits) (IsGreatestLane-from_turns row w.result x.result y.result count c.requires turns)
