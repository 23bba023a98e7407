use Rattle.std.proofs.Common.{◌≡◌, ◌∙◌, ℕ, List, arith, refl, ap}
use Rattle.mintc_paths_sums.specs.declared.sums.TheConstants.{NO_SUMS}
use Rattle.mintc_paths_sums.specs.SparseRows.{place_at, places_of}
use Rattle.mintc_paths_sums.specs.Sums.{sums_at}
use Rattle.mintc_paths_sums.proofs.Give.{Holds, Holds-given, read_at, held_none, joined_at}
use Rattle.mintc_paths_sums.proofs.sparse_rows.SparseRows.join.Goals as goal
use Rattle.mintc_paths_sums.proofs.sparse_rows.SparseRows.join.Goals.{After-slot_of-place, After-index-2}

-- what the rows hold at first, and the place of the row that the arc enters
first : (c : After-slot_of-place) → Holds (places_of c.self.inside.base c.self.inside.numbers.items) c.self.inside.sums.items c.args.self.now
first c =
    Holds-given c.self.inside.base c.self.inside.numbers.items c.self.inside.numbers.items c.self.inside.sums.items c.self.inside.sums.items c.args.self.now c.self.view_is c.self.invariant.held (λ other. refl) refl

place_is : (c : After-slot_of-place) → c.slot_of-place.result ≡ place_at (places_of c.self.inside.base c.self.inside.numbers.items) c.args.arc.to
place_is c = c.slot_of-place.ensures ∙ ap (λ (xs : List ℕ). place_at (places_of c.self.inside.base xs) c.args.arc.to) c.deref.ensures.value

pub returns-then-place-gt0 : goal.returns-then-place-gt0
returns-then-place-gt0 c =
    let at = (goal.at.returns-then-place-gt0 c).After-slot_of-place in
    let arc = c.args.arc in
    let left_is = c.slot_of-left.ensures ∙ ap (λ (xs : List ℕ). place_at (places_of c.self.inside.base xs) arc.from) c.deref-then-place-gt0.ensures.value in
    let h = c.join_rows.ensures in
    let done = joined_at (first at) arc c.slot_of-place.result c.index_mut.result.now c.index.result.now c.join_rows.new.sums c.requires.to (place_is at) (λ e. omega (arith, c.if-place-gt0.true))
    (read_at (first at) arc.to c.slot_of-place.result c.index_mut.result.now c.requires.to (place_is at) c.index_mut.ensures.value) (read_at (first at) arc.from c.slot_of-left.result c.index.result.now c.requires.from left_is c.index.ensures)
    (record { greatest = h.greatest; least = h.least; bounded = h.bounded }) in
    record { count = done.count; others = done.others; greatest = done.joined.greatest; least = done.joined.least; bounded = done.joined.bounded }

-- what they hold once the row that the arc enters has a place
afterwards : (c : After-index-2) → Holds (places_of c.self.inside.base c.give.new.numbers.items) c.give.new.sums.items c.args.self.now
afterwards c =
    let given = c.in_ok-place.ensures in
    Holds-given c.self.inside.base c.self.inside.numbers.items c.give.new.numbers.items c.self.inside.sums.items c.give.new.sums.items c.args.self.now c.self.view_is given.held.held given.kept given.count

from_is : (c : After-index-2) → c.index-2.result.now ≡ sums_at c.args.self.now c.args.arc.from
from_is c =
    let left_is = c.slot_of-left-2.ensures ∙ ap (λ (xs : List ℕ). place_at (places_of c.self.inside.base xs) c.args.arc.from) c.deref-2.ensures.value in
    read_at (afterwards c) c.args.arc.from c.slot_of-left-2.result c.index-2.result.now c.requires.from left_is c.index-2.ensures

pub returns : goal.returns
returns c =
    let at = goal.at.returns c in
    let arc = c.args.arc in
    let given = c.in_ok-place.ensures in
    let h = c.led_on.ensures in
    let none = held_none (first at.After-slot_of-place) arc.to c.requires.to (omega (arith, c.if-place-gt0.false, place_is at.After-slot_of-place)) in
    let done = joined_at (afterwards at.After-index-2) arc c.in_ok-place.place NO_SUMS c.index-2.result.now c.led_on.result c.requires.to given.place given.some none (from_is at.After-index-2)
    (record { greatest = h.greatest; least = h.least; bounded = λ most from to. h.bounded most from }) in
    record { count = done.count; others = done.others; greatest = done.joined.greatest; least = done.joined.least; bounded = done.joined.bounded }

pub led_on-requires-clause-others_bounded : goal.led_on-requires-clause-others_bounded
led_on-requires-clause-others_bounded c = rw (from_is (goal.at.led_on-requires-clause-others_bounded c).After-index-2) c.requires.from_bounded
