use Rattle.std.proofs.Common.{◌∙◌, ap}
use Rattle.mintc_lanes.specs.Lanes.{lane_at}
use Rattle.mintc_paths_sums.specs.declared.sums.Sums.{Sums}
use Rattle.mintc_paths_sums.specs.SparseRows.{places_of}
use Rattle.mintc_paths_sums.proofs.Give.{Holds, Holds-given, put_own, put_others, read_at}
use Rattle.mintc_paths_sums.proofs.sparse_rows.SparseRows.begin.Goals as goal
use Rattle.mintc_paths_sums.proofs.sparse_rows.SparseRows.begin.Goals.{In_ok-place}

-- what the rows hold once the row has a place
holds : (c : In_ok-place) → Holds (places_of c.self.inside.base c.hold.new.numbers.items) c.hold.new.sums.items c.args.self.now
holds c =
    let h = c.in_ok-place.ensures in
    Holds-given c.self.inside.base c.self.inside.numbers.items c.hold.new.numbers.items c.self.inside.sums.items c.hold.new.sums.items c.args.self.now c.self.view_is h.held.held h.kept h.count

pub returns-clause-others : goal.returns-clause-others
returns-clause-others c =
    let h = c.in_ok-place.ensures in
    put_others (holds (goal.at.returns-clause-others c).In_ok-place) c.args.row c.in_ok-place.place c.requires.row h.place h.some c.begin_lane.new.sums

pub returns-clause-lanes : goal.returns-clause-lanes
returns-clause-lanes c = λ other ne.
    let h = c.in_ok-place.ensures in
    let at = holds (goal.at.returns-clause-lanes c).In_ok-place in
    let own = put_own at c.args.row c.in_ok-place.place c.requires.row h.place h.some c.begin_lane.new.sums in
    let before = read_at at c.args.row c.in_ok-place.place c.index_mut.result.now c.requires.row h.place c.index_mut.ensures.value in
    let lanes = c.begin_lane.ensures.lanes other ne in (
      ap (λ (s : Sums). lane_at s.greatest other) own ∙ lanes.0 ∙ ap (λ (s : Sums). lane_at s.greatest other) before,
      ap (λ (s : Sums). lane_at s.least other) own ∙ lanes.1 ∙ ap (λ (s : Sums). lane_at s.least other) before,
    )
