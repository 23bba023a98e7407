-- What schedules keep with edges apart.
use Rattle.mintc_edges.specs.Laws.{EdgeSchedulesAreKept, EdgeCyclesAreNoGreater, EdgesAreHopelessOnlyWhere, EdgesFeedOnlyWhere}
use Rattle.mintc_edges_cover.proofs.SharedClockLaws.{feeds_only_where_lem}
use Rattle.mintc_edges_cover.proofs.SharedRightLaws.{right_is_kept_lem, least_cycle_is_no_greater_lem, hopeless_only_where_lem}
use Rattle.mintc_edges.proofs.CoverLaws.{covering}

pub edge_schedules_are_kept_lem : EdgeSchedulesAreKept
edge_schedules_are_kept_lem h cells sense clock ds merged t ts s d right =
    right_is_kept_lem merged t (covering h cells sense clock ds merged.flat t.flat ts.both) ts.wider ts.pairs s d right

pub edge_cycles_are_no_greater_lem : EdgeCyclesAreNoGreater
edge_cycles_are_no_greater_lem h cells sense clock ds merged t ts num den own_num own_den first mine =
    least_cycle_is_no_greater_lem merged t (covering h cells sense clock ds merged.flat t.flat ts.both) ts.wider ts.pairs num den own_num own_den first mine

pub edges_are_hopeless_only_where_lem : EdgesAreHopelessOnlyWhere
edges_are_hopeless_only_where_lem h cells sense clock ds merged t ts hopeless =
    hopeless_only_where_lem merged t (covering h cells sense clock ds merged.flat t.flat ts.both) ts.wider ts.pairs hopeless

pub edges_feed_only_where_lem : EdgesFeedOnlyWhere
edges_feed_only_where_lem h cells sense clock ds merged t ts i j fed =
    feeds_only_where_lem merged t (covering h cells sense clock ds merged.flat t.flat ts.both) ts.wider ts.pairs i j fed
