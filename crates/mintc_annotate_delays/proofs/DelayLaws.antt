-- What one delay more says.
use Rattle.std.proofs.Common.{◌≡◌, ◌<◌, ◌+◌, ℕ, List, ◌++◌, length, take, get_or, refl, sym, subst, append-nil}
use Rattle.std.proofs.lemmas.List.{take_more}
use Rattle.std.proofs.lemmas.List.Concat.{flat_map-append}
use Rattle.mintc_sdf.specs.declared.delays.Delay.{Delay}
use Rattle.mintc_flatten_hierarchy.specs.declared.hierarchy.Hierarchy.{Hierarchy}
use Rattle.mintc_flatten_hierarchy.specs.Shape.{CellTable}
use Rattle.mintc_annotate_resolve.specs.Resolution.{resolved, said, said_by}
use Rattle.mintc_annotate_delays.specs.declared.ranges.Ranges.{Ranges}
use Rattle.mintc_annotate_delays.specs.Ranges.{HasRanges}
use Rattle.mintc_annotate_delays.specs.Gathered.{IsTakenIn}

said_more : (h : Hierarchy) (cells : CellTable) (ds : List Delay) (k : ℕ) (d : Delay) → k < length ds → d ≡ get_or ds k d → said h cells (take (k + 1) ds) ≡ said h cells (take k ds) ++ said_by h cells d
said_more h cells ds k d within is = rw (take_more ds k d within, ← is, flat_map-append, append-nil) refl

pub ranges_more : (h : Hierarchy) (cells : CellTable) (ds : List Delay) (k : ℕ) (d : Delay) (old new : Ranges) → k < length ds → d ≡ get_or ds k d → HasRanges old (said h cells (take k ds)) →
    IsTakenIn d.entry (resolved h cells d) d.least d.greatest old new → HasRanges new (said h cells (take (k + 1) ds))
ranges_more h cells ds k d old new within is has taken =
    subst (HasRanges new) (sym (said_more h cells ds k d within is)) (taken.ranges (said h cells (take k ds)) has)
