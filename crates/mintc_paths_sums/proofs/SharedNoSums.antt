-- The sums where no path leads.
use Rattle.std.proofs.Common.{◌≡◌, ℕ, ◌<◌, None, ap}
use Rattle.std.proofs.lemmas.List.{get_or-replicate}
use Rattle.mintc_lanes.specs.declared.TheConstants.{ABSENT}
use Rattle.mintc_lanes.specs.Lanes.{lane_of, lane_at}
use Rattle.mintc_paths_sums.specs.declared.sums.TheConstants.{NO_SUMS}

-- a row of absent lanes
pub none_at : (lane : ℕ) → lane < 8 → (lane_at NO_SUMS.greatest lane ≡ None) × (lane_at NO_SUMS.least lane ≡ None)
none_at lane below = let e = get_or-replicate 8 lane ABSENT ABSENT below in (ap lane_of e, ap lane_of e)
