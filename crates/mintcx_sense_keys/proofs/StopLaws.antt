-- What stops a call.
use Rattle.std.proofs.Common.{ℕ, Ok, Err, Result, MatchResult}
use Rattle.mintc_text.specs.declared.refusals.Stop.{Stop}
use Rattle.mintc_text.specs.declared.refusals.Stop.TheVariants as stop
use Rattle.mintc_text.specs.declared.refusals.Refusal.TheVariants as refusal
use Rattle.mintc_text.specs.Stops.{StopsAt}
use Rattle.mintc_cells.specs.CellsOf.{IsBadCellBy}

-- what is weaker of an entry and a rule
pub stopped : (s : Stop) (Q Q' : ℕ → ℕ → Type 0) → ((n rule : ℕ) → Q n rule → Q' n rule) → StopsAt (IsBadCellBy Q) s → StopsAt (IsBadCellBy Q') s
stopped (stop.Refused (refusal.BadCell n rule)) Q Q' g h = g n rule h
stopped (stop.Refused _) Q Q' g h = absurd h
stopped stop.OutOfMemory Q Q' g h = tt

-- what is weaker of a value and of a stop
pub carried : {V : Type 0} (r : Result V Stop) (P P' : V → Type 0) (Q Q' : ℕ → ℕ → Type 0) → ((v : V) → P v → P' v) → ((n rule : ℕ) → Q n rule → Q' n rule) →
    MatchResult r P (StopsAt (IsBadCellBy Q)) → MatchResult r P' (StopsAt (IsBadCellBy Q'))
carried (Ok v) P P' Q Q' f g h = f v h
carried (Err s) P P' Q Q' f g h = stopped s Q Q' g h
