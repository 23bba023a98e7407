-- Where a run stops.
use Rattle.mintc_text.specs.declared.refusals.Refusal.{Refusal}
use Rattle.mintc_text.specs.declared.refusals.Stop.{Stop}
use Rattle.mintc_text.specs.declared.refusals.Stop.TheVariants as stop

-- Where a call stops, this is said of its refusal. A want of memory says nothing.
abbrev pub StopsAt : (Refusal → Type 0) → Stop → Type 0
StopsAt P (stop.Refused refusal) = P refusal
StopsAt P stop.OutOfMemory = Unit {0}
