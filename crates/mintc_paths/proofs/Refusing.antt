-- A refusal of the search is one of the whole.
use Rattle.std.proofs.Common.{Result, Ok, Err, ◌≡◌, subst, sym}
use Rattle.std.specs.Result.{IfErr, IsErrAnd}
use Rattle.mintc_text.specs.declared.limits.Most.{Most}
use Rattle.mintc_text.specs.declared.refusals.Refusal.{Refusal}
use Rattle.mintc_text.specs.declared.refusals.Refusal.TheVariants as refusal
use Rattle.mintc_text.specs.declared.refusals.Stop.{Stop}
use Rattle.mintc_text.specs.declared.refusals.Stop.TheVariants as stop
use Rattle.mintc_text.specs.Stops.{StopsAt}
use Rattle.mintc_timing.specs.Design.{Design}
use Rattle.mintc_paths.specs.Refusals.{IsPathRange, IsExtremesRefusal}

refusal_of_all : (most : Most) (design : Design) (r : Refusal) → IsPathRange design r → IsExtremesRefusal most design r
refusal_of_all most design (refusal.PathRange j bit) h = h
refusal_of_all most design _ h = absurd h

stop_of_all : (most : Most) (design : Design) (s : Stop) → StopsAt (IsPathRange design) s → StopsAt (IsExtremesRefusal most design) s
stop_of_all most design (stop.Refused r) h = refusal_of_all most design r h
stop_of_all most design stop.OutOfMemory h = h

pub stop_passed_on : {T : Type 0} (most : Most) (design : Design) (s : Stop) (r : Result T Stop) → StopsAt (IsPathRange design) s → IsErrAnd r (λ s'. s' ≡ s) → IfErr r (StopsAt (IsExtremesRefusal most design))
stop_passed_on most design s (Ok v) h e = tt
stop_passed_on most design s (Err s') h e = subst (λ x. StopsAt (IsExtremesRefusal most design) x) (sym e) (stop_of_all most design s h)
