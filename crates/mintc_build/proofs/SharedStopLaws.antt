-- What is weaker of each refusal, of a value and of a stop.
use Rattle.std.proofs.Common.{Result, Ok, Err, IfOk, IfErr, MatchResult}
use Rattle.mintc_text.specs.declared.refusals.Stop.{Stop}
use Rattle.mintc_text.specs.declared.refusals.Stop.TheVariants as stop
use Rattle.mintc_text.specs.declared.refusals.Refusal.{Refusal}
use Rattle.mintc_text.specs.Stops.{StopsAt}

-- What is said of each refusal is said where a call stops.
pub StopsAt-mono : {P Q : Refusal → Type 0} (s : Stop) → ((r : Refusal) → P r → Q r) → StopsAt P s → StopsAt Q s
StopsAt-mono (stop.Refused r) f h = f r h
StopsAt-mono stop.OutOfMemory f h = tt

-- the two sides of what is said of a value and of a stop
pub if_ok : {A : Type 0} (V W : A → Type 0) (P : Refusal → Type 0) (x : Result A Stop) → ((a : A) → V a → W a) → MatchResult x V (StopsAt P) → IfOk x W
if_ok V W P (Ok a) f h = f a h
if_ok V W P (Err s) f h = tt

pub if_err : {A : Type 0} (V : A → Type 0) (P Q : Refusal → Type 0) (x : Result A Stop) → ((r : Refusal) → P r → Q r) → MatchResult x V (StopsAt P) → IfErr x (StopsAt Q)
if_err V P Q (Ok a) f h = tt
if_err V P Q (Err s) f h = StopsAt-mono s f h
