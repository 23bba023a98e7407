-- Why a question has no answer.
use Rattle.std.specs.Prelude.{ℕ}
use Rattle.mintc_text.specs.declared.refusals.Refusal.{Refusal}
use Rattle.mintc_text.specs.declared.refusals.Refusal.TheVariants as refusal
use Rattle.mintc_text.specs.declared.refusals.Stop.{Stop}
use Rattle.mintc_text.specs.declared.refusals.Stop.TheVariants as stop
use Rattle.mintcx_answers.specs.declared.halts.Halt.{Halt}
use Rattle.mintcx_answers.specs.declared.halts.Halt.TheVariants as halt

-- Where there is no answer, this is said of the refusal, and that of a corner and the refusal of its own files. A want
-- of memory says nothing.
abbrev pub HaltsAt : (Refusal → Type 0) → (ℕ → Refusal → Type 0) → Halt → Type 0
HaltsAt P Q (halt.Refused refused) = P refused
HaltsAt P Q (halt.Corner corner own) = P (refusal.Corner corner) × Q corner own
HaltsAt P Q halt.OutOfMemory = Unit {0}

-- where a call has stopped, there is no answer
abbrev pub halt_of : Stop → Halt
halt_of (stop.Refused refused) = halt.Refused refused
halt_of stop.OutOfMemory = halt.OutOfMemory
