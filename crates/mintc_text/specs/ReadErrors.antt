-- Where a part of a text is not read.
use Rattle.mintc_text.specs.declared.read_error.ReadError.{ReadError}
use Rattle.mintc_text.specs.declared.read_error.ReadError.TheVariants.{Malformed, OutOfMemory}

-- Where a text has no such form, this is said. A want of memory says nothing.
abbrev pub Halts : Type 0 → ReadError → Type 0
Halts fault Malformed = fault
Halts fault OutOfMemory = Unit {0}
