-- What follows where there is an answer.
use Rattle.std.proofs.Common.{Result, Ok, Err, MatchResult, OnOk}
use Rattle.mintc_text.specs.declared.read_error.ReadError.{ReadError}

pub on-answer : {T : Type 0} (r : Result T ReadError) (P : T → Type 0) (H : ReadError → Type 0) (a : Type 0) → ((x : T) → P x → a) → MatchResult r P H → OnOk r a
on-answer (Ok x) P H a f told = f x told
on-answer (Err h) P H a f told = tt
