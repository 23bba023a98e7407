-- Answers over the files that a command names.
use Rattle.std.proofs.Common.{◌≡◌, ◌≢◌, ◌+◌, ℕ, List, [], ◌∷◌, length, refl, sym, subst, arith, Option}
use Rattle.mintc_text.specs.Outside.{Files}
use Rattle.mintc_command_answers.specs.Answers.{IsDefined, IsOfCommand}
use Rattle.mintc_command.specs.Answers.{AreFronts, IsNotRefused, IsComplete, IsAnswer}
use Rattle.mintc_command_answers.specs.Commands.{AreWordsOf}
use Rattle.mintc_command_answers.specs.declared.command.Command.{Command}
use Rattle.mintc_text.specs.declared.limits.Most.{Most}
use Rattle.mintc_command_answers.specs.declared.status.Status.{Status}
use Rattle.mintc_command_answers.specs.declared.status.Status.TheVariants.{Done, Found, Refused, Usage, ReadFault, WriteFault, OutOfMemory}

pub IsOfCommand-no_fault : (status : Status) → IsOfCommand status → status ≢ WriteFault
IsOfCommand-no_fault Done h e = cc
IsOfCommand-no_fault Found h e = cc
IsOfCommand-no_fault Refused h e = cc
IsOfCommand-no_fault Usage h e = h
IsOfCommand-no_fault ReadFault h e = h
IsOfCommand-no_fault WriteFault h e = h
IsOfCommand-no_fault OutOfMemory h e = h

pub IsOfCommand-no_usage : (status : Status) → IsOfCommand status → status ≢ Usage
IsOfCommand-no_usage Done h e = cc
IsOfCommand-no_usage Found h e = cc
IsOfCommand-no_usage Refused h e = cc
IsOfCommand-no_usage Usage h e = h
IsOfCommand-no_usage ReadFault h e = h
IsOfCommand-no_usage WriteFault h e = h
IsOfCommand-no_usage OutOfMemory h e = h

-- As many files are read as there are names.
pub as_many : (shelf : Option Files) (front : ℕ) (names files : List (List ℕ)) → AreFronts shelf front names files → length files ≡ length names
as_many shelf front [] [] h = refl
as_many shelf front [] (b ∷ files) h = absurd h
as_many shelf front (a ∷ names) [] h = absurd h
as_many shelf front (a ∷ names) (b ∷ files) h = let rest : length files ≡ length names = as_many shelf front names files h.1 in omega arith

-- In a run with these limits.
module _ (most : Most) where
  -- A defined answer of the words' command on its files is an answer to the words.
  IsAnswer-defined : (words names files : List (List ℕ)) (shelf : Option Files) (command : Command) (status : Status) (text : List ℕ) →
      AreWordsOf command names words → AreFronts shelf (most.bytes + 1) names files → IsOfCommand status → IsDefined most command files status text → IsAnswer most words shelf status text
  IsAnswer-defined words names files shelf command Done text are fronts of h = record { command = command; names = names; are_words = are; fronts = files; are_fronts = fronts; defined = h }
  IsAnswer-defined words names files shelf command Found text are fronts of h = record { command = command; names = names; are_words = are; fronts = files; are_fronts = fronts; defined = h }
  IsAnswer-defined words names files shelf command Refused text are fronts of h = record { command = command; names = names; are_words = are; fronts = files; are_fronts = fronts; defined = h }
  IsAnswer-defined words names files shelf command Usage text are fronts of h = absurd of
  IsAnswer-defined words names files shelf command ReadFault text are fronts of h = absurd of
  IsAnswer-defined words names files shelf command WriteFault text are fronts of h = absurd of
  IsAnswer-defined words names files shelf command OutOfMemory text are fronts of h = absurd of

  -- Where nothing is refused, a defined answer is a whole one.
  IsComplete-defined : (names files : List (List ℕ)) (shelf : Option Files) (command : Command) (status : Status) (text : List ℕ) →
      AreFronts shelf (most.bytes + 1) names files → IsOfCommand status → IsDefined most command files status text → IsNotRefused most shelf command names → IsComplete status
  IsComplete-defined names files shelf command Done text fronts of h none = tt
  IsComplete-defined names files shelf command Found text fronts of h none = tt
  IsComplete-defined names files shelf command Refused text fronts of h none = none files h.0 fronts h.1
  IsComplete-defined names files shelf command Usage text fronts of h none = of
  IsComplete-defined names files shelf command ReadFault text fronts of h none = of
  IsComplete-defined names files shelf command WriteFault text fronts of h none = of
  IsComplete-defined names files shelf command OutOfMemory text fronts of h none = tt

  -- The files that were read, seen as a slice, and the text, seen as its bytes.
  pub answered : (words names read files seen : List (List ℕ)) (shelf : Option Files) (command : Command) (status : Status) (text shown : List ℕ) →
      AreWordsOf command names words → read ≡ names → AreFronts shelf (most.bytes + 1) read files → seen ≡ files → IsOfCommand status → IsDefined most command seen status text →
      shown ≡ text → IsAnswer most words shelf status shown
  answered words names read files seen shelf command status text shown are same_names fronts same of h whole =
      let P : List (List ℕ) → Type 0 = λ x. AreFronts shelf (most.bytes + 1) x files in
      let Q : List (List ℕ) → Type 0 = λ x. IsDefined most command x status text in
      let R : List ℕ → Type 0 = λ x. IsAnswer most words shelf status x in
      subst R (sym whole) (IsAnswer-defined words names files shelf command status text are (subst P same_names fronts) of (subst Q same h))

  pub completed : (names read files seen : List (List ℕ)) (shelf : Option Files) (command : Command) (status now : Status) (text : List ℕ) →
      read ≡ names → AreFronts shelf (most.bytes + 1) read files → seen ≡ files → IsOfCommand status → IsDefined most command seen status text → IsNotRefused most shelf command names →
      now ≡ status → IsComplete now
  completed names read files seen shelf command status now text same_names fronts same of h none unchanged =
      let P : List (List ℕ) → Type 0 = λ x. AreFronts shelf (most.bytes + 1) x files in
      let Q : List (List ℕ) → Type 0 = λ x. IsDefined most command x status text in
      subst (λ (x : Status). IsComplete x) (sym unchanged) (IsComplete-defined names files shelf command status text (subst P same_names fronts) of (subst Q same h) none)
