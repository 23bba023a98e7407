-- What a run leaves of its reply.
use Rattle.std.specs.Prelude.{◌≡◌, ◌⊎◌, Option, Some, None}
use Rattle.mintc_text.specs.Outside.{Files, Takes, TakesFront}
use Rattle.mintc_command_answers.specs.declared.status.Status.{Status}
use Rattle.mintc_command_answers.specs.declared.status.Status.TheVariants.{WriteFault}
use Rattle.mintcx_requests.specs.Requests.{Text}
use Rattle.mintcx_run.specs.Folders.{Makes}
use Rattle.mintcx_run.specs.declared.reply.Beside.{Beside}
use Rattle.mintcx_run.specs.declared.reply.Place.{Place}
use Rattle.mintcx_run.specs.declared.reply.Place.TheVariants as place
use Rattle.mintcx_run.specs.declared.reply.Reply.{Reply}

-- what a sink has taken, or a folder: what it was before, and what it became
pub record Sent (T : Type 0) : Type 0 where
  pub was : T
  pub became : T

-- what it had taken before, and has now
abbrev pub sent : {T : Type 0} → T → T → Sent T
sent was became = record { was = was; became = became }

-- nothing was sent
abbrev pub IsStill : {T : Type 0} → Sent T → Type 0
IsStill taken = taken.became ≡ taken.was

-- what the write of an answer leaves: with its status the text at the end, and where it failed a front of it
abbrev pub IsWritten : Status → Text → Status → Option Text → Option Text → Type 0
IsWritten status text result before now = ((result ≡ status) × Takes before now text)
    ⊎ ((result ≡ WriteFault) × TakesFront before now text)

-- what the making of a file leaves: with the answer's status the file
abbrev pub IsMade : Status → Text → Text → Status → Option Files → Option Files → Type 0
IsMade status name text result before now = ((result ≡ status) × Makes before now name text) ⊎ (result ≡ WriteFault)

-- nothing is told but of a file that couldn't be made
abbrev pub IsToldOf : Status → Sent (Option Text) → Type 0
IsToldOf status errors = IsStill errors ⊎ (status ≡ WriteFault)

-- what is left of a reply that goes to this place
abbrev pub IsAt : Place → Reply → Status → Sent (Option Text) → Sent (Option Text) → Sent (Option Files) → Type 0
IsAt place.Output reply status out errors made = IsWritten reply.status reply.text status out.was out.became
    × IsStill errors × IsStill made
IsAt (place.File name) reply status out errors made = IsMade reply.status name reply.text status made.was made.became
    × IsStill out × IsToldOf status errors
IsAt place.Errors reply status out errors made = (status ≡ reply.status) × IsStill out × IsStill made
IsAt place.Nowhere reply status out errors made = (status ≡ reply.status) × IsStill out × IsStill errors × IsStill made

-- the file beside a text is made, where there is one
abbrev pub IsMadeBeside : Option Beside → Option Files → Option Files → Type 0
IsMadeBeside None before now = now ≡ before
IsMadeBeside (Some file) before now = Makes before now file.name file.text

-- there is a file beside the text that couldn't be made, and no answer is written
abbrev pub IsLost : Reply → Status → Sent (Option Text) → Type 0
IsLost reply status out = ((file : Beside) × (reply.beside ≡ Some file)) × (status ≡ WriteFault) × IsStill out

-- what is told before a text: its warnings, and where that write failed a front of them
abbrev pub AreTold : Text → Sent (Option Text) → Type 0
AreTold warnings errors = TakesFront errors.was errors.became warnings

-- What a run leaves that has this reply, of the two sinks and of the files that are made: the file beside its text is
-- made, its warnings are told, its text is where it goes, and nothing is elsewhere; or that file couldn't be made.
abbrev pub IsDelivered : Reply → Status → Sent (Option Text) → Sent (Option Text) → Sent (Option Files) → Type 0
IsDelivered reply status out errors made = IsLost reply status out
    ⊎ ((between : Option Files) × (told : Option Text) × IsMadeBeside reply.beside made.was between
    × AreTold reply.warnings (sent errors.was told)
    × IsAt reply.place reply status out (sent told errors.became) (sent between made.became))
