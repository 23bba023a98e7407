-- What a run replies to its words, over the files of a shelf, and what it leaves.
use Rattle.std.specs.Prelude.{◌≡◌, ◌<◌, ◌≤◌, ◌+◌, ◌⊎◌, ℕ, List, [], length, slice_set, slice_index_or}
use Rattle.std.specs.Prelude.{◌-◌, Option, Some, None, is_some, nat_eq}
use Rattle.std.specs.Prelude.{Bool, true, false, ◌&&◌, not, Result, Ok, Err, Contains, IsUtf8, codes, if◌then◌else◌}
use Rattle.std.specs.List.{starts_with}
use Rattle.clap.specs.Words.{App}
use Rattle.mintc_text.specs.Limits.{large}
use Rattle.mintc_text.specs.declared.limits.TheConstants.{MOST_BYTES}
use Rattle.mintc_text.specs.declared.refusals.Refusal.{Refusal}
use Rattle.mintc_text.specs.declared.refusals.Refusal.TheVariants as refusal
use Rattle.mintc_text.specs.declared.refusals.Role.TheVariants as role
use Rattle.mintc_text.specs.Outside.{Files, IsFront}
use Rattle.mintc_timing.specs.Design.{Design}
use Rattle.mintc_command.specs.Answers.{AreFronts}
use Rattle.mintc_command_answers.specs.Answers.{IsDefined, IsOfCommand}
use Rattle.mintc_command_answers.specs.Sources.{file_at}
use Rattle.mintc_command_answers.specs.declared.command.Command.{Command}
use Rattle.mintc_command_answers.specs.declared.command.Command.TheVariants.{OfDesign, Sample, Corners}
use Rattle.mintc_command_answers.specs.declared.command.Job.TheVariants.{Check, Optimise, Verify, Report, Safe, Slack}
use Rattle.mintc_command_answers.specs.declared.command.Job.{Job}
use Rattle.mintc_command_answers.specs.declared.command.Source.{Source}
use Rattle.mintc_command_answers.specs.declared.command.Source.TheVariants as source
use Rattle.mintc_command_answers.specs.declared.status.Status.{Status}
use Rattle.mintc_command_answers.specs.declared.status.Status.TheVariants.{Done, Found, Refused, Usage, ReadFault}
use Rattle.mintc_command_answers.specs.declared.status.Status.TheVariants.{OutOfMemory}
use Rattle.mintcx_explanations.specs.Explanations.{IsOfNumber, IsRefusalNumber, IsWarningPage, Names, NamesNoWarning}
use Rattle.mintc_command_answers.specs.Commands.{roles_of}
use Rattle.mintc_command_answers.specs.Corners.{IsFirstRefused, corners_of}
use Rattle.mintcx_refusals.specs.Files.{IsFile, teller}
use Rattle.mintcx_refusals.specs.Messages as messages
use Rattle.mintcx_refusals.specs.Parts.{HasParts}
use Rattle.mintcx_refusals.specs.declared.parts.Marked.{Marked}
use Rattle.mintcx_refusals.specs.declared.parts.Parts.{Parts}
use Rattle.mintcx_json.specs.Refusals.{IsRefusedObject}
use Rattle.mintcx_json.specs.declared.refusals.Cause.{Cause}
use Rattle.mintcx_json.specs.declared.refusals.Refused.{Refused as RefusedTold}
use Rattle.mintcx_json.specs.declared.refusals.Spotted.{Spotted}
use Rattle.mintc_text.specs.Refusals.{refusal_number}
use Rattle.mintcx_manners.specs.declared.manners.Detail.{Detail}
use Rattle.mintcx_manners.specs.declared.manners.Detail.TheVariants as detail
use Rattle.mintcx_manners.specs.declared.manners.Format.{Format}
use Rattle.mintcx_manners.specs.declared.manners.Format.TheVariants as format
use Rattle.mintcx_project.specs.Projects.{IsFaultOf, Says, no_settings}
use Rattle.mintcx_project.specs.declared.project.ProjectFault.{ProjectFault}
use Rattle.mintcx_project.specs.declared.project.ProjectFault.TheVariants as fault
use Rattle.mintcx_project.specs.declared.project.Settings.{Settings}
use Rattle.mintcx_requests.specs.Requests.{Text, request_of}
use Rattle.mintcx_requests.specs.declared.given.Given.{Given}
use Rattle.mintcx_requests.specs.declared.requests.Fault.{Fault}
use Rattle.mintcx_requests.specs.declared.requests.Manner.{Manner}
use Rattle.mintcx_requests.specs.declared.requests.Request.{Request}
use Rattle.mintcx_requests.specs.declared.requests.Request.TheVariants as request
use Rattle.mintcx_translation.specs.Calls.{call_for}
use Rattle.mintcx_translation.specs.declared.calls.Aspect.{Aspect}
use Rattle.mintcx_translation.specs.declared.calls.Aspect.TheVariants as aspect
use Rattle.mintcx_translation.specs.declared.calls.Call.{Call}
use Rattle.mintcx_translation.specs.declared.calls.Gap.{Gap}
use Rattle.mintcx_words.specs.CommandLine.{IsProgram}
use Rattle.mintcx_words.specs.Misread.{IsReading}
use Rattle.mintcx_words.specs.declared.words.Misread.{Misread}
use Rattle.mintcx_words.specs.declared.words.Misread.TheVariants as misread
use Rattle.mintcx_answers.specs.Answers.{HasAnswer, HasCertificate}
use Rattle.mintcx_answers.specs.Clocks.{HasClocks}
use Rattle.mintcx_answers.specs.declared.clocks.Clocks.{Clocks}
use Rattle.mintcx_answers.specs.declared.clocks.Clocks.TheVariants as clocks
use Rattle.mintcx_answers.specs.declared.clocks.Stated.{Stated}
use Rattle.mintcx_answers.specs.declared.clocks.Stated.TheVariants as stated
use Rattle.mintcx_answers.specs.Pictures.{HasPicture}
use Rattle.mintcx_answers.specs.declared.pictures.Motif.{Motif}
use Rattle.mintcx_answers.specs.declared.pictures.Motif.TheVariants as motif
use Rattle.mintcx_answers.specs.declared.pictures.Pictured.{Pictured}
use Rattle.mintcx_answers.specs.declared.pictures.Pictured.TheVariants as pictured
use Rattle.mintcx_answers.specs.Shown.{IsFirstRefusalFor}
use Rattle.mintcx_answers.specs.Tables.{HasTable}
use Rattle.mintcx_answers.specs.declared.tables.Tabled.{Tabled}
use Rattle.mintcx_answers.specs.declared.tables.Tabled.TheVariants as tabled
use Rattle.mintcx_picture.specs.declared.drawn.Drawn.TheVariants as drawn
use Rattle.mintcx_sdc.specs.declared.text.Titles.{Titles}
use Rattle.mintcx_frame.specs.declared.view.View.{View}
use Rattle.mintcx_run.specs.declared.answers.Told.{Told}
use Rattle.mintcx_run.specs.declared.orders.Order.{Order}
use Rattle.mintcx_run.specs.declared.reply.Beside.{Beside}
use Rattle.mintcx_run.specs.declared.reply.Place.{Place}
use Rattle.mintcx_run.specs.declared.reply.Place.TheVariants as place
use Rattle.mintcx_run.specs.declared.reply.Reply.{Reply}
use Rattle.mintcx_clock_cells.specs.declared.unfit.Unfit.{Unfit}
use Rattle.mintcx_clock_cells.specs.declared.unfit.Unfit.TheVariants as unfit
use Rattle.mintcx_apart.specs.Apart.{IsToldApart}
use Rattle.mintcx_apart.specs.declared.apart.Apart.{Apart}
use Rattle.mintcx_apart.specs.declared.apart.Apart.TheVariants as apart
use Rattle.mintcx_edges.specs.declared.halt.Halt.{Halt}
use Rattle.mintcx_edges.specs.declared.halt.Halt.TheVariants as halt
use Rattle.mintcx_run.specs.Apart.{IsMade, IsUnmade, in_place, of_table}
use Rattle.mintcx_run.specs.Libraries.{AreGiven, IsUndescribed}
use Rattle.mintcx_run.specs.Taken.{AreTaken}
use Rattle.mintcx_run.specs.Warned.{AreAllWarned}

-- ---- kinds of replies

-- memory was wanting, and nothing is written
abbrev pub IsOutOfMemory : Reply → Type 0
IsOutOfMemory reply = (reply.status ≡ OutOfMemory) × (reply.place ≡ place.Nowhere) × (reply.beside ≡ None)

-- this text, and no file beside it, or memory was wanting
abbrev pub IsSaying : Status → Place → Text → Reply → Type 0
IsSaying status to text reply = ((reply.status ≡ status) × (reply.place ≡ to) × (reply.text ≡ text)
    × (reply.beside ≡ None)) ⊎ IsOutOfMemory reply

-- a message with this status for the second sink, and no file beside it, or memory was wanting
abbrev pub IsMessage : Status → Reply → Type 0
IsMessage status reply = ((reply.status ≡ status) × (reply.place ≡ place.Errors) × (reply.beside ≡ None))
    ⊎ IsOutOfMemory reply

-- ---- the words

-- the words give this
abbrev pub IsGiven : List Text → Given → Type 0
IsGiven words given = (a : App) × IsProgram a × IsReading a words (Ok given)

-- what is said where words give nothing: help or the version as an answer, and else a message
abbrev pub IsMisreadReply : Misread → Reply → Type 0
IsMisreadReply (misread.Answer text) reply = IsSaying Done place.Output text reply
IsMisreadReply misread.OutOfMemory reply = IsOutOfMemory reply
IsMisreadReply (misread.Wrong text) reply = IsSaying Usage place.Errors text reply
IsMisreadReply misread.NoCommand reply = IsMessage Usage reply

-- the words give nothing, and this is said
abbrev pub IsWordsReply : List Text → Reply → Type 0
IsWordsReply words reply =
    (a : App) × (why : Misread) × IsProgram a × IsReading a words (Err why) × IsMisreadReply why reply

-- ---- the project file

-- the project file of this name says this, by its first bytes, which aren't too many
abbrev pub IsSaidBy : Option Files → Text → Settings → Type 0
IsSaidBy files name settings = (text : Text) × IsFront files name (MOST_BYTES + 1) text × (length text ≤ MOST_BYTES)
    × Says name text settings

-- What a project file says: the one that is named, or else mintc.toml; where mintc.toml can't be read, nothing is said.
abbrev pub IsSettings : Option Files → Option Text → Settings → Type 0
IsSettings files None settings = IsSaidBy files (codes "mintc.toml") settings ⊎ (settings ≡ no_settings)
IsSettings files (Some name) settings = IsSaidBy files name settings

-- what is said of a fault of a project file
abbrev pub IsFaultReply : ProjectFault → Reply → Type 0
IsFaultReply fault.OutOfMemory reply = IsOutOfMemory reply
IsFaultReply why reply = IsMessage Usage reply

-- the text of a project file is too long, or says nothing
abbrev pub IsSilentReply : Text → Reply → Type 0
IsSilentReply text reply = ((MOST_BYTES < length text) × IsMessage Usage reply)
    ⊎ ((why : ProjectFault) × IsFaultOf text why × IsFaultReply why reply)

-- a file can't be read, or its name isn't text
abbrev pub IsUnread : Text → Reply → Type 0
IsUnread name reply = IsMessage ReadFault reply ⊎ ((IsUtf8 name → ⊥) × IsMessage Usage reply)

-- one of the files can't be read
abbrev pub AreUnread : List Text → Reply → Type 0
AreUnread names reply = IsOutOfMemory reply ⊎ ((name : Text) × Contains names name × IsUnread name reply)

-- the project file of this name says nothing, by its first bytes
abbrev pub IsSilentIn : Option Files → Text → Reply → Type 0
IsSilentIn files name reply =
    (text : Text) × IsFront files name (MOST_BYTES + 1) text × IsSilentReply text reply

-- The project file gives no settings: the one that is named can't be read, or its text says nothing.
abbrev pub IsSettingsReply : Option Files → Option Text → Reply → Type 0
IsSettingsReply files None reply = IsSilentIn files (codes "mintc.toml") reply ⊎ IsOutOfMemory reply
IsSettingsReply files (Some name) reply = IsSilentIn files name reply ⊎ IsUnread name reply

-- ---- the request, and the call of mintc for it

-- the request is this call of mintc, and its answer is given so
abbrev pub IsOrderOf : Request → Order → Type 0
IsOrderOf (request.Explain topic) order = ⊥
IsOrderOf (request.OfDesign what files clamp manner) order =
    (call_for manner.format clamp what files ≡ Ok order.call) × (order.manner ≡ manner)

-- something of a task on a design isn't there yet, and it is said
abbrev pub IsGapReply : Request → Reply → Type 0
IsGapReply (request.Explain topic) reply = ⊥
IsGapReply (request.OfDesign what files clamp manner) reply = IsOutOfMemory reply
    ⊎ ((missing : Gap) × (call_for manner.format clamp what files ≡ Err missing) × IsMessage Usage reply)

-- a topic names no refusal
abbrev pub NamesNoRefusal : Text → Type 0
NamesNoRefusal topic = (n : ℕ) → IsRefusalNumber n → Names topic n → ⊥

-- a page is that of the refusal that a topic names
abbrev pub IsPageOfRefusal : Text → Text → Type 0
IsPageOfRefusal topic page = (n : ℕ) × IsRefusalNumber n × Names topic n × IsOfNumber n page

-- a topic names no refusal and no warning
abbrev pub NamesNone : Text → Type 0
NamesNone topic = NamesNoRefusal topic × NamesNoWarning topic

-- a page is that of the refusal, or of the warning, that a topic names
abbrev pub IsPageOf : Text → Text → Type 0
IsPageOf topic page = IsPageOfRefusal topic page ⊎ IsWarningPage topic page

-- the page that a topic names, as an answer, or a message that it names none
abbrev pub IsExplanationReply : Text → Reply → Type 0
IsExplanationReply topic reply = (NamesNone topic × IsMessage Usage reply)
    ⊎ ((page : Text) × IsPageOf topic page × IsSaying Done place.Output page reply)

-- the reply to a request that is no call of mintc
abbrev pub IsOtherReply : Request → Reply → Type 0
IsOtherReply (request.Explain topic) reply = IsExplanationReply topic reply
IsOtherReply (request.OfDesign what files clamp manner) reply =
    IsGapReply (request.OfDesign what files clamp manner) reply

-- words and settings are no request, and it is said why
abbrev pub IsFaultyReply : Given → Settings → Reply → Type 0
IsFaultyReply given settings reply = (why : Fault) × (request_of given settings ≡ Err why) × IsMessage Usage reply

-- ---- the answer

-- the place of a file's name, or the first sink
abbrev pub place_for : Option Text → Place
place_for None = place.Output
place_for (Some name) = place.File name

-- where an answer goes
abbrev pub place_of : Manner → Place
place_of manner = if manner.quiet then place.Nowhere else place_for manner.output

-- where what is told goes: messages to the second sink
abbrev pub told_place : Manner → Bool → Place
told_place manner is_message = if is_message then place.Errors else place_of manner

-- the file of a certificate
abbrev pub beside_of : Option Text → Option Text → Option Beside
beside_of (Some name) (Some text) = Some (record { name = name; text = text })
beside_of name certificate = None

-- the reply that tells an answer, where its order wants it
pub record IsPlaced (order : Order) (told : Told) (reply : Reply) : Type 0 where
  pub status : reply.status ≡ told.status
  pub place : reply.place ≡ told_place order.manner told.is_message
  pub text : reply.text ≡ told.text
  pub beside : reply.beside ≡ beside_of order.call.certificate told.certificate

-- the plain answer to a call, of the first bytes of its files: mintc's own, at the largest limits
pub record IsPlain (order : Order) (fronts : List Text) (told : Told) : Type 0 where
  pub defined : IsDefined large order.call.command fronts told.status told.text
  pub of_command : IsOfCommand told.status
  pub alone : told.certificate ≡ None
  pub answer : told.is_message ≡ false

-- the source of the design whose optimum a command is about, where its certificate goes to a file
abbrev pub certified_of : Command → Option Text → Option Source
certified_of (OfDesign Optimise from) (Some name) = Some from
certified_of command name = None

abbrev pub certified_source : Call → Option Source
certified_source call = certified_of call.command call.certificate

-- an optimum for people, with its certificate; of the design at hand, where there is one, as all that follows
abbrev pub IsCertified : Option Design → Source → List Text → View → Told → Type 0
IsCertified shown from fronts view told = (written : Text) × (told.certificate ≡ Some written)
    × (told.is_message ≡ false) × HasCertificate large shown from fronts view told.status told.text written

-- an answer for people, with no certificate
abbrev pub IsLone : Option Design → Order → List Text → View → Told → Type 0
IsLone shown order fronts view told = (told.certificate ≡ None) × (told.is_message ≡ false) × ((beside : List Text)
    × HasAnswer large shown order.call.command order.call.aspect beside fronts view told.status told.text)

-- what is told is this text
abbrev pub IsText : Status → Text → Told → Type 0
IsText status text told = (told.status ≡ status) × (told.text ≡ text) × (told.is_message ≡ false)
    × (told.certificate ≡ None)

-- what is told of the clocks of a schedule: their text, what is said of a schedule that isn't right, or a message that
-- SDC can't say them
abbrev pub IsToldOf : Clocks → Told → Type 0
IsToldOf (clocks.Said text) told = IsText Done text told
IsToldOf (clocks.Denied text) told = IsText Found text told
IsToldOf (clocks.Unsaid obstacle) told = (told.status ≡ Found) × (told.is_message ≡ true) × (told.certificate ≡ None)

-- the clocks of a schedule that is stated so beside a design; what they are called after isn't said
abbrev pub AreClocks : Option Design → Stated → Source → List Text → View → Told → Type 0
AreClocks shown stated from fronts view told = (titles : Titles) × (what : Clocks)
    × HasClocks large shown stated from titles view fronts what × IsToldOf what told

-- it is told that nothing is drawn
abbrev pub IsUndrawn : Told → Type 0
IsUndrawn told = (told.status ≡ Found) × (told.is_message ≡ true) × (told.certificate ≡ None)

-- what is told where a picture is asked for: the picture, a message that nothing is drawn, or what is said where there
-- is no right schedule
abbrev pub IsToldPicture : Pictured → Told → Type 0
IsToldPicture (pictured.Shown (drawn.Picture text)) told = IsText Done text told
IsToldPicture (pictured.Shown nothing) told = IsUndrawn told
IsToldPicture (pictured.Denied text) told = IsText Found text told

-- A picture of a design and of the file beside it; what the design is called isn't said.
abbrev pub IsPictured : Option Design → Motif → Source → List Text → View → Told → Type 0
IsPictured shown shows from fronts view told = (design : Text) × (what : Pictured)
    × HasPicture large shown shows from design view fronts what × IsToldPicture what told

-- what is drawn for a job, where there is a picture
abbrev pub motif_of : Job → Option Motif
motif_of Optimise = Some motif.Optimum
motif_of Verify = Some motif.Certificate
motif_of Check = Some motif.Schedule
motif_of Slack = Some motif.Slacks
motif_of job = None

-- the picture for a job, or another answer
abbrev pub IsOfMotif : Option Motif → Source → Option Design → Order → List Text → View → Told → Type 0
IsOfMotif (Some shows) from shown order fronts view told = IsPictured shown shows from fronts view told
IsOfMotif None from shown order fronts view told = IsLone shown order fronts view told

-- what is told where a table is asked for: the table, or a message that no table can say the design
abbrev pub IsToldTable : Tabled → Told → Type 0
IsToldTable (tabled.Said text) told = IsText Done text told
IsToldTable (tabled.Unsaid obstacle) told =
    (told.status ≡ Found) × (told.is_message ≡ true) × (told.certificate ≡ None)

-- The design that files stand for, or the one at hand, as one table.
abbrev pub IsTable : Option Design → Source → List Text → Told → Type 0
IsTable shown from fronts told = (what : Tabled) × HasTable large shown from fronts what × IsToldTable what told

-- an answer for people without a certificate beside it: clocks, a picture, a table, or another one
abbrev pub IsByAspect : Aspect → Command → Option Design → Order → List Text → View → Told → Type 0
IsByAspect aspect.Clocks (OfDesign Check from) shown order fronts view told =
    AreClocks shown stated.Schedule from fronts view told
IsByAspect aspect.Clocks (OfDesign Verify from) shown order fronts view told =
    AreClocks shown stated.Certificate from fronts view told
IsByAspect aspect.Picture (OfDesign job from) shown order fronts view told =
    IsOfMotif (motif_of job) from shown order fronts view told
IsByAspect aspect.Table (OfDesign Optimise from) shown order fronts view told = IsTable shown from fronts told
IsByAspect aspect command shown order fronts view told = IsLone shown order fronts view told

abbrev pub IsUncertified : Option Design → Order → List Text → View → Told → Type 0
IsUncertified shown order fronts view told =
    IsByAspect order.call.aspect order.call.command shown order fronts view told

-- with its certificate, or without
abbrev pub IsAnswer : Option Source → Option Design → Order → List Text → View → Told → Type 0
IsAnswer (Some from) shown order fronts view told = IsCertified shown from fronts view told
IsAnswer None shown order fronts view told = IsUncertified shown order fronts view told

-- the answer to a call for people, in the unit and with the rows that are asked, and edge by edge of a design at hand
pub record IsForPeople (shown : Option Design) (order : Order) (fronts : List Text) (told : Told) : Type 0 where
  pub view : View
  pub unit : view.unit ≡ order.manner.unit
  pub limit : view.limit ≡ order.manner.limit
  pub apart : view.apart ≡ is_some shown
  pub answer : IsAnswer (certified_source order.call) shown order fronts view told
  pub of_command : IsOfCommand told.status

-- the form is mintc's
abbrev pub is_plain : Format → Bool
is_plain format.Plain = true
is_plain form = false

-- a schedule is told, or clocks, or a picture, or a table, which have one form alone
abbrev pub has_one_form : Aspect → Bool
has_one_form (aspect.Schedule cycle) = true
has_one_form aspect.Clocks = true
has_one_form aspect.Picture = true
has_one_form aspect.Table = true
has_one_form told = false

-- mintc's own answer is asked for
abbrev pub is_own : Order → Bool
is_own order = is_plain order.manner.format && not (has_one_form order.call.aspect)

-- the answer in its form
abbrev pub IsAnswered : Option Design → Order → List Text → Told → Type 0
IsAnswered shown order fronts told = ((is_own order ≡ true) × IsPlain order fronts told)
    ⊎ ((is_own order ≡ false) × IsForPeople shown order fronts told)

-- there is none in the form for people: mintc's first refusal, or that of the design at hand
abbrev pub IsRefused : Option Design → Order → List Text → Refusal → Type 0
IsRefused shown order fronts refused =
    (is_own order ≡ false) × IsFirstRefusalFor large shown order.call.command fronts refused

-- ---- refusals, as they are told

-- The first bytes of the file that a refusal speaks of, one more than a file may have; or none.
abbrev pub IsRefusedFile : Option Files → Order → Refusal → Text → Type 0
IsRefusedFile files order refused file = (file ≡ []) ⊎ ((n : ℕ) × IsFile (roles_of order.call.command) refused n
    × IsFront files (slice_index_or order.call.files n []) (MOST_BYTES + 1) file)

-- the answer is an object, and so is a refusal
abbrev pub is_object : Format → Bool
is_object format.Json = true
is_object form = false

-- the word of a command
abbrev pub command_word : Command → Text
command_word (OfDesign Check from) = codes "check"
command_word (OfDesign Optimise from) = codes "optimise"
command_word (OfDesign Verify from) = codes "verify"
command_word (OfDesign Report from) = codes "report"
command_word (OfDesign Safe from) = codes "safe"
command_word (OfDesign Slack from) = codes "slack"
command_word (Sample number) = codes "sample"
command_word (Corners count) = codes "corners"

-- what is marked of a file, as an object has it
abbrev pub spotted_of : Option Marked → Option Spotted
spotted_of None = None
spotted_of (Some marked) =
    Some (record { line = marked.spot.line; column = marked.spot.column; length = marked.length })

-- this refusal is told with its number
pub record IsCauseOf (refused : Refusal) (cause : Cause) : Type 0 where
  pub number : cause.number ≡ refusal_number refused
  pub refusal : cause.refusal.now ≡ refused

-- what a corner's own files are refused for is told, of a corner
abbrev pub IsOwnCause : Option Refusal → Option Cause → Type 0
IsOwnCause None cause = cause ≡ None
IsOwnCause (Some own) cause = (c : Cause) × (cause ≡ Some c) × IsCauseOf own c

-- The text is the object of a refusal, and of what a corner's own files are refused for; the file is the one that one
-- refusal tells, and what is marked is the place of another one, which is the same but for a corner.
pub record IsObjectOf (order : Order) (file : Text) (refused telling placed : Refusal) (own : Option Refusal)
    (text : Text) : Type 0 where
  pub told : RefusedTold
  pub parts : Parts
  pub are : HasParts (roles_of order.call.command) order.call.files file telling placed parts
  pub command : told.command.now ≡ command_word order.call.command
  pub cause : IsCauseOf refused told.cause
  pub own_cause : IsOwnCause own told.own
  pub name : told.file.now ≡ parts.name.now
  pub spotted : told.spotted ≡ spotted_of parts.marked
  pub object : IsRefusedObject told text

-- a refusal as an object
abbrev pub IsObjectText : Order → Text → Refusal → Text → Type 0
IsObjectText order file refused text = IsObjectOf order file refused refused refused None text

-- a corner as an object
abbrev pub IsCornerObject : Order → Text → ℕ → Refusal → Text → Type 0
IsCornerObject order file corner own text =
    IsObjectOf order file (refusal.Corner corner) (teller (refusal.Corner corner) own) own (Some own) text

-- what is said of a refusal, with the bytes of the file that it speaks of: over several lines, or in one
abbrev pub IsTextOfRefusal : Detail → Order → Text → Refusal → Text → Type 0
IsTextOfRefusal detail.Full order file refused text =
    messages.IsMessage (roles_of order.call.command) order.call.files file refused text
IsTextOfRefusal detail.Short order file refused text =
    messages.IsShortMessage (roles_of order.call.command) order.call.files file refused text

-- a refusal as an object, or else as a message
abbrev pub IsRefusalIn : Bool → Order → Text → Refusal → Text → Type 0
IsRefusalIn true order file refused text = IsObjectText order file refused text
IsRefusalIn false order file refused text = IsTextOfRefusal order.manner.detail order file refused text

abbrev pub IsRefusalText : Order → Text → Refusal → Text → Type 0
IsRefusalText order file refused text = IsRefusalIn (is_object order.manner.format) order file refused text

-- what is said of a corner, and of what its own files are refused for
abbrev pub IsTextOfCorner : Detail → Order → Text → ℕ → Refusal → Text → Type 0
IsTextOfCorner detail.Full order file corner own text =
    messages.IsCornerMessage (roles_of order.call.command) order.call.files file (refusal.Corner corner) own text
IsTextOfCorner detail.Short order file corner own text =
    messages.IsShortMessage (roles_of order.call.command) order.call.files file (refusal.Corner corner) text

-- a corner as an object, or else as a message
abbrev pub IsCornerIn : Bool → Order → Text → ℕ → Refusal → Text → Type 0
IsCornerIn true order file corner own text = IsCornerObject order file corner own text
IsCornerIn false order file corner own text = IsTextOfCorner order.manner.detail order file corner own text

abbrev pub IsCornerText : Order → Text → ℕ → Refusal → Text → Type 0
IsCornerText order file corner own text = IsCornerIn (is_object order.manner.format) order file corner own text

-- where a refusal goes: an object to the first sink, or nowhere in a quiet run, and a message to the second one
abbrev pub refusal_place : Manner → Place
refusal_place manner = if is_object manner.format
    then (if manner.quiet then place.Nowhere else place.Output)
    else place.Errors

-- a text is told of files that are refused
pub record IsTold (manner : Manner) (text : Text) (reply : Reply) : Type 0 where
  pub said : reply.text ≡ text
  pub status : reply.status ≡ Refused
  pub place : reply.place ≡ refusal_place manner
  pub beside : reply.beside ≡ None

-- that, or memory was wanting
abbrev pub IsSaidReply : {E : Type 0} → Manner → Result Text E → Reply → Type 0
IsSaidReply manner (Ok text) reply = IsTold manner text reply
IsSaidReply manner (Err e) reply = IsOutOfMemory reply

-- why files are refused is told, or memory was wanting
abbrev pub IsRefusalReply : Option Files → Order → Refusal → Reply → Type 0
IsRefusalReply files order refused reply = IsOutOfMemory reply
    ⊎ ((file : Text) × (text : Text) × IsRefusedFile files order refused file × IsRefusalText order file refused text
    × IsTold order.manner text reply)

-- the same of a corner, by the file that is at fault: its delays, or another one
abbrev pub IsCornerReply : Option Files → Order → ℕ → Refusal → Reply → Type 0
IsCornerReply files order corner own reply = IsOutOfMemory reply
    ⊎ ((file : Text) × (text : Text) × IsRefusedFile files order (teller (refusal.Corner corner) own) file
    × IsCornerText order file corner own text × IsTold order.manner text reply)

-- ---- the reply

-- the answer to an order of the texts that are given, where it wants it, with these warnings; for people it is one of
-- the design at hand, where there is one
abbrev pub IsAnswerReply : Option Design → Order → List Text → Text → Reply → Type 0
IsAnswerReply shown order given warnings reply = (told : Told) × IsAnswered shown order given told
    × IsPlaced order told reply × (reply.warnings ≡ warnings)

-- why there is none: the files are refused
abbrev pub IsDeniedReply : Option Files → Option Design → Order → List Text → Reply → Type 0
IsDeniedReply files shown order given reply =
    (refused : Refusal) × IsRefused shown order given refused × IsRefusalReply files order refused reply

-- or a corner is, which is the first whose own files are refused
abbrev pub IsDeniedCorner : Option Files → Option Design → Order → List Text → Reply → Type 0
IsDeniedCorner files shown order given reply = (corner : ℕ) × (own : Refusal)
    × IsRefused shown order given (refusal.Corner corner) × IsFirstRefused large (corners_of given) 1 corner own
    × IsCornerReply files order corner own reply

-- the reply to an order of the texts that are given: its answer, or why there is none
abbrev pub IsTextsReply : Option Files → Option Design → Order → List Text → Text → Reply → Type 0
IsTextsReply files shown order given warnings reply = IsAnswerReply shown order given warnings reply
    ⊎ (IsDeniedReply files shown order given reply ⊎ IsDeniedCorner files shown order given reply)

-- why there is no design with edges apart: its refusal, or a message on a gate
abbrev pub IsHaltReply : Option Files → Order → Halt → Reply → Type 0
IsHaltReply files order (halt.Refused refused) reply = IsRefusalReply files order refused reply
IsHaltReply files order halt.OutOfMemory reply = IsOutOfMemory reply
IsHaltReply files order gate reply = IsMessage Usage reply

-- the reply to an order, asked of a table in the place of its four files, or a message that no table can say the design
abbrev pub IsTableReply : Option Files → Order → List Text → Text → Apart → Reply → Type 0
IsTableReply files order taken warnings (apart.Said table) reply =
    IsTextsReply files None (of_table order) (in_place table taken) warnings reply
IsTableReply files order taken warnings (apart.Unsaid obstacle) reply = IsMessage Found reply

-- mintc's own answer where there is a design with edges apart: that to the design's table
abbrev pub IsOwnReply : Option Files → Order → List Text → Text → Design → Reply → Type 0
IsOwnReply files order taken warnings design reply =
    (told : Apart) × IsToldApart design told × IsTableReply files order taken warnings told reply

-- the reply where there is one: mintc's own answer, or what is told to people of the design itself
abbrev pub IsMadeReply : Option Files → Order → List Text → Text → Design → Reply → Type 0
IsMadeReply files order taken warnings design reply =
    ((is_own order ≡ true) × IsOwnReply files order taken warnings design reply)
    ⊎ ((is_own order ≡ false) × IsTextsReply files (Some design) order taken warnings reply)

-- the reply to an order of the design with edges apart of what is taken of its files
abbrev pub IsApartReply : Option Files → Order → List Text → Text → Reply → Type 0
IsApartReply files order taken warnings reply =
    ((why : Halt) × IsUnmade order taken why × IsHaltReply files order why reply)
    ⊎ ((design : Design) × IsMade order taken design × IsMadeReply files order taken warnings design reply)

-- the reply to an order, by what it says of edges: of the texts that are given, or of what is taken of its files
abbrev pub IsDesignReply : Option Files → Order → List Text → List Text → Text → Reply → Type 0
IsDesignReply files order taken given warnings reply =
    ((order.call.apart ≡ false) × IsTextsReply files None order given warnings reply)
    ⊎ ((order.call.apart ≡ true) × IsApartReply files order taken warnings reply)

-- why a library has no description: its refusal, or a message on a gate
abbrev pub IsUnfitReply : Option Files → Order → Unfit → Reply → Type 0
IsUnfitReply files order (unfit.Refused refused) reply = IsRefusalReply files order refused reply
IsUnfitReply files order unfit.OutOfMemory reply = IsOutOfMemory reply
IsUnfitReply files order gate reply = IsMessage Usage reply

-- The reply to an order of what is taken of its files: its library has no description; or its answer, with its warnings
-- and those of delays below 0, or why there is none; or memory was wanting.
abbrev pub IsTakenReply : Option Files → Order → List Text → List Text → Reply → Type 0
IsTakenReply files order fronts taken reply = IsOutOfMemory reply
    ⊎ (((why : Unfit) × IsUndescribed order taken why × IsUnfitReply files order why reply)
    ⊎ ((given : List Text) × (warnings : Text) × AreGiven order taken given × AreAllWarned order fronts given warnings
    × IsDesignReply files order taken given warnings reply))

-- The last file begins as the text of a schedule does.
abbrev pub has_schedule : List Text → Bool
has_schedule fronts = starts_with nat_eq (file_at fronts (length fronts - 1)) (codes "schedule ")

-- what is told of a certificate is told of a schedule's own text too: clocks, and a picture
abbrev pub takes_schedules : Aspect → Bool
takes_schedules aspect.Clocks = true
takes_schedules aspect.Picture = true
takes_schedules told = false

-- what judges the schedule of the last file: `check` where that is a schedule's own text
abbrev pub stated_job : List Text → Job
stated_job fronts = if has_schedule fronts then Check else Verify

-- the command of a call, once its files are read: the clocks and the picture of a schedule's own text are those of
-- `check`
abbrev pub command_as : Aspect → Command → List Text → Command
command_as told (OfDesign Verify from) fronts =
    OfDesign (if takes_schedules told then stated_job fronts else Verify) from
command_as told command fronts = command

-- an order, once its files are read
abbrev pub read_as : Order → List Text → Order
read_as order fronts = record {
  call = record {
    command = command_as order.call.aspect order.call.command fronts;
    aspect = order.call.aspect;
    of_library = order.call.of_library;
    gates = order.call.gates;
    clamp = order.call.clamp;
    apart = order.call.apart;
    files = order.call.files;
    certificate = order.call.certificate;
  };
  manner = order.manner;
}

-- The reply to a call of mintc over the files of a shelf: a file can't be read, or the answer in its form, of what is
-- taken of the first bytes of the files, one more than a file may have.
abbrev pub IsCallReply : Option Files → Order → Reply → Type 0
IsCallReply files order reply = AreUnread order.call.files reply
    ⊎ ((fronts : List Text) × (taken : List Text) × AreFronts files (MOST_BYTES + 1) order.call.files fronts
    × AreTaken order fronts taken × IsTakenReply files (read_as order taken) fronts taken reply)

-- What the words give and a project file are this call.
pub record IsOrdered (given : Given) (files : Option Files) (order : Order) : Type 0 where
  pub settings : Settings
  pub asked : Request
  pub said : IsSettings files given.project settings
  pub requested : request_of given settings ≡ Ok asked
  pub is_order : IsOrderOf asked order

-- words and settings are no request, or one that is no call of mintc
abbrev pub IsRequestReply : Given → Settings → Reply → Type 0
IsRequestReply given settings reply = IsFaultyReply given settings reply
    ⊎ ((asked : Request) × (request_of given settings ≡ Ok asked) × IsOtherReply asked reply)

-- The reply where what the words give is no call, by the project file, or by the request.
abbrev pub IsEarlyReply : Given → Option Files → Reply → Type 0
IsEarlyReply given files reply = IsSettingsReply files given.project reply
    ⊎ ((settings : Settings) × IsSettings files given.project settings × IsRequestReply given settings reply)

-- The reply to what the words give, with at most so many reads: one of the project file, one of each file of a call,
-- and two more where files are refused: of the file at fault, and of another that its message takes names from.
abbrev pub IsGivenReply : Given → Option Files → ℕ → Reply → Type 0
IsGivenReply given files reads reply = ((reads ≡ 1) × IsEarlyReply given files reply)
    ⊎ ((order : Order) × (reads ≡ 3 + length order.call.files) × IsOrdered given files order
    × IsCallReply files order reply)

-- The reply of a run to its words over the files of a shelf, with at most so many reads: none where the words give
-- nothing.
abbrev pub IsReply : List Text → Option Files → ℕ → Reply → Type 0
IsReply words files reads reply = ((reads ≡ 0) × IsWordsReply words reply)
    ⊎ ((given : Given) × IsGiven words given × IsGivenReply given files reads reply)
