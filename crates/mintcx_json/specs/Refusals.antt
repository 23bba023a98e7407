-- Refusals, as JSON.
use Rattle.std.specs.Prelude.{ℕ, List, [], ◌∷◌, ◌++◌, codes, length, map, Option, Some, None}
use Rattle.json.specs.Json.{Json, string}
use Rattle.mintc_text.specs.declared.refusals.Refusal.{Refusal}
use Rattle.mintc_text.specs.declared.refusals.Refusal.TheVariants as refusal
use Rattle.mintc_text.specs.Refusals.{kind_word, role_word}
use Rattle.mintcx_json.specs.declared.refusals.Cause.{Cause}
use Rattle.mintcx_json.specs.declared.refusals.Refused.{Refused}
use Rattle.mintcx_json.specs.declared.refusals.Spotted.{Spotted}
use Rattle.mintcx_json.specs.Objects.{Field, IsTextOf, array_of, count, name, object_of}

-- the fields of a refusal, in mintc's order: words as strings, and counts; a loop is its length and its arcs
abbrev pub field_values : Refusal → List Json
field_values (refusal.Syntax text entry) = string (role_word text) ∷ count entry ∷ []
field_values (refusal.TooLong text) = string (role_word text) ∷ []
field_values (refusal.NameTwice entry) = count entry ∷ []
field_values (refusal.NoModule entry) = count entry ∷ []
field_values (refusal.Recursive entry) = count entry ∷ []
field_values (refusal.NoPin entry) = count entry ∷ []
field_values (refusal.Width entry) = count entry ∷ []
field_values (refusal.TwoDrivers entry) = count entry ∷ []
field_values (refusal.TopUnclear found) = count found ∷ []
field_values (refusal.NoInstance text entry) = string (role_word text) ∷ count entry ∷ []
field_values (refusal.NoArc entry) = count entry ∷ []
field_values (refusal.Negative entry) = count entry ∷ []
field_values (refusal.BadCell entry rule) = count entry ∷ count rule ∷ []
field_values (refusal.BadClock entry rule) = count entry ∷ count rule ∷ []
field_values (refusal.NoPhase element) = count element ∷ []
field_values (refusal.CombinationalLoop arcs) = count (length arcs) ∷ map count arcs
field_values (refusal.Limit quantity found) = string (kind_word quantity) ∷ count found ∷ []
field_values (refusal.Range entry) = count entry ∷ []
field_values (refusal.PhaseMismatch design schedule) = count design ∷ count schedule ∷ []
field_values (refusal.PathRange element bit) = count element ∷ count bit ∷ []
field_values (refusal.Corner file) = count file ∷ []

-- a refusal: its number, its fields, and what it is
abbrev pub cause_fields : Cause → List Field
cause_fields cause =
    (codes "number", count cause.number) ∷ (codes "fields", array_of (field_values cause.refusal.now)) ∷
    (codes "message", name cause.message.now) ∷ []

-- where it is: the file, and what is marked there, with a label, if that is known
abbrev pub place_fields : List ℕ → Option Spotted → List ℕ → List Field
place_fields file None label = (codes "file", name file) ∷ []
place_fields file (Some spotted) label =
    (codes "file", name file) ∷ (codes "line", count spotted.line) ∷ (codes "column", count spotted.column) ∷
    (codes "length", count spotted.length) ∷ (codes "label", name label) ∷ []

-- the places of a refusal: one, or none where it speaks of no file
abbrev pub places_of : List ℕ → Option Spotted → List ℕ → List Json
places_of [] spotted label = []
places_of (byte ∷ file) spotted label = object_of (place_fields (byte ∷ file) spotted label) ∷ []

-- what its own files are refused for, of a corner
abbrev pub own_fields : Option Cause → List Field
own_fields None = []
own_fields (Some cause) = (codes "cause", object_of (cause_fields cause)) ∷ []

-- a refusal with its places, and what helps
abbrev pub told_fields : Refused → List Field
told_fields told =
    cause_fields told.cause ++
    (codes "places", array_of (places_of told.file.now told.spotted told.label.now)) ∷
    (codes "help", name told.help.now) ∷ own_fields told.own

-- A refusal of a command's files.
abbrev pub refused_value : Refused → Json
refused_value told = object_of (
    (codes "mintcx", count 1) ∷ (codes "command", string told.command.now) ∷ (codes "status", count 2) ∷
    (codes "warnings", array_of []) ∷ (codes "refusal", object_of (told_fields told)) ∷ [])

-- The text is the object of a refusal.
abbrev pub IsRefusedObject : Refused → List ℕ → Type 0
IsRefusedObject told text = IsTextOf (refused_value told) text
