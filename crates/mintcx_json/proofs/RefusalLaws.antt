-- How deep a refusal nests, and the places of its file.
use Rattle.std.proofs.Common.{◌≡◌, ◌≢◌, ℕ, ◌≤◌, List, [], ◌∷◌, Option, Some, None, length, arith, refl}
use Rattle.json.specs.Json.{Json}
use Rattle.json.specs.Tree.{depth, items_depth, members_depth}
use Rattle.mintc_text.specs.declared.refusals.Refusal.{Refusal}
use Rattle.mintc_text.specs.declared.refusals.Refusal.TheVariants as refusal
use Rattle.mintcx_json.specs.declared.refusals.Cause.{Cause}
use Rattle.mintcx_json.specs.declared.refusals.Refused.{Refused}
use Rattle.mintcx_json.specs.declared.refusals.Spotted.{Spotted}
use Rattle.mintcx_json.specs.Objects.{count, items_of, members_of, object_of}
use Rattle.mintcx_json.specs.Refusals.{field_values, own_fields, place_fields, places_of, refused_value}
use Rattle.mintcx_json.proofs.DepthLaws.{mapped}

values : (r : Refusal) → items_depth (items_of (field_values r)) ≤ 1
values (refusal.Syntax text entry) = omega arith
values (refusal.TooLong text) = omega arith
values (refusal.NameTwice entry) = omega arith
values (refusal.NoModule entry) = omega arith
values (refusal.Recursive entry) = omega arith
values (refusal.NoPin entry) = omega arith
values (refusal.Width entry) = omega arith
values (refusal.TwoDrivers entry) = omega arith
values (refusal.TopUnclear found) = omega arith
values (refusal.NoInstance text entry) = omega arith
values (refusal.NoArc entry) = omega arith
values (refusal.Negative entry) = omega arith
values (refusal.BadCell entry rule) = omega arith
values (refusal.BadClock entry rule) = omega arith
values (refusal.NoPhase element) = omega arith
values (refusal.CombinationalLoop arcs) = omega (arith, mapped 1 count arcs (λ n. omega arith))
values (refusal.Limit quantity found) = omega arith
values (refusal.Range entry) = omega arith
values (refusal.PhaseMismatch design schedule) = omega arith
values (refusal.PathRange element bit) = omega arith
values (refusal.Corner file) = omega arith

places : (file : List ℕ) (spotted : Option Spotted) (label : List ℕ) → items_depth (items_of (places_of file spotted label)) ≤ 2
places [] spotted label = omega arith
places (byte ∷ file) None label = omega arith
places (byte ∷ file) (Some spotted) label = omega arith

own : (o : Option Cause) → members_depth (members_of (own_fields o)) ≤ 4
own None = omega arith
own (Some cause) = omega (arith, values cause.refusal.now)

pub refused : (told : Refused) → depth (refused_value told) ≤ 7
refused told = omega (arith, values told.cause.refusal.now, places told.file.now told.spotted told.label.now, own told.own)

-- a file without a name has no place, and another one has
pub no_place : (file : List ℕ) (spotted : Option Spotted) (label : List ℕ) → length file ≡ 0 → places_of file spotted label ≡ []
no_place [] spotted label none = refl
no_place (byte ∷ file) spotted label none = absurd (omega arith)

pub one_place : (file : List ℕ) (spotted : Option Spotted) (label : List ℕ) → length file ≢ 0 → places_of file spotted label ≡ object_of (place_fields file spotted label) ∷ []
one_place [] spotted label some = absurd (some refl)
one_place (byte ∷ file) spotted label some = refl
