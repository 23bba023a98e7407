-- Refusals, as they are told.
use Rattle.std.proofs.Common.{◌≡◌, ◌∙◌, ℕ, Bool, true, false, Option, Result, Ok, Err, IfOk, sym, subst, inl, inr}
use Rattle.mintc_text.specs.Outside.{Files}
use Rattle.mintc_text.specs.declared.refusals.Refusal.TheVariants as refusal
use Rattle.mintc_text.specs.declared.refusals.Refusal.{Refusal}
use Rattle.mintc_command_answers.specs.Commands.{roles_of}
use Rattle.mintcx_json.specs.Refusals.{IsRefusedObject}
use Rattle.mintcx_json.specs.declared.refusals.Cause.{Cause}
use Rattle.mintcx_json.specs.declared.refusals.Refused.{Refused as RefusedTold}
use Rattle.mintcx_refusals.specs.Files.{teller}
use Rattle.mintcx_refusals.specs.Parts.{HasParts}
use Rattle.mintcx_refusals.specs.declared.parts.Parts.{Parts}
use Rattle.mintcx_requests.specs.Requests.{Text}
use Rattle.mintcx_run.specs.declared.orders.Order.{Order}
use Rattle.mintcx_run.specs.declared.reply.Reply.{Reply}
use Rattle.mintcx_run.specs.Replies.{IsCauseOf, IsCornerIn, IsCornerObject, IsCornerReply, IsCornerText, IsObjectOf, IsObjectText, IsOwnCause, IsRefusalIn, IsRefusedFile, IsSaidReply, IsRefusalText, IsTextOfCorner, IsTextOfRefusal, command_word, is_object, spotted_of}

-- what has the parts of a refusal is its object
pub object_told : {E : Type 0} (r : Result Text E) (told : RefusedTold) (parts : Parts) (cause : Cause) (order : Order) (file : Text) (refused telling placed : Refusal) (own : Option Refusal) →
    HasParts (roles_of order.call.command) order.call.files file telling placed parts → told.command.now ≡ command_word order.call.command → told.cause ≡ cause → IsCauseOf refused cause →
    IsOwnCause own told.own → told.file.now ≡ parts.name.now → told.spotted ≡ spotted_of parts.marked → IfOk r (IsRefusedObject told) → IfOk r (IsObjectOf order file refused telling placed own)
object_told (Err e) told parts cause order file refused telling placed own are command is_cause of own_cause name spotted h = tt
object_told (Ok text) told parts cause order file refused telling placed own are command is_cause of own_cause name spotted h = record {
  told = told;
  parts = parts;
  are = are;
  command = command;
  cause = subst (λ (x : Cause). IsCauseOf refused x) (sym is_cause) of;
  own_cause = own_cause;
  name = name;
  spotted = spotted;
  object = h;
}

-- a refusal is told as an object, or as a message
pub said_object : {E : Type 0} (r : Result Text E) (order : Order) (file : Text) (refused : Refusal) (flag : Bool) → flag ≡ is_object order.manner.format → flag ≡ true →
    IfOk r (IsObjectText order file refused) → IfOk r (IsRefusalText order file refused)
said_object r order file refused flag same holds h =
    let own : IfOk r (IsRefusalIn true order file refused) = h in
    subst (λ (b : Bool). IfOk r (IsRefusalIn b order file refused)) (sym holds ∙ same) own

pub said_message : {E : Type 0} (r : Result Text E) (order : Order) (file : Text) (refused : Refusal) (flag : Bool) → flag ≡ is_object order.manner.format → flag ≡ false →
    IfOk r (IsTextOfRefusal order.manner.detail order file refused) → IfOk r (IsRefusalText order file refused)
said_message r order file refused flag same holds h =
    let own : IfOk r (IsRefusalIn false order file refused) = h in
    subst (λ (b : Bool). IfOk r (IsRefusalIn b order file refused)) (sym holds ∙ same) own

-- the same of a corner
pub corner_object_said : {E : Type 0} (r : Result Text E) (order : Order) (file : Text) (corner : ℕ) (refused : Refusal) (flag : Bool) → flag ≡ is_object order.manner.format → flag ≡ true →
    IfOk r (IsCornerObject order file corner refused) → IfOk r (IsCornerText order file corner refused)
corner_object_said r order file corner refused flag same holds h =
    let own : IfOk r (IsCornerIn true order file corner refused) = h in
    subst (λ (b : Bool). IfOk r (IsCornerIn b order file corner refused)) (sym holds ∙ same) own

pub corner_message_said : {E : Type 0} (r : Result Text E) (order : Order) (file : Text) (corner : ℕ) (refused : Refusal) (flag : Bool) → flag ≡ is_object order.manner.format → flag ≡ false →
    IfOk r (IsTextOfCorner order.manner.detail order file corner refused) → IfOk r (IsCornerText order file corner refused)
corner_message_said r order file corner refused flag same holds h =
    let own : IfOk r (IsCornerIn false order file corner refused) = h in
    subst (λ (b : Bool). IfOk r (IsCornerIn b order file corner refused)) (sym holds ∙ same) own

-- so the reply that the files of a corner are refused
pub corner_told : {E : Type 0} (said : Result Text E) (files : Option Files) (order : Order) (corner : ℕ) (own : Refusal) (file : Text) (reply : Reply) →
    IsRefusedFile files order (teller (refusal.Corner corner) own) file → IfOk said (IsCornerText order file corner own) → IsSaidReply order.manner said reply → IsCornerReply files order corner own reply
corner_told (Ok text) files order corner own file reply of is told = inr (file, text, of, is, told)
corner_told (Err e) files order corner own file reply of is told = inl told
