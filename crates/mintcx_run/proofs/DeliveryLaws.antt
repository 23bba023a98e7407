-- What a run leaves of its reply.
use Rattle.std.proofs.Common.{◌≡◌, ◌∙◌, ◌++◌, ℕ, List, [], take, length, Option, Some, None, Result, Ok, Err, OnOk, OnErr, refl, arith, ap, sym, inr, subst}
use Rattle.std.proofs.lemmas.List.{append-nil, take_all}
use Rattle.mintc_text.specs.Outside.{Files, Takes, TakesFront}
use Rattle.mintc_command_answers.specs.declared.status.Status.{Status}
use Rattle.mintcx_requests.specs.Requests.{Text}
use Rattle.mintcx_run.specs.declared.reply.Reply.{Reply}
use Rattle.mintcx_run.specs.Deliveries.{AreTold, IsAt, IsDelivered, IsMadeBeside, Sent, sent}

-- what a write leaves is a front of its bytes, and so is what is left where there was none
front_of_all : (before now : Option Text) (bytes : Text) → Takes before now bytes → TakesFront before now bytes
front_of_all None now bytes h = h
front_of_all (Some b) now bytes h = (length bytes, h ∙ ap (λ (x : Text). Some (b ++ x)) (sym (take_all (length bytes) bytes (omega arith))))

pub front_of_write : {T E : Type 0} (r : Result T E) (before now : Option Text) (bytes : Text) → OnOk r (Takes before now bytes) → OnErr r (TakesFront before now bytes) → TakesFront before now bytes
front_of_write (Ok v) before now bytes ok err = front_of_all before now bytes ok
front_of_write (Err e) before now bytes ok err = err

pub front_of_none : (before : Option Text) (bytes : Text) → TakesFront before before bytes
front_of_none None bytes = refl
front_of_none (Some b) bytes = (0, ap (λ (x : Text). Some x) (sym (append-nil b)))

-- the file beside a text is made, then warnings are told, and then the text goes to its place
pub delivered : (reply : Reply) (status : Status) (out : Sent (Option Text)) (was mid told became : Option Text) (made : Sent (Option Files)) (between : Option Files) (warnings : Text) →
    IsMadeBeside reply.beside made.was between → mid ≡ was → warnings ≡ reply.warnings → AreTold warnings (sent mid told) → IsAt reply.place reply status out (sent told became) (sent between made.became) →
    IsDelivered reply status out (sent was became) made
delivered reply status out was mid told became made between warnings beside still same tells at =
    let from : AreTold warnings (sent was told) = subst (λ (x : Option Text). AreTold warnings (sent x told)) still tells in
    inr (between, told, beside, subst (λ (w : Text). AreTold w (sent was told)) same from, at)
