-- The replies to words, requests and calls.
use Rattle.std.proofs.Common.{arith, ◌⊎◌, ◌≡◌, ◌+◌, ◌<◌, ◌∙◌, ℕ, List, [], length, get_or, set, ap, Bool, true, false, refl, sym, subst, inl, inr, Option, Some, None, MatchOption, Result, Ok, Err, IfErr, IfOk, Contains}
use Rattle.std.proofs.lemmas.List.{set-get_or, set-set}
use Rattle.std.proofs.lemmas.List.Elements.{Contains-get_or}
use Rattle.mintc_text.specs.declared.limits.TheConstants.{MOST_BYTES}
use Rattle.mintc_text.specs.Outside.{Files}
use Rattle.mintc_command.specs.Answers.{AreFronts, MakesAtMost}
use Rattle.mintc_command.proofs.SharedCalls.{MakesAtMost-none, MakesAtMost-sum}
use Rattle.mintc_text.specs.declared.refusals.Refusal.{Refusal}
use Rattle.mintc_text.specs.declared.refusals.Refusal.TheVariants as refusal
use Rattle.mintc_command_answers.specs.declared.status.Status.TheVariants.{Found, Usage}
use Rattle.mintcx_requests.specs.Requests.{Text, request_of}
use Rattle.mintcx_requests.specs.declared.given.Given.{Given}
use Rattle.mintcx_requests.specs.declared.requests.Request.{Request}
use Rattle.mintcx_requests.specs.declared.requests.Request.TheVariants as request
use Rattle.mintcx_project.specs.declared.project.Settings.{Settings}
use Rattle.mintcx_explanations.specs.Explanations.{IsOfNumber, IsRefusalNumber, IsWarningPage, Names, NamesNoWarning}
use Rattle.mintc_text.specs.Limits.{large}
use Rattle.mintc_timing.specs.Design.{Design}
use Rattle.mintc_command_answers.specs.Corners.{IsFirstRefused, corners_of}
use Rattle.mintcx_run.specs.declared.answers.Told.{Told}
use Rattle.mintcx_run.specs.declared.orders.Order.{Order}
use Rattle.mintcx_run.specs.declared.reply.Reply.{Reply}
use Rattle.mintcx_clock_cells.specs.declared.unfit.Unfit.{Unfit}
use Rattle.mintcx_run.specs.Libraries.{AreGiven, IsUndescribed}
use Rattle.mintcx_apart.specs.Apart.{IsToldApart}
use Rattle.mintcx_apart.specs.declared.apart.Apart.TheVariants as apart
use Rattle.mintcx_edges.specs.declared.halt.Halt.{Halt}
use Rattle.mintcx_tables.specs.declared.obstacles.Obstacle.{Obstacle}
use Rattle.mintcx_run.specs.Apart.{IsMade, IsUnmade, in_place, of_table}
use Rattle.mintcx_run.specs.Replies.{AreUnread, IsAnswered, IsApartReply, IsCallReply, IsCornerReply, IsDesignReply, IsEarlyReply, IsExplanationReply, IsGiven, IsGivenReply, IsHaltReply, IsMadeReply, IsMessage, IsOrderOf, IsOrdered, IsOtherReply, IsOutOfMemory, IsOwnReply, IsPageOf, IsPageOfRefusal, IsPlaced, IsRefusalReply, IsRefused, IsReply, IsSettings, IsTableReply, IsTakenReply, IsTextsReply, IsUnfitReply, IsUnread, IsWordsReply, NamesNoRefusal, NamesNone, is_own, read_as}
use Rattle.mintc_command_answers.specs.Sources.{file_at}
use Rattle.mintcx_run.specs.Taken.{AreTaken, IsTaken, is_asked}
use Rattle.mintcx_run.specs.Warned.{AreAllWarned, AreClampsTold}

-- an explanation is asked for, and given
pub explained : (asked : Request) (topic : Text) (reply : Reply) → asked ≡ request.Explain topic → IsExplanationReply topic reply → IsOtherReply asked reply
explained asked topic reply is h =
    let own : IsOtherReply (request.Explain topic) reply = h in
    subst (λ (x : Request). IsOtherReply x reply) (sym is) own

-- the page of the number that a topic names
pub page_found : {T : Type 0} (page : Option T) (text : T → Text) (topic : Text) (n : ℕ) → IsRefusalNumber n → Names topic n →
    MatchOption page (IsRefusalNumber n → ⊥) (λ (x : T). IsRefusalNumber n × IsOfNumber n (text x)) → MatchOption page (NamesNoRefusal topic) (λ (x : T). IsPageOfRefusal topic (text x))
page_found None text topic n is names h = absurd (h is)
page_found (Some x) text topic n is names (same, of) = (n, is, names, of)

-- the page of the warning that a topic names, which names no refusal
pub page_of_warning : {T : Type 0} (page : Option T) (text : T → Text) (topic : Text) → NamesNoRefusal topic →
    MatchOption page (NamesNoWarning topic) (λ (x : T). IsWarningPage topic (text x)) → MatchOption page (NamesNone topic) (λ (x : T). IsPageOf topic (text x))
page_of_warning None text topic none h = (none, h)
page_of_warning (Some x) text topic none h = inr h

-- the call that is asked for
pub ordered : (r : Result Order Reply) (given : Given) (files : Option Files) (settings : Settings) (asked : Request) → IsSettings files given.project settings → request_of given settings ≡ Ok asked →
    IfOk r (IsOrderOf asked) → IfOk r (IsOrdered given files)
ordered (Ok order) given files settings asked said is h = record { settings = settings; asked = asked; said = said; requested = is; is_order = h }
ordered (Err reply) given files settings asked said is h = tt

-- so the request has no call
pub early_gap : (r : Result Order Reply) (given : Given) (files : Option Files) (settings : Settings) (asked : Request) → IsSettings files given.project settings → request_of given settings ≡ Ok asked →
    IfErr r (IsOtherReply asked) → IfErr r (IsEarlyReply given files)
early_gap (Ok o) given files settings asked said is h = tt
early_gap (Err reply) given files settings asked said is h = inr (settings, said, inr (asked, is, h))

-- one of the files can't be read
pub unread_one : (names : List Text) (n : ℕ) (name : Text) (reply : Reply) → n < length names → name ≡ get_or names n name → IsUnread name reply → AreUnread names reply
unread_one names n name reply below is h = inr (name, subst (λ (x : Text). Contains names x) (sym is) (Contains-get_or names n name below), h)

-- the reply to an order of the texts that are given: its answer, or why there is none
pub texts_told : (files : Option Files) (shown : Option Design) (order : Order) (given : List Text) (warnings : Text) (told : Told) (reply : Reply) → IsAnswered shown order given told → IsPlaced order told reply → reply.warnings ≡ warnings →
    IsOutOfMemory reply ⊎ IsTextsReply files shown order given warnings reply
texts_told files shown order given warnings told reply h placed warned = inr (inl (told, h, placed, warned))

pub texts_refused : (files : Option Files) (shown : Option Design) (order : Order) (given : List Text) (warnings : Text) (refused : Refusal) (reply : Reply) → IsRefused shown order given refused → IsRefusalReply files order refused reply →
    IsOutOfMemory reply ⊎ IsTextsReply files shown order given warnings reply
texts_refused files shown order given warnings refused reply h said = inr (inr (inl (refused, h, said)))

pub texts_refused_corner : (files : Option Files) (shown : Option Design) (order : Order) (given : List Text) (warnings : Text) (corner : ℕ) (own : Refusal) (reply : Reply) → IsRefused shown order given (refusal.Corner corner) →
    IsFirstRefused large (corners_of given) 1 corner own → IsCornerReply files order corner own reply → IsOutOfMemory reply ⊎ IsTextsReply files shown order given warnings reply
texts_refused_corner files shown order given warnings corner own reply h first said = inr (inr (inr (corner, own, h, first, said)))

-- mintc's own answer where there is a design with edges apart: of its table, or that none can say it
pub table_told : (files : Option Files) (order asked : Order) (design : Design) (table : Text) (taken texts : List Text) (warnings : Text) (reply : Reply) → IsToldApart design (apart.Said table) → asked ≡ of_table order →
    texts ≡ in_place table taken → IsOutOfMemory reply ⊎ IsTextsReply files None asked texts warnings reply → IsOutOfMemory reply ⊎ IsOwnReply files order taken warnings design reply
table_told files order asked design table taken texts warnings reply told same put (inl wanting) = inl wanting
table_told files order asked design table taken texts warnings reply told same put (inr h) =
    let own : IsTableReply files order taken warnings (apart.Said table) reply =
    subst (λ (o : Order). IsTextsReply files None o (in_place table taken) warnings reply) same (subst (λ (ts : List Text). IsTextsReply files None asked ts warnings reply) put h) in
    inr (apart.Said table, told, own)

pub table_untold : (files : Option Files) (order : Order) (design : Design) (obstacle : Obstacle) (taken : List Text) (warnings : Text) (reply : Reply) → IsToldApart design (apart.Unsaid obstacle) → IsMessage Found reply →
    IsOutOfMemory reply ⊎ IsOwnReply files order taken warnings design reply
table_untold files order design obstacle taken warnings reply told h = inr (apart.Unsaid obstacle, told, h)

-- the reply where there is a design with edges apart, by whether mintc's own answer is asked for
pub made_own : (files : Option Files) (order : Order) (taken : List Text) (warnings : Text) (design : Design) (reply : Reply) → is_own order ≡ true →
    IsOutOfMemory reply ⊎ IsOwnReply files order taken warnings design reply → IsOutOfMemory reply ⊎ IsMadeReply files order taken warnings design reply
made_own files order taken warnings design reply is (inl wanting) = inl wanting
made_own files order taken warnings design reply is (inr h) = inr (inl (is, h))

pub made_shown : (files : Option Files) (order : Order) (taken : List Text) (warnings : Text) (design : Design) (reply : Reply) → is_own order ≡ false →
    IsOutOfMemory reply ⊎ IsTextsReply files (Some design) order taken warnings reply → IsOutOfMemory reply ⊎ IsMadeReply files order taken warnings design reply
made_shown files order taken warnings design reply is (inl wanting) = inl wanting
made_shown files order taken warnings design reply is (inr h) = inr (inr (is, h))

-- the reply to an order of a design with edges apart
pub apart_made : (files : Option Files) (order : Order) (taken : List Text) (warnings : Text) (design : Design) (reply : Reply) → IsMade order taken design →
    IsOutOfMemory reply ⊎ IsMadeReply files order taken warnings design reply → IsOutOfMemory reply ⊎ IsApartReply files order taken warnings reply
apart_made files order taken warnings design reply made (inl wanting) = inl wanting
apart_made files order taken warnings design reply made (inr h) = inr (inr (design, made, h))

pub apart_halted : (files : Option Files) (order : Order) (taken : List Text) (warnings : Text) (why : Halt) (reply : Reply) → IsUnmade order taken why → IsHaltReply files order why reply →
    IsOutOfMemory reply ⊎ IsApartReply files order taken warnings reply
apart_halted files order taken warnings why reply unmade h = inr (inl (why, unmade, h))

-- the reply to an order, with its warnings, by what it says of edges
abbrev pub IsWarnedReply : Option Files → Order → List Text → List Text → List Text → Reply → Type 0
IsWarnedReply files order fronts taken given reply = (warnings : Text) × AreAllWarned order fronts given warnings × IsDesignReply files order taken given warnings reply

pub design_apart : (files : Option Files) (order : Order) (fronts taken given : List Text) (warnings : Text) (reply : Reply) → order.call.apart ≡ true → AreAllWarned order fronts given warnings →
    IsOutOfMemory reply ⊎ IsApartReply files order taken warnings reply → IsOutOfMemory reply ⊎ IsWarnedReply files order fronts taken given reply
design_apart files order fronts taken given warnings reply is warned (inl wanting) = inl wanting
design_apart files order fronts taken given warnings reply is warned (inr h) = inr (warnings, warned, inr (is, h))

pub design_merged : (files : Option Files) (order : Order) (fronts taken given : List Text) (warnings : Text) (reply : Reply) → order.call.apart ≡ false → AreAllWarned order fronts given warnings →
    IsOutOfMemory reply ⊎ IsTextsReply files None order given warnings reply → IsOutOfMemory reply ⊎ IsWarnedReply files order fronts taken given reply
design_merged files order fronts taken given warnings reply is warned (inl wanting) = inl wanting
design_merged files order fronts taken given warnings reply is warned (inr h) = inr (warnings, warned, inl (is, h))

-- the reply to an order of what is taken of its files
pub taken_given : (files : Option Files) (order : Order) (fronts taken given : List Text) (reply : Reply) → AreGiven order taken given → IsOutOfMemory reply ⊎ IsWarnedReply files order fronts taken given reply →
    IsTakenReply files order fronts taken reply
taken_given files order fronts taken given reply are (inl wanting) = inl wanting
taken_given files order fronts taken given reply are (inr (warnings, warned, h)) = inr (inr (given, warnings, are, warned, h))

-- the same where the texts that the warnings go with are what is taken
pub given_back : (files : Option Files) (order : Order) (fronts texts taken given : List Text) (reply : Reply) → texts ≡ taken → IsOutOfMemory reply ⊎ IsWarnedReply files order fronts texts given reply →
    AreGiven order taken given → IsTakenReply files order fronts taken reply
given_back files order fronts texts taken given reply same told are =
    taken_given files order fronts taken given reply are (subst (λ (fs : List Text). IsOutOfMemory reply ⊎ IsWarnedReply files order fronts fs given reply) same told)

pub taken_unfit : (files : Option Files) (order : Order) (fronts taken : List Text) (why : Unfit) (reply : Reply) → IsUndescribed order taken why → IsUnfitReply files order why reply →
    IsTakenReply files order fronts taken reply
taken_unfit files order fronts taken why reply un h = inr (inl (why, un, h))

-- a library back in its place
pub put_back : (taken : List Text) (at : ℕ) (text library : Text) → library ≡ file_at taken at → set (set taken at text) at library ≡ taken
put_back taken at text library is = set-set taken at text library ∙ ap (λ (l : Text). set taken at l) is ∙ set-get_or taken at []

-- what is told of delays below 0 doesn't change as the files are read
pub clamps_as_read : (order as_read : Order) (fronts taken : List Text) (text : Text) → as_read ≡ read_as order taken → AreClampsTold order fronts text → AreClampsTold as_read fronts text
clamps_as_read order as_read fronts taken text same told =
    let own : AreClampsTold (read_as order taken) fronts text = told in
    subst (λ (o : Order). AreClampsTold o fronts text) (sym same) own

-- the reply to a call, of files that are read
pub call_taken : (files : Option Files) (order as_read : Order) (fronts taken : List Text) (reply : Reply) → as_read ≡ read_as order taken → AreFronts files (MOST_BYTES + 1) order.call.files fronts →
    AreTaken order fronts taken → IsTakenReply files as_read fronts taken reply → IsCallReply files order reply
call_taken files order as_read fronts taken reply same are took h = inr (fronts, taken, are, took, subst (λ (o : Order). IsTakenReply files o fronts taken reply) same h)

-- files that are taken as they are
pub taken_whole : (b : Bool) (front : Text) → IsTaken b front front
taken_whole true front = inl refl
taken_whole false front = refl

pub all_whole : (order : Order) (fronts : List Text) → AreTaken order fronts fronts
all_whole order fronts = record { count = refl; each = λ at below. taken_whole (is_asked order at) (file_at fronts at) }

-- memory was wanting
pub call_wanting : (files : Option Files) (order : Order) (fronts : List Text) (reply : Reply) → AreFronts files (MOST_BYTES + 1) order.call.files fronts → IsOutOfMemory reply → IsCallReply files order reply
call_wanting files order fronts reply are h = call_taken files order (read_as order fronts) fronts fronts reply refl are (all_whole order fronts) (inl h)

-- with one read for the project file, and one for each file
pub given_answered : (given : Given) (files : Option Files) (order : Order) (reply : Reply) (a b c : Option ℕ) → IsOrdered given files order → IsCallReply files order reply →
    MakesAtMost 1 a b → MakesAtMost (length order.call.files + 2) b c → (reads : ℕ) × IsGivenReply given files reads reply × MakesAtMost reads a c
given_answered given files order reply a b c ordered h first rest =
    let most : 1 + (length order.call.files + 2) ≡ 3 + length order.call.files = omega arith in (
      3 + length order.call.files,
      inr (order, refl, ordered, h),
      subst (λ (n : ℕ). MakesAtMost n a c) most (MakesAtMost-sum 1 (length order.call.files + 2) a b c first rest),
    )

-- words that give something, and those that give nothing
pub words_given : (words : List Text) (given : Given) (files : Option Files) (reply : Reply) (a b : Option ℕ) → IsGiven words given →
    ((reads : ℕ) × IsGivenReply given files reads reply × MakesAtMost reads a b) → (reads : ℕ) × IsReply words files reads reply × MakesAtMost reads a b
words_given words given files reply a b is (reads, h, calls) = (reads, inr (given, is, h), calls)

pub words_wrong : (words : List Text) (files : Option Files) (reply : Reply) (a : Option ℕ) → IsWordsReply words reply → (reads : ℕ) × IsReply words files reads reply × MakesAtMost reads a a
words_wrong words files reply a h = (0, inl (refl, h), MakesAtMost-none a)
