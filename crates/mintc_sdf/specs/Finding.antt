-- What the code has found of claims, which come one by one. What they stand for is said of their list, in Texts.antt
-- (`judged`, `reading`).
use Rattle.std.specs.Prelude.{List, [], ◌∷◌, ◌++◌, Option, Some, None, Result, Ok, Err}
use Rattle.mintc_text.specs.declared.refusals.Refusal.{Refusal}
use Rattle.mintc_sdf.specs.declared.delays.Subject.{Subject}
use Rattle.mintc_sdf.specs.declared.delays.Delay.{Delay}
use Rattle.mintc_sdf.specs.declared.numbers.Sum.{Sum}
use Rattle.mintc_sdf.specs.declared.found.Context.{Context}
use Rattle.mintc_sdf.specs.Forms.{Claim}
use Rattle.mintc_sdf.specs.Texts.{Said, fault_of, delays_by}

-- Delays, until a number is at fault.
pub record Finding : Type 0 where
  pub delays : List Delay
  pub fault : Option Refusal

-- no delay, and no number at fault
abbrev pub nothing_found : Finding
nothing_found = record { delays = []; fault = None }

-- after one more claim, given the fault so far and its own: nothing more is found behind a fault
abbrev pub kept : Finding → Said → Option Refusal → Option Refusal → Finding
kept f s (Some r) o = f
kept f s None (Some r) = record { delays = f.delays; fault = Some r }
kept f s None None = record { delays = f.delays ++ delays_by s s.claim.numbers; fault = None }

-- after one claim
abbrev pub keep_one : Finding → Said → Finding
keep_one f s = kept f s f.fault (fault_of s)

-- after some claims
abbrev pub keep : Finding → List Said → Finding
keep f [] = f
keep f (s ∷ ss) = keep (keep_one f s) ss

-- a claim in its place
abbrev pub said : Context → Claim → Said
said cx claim = record { entry = cx.entry; scale = cx.scale; celltype = cx.celltype; place = cx.place; claim = claim }

-- the delay of a claim whose numbers are known
abbrev pub delay_with : Context → Subject → Sum → Delay
delay_with cx subject sum = record {
  entry = cx.entry;
  celltype = cx.celltype;
  place = cx.place;
  subject = subject;
  least = sum.least;
  greatest = sum.greatest;
}

-- the delays, or the fault in their place
abbrev pub outcome_by : List Delay → Option Refusal → Result (List Delay) Refusal
outcome_by ds None = Ok ds
outcome_by ds (Some r) = Err r

-- what comes out in the end: the delays, or the refusal of the number at fault
abbrev pub outcome : Finding → Result (List Delay) Refusal
outcome f = outcome_by f.delays f.fault
