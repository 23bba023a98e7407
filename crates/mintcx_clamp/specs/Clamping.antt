-- The delays of a text with 0 in the place of numbers below 0.
use Rattle.std.specs.Prelude.{◌≡◌, pos, false, if◌then◌else◌, ℕ, List, map, Result, Ok, Err}
use Rattle.mintc_text.specs.declared.refusals.Refusal.{Refusal}
use Rattle.mintc_text.specs.declared.refusals.Refusal.TheVariants as refusal
use Rattle.mintc_decimal.specs.Decimals.{Number}
use Rattle.mintc_sdf_tokens.specs.Tokens.{tokens_of}
use Rattle.mintc_sdf.specs.declared.delays.Delay.{Delay}
use Rattle.mintc_sdf.specs.Forms.{Claim, claim}
use Rattle.mintc_sdf.specs.Numbers.{is_below_zero}
use Rattle.mintc_sdf.specs.Texts.{Said, may_be_negative, said_in, reading, delays_of}

-- 0, as a text writes it
abbrev pub nought : Number
nought = record { negative = false; digits = 0; places = pos 0 }

-- a number, or 0 in its place where it is below 0
abbrev pub clamped_number : Number → Number
clamped_number v = if is_below_zero v then nought else v

-- the numbers of a subject, or 0 in the place of each that is below 0 and may not be
abbrev pub clamped_claim : Claim → Claim
clamped_claim c = if may_be_negative c.subject then c else claim c.subject (map clamped_number c.numbers)

-- the same of what an entry says
abbrev pub clamped_said : Said → Said
clamped_said s = record {
  entry = s.entry;
  scale = s.scale;
  celltype = s.celltype;
  place = s.place;
  claim = clamped_claim s.claim;
}

-- the same of all that a text says; or its entry out of form
abbrev pub clamped_all : Result (List Said) ℕ → Result (List Said) ℕ
clamped_all (Ok ss) = Ok (map clamped_said ss)
clamped_all (Err entry) = Err entry

-- The delays of a text with 0 in the place of each number below 0 that may not be, or the text's refusal.
abbrev pub clamped_delays : List ℕ → Result (List Delay) Refusal
clamped_delays text = reading (clamped_all (said_in (tokens_of text)))

-- A text is refused for a number below 0.
abbrev pub IsBelow : List ℕ → Type 0
IsBelow text = (entry : ℕ) × (delays_of text ≡ Err (refusal.Negative entry))

-- Where a text has delays, these are the delays of another one with 0 in the place of each number below 0 that may not
-- be.
abbrev pub HasClamped : List ℕ → List ℕ → Type 0
HasClamped text clamped = (ds : List Delay) → delays_of clamped ≡ Ok ds → clamped_delays text ≡ Ok ds

-- With 0 in the place of numbers below 0 no text is refused for such a number.
abbrev pub AreNotBelow : Type 0
AreNotBelow = (text : List ℕ) (entry : ℕ) → clamped_delays text ≡ Err (refusal.Negative entry) → ⊥

-- A text that has delays has the same ones so.
abbrev pub AreKept : Type 0
AreKept = (text : List ℕ) (ds : List Delay) → delays_of text ≡ Ok ds → clamped_delays text ≡ Ok ds
