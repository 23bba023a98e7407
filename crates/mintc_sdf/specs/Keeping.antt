-- What is kept while a text is read: claims, cells and entries.
use Rattle.std.specs.Prelude.{◌≡◌, ℕ, true, List, [], ◌∷◌, map, Option, Some, None, option_map, Result, Ok, Err}
use Rattle.mintc_decimal.specs.Decimals.{Number}
use Rattle.mintc_sdf.specs.declared.delays.Subject.{Subject}
use Rattle.mintc_sdf.specs.declared.delays.Subject.TheVariants as subject
use Rattle.mintc_sdf.specs.declared.numbers.Sum.{Sum}
use Rattle.mintc_sdf.specs.declared.found.Context.{Context}
use Rattle.mintc_sdf.specs.declared.texts.State.{State}
use Rattle.mintc_sdf_tokens.specs.Tokens.{Token}
use Rattle.mintc_sdf_tokens.specs.Items.{Items, items, after}
use Rattle.mintc_sdf.specs.Forms.{Claim, claim, first_port, lone_value, Cell, settings}
use Rattle.mintc_sdf.specs.Texts.{Said, said_by, Progress, may_be_negative, entries, whole, is_end}
use Rattle.mintc_sdf.specs.Sums.{no_numbers, added}
use Rattle.mintc_sdf.specs.Finding.{Finding, nothing_found, keep_one, keep, said}

-- A form gives a claim of this subject, whose numbers were taken in, and this is left.
abbrev pub IsClaim : ℕ → Option (Claim × List Token) → Subject → Sum → List Token → Type 0
IsClaim scale o subject sum rest = (ns : List Number) × (o ≡ Some (claim subject ns, rest))
    × (sum ≡ added scale (may_be_negative subject) no_numbers ns)

-- port port value : such a claim on the first of the two ports
abbrev pub pin_claim : (List ℕ → Subject) → Items → Option Claim
pin_claim s is = first_port (λ pin rest. option_map (claim (s pin)) (lone_value rest)) is

-- The form gives a setup and a hold of this pin, whose numbers were taken in.
abbrev pub IsBoth : ℕ → Option (List Claim × List Token) → List ℕ → Sum → Sum → List Token → Type 0
IsBoth scale o pin first second rest =
    (ns ms : List Number) × (o ≡ Some (claim (subject.Setup pin) ns ∷ claim (subject.Hold pin) ms ∷ [], rest))
    × (first ≡ added scale true no_numbers ns) × (second ≡ added scale true no_numbers ms)

-- claims kept in their place, with what is left behind them
abbrev pub taken : Context → Finding → Option (List Claim × List Token) → Option (Finding × List Token)
taken cx f None = None
taken cx f (Some r) = Some (keep f (map (said cx) r.0), r.1)

-- A claim is kept of this subject, with the numbers that were taken in.
abbrev pub IsKept : Context → Finding → Finding → Subject → Sum → Type 0
IsKept cx old new s sum =
    (ns : List Number) → sum ≡ added cx.scale (may_be_negative s) no_numbers ns →
    new ≡ keep_one old (said cx (claim s ns))

-- A setup and a hold of this pin are kept, with the numbers that were taken in.
abbrev pub AreKept : Context → Finding → Finding → List ℕ → Sum → Sum → Type 0
AreKept cx old new pin first second =
    (ns ms : List Number) → first ≡ added cx.scale true no_numbers ns → second ≡ added cx.scale true no_numbers ms →
    new ≡ keep_one (keep_one old (said cx (claim (subject.Setup pin) ns))) (said cx (claim (subject.Hold pin) ms))

-- a cell kept, with what is left behind it
abbrev pub celled : ℕ → ℕ → Finding → Option (Cell × List Token) → Option (Finding × List Token)
celled entry scale f None = None
celled entry scale f (Some r) = Some (keep f (said_by entry scale r.0), r.1)

-- The code knows what is known after some entries.
abbrev pub IsState : Progress → State → Type 0
IsState p s = (p.settings ≡ settings s.divider s.scale) × (p.in_cells ≡ s.in_cells)
    × (s.found ≡ keep nothing_found p.said)

-- An entry in form, after which the code knows what is known then.
abbrev pub IsEntry : Option (Progress × List Token) → State → List Token → Type 0
IsEntry o s rest = (q : Progress) × (o ≡ Some (q, rest)) × IsState q s

-- All entries are in form and nothing follows, and the code has found what they say; or this entry is at fault.
abbrev pub Ends : Option ℕ → Result (List Said) ℕ → State → Type 0
Ends None r s = (ss : List Said) × (r ≡ Ok ss) × (s.found ≡ keep nothing_found ss)
Ends (Some n) r s = r ≡ Err n

-- what the tokens of the entries from a number on stand for
abbrev pub rest_of : ℕ → Progress → List Token → Result (List Said) ℕ
rest_of n p ts = whole (is_end (after ts)) (entries n p (items ts))
