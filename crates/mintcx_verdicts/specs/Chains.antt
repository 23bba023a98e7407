-- The last two tests in words: a member that isn't the design's, or doesn't lead to the next one, and sums that don't
-- show what the certificate claims.
use Rattle.std.specs.Prelude.{◌≡◌, ℕ, pos, negsuc, ◌≤ℤ◌, ◌+◌, ◌-◌, ◌*◌, ◌<◌, ◌==◌, ◌⊎◌, Bool, false, List, ◌++◌, codes}
use Rattle.std.specs.Prelude.{decimal, length, slice_index_or, if◌then◌else◌, nat_abs, All}
use Rattle.mintc_text.specs.declared.limits.TheConstants.{MOST_MEMBERS, MOST_PHASES}
use Rattle.mintc_text.specs.Lines.{ended}
use Rattle.mintc_fraction.specs.Ratio.{Ratio, over}
use Rattle.mintc_timing.specs.Clocking.{feeds_of}
use Rattle.mintc_timing.specs.Design.{Design, Timing}
use Rattle.mintc_timing.specs.Limits.{IsPhase}
use Rattle.mintc_timing.specs.Links.{cycles_of, delay_of, no_link}
use Rattle.mintc_certificate.specs.declared.members.Member.{Member}
use Rattle.mintc_certificate.specs.declared.members.Member.TheVariants as member
use Rattle.mintc_certificate.specs.declared.sums.ChainSums.{ChainSums}
use Rattle.mintc_certificate.specs.Valid.{IsMember, links_of_members}
use Rattle.mintcx_amounts.specs.declared.unit.Unit.{Unit}
use Rattle.mintcx_amounts.specs.Amounts.{amount_text}
use Rattle.mintcx_frame.specs.Ends.{time_text}
use Rattle.mintcx_frame.specs.Names.{node_name}
use Rattle.mintcx_verdicts.specs.Counts.{counted}

-- The table says which phase feeds which, at place 8 * (i - 1) + (j - 1).
pub record IsFedTable (t : Timing) (fed : List Bool) : Type 0 where
  pub count : length fed ≡ 64
  pub each : (i j : ℕ) → IsPhase MOST_PHASES i → IsPhase MOST_PHASES j →
      slice_index_or fed (8 * (i - 1) + (j - 1)) false ≡ feeds_of t i j

-- the member of a place, counted from 0
abbrev pub member_at : List Member → ℕ → Member
member_at members n = slice_index_or members n (member.Start 0)

-- the place behind another, the first one behind the last
abbrev pub place_after : List Member → ℕ → ℕ
place_after members n = if n + 1 == length members then 0 else n + 1

-- where the member of a place leads to
abbrev pub end_at : Design → List Member → ℕ → ℕ
end_at design members n = (slice_index_or (links_of_members design members) n no_link).to

-- where it begins
abbrev pub begin_at : Design → List Member → ℕ → ℕ
begin_at design members n = (slice_index_or (links_of_members design members) n no_link).from

-- The member of a place leads to the one behind it.
abbrev pub LeadsOn : Design → List Member → ℕ → Type 0
LeadsOn design members n = end_at design members n ≡ begin_at design members (place_after members n)

-- This place is the first whose member isn't the design's.
pub record IsStrange (t : Timing) (members : List Member) (n : ℕ) : Type 0 where
  pub inside : n < length members
  pub strange : IsMember t (member_at members n) → ⊥
  pub before : (m : ℕ) → m < n → IsMember t (member_at members m)

-- This place is the first whose member doesn't lead to the next one.
pub record IsBreak (design : Design) (members : List Member) (n : ℕ) : Type 0 where
  pub inside : n < length members
  pub breaks : LeadsOn design members n → ⊥
  pub before : (m : ℕ) → m < n → LeadsOn design members m

-- the member of a place; members are counted from 1
abbrev pub member_words : ℕ → List ℕ
member_words n = codes "  member " ++ decimal (n + 1)

-- a member that isn't the design's
abbrev pub strange_line : ℕ → List ℕ
strange_line n = member_words n ++ codes " is none of the design's constraints"

-- the word for the member behind another
abbrev pub after_word : List Member → ℕ → List ℕ
after_word members n =
    if n + 1 == length members then codes ", and the first begins at " else codes ", and the next begins at "

-- a member that doesn't lead to the next one
abbrev pub break_line : Design → List Member → ℕ → List ℕ
break_line design members n =
    member_words n ++ codes " leads to " ++ node_name design (end_at design members n)
    ++ after_word members n ++ node_name design (begin_at design members (place_after members n))

-- The text says what is wrong with the members of a chain: which isn't the design's, or, where all are, which doesn't
-- lead to the next one.
abbrev pub IsChainReason : Timing → List Member → List ℕ → Type 0
IsChainReason t chain text = (n : ℕ) × ((IsStrange t chain n × (text ≡ ended (strange_line n)))
    ⊎ (All (IsMember t) chain × IsBreak t.flat chain n × (text ≡ ended (break_line t.flat chain n))))

-- the sums over a chain
abbrev pub sums_over : Design → List Member → ChainSums
sums_over design members = record {
  delay = delay_of (links_of_members design members);
  cycles = cycles_of (links_of_members design members);
}

-- the sums over a chain that a certificate can say
pub record AreSums (sums : ChainSums) : Type 0 where
  pub delay : (negsuc 65535999999999 ≤ℤ sums.delay) × (sums.delay ≤ℤ pos 65536000000000)
  pub cycles : (pos 0 ≤ℤ sums.cycles) × (sums.cycles ≤ℤ pos MOST_MEMBERS)

-- the cycles of a chain, as a number to be counted by
abbrev pub laps_of : ChainSums → ℕ
laps_of sums = nat_abs sums.cycles

-- how many cycles a chain takes
abbrev pub laps_text : ℕ → List ℕ
laps_text n = if n == 0 then codes "no cycle" else counted n (codes "cycle") (codes "cycles")

-- what a chain takes, and in how many cycles
abbrev pub takes : Unit → ChainSums → List ℕ
takes unit sums =
    codes "  the chain takes " ++ time_text unit (over sums.delay (pos 1)) ++ codes " in " ++ laps_text (laps_of sums)

-- the cycle time that it asks for
abbrev pub asks : Unit → ChainSums → List ℕ
asks unit sums = amount_text unit (over sums.delay sums.cycles)

-- of a chain that is to forbid each cycle time below a schedule's: the one that it asks for, and the schedule's
abbrev pub tight_line : Unit → Ratio → ChainSums → List ℕ
tight_line unit cycle sums =
    takes unit sums
    ++ (if laps_of sums == 0 then codes ", and so asks for no cycle time"
    else codes ", which asks for " ++ asks unit sums ++ codes ", and the schedule has " ++ amount_text unit cycle)

-- of a chain that is to forbid each cycle time
abbrev pub stuck_line : Unit → ChainSums → List ℕ
stuck_line unit sums =
    takes unit sums
    ++ (if laps_of sums == 0 then codes ", which forbids no cycle time"
    else codes ", which forbids no cycle time of " ++ asks unit sums ++ codes " or more")
