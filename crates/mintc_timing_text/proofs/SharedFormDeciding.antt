-- Whether a line is one of a word, a number, a count or a name, and whether it may come next in a schedule.
use Rattle.std.proofs.Common.{ℕ, zero, suc, ◌≤◌, ℤ, pos, List, [], ◌∷◌, length, refl, codes, inl, All}
use Rattle.std.proofs.lemmas.List.Elements.{All-nil, All-cons, All-head, All-tail}
use Rattle.mintc_text.specs.declared.limits.TheConstants.{MOST_PHASES, MOST_DENOMINATOR, MOST_NUMERATOR}
use Rattle.mintc_text.specs.Lines.{numeral_of, IsGraphic, IsWithin}
use Rattle.mintc_timing.specs.declared.clocking.Schedule.{Schedule}
use Rattle.mintc_timing.specs.Limits.{IsNumerator}
use Rattle.mintc_timing_text.specs.Fields.{IsName, number, Spells, IsWordLine, IsNumberLine, IsCountLine, IsNameLine}
use Rattle.mintc_timing_text.specs.Texts.{ScheduleLines, den, cycle, phases, phase, NextOfSchedule, IsPhaseLine, no_phases, with_phase}
use Rattle.mintc_timing_text.proofs.SharedDeciding.{Decided, same_decided, both_decided, most_decided, Searched, searched_unit, searched_numbers, searched_whole, searched_both, searched_texts, AreUpTo}
use Rattle.mintc_timing_text.proofs.SharedEachText.{spelled_by, after_spelled}

-- the facts that hold of everything
abbrev pub Anything : {V : Type 0} → V → Type 0
Anything v = Unit {0}

pub anything : {V : Type 0} (v : V) → Decided (Anything v)
anything v = inl tt

pub word_decided : (word line : List ℕ) → Decided ((u : Unit {0}) × Spells (IsWordLine word) u line)
word_decided word = spelled_by (IsWordLine word) Anything Anything (λ u. word ∷ []) searched_unit anything (λ u ws h. (tt, tt, h)) (λ u b r. refl)

pub number_decided : (word : List ℕ) (least most : ℤ) (line : List ℕ) → Decided ((z : ℤ) × Spells (IsNumberLine word least most) z line)
number_decided word least most = spelled_by (IsNumberLine word least most) (IsWithin least most) Anything (λ z. word ∷ numeral_of z ∷ []) (searched_whole least most) anything
    (λ z ws h. (h.0, tt, h.1)) (λ z b r. (b, refl))

pub count_decided : (word : List ℕ) (least most : ℕ) (line : List ℕ) → Decided ((n : ℕ) × Spells (IsCountLine word least most) n line)
count_decided word least most = spelled_by (IsCountLine word least most) (λ n. n ≤ most) (λ n. least ≤ n) (λ n. word ∷ number n ∷ []) (searched_numbers most) (most_decided least)
    (λ n ws h. (h.1, h.0, h.2)) (λ n b r. (r, b, refl))

-- names
graphic_decided : (xs : List ℕ) → Decided (All IsGraphic xs)
graphic_decided [] = inl (All-nil IsGraphic)
graphic_decided (x ∷ xs) = same_decided (λ h. All-cons IsGraphic x xs h.0 h.1) (λ h. (All-head IsGraphic x xs h, All-tail IsGraphic x xs h))
    (both_decided (both_decided (most_decided 33 x) (most_decided x 126)) (graphic_decided xs))

pub name_decided : (xs : List ℕ) → Decided (IsName xs)
name_decided xs = same_decided (λ h. record { some = h.0; most = h.1.0; graphic = h.1.1 }) (λ h. (h.some, (h.most, h.graphic)))
    (both_decided (most_decided 1 (length xs)) (both_decided (most_decided (length xs) 1000) (graphic_decided xs)))

are_up_to : (xs : List ℕ) → All IsGraphic xs → AreUpTo 126 xs
are_up_to [] h = tt
are_up_to (x ∷ xs) h = ((All-head IsGraphic x xs h).1, are_up_to xs (All-tail IsGraphic x xs h))

abbrev pub IsShort : List ℕ → Type 0
IsShort xs = (length xs ≤ 1000) × AreUpTo 126 xs

pub name_short : (xs : List ℕ) → IsName xs → IsShort xs
name_short xs h = (h.most, are_up_to xs h.graphic)

pub searched_short : Searched IsShort
searched_short = searched_texts 126 1000

pub named_decided : (word line : List ℕ) → Decided ((name : List ℕ) × Spells (IsNameLine word) name line)
named_decided word = spelled_by (IsNameLine word) IsShort IsName (λ name. word ∷ name ∷ []) searched_short name_decided
    (λ name ws h. (name_short name h.0, h.0, h.1)) (λ name b r. (r, refl))

-- the line of a phase of a schedule
phase_decided : (line : List ℕ) → Decided ((p : ℤ × ℤ) × Spells IsPhaseLine p line)
phase_decided = spelled_by IsPhaseLine (λ (p : ℤ × ℤ). IsNumerator p.0 × IsNumerator p.1) Anything (λ p. codes "phase" ∷ numeral_of p.0 ∷ numeral_of p.1 ∷ [])
    (searched_both IsNumerator IsNumerator (searched_whole (pos 0) MOST_NUMERATOR) (searched_whole (pos 0) MOST_NUMERATOR)) anything
    (λ p ws h. ((h.0, h.1), tt, h.2)) (λ p b r. (b.0, b.1, refl))

-- the next line of a schedule, within another text
pub schedule_decided : {S : Type 0} (within : ScheduleLines → S) (beyond : Schedule → List ℕ → S → Type 0) →
    ((s : Schedule) (line : List ℕ) → Decided ((after : S) × beyond s line after)) →
    (lines : ScheduleLines) (line : List ℕ) → Decided ((after : S) × NextOfSchedule within beyond lines line after)
schedule_decided within beyond more den line = after_spelled (IsNumberLine (codes "den") (pos 1) MOST_DENOMINATOR) (λ d. within (cycle d)) line (number_decided (codes "den") (pos 1) MOST_DENOMINATOR line)
schedule_decided within beyond more (cycle d) line = after_spelled (IsNumberLine (codes "cycle") (pos 0) MOST_NUMERATOR) (λ t. within (phases d t)) line (number_decided (codes "cycle") (pos 0) MOST_NUMERATOR line)
schedule_decided within beyond more (phases d t) line = after_spelled (IsCountLine (codes "phases") 1 MOST_PHASES) (λ k. within (phase k (no_phases d t))) line (count_decided (codes "phases") 1 MOST_PHASES line)
schedule_decided within beyond more (phase (suc left) s) line = after_spelled IsPhaseLine (λ p. within (phase left (with_phase s p))) line (phase_decided line)
schedule_decided within beyond more (phase zero s) line = more s line
