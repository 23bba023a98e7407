-- Schedules that are one value have one text.
use Rattle.std.proofs.Common.{◌≡◌, ℕ, List, refl, ap, ◌∙◌, sym, subst, codes, arith}
use Rattle.mintc_text.specs.Lines.{text_of}
use Rattle.mintc_timing.specs.declared.clocking.Schedule.{Schedule}
use Rattle.mintc_timing_text.specs.Fields.{IsCountLine}
use Rattle.mintc_timing_text.specs.TextLaws.{HaveOneScheduleText}
use Rattle.mintc_timing_text.specs.Texts.{NextOfText, IsLast, TextLines, first, body, whole}
use Rattle.mintc_timing_text.proofs.SharedLineLaws.{word_form, count_form, spelled_same}
use Rattle.mintc_timing_text.proofs.SharedScheduleLaws.{Any, BeginsSchedule, schedule_back, schedule_spelled}
use Rattle.mintc_timing_text.proofs.SharedSpelling.{IsSpelled, IsSpelledStep, one_text}
use Rattle.mintc_timing_text.proofs.SharedTextLaws.{step_by, no_way}

-- what a state knows of the schedule to which it leads
abbrev Begins : TextLines → Schedule → Type 0
Begins first s = Unit {0}
Begins (body lines) s = BeginsSchedule lines s
Begins (whole p) s = p ≡ s

back : (a b : TextLines) (line : List ℕ) (s : Schedule) → NextOfText a line b → Begins b s → Begins a s
back first b line s h g = tt
back (body lines) b line s h g = schedule_back body IsLast (λ b. Begins b s) s (λ l k. k) (λ p line b h g. subst (λ (x : TextLines). Begins x s) h.2 g) lines line b h g
back (whole p) b line s h g = absurd h

step : (a : TextLines) (s : Schedule) → Any a → IsSpelledStep (NextOfText a) (λ b. Begins b s)
step first s p = record {
  alike = λ b c line other h g i j.
      let m = h.1.1 in let n = g.1.1 in
      (spelled_same (IsCountLine (codes "schedule") 1 1) (count_form (codes "schedule") 1 1 refl (omega arith)).words h.0 g.0 line other (omega (arith, m.0, m.1, n.0, n.1)) h.1 g.1, h.2 ∙ sym g.2);
}
step (body lines) s p = schedule_spelled body IsLast (λ b. Begins b s) s (λ l k. k) (λ p. step_by (word_form (codes "end") refl) (λ u w k l. refl)) lines
step (whole q) s p = no_way (λ line b h i. h)

spelled : IsSpelled NextOfText Any whole Begins
spelled = record { keeps = λ a b line p h. tt; last = λ s line b h. h; ends = λ s. refl; back = back; step = step }

pub schedules_have_one_text : HaveOneScheduleText
schedules_have_one_text a b s h g = h.whole ∙ ap text_of (one_text NextOfText Any whole Begins spelled first h.lines g.lines s tt h.follows g.follows) ∙ sym g.whole
