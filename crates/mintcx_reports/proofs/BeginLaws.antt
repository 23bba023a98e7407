-- When a latch is open, in words.
use Rattle.std.proofs.Common.{◌≡◌, ◌++◌, ℕ, false, List, refl, ◌∙◌, ap, sym}
use Rattle.mintc_timing.specs.declared.clocking.Schedule.{Schedule}
use Rattle.mintc_timing.specs.Design.{Design, element_at, phase_of}
use Rattle.mintcx_amounts.specs.declared.unit.Unit.{Unit}
use Rattle.mintcx_chain.specs.declared.rows.Row.{Row}
use Rattle.mintcx_reports.specs.Begins.{lent_text, open_text, window_text}
use Rattle.mintcx_reports.proofs.WrittenLaws.{appended}

latch_window : (design : Design) (s : Schedule) (unit : Unit) (row : Row) (l : ℕ) → (element_at design l).flop ≡ false →
    window_text design s unit row l ≡ open_text s unit (phase_of design l) row.cycle ++ lent_text s unit row.borrows
latch_window design s unit row l latch = rw latch refl

pub latch_written : (design : Design) (s : Schedule) (unit : Unit) (row : Row) (l : ℕ) (old a new : List ℕ) → (element_at design l).flop ≡ false →
    a ≡ old ++ open_text s unit (phase_of design l) row.cycle → new ≡ a ++ lent_text s unit row.borrows → new ≡ old ++ window_text design s unit row l
latch_written design s unit row l old a new latch e f =
    appended old a new (open_text s unit (phase_of design l) row.cycle) (lent_text s unit row.borrows) e f
    ∙ ap (λ v. old ++ v) (sym (latch_window design s unit row l latch))
