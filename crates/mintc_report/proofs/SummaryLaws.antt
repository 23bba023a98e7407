-- The summary of a sample.
use Rattle.std.proofs.Common.{◌≡◌, ℕ, List, [], ◌∷◌, ◌++◌, ap, ◌∙◌, sym}
use Rattle.std.proofs.lemmas.Grind.{flat_map-append}
use Rattle.std.proofs.lemmas.List.{append-nil}
use Rattle.mintc_text.specs.Lines.{ended, text_of, fraction_word}
use Rattle.mintc_timing.specs.declared.clocking.Schedule.{Schedule}
use Rattle.mintc_timing.specs.Design.{Timing}
use Rattle.mintc_fraction.specs.Ratio.{Ratio}
use Rattle.mintc_report.specs.Answers.{IsLowestOf}
use Rattle.mintc_report.specs.Reports.{cycle_line}
use Rattle.mintc_report.specs.Summaries.{count_lines, IsLeastSummary}
use Rattle.mintc_report.proofs.AnswerLaws.{IsWordOf-lowest}

-- lines, and then one more
line_after : (lines : List (List ℕ)) (line none first last text : List ℕ) → none ≡ [] → first ≡ none ++ text_of lines → last ≡ first ++ ended line → text ≡ last →
    text ≡ text_of (lines ++ line ∷ [])
line_after lines line none first last text empty x y whole =
    whole ∙ y ∙ ap (λ (t : List ℕ). t ++ ended line) (x ∙ ap (λ (t : List ℕ). t ++ text_of lines) empty)
    ∙ ap (λ (t : List ℕ). text_of lines ++ t) (sym (append-nil (ended line))) ∙ sym (flat_map-append ended lines (line ∷ []))

pub summary_written : (number : ℕ) (t : Timing) (s : Schedule) (f : Ratio) (none first last text : List ℕ) → IsLowestOf s.cycle s.den f →
    none ≡ [] → first ≡ none ++ text_of (count_lines number t) → last ≡ first ++ ended (cycle_line (fraction_word f.num f.den)) → text ≡ last → IsLeastSummary number t s text
summary_written number t s f none first last text lowest empty x y whole = record {
  cycle_word = fraction_word f.num f.den;
  is_cycle = IsWordOf-lowest s.cycle s.den f lowest;
  whole = line_after (count_lines number t) (cycle_line (fraction_word f.num f.den)) none first last text empty x y whole;
}
