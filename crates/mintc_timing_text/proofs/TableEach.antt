-- Each text is a design's within the limits, or is refused.
use Rattle.std.proofs.Common.{◌≡◌, ℕ, zero, suc, ◌++◌, ◌∷◌, [], List, length, codes, Option, Some, None, refl, ◌⊎◌, inl, inr, ⊎_elim}
use Rattle.mintc_text.specs.declared.limits.TheConstants.{MOST_COUNT}
use Rattle.mintc_text.specs.Lines.{IsText}
use Rattle.mintc_text.specs.declared.limits.Most.{Most}
use Rattle.mintc_text.specs.declared.refusals.Refusal.{Refusal}
use Rattle.mintc_text.specs.declared.refusals.Refusal.TheVariants as refusal
use Rattle.mintc_text.specs.declared.refusals.Role.TheVariants as role
use Rattle.mintc_timing.specs.Design.{Design}
use Rattle.mintc_timing.specs.Limits.{limit_of}
use Rattle.mintc_timing_text.specs.Fields.{IsWordLine, IsCountLine, IsNameLine}
use Rattle.mintc_timing_text.specs.TableText.{TableLines, first, phases, phase, element, arcs, arc, bound, whole, NextOfTable, IsWholeTable, IsTableText, IsTableFault, IsTableRefusal}
use Rattle.mintc_timing_text.specs.TableText.{version_of, empty, inner_names, IsElementLine, IsArcLine, IsBoundLine}
use Rattle.mintc_timing_text.specs.TextLaws.{HaveDesignOrRefusal}
use Rattle.mintc_timing_text.proofs.SharedDeciding.{Decided}
use Rattle.mintc_timing_text.proofs.SharedEachText.{judged, after_spelled}
use Rattle.mintc_timing_text.proofs.SharedFormDeciding.{word_decided, count_decided, named_decided}
use Rattle.mintc_timing_text.proofs.TableDeciding.{element_line_decided, arc_line_decided, bound_line_decided}

ends : (a : TableLines) → Decided (IsWholeTable a)
ends first = inr (λ h. h)
ends (phases v) = inr (λ h. h)
ends (phase v left d) = inr (λ h. h)
ends (element v left d) = inr (λ h. h)
ends (arcs d) = inr (λ h. h)
ends (arc left d) = inr (λ h. h)
ends (bound left d) = inr (λ h. h)
ends (whole d) = inl tt

decides : (a : TableLines) (line : List ℕ) → Decided ((after : TableLines) × NextOfTable a line after)
decides first line = after_spelled (IsCountLine (codes "table") 1 3) (λ n. phases (version_of n)) line (count_decided (codes "table") 1 3 line)
decides (phases v) line = after_spelled (IsCountLine (codes "phases") 1 MOST_COUNT) (λ k. phase v k empty) line (count_decided (codes "phases") 1 MOST_COUNT line)
decides (phase v (suc left) d) line =
    after_spelled (IsNameLine (codes "phase")) (λ name. phase v left (record d { phases = d.phases ++ name ∷ [] })) line (named_decided (codes "phase") line)
decides (phase v zero d) line = after_spelled (IsCountLine (codes "elements") 0 MOST_COUNT) (λ n. element v n d) line (count_decided (codes "elements") 0 MOST_COUNT line)
decides (element v (suc left) d) line =
    after_spelled (IsElementLine v (length d.phases)) (λ e. element v left (record d { elements = d.elements ++ e ∷ [] })) line (element_line_decided v (length d.phases) line)
decides (element v zero d) line =
    after_spelled (IsCountLine (codes "inner") 0 MOST_COUNT) (λ m. arcs (record d { inner = inner_names m })) line (count_decided (codes "inner") 0 MOST_COUNT line)
decides (arcs d) line = after_spelled (IsCountLine (codes "arcs") 0 MOST_COUNT) (λ a. arc a d) line (count_decided (codes "arcs") 0 MOST_COUNT line)
decides (arc (suc left) d) line =
    after_spelled (IsArcLine (length d.elements) (length d.inner)) (λ x. arc left (record d { arcs = d.arcs ++ x ∷ [] })) line (arc_line_decided (length d.elements) (length d.inner) line)
decides (arc zero d) line = after_spelled (IsCountLine (codes "bounds") 0 MOST_COUNT) (λ b. bound b d) line (count_decided (codes "bounds") 0 MOST_COUNT line)
decides (bound (suc left) d) line =
    after_spelled (IsBoundLine (length d.phases)) (λ x. bound left (record d { bounds = d.bounds ++ x ∷ [] })) line (bound_line_decided (length d.phases) line)
decides (bound zero d) line = after_spelled (IsWordLine (codes "end")) (λ u. whole d) line (word_decided (codes "end") line)
decides (whole d) line = inr (λ h. h.1)

abbrev Answer : Most → List ℕ → Type 0
Answer most text = ((d : Design) × IsTableText text d × (limit_of most d ≡ None)) ⊎ ((r : Refusal) × IsTableRefusal most text r)

of_design : (most : Most) (text : List ℕ) (d : Design) (over : Option Refusal) → IsTableText text d → limit_of most d ≡ over → Answer most text
of_design most text d None is e = inl (d, is, e)
of_design most text d (Some r) is e = inr (r, inr (d, is, e))

of_end : (most : Most) (text : List ℕ) (b : TableLines) → IsWholeTable b → IsText NextOfTable first b text → Answer most text
of_end most text first last is = absurd last
of_end most text (phases v) last is = absurd last
of_end most text (phase v left d) last is = absurd last
of_end most text (element v left d) last is = absurd last
of_end most text (arcs d) last is = absurd last
of_end most text (arc left d) last is = absurd last
of_end most text (bound left d) last is = absurd last
of_end most text (whole d) last is = of_design most text d (limit_of most d) is refl

pub have_design_or_refusal : HaveDesignOrRefusal
have_design_or_refusal most text = ⊎_elim
    (λ (h : (b : TableLines) × IsWholeTable b × IsText NextOfTable first b text). of_end most text h.0 h.1 h.2)
    (λ (h : (n : ℕ) × IsTableFault text n). inr (refusal.Syntax role.Table h.0, inl (h.0, refl, h.1)))
    (judged NextOfTable IsWholeTable ends decides first text)
