-- What the writers of a report append.
use Rattle.std.proofs.Common.{◌≡◌, ℕ, ◌+◌, ◌-◌, ◌<◌, ℤ, pos, List, [], ◌∷◌, ◌++◌, length, map, get_or, refl, ap, ◌∙◌, sym, subst, arith, append_assoc}
use Rattle.std.proofs.lemmas.Grind.{flat_map-append}
use Rattle.std.proofs.lemmas.List.{get_or_default}
use Rattle.mintc_text.specs.Lines.{ended, spaced, text_of, words, fraction_word}
use Rattle.mintc_text.proofs.SharedLinesLaws.{words-append}
use Rattle.mintc_fraction.specs.Ratio.{Ratio}
use Rattle.mintc_timing.specs.declared.parts.Element.{Element}
use Rattle.mintc_timing.specs.declared.clocking.Schedule.{Schedule}
use Rattle.mintc_timing.specs.Design.{Timing, phase_count, element_count, no_element}
use Rattle.mintc_timing.specs.Departures.{departure}
use Rattle.mintc_certificate.specs.declared.members.Member.{Member}
use Rattle.mintc_certificate.specs.declared.members.Member.TheVariants as member
use Rattle.mintc_certificate.specs.Valid.{link_of}
use Rattle.mintc_report.specs.Answers.{AppendsLines, IsLineOfTwo, IsLowestOf}
use Rattle.mintc_report.specs.Reports.{ArePhaseLines, phase_line, IsLateLine, AreLateLines, late_line, IsLeastReport, cycle_line, chain_lines, amount_words, member_names, member_line, member_lines, later_arcs, through_line}
use Rattle.mintc_report.proofs.AnswerLaws.{AppendsLines-more, IsLineOfTwo-lowest, IsWordOf-lowest}

-- ---- the phases and the elements

-- the line of a phase is appended to the lines of those before it
pub phases_more : (names : List (List ℕ)) (s : Schedule) (n : ℕ) (old now new name other : List ℕ) (f g : Ratio) →
    AppendsLines (ArePhaseLines names s n) old now → n < length names → name ≡ get_or names n other →
    IsLowestOf (get_or s.starts n (pos 0)) s.den f → IsLowestOf (get_or s.widths n (pos 0)) s.den g →
    new ≡ now ++ ended (phase_line name (fraction_word f.num f.den) (fraction_word g.num g.den)) →
    AppendsLines (ArePhaseLines names s (n + 1)) old new
phases_more names s n old now new name other f g before below is a b written =
    let back : n ≡ 1 + n - 1 = omega arith in
    AppendsLines-more _ 1 n (1 + n) old now new _ refl before
    (subst (λ k. IsLineOfTwo (phase_line (get_or names k [])) s.den (get_or s.starts k (pos 0)) (get_or s.widths k (pos 0)) (phase_line (get_or names n []) (fraction_word f.num f.den) (fraction_word g.num g.den))) back
    (IsLineOfTwo-lowest (phase_line (get_or names n [])) s.den (get_or s.starts n (pos 0)) (get_or s.widths n (pos 0)) f g a b))
    (written ∙ ap (λ v. now ++ ended (phase_line v (fraction_word f.num f.den) (fraction_word g.num g.den))) (is ∙ get_or_default names n other [] below))

-- the line of an element is appended to the lines of those before it
pub late_more : (elements : List Element) (den : ℤ) (late : List ℤ) (n : ℕ) (old now new name : List ℕ) (other : Element) (f : Ratio) →
    AppendsLines (AreLateLines elements den late n) old now → n < length elements → name ≡ (get_or elements n other).name →
    IsLowestOf (departure late n) den f → new ≡ now ++ ended (late_line name (fraction_word f.num f.den)) →
    AppendsLines (AreLateLines elements den late (n + 1)) old new
late_more elements den late n old now new name other f before below is a written =
    let line = late_line name (fraction_word f.num f.den) in
    let same : name ≡ (get_or elements n no_element).name = is ∙ ap (λ (e : Element). e.name) (get_or_default elements n other no_element below) in
    let is_line : IsLateLine den (get_or elements n no_element).name (departure late n) line = record {
      late_word = fraction_word f.num f.den;
      is_late = IsWordOf-lowest (departure late n) den f a;
      written = ap (λ v. late_line v (fraction_word f.num f.den)) same;
    } in
    AppendsLines-more _ 0 n n old now new line (omega arith) before is_line written

-- ---- the members

-- a member has a kind
names_some : (t : Timing) (m : Member) → 0 < length (member_names t.flat m)
names_some t (member.Start p) = omega arith
names_some t m = omega arith

-- a line that is written as some words, others after them, and its line feed
line_written : (old begun all front back : List ℕ) → begun ≡ old ++ front → all ≡ begun ++ (back ++ 10 ∷ []) → all ≡ old ++ ended (front ++ back)
line_written old begun all front back e f = rw (f, e) (simp append_assoc)

lines_written : (old begun all first rest : List ℕ) → begun ≡ old ++ first → all ≡ begun ++ rest → all ≡ old ++ (first ++ rest)
lines_written old begun all first rest e f = rw (f, e) (append_assoc old first rest)

-- a member is written as what it names, its amounts, and the bits on its path
pub member_written : (t : Timing) (m : Member) (old begun first all : List ℕ) → begun ≡ old ++ words (member_names t.flat m) →
    first ≡ begun ++ (spaced (amount_words (link_of t.flat m).delay (pos (link_of t.flat m).cycles)) ++ 10 ∷ []) →
    all ≡ first ++ text_of (map (through_line t.flat) (later_arcs m)) → all ≡ old ++ text_of (member_lines t.flat m)
member_written t m old begun first all e f g =
    let amounts : List (List ℕ) = amount_words (link_of t.flat m).delay (pos (link_of t.flat m).cycles) in
    let line : first ≡ old ++ ended (member_line t.flat m) =
    line_written old begun first (words (member_names t.flat m)) (spaced amounts) e f ∙ ap (λ v. old ++ ended v) (sym (words-append (member_names t.flat m) amounts (names_some t m))) in
    lines_written old first all (ended (member_line t.flat m)) (text_of (map (through_line t.flat) (later_arcs m))) line g

-- ---- the whole report

-- a text that is written in four parts
whole_written : (cycle : List ℕ) (phases lates chain : List (List ℕ)) (none first second third text : List ℕ) → none ≡ [] →
    first ≡ none ++ ended cycle → second ≡ first ++ text_of phases → third ≡ second ++ text_of lates → text ≡ third ++ text_of chain →
    text ≡ text_of (cycle ∷ phases ++ lates ++ chain)
whole_written cycle phases lates chain none first second third text n e f g h =
    let parts : text_of (cycle ∷ phases ++ lates ++ chain) ≡ ((ended cycle ++ text_of phases) ++ text_of lates) ++ text_of chain =
    flat_map-append ended (cycle ∷ phases ++ lates) chain ∙ ap (λ v. v ++ text_of chain)
    (flat_map-append ended (cycle ∷ phases) lates ∙ refl) in
    h ∙ ap (λ v. v ++ text_of chain) (g ∙ ap (λ v. v ++ text_of lates) (f ∙ ap (λ v. v ++ text_of phases) (e ∙ ap (λ v. v ++ ended cycle) n))) ∙ sym parts

-- a report is written as its cycle time, its phases, its elements and its chain
pub least_written : (t : Timing) (s : Schedule) (d : List ℤ) (chain : List Member) (f : Ratio) (names : List (List ℕ)) (elements : List Element) (none first second third fourth text : List ℕ) →
    IsLowestOf s.cycle s.den f → names ≡ t.flat.phases → elements ≡ t.flat.elements → none ≡ [] → first ≡ none ++ ended (cycle_line (fraction_word f.num f.den)) →
    AppendsLines (ArePhaseLines names s (length names)) first second → AppendsLines (AreLateLines elements s.den d (length elements)) second third →
    fourth ≡ third ++ text_of (chain_lines t.flat chain) → text ≡ fourth → IsLeastReport t.flat s d chain text
least_written t s d chain f names elements none first second third fourth text cycle names_are elements_are n e phases lates g h =
    let p : AppendsLines (ArePhaseLines t.flat.phases s (phase_count t.flat)) first second = subst (λ v. AppendsLines (ArePhaseLines v s (length v)) first second) names_are phases in
    let l : AppendsLines (AreLateLines t.flat.elements s.den d (element_count t.flat)) second third =
    subst (λ v. AppendsLines (AreLateLines v s.den d (length v)) second third) elements_are lates in
    record {
      cycle_word = fraction_word f.num f.den;
      phase_lines = p.lines;
      late_lines = l.lines;
      is_cycle = IsWordOf-lowest s.cycle s.den f cycle;
      phases = p.are_lines;
      elements = l.are_lines;
      whole = whole_written (cycle_line (fraction_word f.num f.den)) p.lines l.lines (chain_lines t.flat chain) none first second third text n e p.appended l.appended (h ∙ g);
    }
