-- A text of a table has the lines of its design, part by part.
use Rattle.std.proofs.Common.{◌≡◌, ◌≤◌, ℕ, zero, suc, List, [], ◌∷◌, ◌++◌, length, refl, ap, ◌∙◌, sym, subst, codes, append_assoc, arith}
use Rattle.std.proofs.lemmas.List.{append-nil}
use Rattle.std.specs.List.{AllZip}
use Rattle.mintc_text.specs.Lines.{Follows, text_of, words}
use Rattle.mintc_text.specs.declared.limits.TheConstants.{MOST_COUNT}
use Rattle.mintc_timing.specs.Design.{Design, design_of}
use Rattle.mintc_timing.specs.declared.parts.Element.{Element}
use Rattle.mintc_timing.specs.declared.parts.TimingArc.{TimingArc}
use Rattle.mintc_timing.specs.declared.parts.Bound.{Bound}
use Rattle.mintc_timing_text.specs.declared.table_lines.Version.{Version}
use Rattle.mintc_timing_text.specs.declared.table_lines.Version.TheVariants.{Latches, Flops, Openings}
use Rattle.mintc_timing_text.specs.Fields.{Spells, IsNameLine, IsCountLine}
use Rattle.mintc_timing_text.specs.LineForms.{count_line}
use Rattle.mintc_timing_text.specs.TableForms.{version_number, HasCounts, AreTableLines}
use Rattle.mintc_timing_text.specs.TableText.{NextOfTable, IsTableText, TableLines, first, phases, phase, element, arcs, arc, bound, whole, empty, version_of, IsElementLine, IsArcLine, IsBoundLine, inner_names}
use Rattle.mintc_timing_text.specs.TextLaws.{TableTextsAreTheirLines}
use Rattle.mintc_timing_text.proofs.SharedReadingLaws.{Follows-append}
use Rattle.mintc_timing_text.proofs.TableReading.{length-inner_names}

abbrev Leads : TableLines → List (List ℕ) → TableLines → Type 0
Leads a lines b = Follows NextOfTable a lines b

-- ---- from lines to a text: a line for each item of a list leads from as many that are left to none
parts_lead : {X : Type 0} (st : ℕ → List X → TableLines) (P : X → List ℕ → Type 0) →
    ((left : ℕ) (so : List X) (x : X) (line : List ℕ) → P x line → NextOfTable (st (suc left) so) line (st left (so ++ x ∷ []))) →
    (so xs : List X) (lines : List (List ℕ)) → AllZip P xs lines → Leads (st (length xs) so) lines (st 0 (so ++ xs))
parts_lead st P leads so [] [] h = ap (st 0) (sym (append-nil so))
parts_lead st P leads so [] (line ∷ lines) h = absurd h
parts_lead st P leads so (x ∷ xs) [] h = absurd h
parts_lead {X} st P leads so (x ∷ xs) (line ∷ lines) h =
    let rest = parts_lead st P leads (so ++ x ∷ []) xs lines h.1 in
    let all = subst (λ (ys : List X). Leads (st (length xs) (so ++ x ∷ [])) lines (st 0 ys)) (append_assoc so (x ∷ []) xs) rest in
    (st (length xs) (so ++ x ∷ []), leads (length xs) so x line h.0, all)

-- ---- from a text to lines
record Parts {X : Type 0} (st : ℕ → List X → TableLines) (P : X → List ℕ → Type 0) (n : ℕ) (so : List X) (lines : List (List ℕ)) (d : Design) : Type 0 where
  items : List X
  front : List (List ℕ)
  back : List (List ℕ)
  joined : lines ≡ front ++ back
  many : length items ≡ n
  each : AllZip P items front
  behind : Leads (st 0 (so ++ items)) back (whole d)

parts_of : {X : Type 0} (st : ℕ → List X → TableLines) (P : X → List ℕ → Type 0) →
    ((left : ℕ) (so : List X) (line : List ℕ) (b : TableLines) → NextOfTable (st (suc left) so) line b → (x : X) × P x line × (b ≡ st left (so ++ x ∷ []))) →
    ((left : ℕ) (so : List X) (d : Design) → st (suc left) so ≡ whole d → ⊥) →
    (n : ℕ) (so : List X) (lines : List (List ℕ)) (d : Design) → Leads (st n so) lines (whole d) → Parts st P n so lines d
parts_of {X} st P steps apart zero so lines d h =
    record { items = []; front = []; back = lines; joined = refl; many = refl; each = tt; behind = subst (λ (ys : List X). Leads (st 0 ys) lines (whole d)) (sym (append-nil so)) h }
parts_of st P steps apart (suc left) so [] d h = absurd (apart left so d h)
parts_of {X} st P steps apart (suc left) so (line ∷ lines) d h =
    let s = steps left so line h.0 h.1 in
    let next = subst (λ (c : TableLines). Leads c lines (whole d)) s.2 h.2 in
    let more = parts_of st P steps apart left (so ++ s.0 ∷ []) lines d next in
    record {
      items = s.0 ∷ more.items;
      front = line ∷ more.front;
      back = more.back;
      joined = ap (λ (l : List (List ℕ)). line ∷ l) more.joined;
      many = ap suc more.many;
      each = (s.1, more.each);
      behind = subst (λ (ys : List X). Leads (st 0 ys) more.back (whole d)) (append_assoc so (s.0 ∷ []) more.items) more.behind;
    }

counted : (word : List ℕ) (least most n : ℕ) (line : List ℕ) → Spells (IsCountLine word least most) n line → line ≡ count_line word n
counted word least most n line h = h.2 ∙ ap words h.1.2

number_back : (n : ℕ) → 1 ≤ n → n ≤ 3 → version_number (version_of n) ≡ n
number_back zero low high = absurd (omega (arith, low))
number_back (suc zero) low high = refl
number_back (suc (suc zero)) low high = refl
number_back (suc (suc (suc zero))) low high = refl
number_back (suc (suc (suc (suc n)))) low high = absurd (omega (arith, high))

version_back : (v : Version) → version_of (version_number v) ≡ v
version_back Latches = refl
version_back Flops = refl
version_back Openings = refl

-- no state but the last is the last
first_apart : (d : Design) → first ≡ whole d → ⊥
first_apart d e = cc e

phases_apart : (v : Version) (d : Design) → phases v ≡ whole d → ⊥
phases_apart v d e = cc e

phase_apart : (v : Version) (left : ℕ) (b d : Design) → phase v left b ≡ whole d → ⊥
phase_apart v left b d e = cc e

element_apart : (v : Version) (left : ℕ) (b d : Design) → element v left b ≡ whole d → ⊥
element_apart v left b d e = cc e

arcs_apart : (b d : Design) → arcs b ≡ whole d → ⊥
arcs_apart b d e = cc e

arc_apart : (left : ℕ) (b d : Design) → arc left b ≡ whole d → ⊥
arc_apart left b d e = cc e

bound_apart : (left : ℕ) (b d : Design) → bound left b ≡ whole d → ⊥
bound_apart left b d e = cc e

ended : (b d : Design) (lines : List (List ℕ)) → Leads (whole b) lines (whole d) → (lines ≡ []) × (b ≡ d)
ended b d [] h = (refl, cc h)
ended b d (line ∷ lines) h = absurd h.1

-- a count and a line for each item
record Counted {X : Type 0} (st : ℕ → List X → TableLines) (P : X → List ℕ → Type 0) (word : List ℕ) (least : ℕ) (lines : List (List ℕ)) (d : Design) : Type 0 where
  items : List X
  front : List (List ℕ)
  rest : List (List ℕ)
  whole_is : lines ≡ count_line word (length items) ∷ front ++ rest
  low : least ≤ length items
  high : length items ≤ MOST_COUNT
  each : AllZip P items front
  behind : Leads (st 0 items) rest (whole d)

counted_of : {X : Type 0} (st : ℕ → List X → TableLines) (P : X → List ℕ → Type 0) (word : List ℕ) (least : ℕ) (a : TableLines) →
    ((line : List ℕ) (b : TableLines) → NextOfTable a line b → (n : ℕ) × Spells (IsCountLine word least MOST_COUNT) n line × (b ≡ st n [])) →
    ((left : ℕ) (so : List X) (line : List ℕ) (b : TableLines) → NextOfTable (st (suc left) so) line b → (x : X) × P x line × (b ≡ st left (so ++ x ∷ []))) →
    ((left : ℕ) (so : List X) (d : Design) → st (suc left) so ≡ whole d → ⊥) →
    (lines : List (List ℕ)) (d : Design) → (a ≡ whole d → ⊥) → Leads a lines (whole d) → Counted st P word least lines d
counted_of st P word least a starts steps apart [] d first_is h = absurd (first_is h)
counted_of {X} st P word least a starts steps apart (line ∷ lines) d first_is h = made (starts line h.0 h.1)
  where
    made : ((n : ℕ) × Spells (IsCountLine word least MOST_COUNT) n line × (h.0 ≡ st n [])) → Counted st P word least (line ∷ lines) d
    made (n, spelled, e) = from (parts_of st P steps apart n [] lines d (subst (λ (c : TableLines). Leads c lines (whole d)) e h.2))
      where
        from : Parts st P n [] lines d → Counted st P word least (line ∷ lines) d
        from p = record {
          items = p.items;
          front = p.front;
          rest = p.back;
          whole_is = rw (counted word least MOST_COUNT n line spelled, p.joined, p.many) refl;
          low = rw p.many spelled.1.0;
          high = rw p.many spelled.1.1;
          each = p.each;
          behind = p.behind;
        }

record BoundLines (P : List (List ℕ)) (E : List Element) (I : List (List ℕ)) (A : List TimingArc) (lines : List (List ℕ)) (d : Design) : Type 0 where
  items : List Bound
  front : List (List ℕ)
  whole_is : lines ≡ count_line (codes "bounds") (length items) ∷ front ++ codes "end" ∷ []
  high : length items ≤ MOST_COUNT
  each : AllZip (Spells (IsBoundLine (length P))) items front
  made : design_of P E I A items ≡ d

last_line : (b d : Design) (lines : List (List ℕ)) → Leads (bound 0 b) lines (whole d) → (lines ≡ codes "end" ∷ []) × (b ≡ d)
last_line b d [] h = absurd (bound_apart 0 b d h)
last_line b d (line ∷ lines) (c, step, rest) = by (ended b d lines (subst (λ (x : TableLines). Leads x lines (whole d)) step.2 rest))
  where
    by : ((lines ≡ []) × (b ≡ d)) → (line ∷ lines ≡ codes "end" ∷ []) × (b ≡ d)
    by g = (rw (step.1.2 ∙ ap words step.1.1, g.0) refl, g.1)

bound_lines : (P : List (List ℕ)) (E : List Element) (I : List (List ℕ)) (A : List TimingArc) (lines : List (List ℕ)) (d : Design) →
    Leads (arc 0 (design_of P E I A [])) lines (whole d) → BoundLines P E I A lines d
bound_lines P E I A lines d h =
    by (counted_of (λ (left : ℕ) (xs : List Bound). bound left (design_of P E I A xs)) (Spells (IsBoundLine (length P))) (codes "bounds") 0 (arc 0 (design_of P E I A []))
    (λ line b g. g) (λ left so line b g. g) (λ left so e. bound_apart (suc left) (design_of P E I A so) e) lines d (arc_apart 0 (design_of P E I A []) d) h)
  where
    by : Counted (λ (left : ℕ) (xs : List Bound). bound left (design_of P E I A xs)) (Spells (IsBoundLine (length P))) (codes "bounds") 0 lines d → BoundLines P E I A lines d
    by p = to (last_line (design_of P E I A p.items) d p.rest p.behind)
      where
        to : ((p.rest ≡ codes "end" ∷ []) × (design_of P E I A p.items ≡ d)) → BoundLines P E I A lines d
        to e = record {
          items = p.items;
          front = p.front;
          whole_is = p.whole_is ∙ ap (λ (l : List (List ℕ)). count_line (codes "bounds") (length p.items) ∷ p.front ++ l) e.0;
          high = p.high;
          each = p.each;
          made = e.1;
        }

record ArcLines (P : List (List ℕ)) (E : List Element) (I : List (List ℕ)) (lines : List (List ℕ)) (d : Design) : Type 0 where
  items : List TimingArc
  front : List (List ℕ)
  rest : List (List ℕ)
  whole_is : lines ≡ count_line (codes "arcs") (length items) ∷ front ++ rest
  high : length items ≤ MOST_COUNT
  each : AllZip (Spells (IsArcLine (length E) (length I))) items front
  behind : BoundLines P E I items rest d

arc_lines : (P : List (List ℕ)) (E : List Element) (I : List (List ℕ)) (lines : List (List ℕ)) (d : Design) → Leads (arcs (design_of P E I [] [])) lines (whole d) → ArcLines P E I lines d
arc_lines P E I lines d h =
    by (counted_of (λ (left : ℕ) (xs : List TimingArc). arc left (design_of P E I xs [])) (Spells (IsArcLine (length E) (length I))) (codes "arcs") 0 (arcs (design_of P E I [] []))
    (λ line b g. g) (λ left so line b g. g) (λ left so e. arc_apart (suc left) (design_of P E I so []) e) lines d (arcs_apart (design_of P E I [] []) d) h)
  where
    by : Counted (λ (left : ℕ) (xs : List TimingArc). arc left (design_of P E I xs [])) (Spells (IsArcLine (length E) (length I))) (codes "arcs") 0 lines d → ArcLines P E I lines d
    by p = record { items = p.items; front = p.front; rest = p.rest; whole_is = p.whole_is; high = p.high; each = p.each; behind = bound_lines P E I p.items p.rest d p.behind }

record InnerLines (P : List (List ℕ)) (E : List Element) (lines : List (List ℕ)) (d : Design) : Type 0 where
  count : ℕ
  rest : List (List ℕ)
  whole_is : lines ≡ count_line (codes "inner") count ∷ rest
  high : count ≤ MOST_COUNT
  behind : ArcLines P E (inner_names count) rest d

inner_lines : (v : Version) (P : List (List ℕ)) (E : List Element) (lines : List (List ℕ)) (d : Design) → Leads (element v 0 (design_of P E [] [] [])) lines (whole d) → InnerLines P E lines d
inner_lines v P E [] d h = absurd (element_apart v 0 (design_of P E [] [] []) d h)
inner_lines v P E (line ∷ lines) d (b, step, rest) = record {
  count = step.0;
  rest = lines;
  whole_is = ap (λ (l : List ℕ). l ∷ lines) (counted (codes "inner") 0 MOST_COUNT step.0 line step.1);
  high = step.1.1.1;
  behind = arc_lines P E (inner_names step.0) lines d (subst (λ (c : TableLines). Leads c lines (whole d)) step.2 rest);
}

record ElementLines (v : Version) (P : List (List ℕ)) (lines : List (List ℕ)) (d : Design) : Type 0 where
  items : List Element
  front : List (List ℕ)
  rest : List (List ℕ)
  whole_is : lines ≡ count_line (codes "elements") (length items) ∷ front ++ rest
  high : length items ≤ MOST_COUNT
  each : AllZip (Spells (IsElementLine v (length P))) items front
  behind : InnerLines P items rest d

element_lines : (v : Version) (P : List (List ℕ)) (lines : List (List ℕ)) (d : Design) → Leads (phase v 0 (design_of P [] [] [] [])) lines (whole d) → ElementLines v P lines d
element_lines v P lines d h =
    by (counted_of (λ (left : ℕ) (xs : List Element). element v left (design_of P xs [] [] [])) (Spells (IsElementLine v (length P))) (codes "elements") 0 (phase v 0 (design_of P [] [] [] []))
    (λ line b g. g) (λ left so line b g. g) (λ left so e. element_apart v (suc left) (design_of P so [] [] []) e) lines d (phase_apart v 0 (design_of P [] [] [] []) d) h)
  where
    by : Counted (λ (left : ℕ) (xs : List Element). element v left (design_of P xs [] [] [])) (Spells (IsElementLine v (length P))) (codes "elements") 0 lines d → ElementLines v P lines d
    by p = record { items = p.items; front = p.front; rest = p.rest; whole_is = p.whole_is; high = p.high; each = p.each; behind = inner_lines v P p.items p.rest d p.behind }

record PhaseLines (v : Version) (lines : List (List ℕ)) (d : Design) : Type 0 where
  items : List (List ℕ)
  front : List (List ℕ)
  rest : List (List ℕ)
  whole_is : lines ≡ count_line (codes "phases") (length items) ∷ front ++ rest
  low : 1 ≤ length items
  high : length items ≤ MOST_COUNT
  each : AllZip (Spells (IsNameLine (codes "phase"))) items front
  behind : ElementLines v items rest d

phase_lines : (v : Version) (lines : List (List ℕ)) (d : Design) → Leads (phases v) lines (whole d) → PhaseLines v lines d
phase_lines v lines d h =
    by (counted_of (λ (left : ℕ) (xs : List (List ℕ)). phase v left (design_of xs [] [] [] [])) (Spells (IsNameLine (codes "phase"))) (codes "phases") 1 (phases v)
    (λ line b g. g) (λ left so line b g. g) (λ left so e. phase_apart v (suc left) (design_of so [] [] [] []) e) lines d (phases_apart v d) h)
  where
    by : Counted (λ (left : ℕ) (xs : List (List ℕ)). phase v left (design_of xs [] [] [] [])) (Spells (IsNameLine (codes "phase"))) (codes "phases") 1 lines d → PhaseLines v lines d
    by p = record { items = p.items; front = p.front; rest = p.rest; whole_is = p.whole_is; low = p.low; high = p.high; each = p.each; behind = element_lines v p.items p.rest d p.behind }

-- all parts together
joined_lines : (v : Version) (line : List ℕ) (lines : List (List ℕ)) (d : Design) → line ≡ count_line (codes "table") (version_number v) → (p : PhaseLines v lines d) →
    AreTableLines v (design_of p.items p.behind.items (inner_names p.behind.behind.count) p.behind.behind.behind.items p.behind.behind.behind.behind.items) (line ∷ lines)
joined_lines v line lines d begins p =
    let size = length-inner_names p.behind.behind.count in
    record {
      counts = record {
        some_phase = p.low;
        phases = p.high;
        elements = p.behind.high;
        inner = rw size p.behind.behind.high;
        arcs = p.behind.behind.behind.high;
        bounds = p.behind.behind.behind.behind.high;
      };
      inner = ap inner_names (sym size);
      phases = p.front;
      elements = p.behind.front;
      arcs = p.behind.behind.behind.front;
      bounds = p.behind.behind.behind.behind.front;
      each_phase = p.each;
      each_element = p.behind.each;
      each_arc = p.behind.behind.behind.each;
      each_bound = p.behind.behind.behind.behind.each;
      whole = rw (begins, p.whole_is, p.behind.whole_is, p.behind.behind.whole_is, p.behind.behind.behind.whole_is, p.behind.behind.behind.behind.whole_is, size) refl;
    }

from_lines : (lines : List (List ℕ)) (d : Design) → Leads first lines (whole d) → (v : Version) × AreTableLines v d lines
from_lines [] d h = absurd (first_apart d h)
from_lines (line ∷ lines) d (b, step, rest) = by (phase_lines (version_of step.0) lines d (subst (λ (c : TableLines). Leads c lines (whole d)) step.2 rest))
  where
    begins : line ≡ count_line (codes "table") (version_number (version_of step.0))
    begins = counted (codes "table") 1 3 step.0 line step.1 ∙ ap (count_line (codes "table")) (sym (number_back step.0 step.1.1.0 step.1.1.1))

    by : PhaseLines (version_of step.0) lines d → (v : Version) × AreTableLines v d (line ∷ lines)
    by p = (version_of step.0, subst (λ (x : Design). AreTableLines (version_of step.0) x (line ∷ lines)) p.behind.behind.behind.behind.made (joined_lines (version_of step.0) line lines d begins p))

total_leads : (word : List ℕ) (least n : ℕ) → least ≤ n → n ≤ MOST_COUNT → Spells (IsCountLine word least MOST_COUNT) n (count_line word n)
total_leads word least n low high = (_, (low, high, refl), refl)

version_low : (v : Version) → 1 ≤ version_number v
version_low Latches = omega arith
version_low Flops = omega arith
version_low Openings = omega arith

version_high : (v : Version) → version_number v ≤ 3
version_high Latches = omega arith
version_high Flops = omega arith
version_high Openings = omega arith

begun : (v : Version) → NextOfTable first (count_line (codes "table") (version_number v)) (phases v)
begun v = (version_number v, (_, (version_low v, version_high v, refl), refl), ap phases (sym (version_back v)))

module _ (v : Version) (d : Design) (lines : List (List ℕ)) (h : AreTableLines v d lines) where
  abbrev bound_tail : List (List ℕ)
  bound_tail = count_line (codes "bounds") (length d.bounds) ∷ (h.bounds ++ (codes "end" ∷ []))

  abbrev arc_tail : List (List ℕ)
  arc_tail = count_line (codes "arcs") (length d.arcs) ∷ (h.arcs ++ bound_tail)

  abbrev inner_tail : List (List ℕ)
  inner_tail = count_line (codes "inner") (length d.inner) ∷ arc_tail

  abbrev element_tail : List (List ℕ)
  element_tail = count_line (codes "elements") (length d.elements) ∷ (h.elements ++ inner_tail)

  from_bounds : Leads (arc 0 (design_of d.phases d.elements d.inner d.arcs [])) bound_tail (whole d)
  from_bounds = (
    bound (length d.bounds) (design_of d.phases d.elements d.inner d.arcs []),
    (length d.bounds, total_leads (codes "bounds") 0 (length d.bounds) (omega arith) h.counts.bounds, refl),
    Follows-append NextOfTable (bound (length d.bounds) (design_of d.phases d.elements d.inner d.arcs [])) (bound 0 d) (whole d) h.bounds (codes "end" ∷ [])
        (parts_lead (λ (left : ℕ) (xs : List Bound). bound left (design_of d.phases d.elements d.inner d.arcs xs)) (Spells (IsBoundLine (length d.phases))) (λ left so x line p. (x, p, refl)) [] d.bounds h.bounds h.each_bound)
        (whole d, (tt, (codes "end" ∷ [], refl, refl), refl), refl),
  )

  from_arcs : Leads (arcs (design_of d.phases d.elements d.inner [] [])) arc_tail (whole d)
  from_arcs = (
    arc (length d.arcs) (design_of d.phases d.elements d.inner [] []),
    (length d.arcs, total_leads (codes "arcs") 0 (length d.arcs) (omega arith) h.counts.arcs, refl),
    Follows-append NextOfTable (arc (length d.arcs) (design_of d.phases d.elements d.inner [] [])) (arc 0 (design_of d.phases d.elements d.inner d.arcs [])) (whole d) h.arcs bound_tail
        (parts_lead (λ (left : ℕ) (xs : List TimingArc). arc left (design_of d.phases d.elements d.inner xs [])) (Spells (IsArcLine (length d.elements) (length d.inner))) (λ left so x line p. (x, p, refl)) [] d.arcs h.arcs h.each_arc)
        from_bounds,
  )

  from_inner : Leads (element v 0 (design_of d.phases d.elements [] [] [])) inner_tail (whole d)
  from_inner = (
    arcs (design_of d.phases d.elements d.inner [] []),
    (length d.inner, total_leads (codes "inner") 0 (length d.inner) (omega arith) h.counts.inner, ap (λ (i : List (List ℕ)). arcs (design_of d.phases d.elements i [] [])) h.inner),
    from_arcs,
  )

  from_elements : Leads (phase v 0 (design_of d.phases [] [] [] [])) element_tail (whole d)
  from_elements = (
    element v (length d.elements) (design_of d.phases [] [] [] []),
    (length d.elements, total_leads (codes "elements") 0 (length d.elements) (omega arith) h.counts.elements, refl),
    Follows-append NextOfTable (element v (length d.elements) (design_of d.phases [] [] [] [])) (element v 0 (design_of d.phases d.elements [] [] [])) (whole d) h.elements inner_tail
        (parts_lead (λ (left : ℕ) (xs : List Element). element v left (design_of d.phases xs [] [] [])) (Spells (IsElementLine v (length d.phases))) (λ left so x line p. (x, p, refl)) [] d.elements h.elements h.each_element)
        from_inner,
  )

  from_phases : Leads (phases v) (count_line (codes "phases") (length d.phases) ∷ (h.phases ++ element_tail)) (whole d)
  from_phases = (
    phase v (length d.phases) empty,
    (length d.phases, total_leads (codes "phases") 1 (length d.phases) h.counts.some_phase h.counts.phases, refl),
    Follows-append NextOfTable (phase v (length d.phases) empty) (phase v 0 (design_of d.phases [] [] [] [])) (whole d) h.phases element_tail
        (parts_lead (λ (left : ℕ) (xs : List (List ℕ)). phase v left (design_of xs [] [] [] [])) (Spells (IsNameLine (codes "phase"))) (λ left so x line p. (x, p, refl)) [] d.phases h.phases h.each_phase)
        from_elements,
  )

  to_text : IsTableText (text_of lines) d
  to_text = record {
    lines = lines;
    whole = refl;
    follows = subst (λ (l : List (List ℕ)). Leads first l (whole d)) (sym h.whole) (phases v, begun v, from_phases);
  }

pub are_their_lines : TableTextsAreTheirLines
are_their_lines text d = (
  λ h. let parts = from_lines h.lines d h.follows in (parts.0, h.lines, parts.1, h.whole),
  λ h. subst (λ x. IsTableText x d) (sym h.3) (to_text h.0 d h.1 h.2),
)
