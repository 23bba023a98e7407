-- One design, and none beside a refusal.
use Rattle.std.proofs.Common.{◌≡◌, ℕ, suc, length, Bool, List, [], ◌∷◌, ◌++◌, Option, Some, None, refl, sym, ap, ◌∙◌, subst, arith}
use Rattle.std.specs.List.{AllZip}
use Rattle.mintc_text.specs.declared.limits.Most.{Most}
use Rattle.mintc_text.specs.declared.refusals.Refusal.{Refusal}
use Rattle.mintc_text.specs.declared.refusals.Refusal.TheVariants as refusal
use Rattle.mintc_text.specs.declared.refusals.Role.TheVariants as role
use Rattle.mintc_flatten_hierarchy.specs.declared.hierarchy.Hierarchy.{Hierarchy}
use Rattle.mintc_clock.specs.declared.clock.Clock.{Clock}
use Rattle.mintc_sdf.specs.declared.delays.Delay.{Delay}
use Rattle.mintc_timing.specs.Design.{Design}
use Rattle.mintc_timing.specs.Limits.{limit_of}
use Rattle.mintc_annotate.specs.declared.searching.Spot.{Spot}
use Rattle.mintc_flatten_hierarchy.specs.Shape.{CellTable}
use Rattle.mintc_annotate_resolve.specs.Pins.{leaf_cell}
use Rattle.mintc_annotate.specs.ClockPorts.{has_ports, first_false, IsPortRefusal}
use Rattle.mintc_annotate.specs.Phases.{storage, drives, EndsAt, first_at, phase_spots, IsPhaseOf, IsFirstUntraced}
use Rattle.mintc_annotate.specs.Made.{design_made, IsMade, IsAnnotated, IsAnnotateRefusal, no_port, annotates_nothing, no_phase, too_many}
use Rattle.mintc_annotate_resolve.specs.Resolution.{first_refusal}
use Rattle.mintc_annotate.specs.Laws.{DesignsAreDetermined, DesignsAreNotRefused, AnnotateRefusalsAreDetermined}
use Rattle.mintc_annotate.proofs.SharedTraceLaws.{one_start, one_end}

pub one_of : {A : Type 0} (o : Option A) (x y : A) → o ≡ Some x → o ≡ Some y → x ≡ y
one_of o x y a b = cc

pub none_or : {A : Type 0} (o : Option A) (x : A) → o ≡ None → o ≡ Some x → ⊥
none_or o x a b = absurd (cc)

-- a latch or flop has one phase
one_phase : (h : Hierarchy) (cells : CellTable) (spots : List Spot) (l p q : ℕ) → IsPhaseOf h cells spots l p → IsPhaseOf h cells spots l q → p ≡ q
one_phase h cells spots l p q a b =
    let start : b.start ≡ a.start = one_start h l (leaf_cell h cells l) b.start a.start b.starts a.starts in
    let end : a.end ≡ b.end = one_end (drives h cells) a.steps b.steps a.start a.end b.end a.ends (subst (λ (s : Spot). EndsAt (drives h cells) b.steps s b.end) start b.ends) in
    one_of (first_at 1 spots b.end) p q (ap (first_at 1 spots) (sym end) ∙ a.found) b.found

pub one_list : (h : Hierarchy) (cells : CellTable) (spots : List Spot) (ls ps qs : List ℕ) → AllZip (IsPhaseOf h cells spots) ls ps → AllZip (IsPhaseOf h cells spots) ls qs → ps ≡ qs
one_list h cells spots [] [] [] a b = refl
one_list h cells spots (l ∷ ls) (p ∷ ps) (q ∷ qs) a b = ap (λ x. x ∷ ps) (one_phase h cells spots l p q a.0 b.0) ∙ ap (λ xs. q ∷ xs) (one_list h cells spots ls ps qs a.1 b.1)
one_list h cells spots _ _ [] a b = absurd (grind arith)
one_list h cells spots _ _ (q ∷ qs) a b = absurd (grind arith)

one_made : (h : Hierarchy) (cells : CellTable) (clock : Clock) (delays : List Delay) (design other : Design) → IsMade h cells clock delays design → IsMade h cells clock delays other → design ≡ other
one_made h cells clock delays design other a b =
    a.made ∙ ap (design_made h cells clock delays) (one_list h cells (phase_spots h clock) (storage h cells) a.phases b.phases a.traced b.traced) ∙ sym b.made

pub determined_lem : DesignsAreDetermined
determined_lem most h cells clock delays design other a b = one_made h cells clock delays design other a.whole b.whole

-- where all are traced, each is
pub each_traced : (h : Hierarchy) (cells : CellTable) (spots : List Spot) (before : List ℕ) (l : ℕ) (after ps : List ℕ) → AllZip (IsPhaseOf h cells spots) (before ++ l ∷ after) ps → (p : ℕ) × IsPhaseOf h cells spots l p
each_traced h cells spots [] l after (p ∷ ps) a = (p, a.0)
each_traced h cells spots (b ∷ before) l after (p ∷ ps) a = each_traced h cells spots before l after ps a.1
each_traced h cells spots _ l after _ a = absurd a

untraced_or_made : (h : Hierarchy) (cells : CellTable) (clock : Clock) (delays : List Delay) (design : Design) (e : ℕ) → IsMade h cells clock delays design → IsFirstUntraced h cells (phase_spots h clock) e → ⊥
untraced_or_made h cells clock delays design e made untraced =
    let traced = each_traced h cells (phase_spots h clock) untraced.before untraced.leaf untraced.after made.phases (subst (λ (l : List ℕ). AllZip (IsPhaseOf h cells (phase_spots h clock)) l made.phases) untraced.whole made.traced) in
    untraced.none traced.0 traced.1

pub no_port_refusal : (tests : List Bool) (refused : Refusal) → first_false tests ≡ None → IsPortRefusal tests refused → ⊥
no_port_refusal tests (refusal.NoInstance role.Clock entry) none h = none_or (first_false tests) entry none h
no_port_refusal tests _ none h = h

refused_or_made : (most : Most) (h : Hierarchy) (cells : CellTable) (clock : Clock) (delays : List Delay) (design : Design) (refused : Refusal) → IsAnnotated most h cells clock delays design → IsAnnotateRefusal most h cells clock delays refused → ⊥
refused_or_made most h cells clock delays design refused a (no_port port) = no_port_refusal (has_ports h clock) refused a.whole.ports port
refused_or_made most h cells clock delays design refused a (annotates_nothing ports annotates) = none_or (first_refusal h cells delays) refused a.whole.annotates annotates
refused_or_made most h cells clock delays design refused a (no_phase ports annotates e same untraced) = untraced_or_made h cells clock delays design e a.whole untraced
refused_or_made most h cells clock delays design refused a (too_many other made over) =
    none_or (limit_of most other) refused (subst (λ (d : Design). limit_of most d ≡ None) (one_made h cells clock delays design other a.whole made) a.within) over

pub not_refused_lem : DesignsAreNotRefused
not_refused_lem = refused_or_made

-- the first without a phase is one: those before it have theirs
same_place : (h : Hierarchy) (cells : CellTable) (spots : List Spot) (l m : ℕ) (xs ys after others ps qs : List ℕ) → xs ++ l ∷ after ≡ ys ++ m ∷ others → AllZip (IsPhaseOf h cells spots) xs ps → AllZip (IsPhaseOf h cells spots) ys qs →
    ((p : ℕ) → IsPhaseOf h cells spots l p → ⊥) → ((p : ℕ) → IsPhaseOf h cells spots m p → ⊥) → length xs ≡ length ys
same_place h cells spots l m [] [] after others ps qs e a b none other = refl
same_place h cells spots l m [] (y ∷ ys) after others ps (q ∷ qs) e a b none other = let same : y ≡ l = cc in absurd (none q (subst (λ (x : ℕ). IsPhaseOf h cells spots x q) same b.0))
same_place h cells spots l m (x ∷ xs) [] after others (p ∷ ps) qs e a b none other = let same : x ≡ m = cc in absurd (other p (subst (λ (y : ℕ). IsPhaseOf h cells spots y p) same a.0))
same_place h cells spots l m (x ∷ xs) (y ∷ ys) after others (p ∷ ps) (q ∷ qs) e a b none other =
    let rest : xs ++ l ∷ after ≡ ys ++ m ∷ others = cc in
    ap suc (same_place h cells spots l m xs ys after others ps qs rest a.1 b.1 none other)
same_place h cells spots l m _ (y ∷ ys) after others ps [] e a b none other = absurd b
same_place h cells spots l m (x ∷ xs) _ after others [] qs e a b none other = absurd a

pub one_untraced : (h : Hierarchy) (cells : CellTable) (spots : List Spot) (e f : ℕ) → IsFirstUntraced h cells spots e → IsFirstUntraced h cells spots f → e ≡ f
one_untraced h cells spots e f a b =
    a.count ∙ same_place h cells spots a.leaf b.leaf a.before b.before a.after b.after a.phases b.phases (sym a.whole ∙ b.whole) a.traced b.traced a.none b.none ∙ sym b.count

pub one_port : (tests : List Bool) (refused other : Refusal) → IsPortRefusal tests refused → IsPortRefusal tests other → refused ≡ other
one_port tests (refusal.NoInstance role.Clock entry) (refusal.NoInstance role.Clock number) a b = ap (λ (n : ℕ). refusal.NoInstance role.Clock n) (one_of (first_false tests) entry number a b)
one_port tests (refusal.NoInstance role.Clock entry) _ a b = absurd b
one_port tests _ other a b = absurd a

one_refusal : (most : Most) (h : Hierarchy) (cells : CellTable) (clock : Clock) (delays : List Delay) (refused other : Refusal) → IsAnnotateRefusal most h cells clock delays refused → IsAnnotateRefusal most h cells clock delays other → refused ≡ other
one_refusal most h cells clock delays refused other (no_port a) (no_port b) = one_port (has_ports h clock) refused other a b
one_refusal most h cells clock delays refused other (no_port a) (annotates_nothing ports b) = absurd (no_port_refusal (has_ports h clock) refused ports a)
one_refusal most h cells clock delays refused other (no_port a) (no_phase ports annotates e same b) = absurd (no_port_refusal (has_ports h clock) refused ports a)
one_refusal most h cells clock delays refused other (no_port a) (too_many design made over) = absurd (no_port_refusal (has_ports h clock) refused made.ports a)
one_refusal most h cells clock delays refused other (annotates_nothing ports a) (no_port b) = absurd (no_port_refusal (has_ports h clock) other ports b)
one_refusal most h cells clock delays refused other (annotates_nothing ports a) (annotates_nothing others b) = one_of (first_refusal h cells delays) refused other a b
one_refusal most h cells clock delays refused other (annotates_nothing ports a) (no_phase others annotates e same b) = absurd (none_or (first_refusal h cells delays) refused annotates a)
one_refusal most h cells clock delays refused other (annotates_nothing ports a) (too_many design made over) = absurd (none_or (first_refusal h cells delays) refused made.annotates a)
one_refusal most h cells clock delays refused other (no_phase ports annotates e same a) (no_port b) = absurd (no_port_refusal (has_ports h clock) other ports b)
one_refusal most h cells clock delays refused other (no_phase ports annotates e same a) (annotates_nothing others b) = absurd (none_or (first_refusal h cells delays) other annotates b)
one_refusal most h cells clock delays refused other (no_phase ports annotates e same a) (no_phase others annotates_too f same_too b) =
    same ∙ ap refusal.NoPhase (one_untraced h cells (phase_spots h clock) e f a b) ∙ sym same_too
one_refusal most h cells clock delays refused other (no_phase ports annotates e same a) (too_many design made over) = absurd (untraced_or_made h cells clock delays design e made a)
one_refusal most h cells clock delays refused other (too_many design made over) (no_port b) = absurd (no_port_refusal (has_ports h clock) other made.ports b)
one_refusal most h cells clock delays refused other (too_many design made over) (annotates_nothing others b) = absurd (none_or (first_refusal h cells delays) other made.annotates b)
one_refusal most h cells clock delays refused other (too_many design made over) (no_phase others annotates e same b) = absurd (untraced_or_made h cells clock delays design e made b)
one_refusal most h cells clock delays refused other (too_many design made over) (too_many design_too made_too over_too) =
    one_of (limit_of most design) refused other over (ap (limit_of most) (one_made h cells clock delays design design_too made made_too) ∙ over_too)

pub one_refusal_lem : AnnotateRefusalsAreDetermined
one_refusal_lem = one_refusal
