-- One design with edges apart or one refusal, and never both.
use Rattle.std.proofs.Common.{◌≡◌, ◌⊎◌, inl, inr, ℕ, length, List, Option, Some, None, refl, sym, ap, ◌∙◌, subst}
use Rattle.std.specs.List.{AllZip}
use Rattle.mintc_text.specs.declared.limits.Most.{Most}
use Rattle.mintc_text.specs.declared.refusals.Refusal.{Refusal}
use Rattle.mintc_text.specs.declared.refusals.Refusal.TheVariants as refusal
use Rattle.mintc_text.specs.declared.refusals.Role.TheVariants as role
use Rattle.mintc_flatten_hierarchy.specs.declared.hierarchy.Hierarchy.{Hierarchy}
use Rattle.mintc_flatten_hierarchy.specs.Shape.{CellTable}
use Rattle.mintc_clock.specs.declared.clock.Clock.{Clock}
use Rattle.mintc_sdf_edges.specs.declared.delays.EdgeDelay.{EdgeDelay}
use Rattle.mintc_timing.specs.Design.{Design}
use Rattle.mintc_timing.specs.Limits.{limit_of}
use Rattle.mintc_annotate_resolve.specs.Resolution.{first_refusal}
use Rattle.mintc_annotate.specs.ClockPorts.{has_ports, first_false}
use Rattle.mintc_annotate.specs.Phases.{storage, phase_spots, IsPhaseOf, IsFirstUntraced}
use Rattle.mintc_annotate.proofs.SharedDesignLaws.{one_of, none_or, one_list, each_traced, no_port_refusal, one_untraced, one_port}
use Rattle.mintc_annotate.proofs.SharedEachLaws.{Traced, traced, phase_of}
use Rattle.mintc_edges.specs.Numbers.{SenseOf, without_edges}
use Rattle.mintc_edges.specs.Apart.{design_apart, IsApart, IsEdgeDesign, IsEdgeRefusal, no_port, annotates_nothing, no_phase, too_many}
use Rattle.mintc_edges.specs.Laws.{EdgeDesignsAreDetermined, EdgeDesignsAreNotRefused, EdgeRefusalsAreDetermined, HaveEdgeDesignOrRefusal}

module _ (most : Most) (h : Hierarchy) (cells : CellTable) (sense : SenseOf) (clock : Clock) (ds : List EdgeDelay) where
  one_made : (design other : Design) → IsApart h cells sense clock ds design → IsApart h cells sense clock ds other → design ≡ other
  one_made design other a b =
      a.made ∙ ap (design_apart h cells sense clock ds) (one_list h cells (phase_spots h clock) (storage h cells) a.phases b.phases a.traced b.traced) ∙ sym b.made

  untraced_or_made : (design : Design) (e : ℕ) → IsApart h cells sense clock ds design → IsFirstUntraced h cells (phase_spots h clock) e → ⊥
  untraced_or_made design e made untraced =
      let found = each_traced h cells (phase_spots h clock) untraced.before untraced.leaf untraced.after made.phases (subst (λ (l : List ℕ). AllZip (IsPhaseOf h cells (phase_spots h clock)) l made.phases) untraced.whole made.traced) in
      untraced.none found.0 found.1

  pub refused_or_made : (design : Design) (refused : Refusal) → IsEdgeDesign most h cells sense clock ds design → IsEdgeRefusal most h cells sense clock ds refused → ⊥
  refused_or_made design refused a (no_port port) = no_port_refusal (has_ports h clock) refused a.whole.ports port
  refused_or_made design refused a (annotates_nothing ports annotates) = none_or (first_refusal h cells (without_edges ds)) refused a.whole.annotates annotates
  refused_or_made design refused a (no_phase ports annotates e same untraced) = untraced_or_made design e a.whole untraced
  refused_or_made design refused a (too_many other made over) =
      none_or (limit_of most other) refused (subst (λ (d : Design). limit_of most d ≡ None) (one_made design other a.whole made) a.within) over

  pub one_refusal : (refused other : Refusal) → IsEdgeRefusal most h cells sense clock ds refused → IsEdgeRefusal most h cells sense clock ds other → refused ≡ other
  one_refusal refused other (no_port a) (no_port b) = one_port (has_ports h clock) refused other a b
  one_refusal refused other (no_port a) (annotates_nothing ports b) = absurd (no_port_refusal (has_ports h clock) refused ports a)
  one_refusal refused other (no_port a) (no_phase ports annotates e same b) = absurd (no_port_refusal (has_ports h clock) refused ports a)
  one_refusal refused other (no_port a) (too_many design made over) = absurd (no_port_refusal (has_ports h clock) refused made.ports a)
  one_refusal refused other (annotates_nothing ports a) (no_port b) = absurd (no_port_refusal (has_ports h clock) other ports b)
  one_refusal refused other (annotates_nothing ports a) (annotates_nothing others b) = one_of (first_refusal h cells (without_edges ds)) refused other a b
  one_refusal refused other (annotates_nothing ports a) (no_phase others annotates e same b) = absurd (none_or (first_refusal h cells (without_edges ds)) refused annotates a)
  one_refusal refused other (annotates_nothing ports a) (too_many design made over) = absurd (none_or (first_refusal h cells (without_edges ds)) refused made.annotates a)
  one_refusal refused other (no_phase ports annotates e same a) (no_port b) = absurd (no_port_refusal (has_ports h clock) other ports b)
  one_refusal refused other (no_phase ports annotates e same a) (annotates_nothing others b) = absurd (none_or (first_refusal h cells (without_edges ds)) other annotates b)
  one_refusal refused other (no_phase ports annotates e same a) (no_phase others annotates_too f same_too b) =
      same ∙ ap refusal.NoPhase (one_untraced h cells (phase_spots h clock) e f a b) ∙ sym same_too
  one_refusal refused other (no_phase ports annotates e same a) (too_many design made over) = absurd (untraced_or_made design e made a)
  one_refusal refused other (too_many design made over) (no_port b) = absurd (no_port_refusal (has_ports h clock) other made.ports b)
  one_refusal refused other (too_many design made over) (annotates_nothing others b) = absurd (none_or (first_refusal h cells (without_edges ds)) other made.annotates b)
  one_refusal refused other (too_many design made over) (no_phase others annotates e same b) = absurd (untraced_or_made design e made b)
  one_refusal refused other (too_many design made over) (too_many design_too made_too over_too) =
      one_of (limit_of most design) refused other over (ap (limit_of most) (one_made design design_too made made_too) ∙ over_too)

  -- ---- there is the one or the other
  abbrev Answer : Type 0
  Answer = ((design : Design) × IsEdgeDesign most h cells sense clock ds design) ⊎ ((refused : Refusal) × IsEdgeRefusal most h cells sense clock ds refused)

  of_made : (design : Design) (over : Option Refusal) → IsApart h cells sense clock ds design → limit_of most design ≡ over → Answer
  of_made design None made is = inl (design, record { whole = made; within = is })
  of_made design (Some refused) made is = inr (refused, too_many design made is)

  of_traced : first_false (has_ports h clock) ≡ None → first_refusal h cells (without_edges ds) ≡ None → Traced (IsPhaseOf h cells (phase_spots h clock)) (storage h cells) → Answer
  of_traced ports annotates (inl (phases, all)) =
      let design = design_apart h cells sense clock ds phases in
      of_made design (limit_of most design) (record { ports = ports; annotates = annotates; phases = phases; traced = all; made = refl }) refl
  of_traced ports annotates (inr (before, phases, leaf, after, whole, all, none)) =
      inr (
        refusal.NoPhase (length before),
        no_phase ports annotates (length before) refl (record { before = before; phases = phases; leaf = leaf; after = after; whole = whole; traced = all; none = none; count = refl }),
      )

  of_delays : (o : Option Refusal) → first_false (has_ports h clock) ≡ None → first_refusal h cells (without_edges ds) ≡ o → Answer
  of_delays None ports is = of_traced ports is (traced (IsPhaseOf h cells (phase_spots h clock)) (phase_of most h cells clock (without_edges ds)) (storage h cells))
  of_delays (Some refused) ports is = inr (refused, annotates_nothing ports is)

  pub of_ports : (o : Option ℕ) → first_false (has_ports h clock) ≡ o → Answer
  of_ports None is = of_delays (first_refusal h cells (without_edges ds)) is refl
  of_ports (Some n) is = inr (refusal.NoInstance role.Clock n, no_port is)

pub edge_designs_are_determined_lem : EdgeDesignsAreDetermined
edge_designs_are_determined_lem most h cells sense clock ds design other a b = one_made most h cells sense clock ds design other a.whole b.whole

pub edge_designs_are_not_refused_lem : EdgeDesignsAreNotRefused
edge_designs_are_not_refused_lem = refused_or_made

pub edge_refusals_are_determined_lem : EdgeRefusalsAreDetermined
edge_refusals_are_determined_lem = one_refusal

pub have_edge_design_or_refusal_lem : HaveEdgeDesignOrRefusal
have_edge_design_or_refusal_lem most h cells sense clock ds = of_ports most h cells sense clock ds (first_false (has_ports h clock)) refl
