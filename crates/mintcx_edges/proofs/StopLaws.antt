-- What stops or halts a design on its way from four texts.
use Rattle.std.proofs.Common.{◌≡◌, ℕ, List, Result, Ok, Err, MatchResult, inl, inr, subst}
use Rattle.mintc_text.specs.declared.limits.Most.{Most}
use Rattle.mintc_text.specs.declared.refusals.Stop.{Stop}
use Rattle.mintc_text.specs.declared.refusals.Stop.TheVariants as stop
use Rattle.mintc_text.specs.declared.refusals.Refusal.{Refusal}
use Rattle.mintc_text.specs.Stops.{StopsAt}
use Rattle.mintc_timing.specs.Design.{Design}
use Rattle.mintc_timing.specs.Limits.{IsWithinLimits}
use Rattle.mintc_timing.specs.Accepted.{UnrefusedAreWithin}
use Rattle.mintc_netlist.specs.declared.module.Netlist.{Netlist}
use Rattle.mintc_verilog.specs.Netlists.{IsNetlist}
use Rattle.mintc_sdf_edges.specs.declared.delays.EdgeDelay.{EdgeDelay}
use Rattle.mintc_sdf_edges.specs.Texts.{AreTold}
use Rattle.mintc_clock.specs.declared.clock.Clock.{Clock}
use Rattle.mintc_flatten_hierarchy.specs.Shape.{CellTable}
use Rattle.mintc_senses_expressions.specs.declared.transitions.Transitions.{Transitions}
use Rattle.mintc_edges.specs.Numbers.{sense_of}
use Rattle.mintc_edges.specs.Apart.{IsEdgeDesign, IsEdgeRefusal}
use Rattle.mintc_build.proofs.SharedStopLaws.{StopsAt-mono}
use Rattle.mintcx_clock_cells.specs.Clocks.{IsUnfit}
use Rattle.mintcx_clock_cells.specs.declared.unfit.Unfit.{Unfit}
use Rattle.mintcx_clock_cells.specs.declared.unfit.Unfit.TheVariants as unfit
use Rattle.mintcx_edges.specs.EdgeFiles.{SensedText, AreReadApart, IsEdgeDesignOver, IsEdgeRefusalOver, IsEdgeLibertyRefusal, of_cells, of_hierarchy, of_design}
use Rattle.mintcx_edges.specs.Halts.{IsEdgeHalt, halt_of, unfit_halt}
use Rattle.mintcx_edges.specs.Seen.{IsReadDesign, IsReadRefusal}

-- what stops a call halts the one above it
pub halted : {P : Refusal → Type 0} (most : Most) (v d l : List ℕ) (gates : List (List ℕ)) (k : List ℕ) (s : Stop) → ((r : Refusal) → P r → IsEdgeLibertyRefusal most v d l gates k r) → StopsAt P s →
    IsEdgeHalt most v d l gates k (halt_of s)
halted most v d l gates k (stop.Refused r) f h = f r h
halted most v d l gates k stop.OutOfMemory f h = tt

-- gates that don't fit halt it where cells are read
pub unfitted : (most : Most) (v d l : List ℕ) (gates : List (List ℕ)) (k : List ℕ) (netlist : Netlist) (delays : List EdgeDelay) (why : Unfit) → IsNetlist v netlist → AreTold d delays → IsUnfit l gates why →
    IsEdgeHalt most v d l gates k (unfit_halt why)
unfitted most v d l gates k netlist delays (unfit.Refused r) is told h = of_cells netlist delays is told h
unfitted most v d l gates k netlist delays (unfit.Unknown at) is told h = record { netlist = netlist; delays = delays; netlist_read = is; delays_read = told; cells = h }
unfitted most v d l gates k netlist delays (unfit.Unusable at) is told h = record { netlist = netlist; delays = delays; netlist_read = is; delays_read = told; cells = h }
unfitted most v d l gates k netlist delays unfit.OutOfMemory is told h = tt

-- what is weaker of a value and of a stop
pub both_weaker : {A : Type 0} (V W : A → Type 0) (P Q : Refusal → Type 0) (x : Result A Stop) → ((a : A) → V a → W a) → ((r : Refusal) → P r → Q r) → MatchResult x V (StopsAt P) → MatchResult x W (StopsAt Q)
both_weaker V W P Q (Ok a) f g h = f a h
both_weaker V W P Q (Err s) f g h = StopsAt-mono s g h

-- ---- what is made of texts that are read, whose cells have these senses
module _ (most : Most) (v d : List ℕ) (c : SensedText) (k : List ℕ) (netlist : Netlist) (delays : List EdgeDelay) (cells : CellTable) (clock : Clock) (read : AreReadApart v d c.cells k netlist delays cells clock)
    (senses : List (List (List Transitions))) (same : senses ≡ c.senses cells) where
  pub over_design : (design : Design) → IsReadDesign most netlist cells senses clock delays design → IsEdgeDesignOver most v d c k design
  over_design design (h, flat, apart) = record {
    netlist = netlist;
    delays = delays;
    cells = cells;
    clock = clock;
    hierarchy = h;
    read = read;
    flat = flat;
    apart = subst (λ (s : List (List (List Transitions))). IsEdgeDesign most h cells (sense_of s cells) clock delays design) same apart;
  }

  pub over_refusal : (r : Refusal) → IsReadRefusal most netlist cells senses clock delays r → IsEdgeRefusalOver most v d c k r
  over_refusal r (inl h) = of_hierarchy netlist delays cells clock read h
  over_refusal r (inr (h, flat, fault)) = of_design netlist delays cells clock h read flat
      (subst (λ (s : List (List (List Transitions))). IsEdgeRefusal most h cells (sense_of s cells) clock delays r) same fault)

-- what is made of them is within its limits
pub read_within : UnrefusedAreWithin → (most : Most) (netlist : Netlist) (cells : CellTable) (senses : List (List (List Transitions))) (clock : Clock) (delays : List EdgeDelay) (design : Design) →
    IsReadDesign most netlist cells senses clock delays design → IsWithinLimits most design
read_within law most netlist cells senses clock delays design (h, flat, apart) = law most design apart.within
