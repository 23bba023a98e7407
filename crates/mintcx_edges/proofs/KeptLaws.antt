-- What is right for the merged design of four texts is right for the one with edges apart.
use Rattle.std.proofs.Common.{◌≡◌, ℕ, List, Ok, ap, ◌∙◌, subst}
use Rattle.mintc_text.specs.declared.limits.Most.{Most}
use Rattle.mintc_timing.specs.Design.{Design, Timing}
use Rattle.mintc_verilog.specs.Laws.{HaveOneNetlist}
use Rattle.mintc_sdf.specs.declared.delays.Delay.{Delay}
use Rattle.mintc_sdf.specs.Texts.{delays_of}
use Rattle.mintc_sdf_edges.specs.declared.delays.EdgeDelay.{EdgeDelay}
use Rattle.mintc_sdf_edges.specs.Texts.{AreTold}
use Rattle.mintc_sdf_edges.specs.Laws.{AreMerged, Merge}
use Rattle.mintc_clock.specs.declared.clock.Clock.{Clock}
use Rattle.mintc_clock.specs.Laws.{ClocksAreDetermined}
use Rattle.mintc_flatten_hierarchy.specs.declared.hierarchy.Hierarchy.{Hierarchy}
use Rattle.mintc_flatten_hierarchy.specs.Sources.{source_of}
use Rattle.mintc_flatten_hierarchy.specs.Shape.{CellTable}
use Rattle.mintc_annotate.specs.Phases.{storage, phase_spots}
use Rattle.mintc_annotate.specs.Made.{IsMade, design_made, design_with}
use Rattle.mintc_annotate.proofs.SharedDesignLaws.{one_list}
use Rattle.mintc_build.specs.FilesDesign.{CellText, IsDesignOver}
use Rattle.mintc_edges.specs.Numbers.{SenseOf, sense_of}
use Rattle.mintc_edges.specs.Apart.{IsApart}
use Rattle.mintc_edges.specs.Laws.{AreBoth, AreTimings, EdgeSchedulesAreKept, EdgeCyclesAreNoGreater}
use Rattle.mintcx_edges.specs.EdgeFiles.{SensedText, IsEdgeDesignOver}
use Rattle.mintcx_edges.specs.Laws.{AreTimingsOf, SchedulesAreKept, CyclesAreNoGreater}
use Rattle.mintcx_edges.proofs.FormLaws.{AreSameForms}
use Rattle.mintcx_edges.proofs.MergedLaws.{same-ranges}
use Rattle.mintc_build.proofs.SharedFilesLaws.{one_netlist, one_hierarchy, moved}
use Rattle.mintcx_edges.proofs.PlainLaws.{one_delays}

-- the laws of the texts
pub record AreTextLaws : Type 0 where
  pub one_netlist : HaveOneNetlist
  pub one_clock : ClocksAreDetermined
  pub merge : Merge

-- the delays by edge of a text merge to its delays
merged_of : Merge → (d : List ℕ) (ds : List Delay) (es : List EdgeDelay) → delays_of d ≡ Ok ds → AreTold d es → AreMerged es ds
merged_of merge d ds es is told =
    let made = merge d ds is in
    subst (λ (l : List EdgeDelay). AreMerged l ds) (one_delays d made.0 es (ds, is, made.1) told) made.2

-- a merged design and one with edges apart of one hierarchy, cells, clock and delays are both made of these
both_made : (h g : Hierarchy) (cs bs : CellTable) (x y : Clock) (ds : List Delay) (es : List EdgeDelay) (sense : SenseOf) (merged apart : Design) → h ≡ g → cs ≡ bs → x ≡ y → AreMerged es ds →
    IsMade h cs x ds merged → IsApart g bs sense y es apart → AreBoth g bs sense y es merged apart
both_made h g cs bs x y ds es sense merged apart a b e merge made is =
    let there : IsMade g bs y ds merged = subst (λ (z : Hierarchy). IsMade z bs y ds merged) a (subst (λ (z : CellTable). IsMade h z y ds merged) b (subst (λ (z : Clock). IsMade h cs z ds merged) e made)) in
    record {
      phases = is.phases;
      traced = is.traced;
      is_merged = there.made ∙ ap (design_made g bs y ds) (one_list g bs (phase_spots g y) (storage g bs) there.phases is.phases there.traced is.traced)
          ∙ ap (λ ranges. design_with g bs y ranges is.phases) (same-ranges g bs es ds merge);
      is_apart = is.made;
    }

module _ (by : List ℕ → CellText) (with_senses : List ℕ → SensedText) (same : AreSameForms by with_senses) (law : AreTextLaws) (most : Most) (v d c k : List ℕ) where
  both_of : (merged apart : Design) (a : IsDesignOver most v d (by c) k merged) (b : IsEdgeDesignOver most v d (with_senses c) k apart) →
      AreBoth b.hierarchy b.cells (sense_of ((with_senses c).senses b.cells) b.cells) b.clock b.delays merged apart
  both_of merged apart a b =
      let netlists : a.netlist ≡ b.netlist = one_netlist law.one_netlist v a.netlist b.netlist a.read.netlist_read b.read.netlist_read in
      let cells : a.cells ≡ b.cells = same c a.cells b.cells a.read.cells_read b.read.cells_read in
      let clocks : a.clock ≡ b.clock = law.one_clock k a.clock b.clock a.read.clock_read b.read.clock_read in
      let shapes : a.hierarchy ≡ b.hierarchy = one_hierarchy most (source_of a.cells a.netlist.modules) a.clock.top a.hierarchy b.hierarchy a.flat
      (moved most a.netlist b.netlist a.cells b.cells a.clock b.clock b.hierarchy netlists cells clocks b.flat) in
      both_made a.hierarchy b.hierarchy a.cells b.cells a.clock b.clock a.delays b.delays (sense_of ((with_senses c).senses b.cells) b.cells) merged apart shapes cells clocks
      (merged_of law.merge d a.delays b.delays a.read.delays_read b.read.delays_read) a.annotated.whole b.apart.whole

  timings_of : (merged apart : Timing) (both : AreTimingsOf most v d (by c) (with_senses c) k merged apart) →
      AreTimings both.is_apart.hierarchy both.is_apart.cells (sense_of ((with_senses c).senses both.is_apart.cells) both.is_apart.cells) both.is_apart.clock both.is_apart.delays merged apart
  timings_of merged apart both = record { both = both_of merged.flat apart.flat both.is_merged both.is_apart; wider = both.wider; pairs = both.pairs }

pub schedules_lem : (by : List ℕ → CellText) (with_senses : List ℕ → SensedText) → AreSameForms by with_senses → AreTextLaws → EdgeSchedulesAreKept → SchedulesAreKept by with_senses
schedules_lem by with_senses same law kept most v d c k merged apart both =
    kept both.is_apart.hierarchy both.is_apart.cells (sense_of ((with_senses c).senses both.is_apart.cells) both.is_apart.cells) both.is_apart.clock both.is_apart.delays merged apart
    (timings_of by with_senses same law most v d c k merged apart both)

pub cycles_lem : (by : List ℕ → CellText) (with_senses : List ℕ → SensedText) → AreSameForms by with_senses → AreTextLaws → EdgeCyclesAreNoGreater → CyclesAreNoGreater by with_senses
cycles_lem by with_senses same law kept most v d c k merged apart both =
    kept both.is_apart.hierarchy both.is_apart.cells (sense_of ((with_senses c).senses both.is_apart.cells) both.is_apart.cells) both.is_apart.clock both.is_apart.delays merged apart
    (timings_of by with_senses same law most v d c k merged apart both)
