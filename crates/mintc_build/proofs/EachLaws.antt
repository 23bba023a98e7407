-- Four files have a design or a refusal.
use Rattle.std.proofs.Common.{◌≡◌, ℕ, List, [], ◌∷◌, length, Option, Some, None, Result, Ok, Err, refl, ◌⊎◌, inl, inr, ⊎_elim}
use Rattle.std.specs.Option.{option_or}
use Rattle.mintc_text.specs.declared.limits.Most.{Most}
use Rattle.mintc_text.specs.declared.refusals.Refusal.{Refusal}
use Rattle.mintc_text.specs.declared.refusals.Refusal.TheVariants as refusal
use Rattle.mintc_text.specs.declared.refusals.Role.TheVariants as role
use Rattle.mintc_timing.specs.Design.{Design}
use Rattle.mintc_netlist.specs.declared.module.Netlist.{Netlist}
use Rattle.mintc_verilog.specs.Netlists.{IsNetlist, IsFault}
use Rattle.mintc_verilog.specs.Laws.{HaveAnAnswer}
use Rattle.mintc_sdf.specs.declared.delays.Delay.{Delay}
use Rattle.mintc_sdf.specs.Texts.{delays_of}
use Rattle.mintc_cells.specs.CellsOf.{AreCells, IsBadCell}
use Rattle.mintc_cells.specs.Laws.{TextsHaveCellsOrRefusals}
use Rattle.mintc_clock.specs.declared.clock.Clock.{Clock}
use Rattle.mintc_clock.specs.ClockOf.{IsClock, IsBadClock}
use Rattle.mintc_clock.specs.Laws.{TextsHaveClocksOrRefusals}
use Rattle.mintc_flatten_hierarchy.specs.declared.hierarchy.Hierarchy.{Hierarchy}
use Rattle.mintc_flatten_hierarchy.specs.Sources.{Source, source_of}
use Rattle.mintc_flatten_hierarchy.specs.Hierarchies.{hierarchy_of}
use Rattle.mintc_flatten_hierarchy.specs.Refusals.{tops_of, top_refusal, statements_refusal, refusal_of, IsHierarchy, IsRefusal}
use Rattle.mintc_flatten_hierarchy.specs.Shape.{CellTable}
use Rattle.mintc_annotate.specs.Made.{IsAnnotated, IsAnnotateRefusal}
use Rattle.mintc_annotate.specs.Laws.{HaveDesignOrRefusal}
use Rattle.mintc_liberty.specs.Meaning.{liberty_cells}
use Rattle.mintc_build.specs.FilesDesign.{CellText, described_by, library_by, AreRead, IsDesignOver, IsRefusalOver, of_netlist, of_delays, of_cells, of_clock, of_hierarchy, of_design}
use Rattle.mintc_build.specs.Laws.{FilesHaveDesignOrRefusal}

-- the laws of the texts and of what is made of them
pub record AreEachLaws : Type 0 where
  pub netlist : HaveAnAnswer
  pub clock : TextsHaveClocksOrRefusals
  pub design : HaveDesignOrRefusal

-- cells of one form: each text has them or a refusal
abbrev pub EachForm : (List ℕ → CellText) → Type 0
EachForm by = (c : List ℕ) → ((cells : CellTable) × (by c).Describes cells) ⊎ ((refused : Refusal) × (by c).Refuses refused)

pub described_each : TextsHaveCellsOrRefusals → EachForm described_by
described_each law c = ⊎_elim
    (λ (h : (cells : CellTable) × AreCells c cells). inl h)
    (λ (h : (n : ℕ) × (rule : ℕ) × IsBadCell c n rule). inr (refusal.BadCell h.0 h.1, h.2))
    (law c)

library_by_result : (c : List ℕ) (r : Result CellTable ℕ) → liberty_cells c ≡ r → ((cells : CellTable) × (library_by c).Describes cells) ⊎ ((refused : Refusal) × (library_by c).Refuses refused)
library_by_result c (Ok cells) is = inl (cells, is)
library_by_result c (Err n) is = inr (refusal.Syntax role.Cells n, (n, is, refl))

pub library_each : EachForm library_by
library_each c = library_by_result c (liberty_cells c) refl

-- a netlist that nothing refuses has one top
abbrev HasOne : List ℕ → Type 0
HasOne tops = (number : ℕ) × (tops ≡ number ∷ [])

one_of : (most : Most) (s : Source) (tops : List ℕ) → top_refusal most s tops ≡ None → HasOne tops
one_of most s [] none = absurd (let wrong : Some (refusal.TopUnclear (length {A = ℕ} [])) ≡ None = none in cc wrong)
one_of most s (number ∷ []) none = (number, refl)
one_of most s (number ∷ other ∷ more) none = absurd (let wrong : Some (refusal.TopUnclear (length (number ∷ other ∷ more))) ≡ None = none in cc wrong)

second_none : {A : Type 0} (a b : Option A) → option_or a b ≡ None → b ≡ None
second_none None b none = none
second_none (Some x) b none = absurd (cc none)

hierarchy_or : (most : Most) (s : Source) (top : Option (List ℕ)) (o : Option Refusal) → refusal_of most s top ≡ o → ((h : Hierarchy) × IsHierarchy most s top h) ⊎ ((refused : Refusal) × IsRefusal most s top refused)
hierarchy_or most s top None none =
    let one = one_of most s (tops_of s top) (second_none (statements_refusal s) (top_refusal most s (tops_of s top)) none) in
    inl (hierarchy_of s one.0, record { unrefused = none; number = one.0; one_top = one.1; is_of_top = refl })
hierarchy_or most s top (Some refused) some = inr (refused, some)

module _ (by : List ℕ → CellText) (law : AreEachLaws) (form : EachForm by) (most : Most) (v d c k : List ℕ) where
  abbrev Answer : Type 0
  Answer = ((design : Design) × IsDesignOver most v d (by c) k design) ⊎ ((refused : Refusal) × IsRefusalOver most v d (by c) k refused)

  from_hierarchy : (netlist : Netlist) (delays : List Delay) (cells : CellTable) (clock : Clock) (h : Hierarchy) → AreRead v d (by c) k netlist delays cells clock →
      IsHierarchy most (source_of cells netlist.modules) clock.top h → Answer
  from_hierarchy netlist delays cells clock h read flat = ⊎_elim
      (λ (made : (design : Design) × IsAnnotated most h cells clock delays design).
      inl (made.0, record { netlist = netlist; delays = delays; cells = cells; clock = clock; hierarchy = h; read = read; flat = flat; annotated = made.1 }))
      (λ (refused : (r : Refusal) × IsAnnotateRefusal most h cells clock delays r). inr (refused.0, of_design netlist delays cells clock h read flat refused.1))
      (law.design most h cells clock delays)

  from_read : (netlist : Netlist) (delays : List Delay) (cells : CellTable) (clock : Clock) → AreRead v d (by c) k netlist delays cells clock → Answer
  from_read netlist delays cells clock read = ⊎_elim
      (λ (flat : (h : Hierarchy) × IsHierarchy most (source_of cells netlist.modules) clock.top h). from_hierarchy netlist delays cells clock flat.0 read flat.1)
      (λ (refused : (r : Refusal) × IsRefusal most (source_of cells netlist.modules) clock.top r). inr (refused.0, of_hierarchy netlist delays cells clock read refused.1))
      (hierarchy_or most (source_of cells netlist.modules) clock.top (refusal_of most (source_of cells netlist.modules) clock.top) refl)

  from_cells : (netlist : Netlist) (delays : List Delay) (cells : CellTable) → IsNetlist v netlist → delays_of d ≡ Ok delays → (by c).Describes cells → Answer
  from_cells netlist delays cells is said described = ⊎_elim
      (λ (h : (clock : Clock) × IsClock k clock). from_read netlist delays cells h.0 (record { netlist_read = is; delays_read = said; cells_read = described; clock_read = h.1 }))
      (λ (h : (n : ℕ) × (r : ℕ) × IsBadClock k n r). inr (refusal.BadClock h.0 h.1, of_clock netlist delays cells is said described h.2))
      (law.clock k)

  from_delays : (netlist : Netlist) (r : Result (List Delay) Refusal) → IsNetlist v netlist → delays_of d ≡ r → Answer
  from_delays netlist (Err refused) is said = inr (refused, of_delays netlist is said)
  from_delays netlist (Ok delays) is said = ⊎_elim
      (λ (h : (cells : CellTable) × (by c).Describes cells). from_cells netlist delays h.0 is said h.1)
      (λ (h : (refused : Refusal) × (by c).Refuses refused). inr (h.0, of_cells netlist delays is said h.1))
      (form c)

  each : Answer
  each = ⊎_elim
      (λ (h : (n : Netlist) × IsNetlist v n). from_delays h.0 (delays_of d) h.1 refl)
      (λ (h : (n : ℕ) × IsFault v n). inr (refusal.Syntax role.Netlist h.0, of_netlist (h.0, refl, h.1)))
      (law.netlist v)

pub each_lem : (by : List ℕ → CellText) → AreEachLaws → EachForm by → FilesHaveDesignOrRefusal by
each_lem by law form most v d c k = each by law form most v d c k
