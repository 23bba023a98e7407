-- Four files have one design or one refusal.
use Rattle.std.proofs.Common.{◌≡◌, ℕ, List, sym, ap, ◌∙◌}
use Rattle.mintc_text.specs.declared.limits.Most.{Most}
use Rattle.mintc_text.specs.declared.refusals.Refusal.{Refusal}
use Rattle.mintc_text.specs.declared.refusals.Refusal.TheVariants as refusal
use Rattle.mintc_text.specs.declared.refusals.Role.TheVariants as role
use Rattle.mintc_timing.specs.Design.{Design}
use Rattle.mintc_netlist.specs.declared.module.Netlist.{Netlist}
use Rattle.mintc_sdf.specs.declared.delays.Delay.{Delay}
use Rattle.mintc_clock.specs.declared.clock.Clock.{Clock}
use Rattle.mintc_flatten_hierarchy.specs.declared.hierarchy.Hierarchy.{Hierarchy}
use Rattle.mintc_flatten_hierarchy.specs.Sources.{source_of}
use Rattle.mintc_flatten_hierarchy.specs.Refusals.{refusal_of}
use Rattle.mintc_flatten_hierarchy.specs.Shape.{CellTable}
use Rattle.mintc_annotate.specs.Made.{IsAnnotated, IsAnnotateRefusal}
use Rattle.mintc_annotate.specs.Laws.{AnnotateRefusalsAreDetermined, DesignsAreDetermined, DesignsAreNotRefused}
use Rattle.mintc_build.specs.FilesDesign.{CellText, AreRead, IsHierarchyOf, IsDesignOver, IsRefusalOver, of_netlist, of_delays, of_cells, of_clock, of_hierarchy, of_design}
use Rattle.mintc_build.specs.Laws.{ArePlain}
use Rattle.mintc_build.proofs.SharedFilesLaws.{AreFilesLaws, IsPlainForm, one_of, one_netlist, one_delays, no_delays, one_delays_refusal, no_clock, one_clock_refusal, one_hierarchy, no_hierarchy, moved, moved_refusal, moved_by}

-- the laws of the texts and of what is made of them
abbrev pub AreLaws : Type 0
AreLaws = AreFilesLaws DesignsAreDetermined DesignsAreNotRefused AnnotateRefusalsAreDetermined

-- Two readings of the same texts give the same.
pub record AreSame (v d c k : List ℕ) (netlist other_netlist : Netlist) (delays other_delays : List Delay) (cells other_cells : CellTable) (clock other_clock : Clock) : Type 0 where
  pub same_netlist : netlist ≡ other_netlist
  pub same_delays : delays ≡ other_delays
  pub same_cells : cells ≡ other_cells
  pub same_clock : clock ≡ other_clock

same_reading : {by : List ℕ → CellText} → AreLaws → IsPlainForm by → (v d c k : List ℕ) (n m : Netlist) (ds es : List Delay) (cs bs : CellTable) (x y : Clock) → AreRead v d (by c) k n ds cs x → AreRead v d (by c) k m es bs y →
    AreSame v d c k n m ds es cs bs x y
same_reading law plain v d c k n m ds es cs bs x y a b = record {
  same_netlist = one_netlist law.one_netlist v n m a.netlist_read b.netlist_read;
  same_delays = one_delays d ds es a.delays_read b.delays_read;
  same_cells = plain.one_cells c cs bs a.cells_read b.cells_read;
  same_clock = law.one_clock k x y a.clock_read b.clock_read;
}

pub moved_design : (most : Most) (h g : Hierarchy) (cs bs : CellTable) (x y : Clock) (ds es : List Delay) (design : Design) → h ≡ g → cs ≡ bs → x ≡ y → ds ≡ es → IsAnnotated most g bs y es design → IsAnnotated most h cs x ds design
moved_design most h g cs bs x y ds es design = moved_by (λ k c z l. IsAnnotated most k c z l design) h g cs bs x y ds es

moved_fault : (most : Most) (h g : Hierarchy) (cs bs : CellTable) (x y : Clock) (ds es : List Delay) (refused : Refusal) → h ≡ g → cs ≡ bs → x ≡ y → ds ≡ es → IsAnnotateRefusal most g bs y es refused → IsAnnotateRefusal most h cs x ds refused
moved_fault most h g cs bs x y ds es refused = moved_by (λ k c z l. IsAnnotateRefusal most k c z l refused) h g cs bs x y ds es

-- the hierarchies of two readings of the same texts
same_hierarchy : {by : List ℕ → CellText} → AreLaws → IsPlainForm by → (most : Most) (v d c k : List ℕ) (n m : Netlist) (ds es : List Delay) (cs bs : CellTable) (x y : Clock) (h g : Hierarchy) → AreSame v d c k n m ds es cs bs x y → IsHierarchyOf most n cs x h → IsHierarchyOf most m bs y g → h ≡ g
same_hierarchy law plain most v d c k n m ds es cs bs x y h g same a b = one_hierarchy most (source_of cs n.modules) x.top h g a (moved most n m cs bs x y g same.same_netlist same.same_cells same.same_clock b)

one_design : {by : List ℕ → CellText} → AreLaws → IsPlainForm by → (most : Most) (v d c k : List ℕ) (design other : Design) → IsDesignOver most v d (by c) k design → IsDesignOver most v d (by c) k other → design ≡ other
one_design law plain most v d c k design other a b =
    let same = same_reading law plain v d c k a.netlist b.netlist a.delays b.delays a.cells b.cells a.clock b.clock a.read b.read in
    let shape = same_hierarchy law plain most v d c k a.netlist b.netlist a.delays b.delays a.cells b.cells a.clock b.clock a.hierarchy b.hierarchy same a.flat b.flat in
    law.one_design most a.hierarchy a.cells a.clock a.delays design other a.annotated
    (moved_design most a.hierarchy b.hierarchy a.cells b.cells a.clock b.clock a.delays b.delays other shape same.same_cells same.same_clock same.same_delays b.annotated)

-- where there is a design each step is in form
no_refusal : {by : List ℕ → CellText} → AreLaws → IsPlainForm by → (most : Most) (v d c k : List ℕ) (design : Design) (refused : Refusal) → IsDesignOver most v d (by c) k design → IsRefusalOver most v d (by c) k refused → ⊥
no_refusal law plain most v d c k design refused a (of_netlist (n, named, fault)) = law.no_fault v a.netlist n a.read.netlist_read fault
no_refusal law plain most v d c k design refused a (of_delays netlist is fault) = no_delays d a.delays refused a.read.delays_read fault
no_refusal law plain most v d c k design refused a (of_cells netlist delays is said fault) = plain.no_refused c a.cells refused a.read.cells_read fault
no_refusal law plain most v d c k design refused a (of_clock netlist delays cells is said described fault) = no_clock law.no_bad_clock k a.clock refused a.read.clock_read fault
no_refusal law plain most v d c k design refused a (of_hierarchy netlist delays cells clock read fault) =
    let same = same_reading law plain v d c k a.netlist netlist a.delays delays a.cells cells a.clock clock a.read read in
    no_hierarchy most (source_of a.cells a.netlist.modules) a.clock.top a.hierarchy refused a.flat (moved_refusal most a.netlist netlist a.cells cells a.clock clock refused same.same_netlist same.same_cells same.same_clock fault)
no_refusal law plain most v d c k design refused a (of_design netlist delays cells clock hierarchy read flat fault) =
    let same = same_reading law plain v d c k a.netlist netlist a.delays delays a.cells cells a.clock clock a.read read in
    let shape = same_hierarchy law plain most v d c k a.netlist netlist a.delays delays a.cells cells a.clock clock a.hierarchy hierarchy same a.flat flat in
    law.no_refusal most a.hierarchy a.cells a.clock a.delays design refused a.annotated
    (moved_fault most a.hierarchy hierarchy a.cells cells a.clock clock a.delays delays refused shape same.same_cells same.same_clock same.same_delays fault)

-- The first refusal of each step excludes those of all others.
one_refusal : {by : List ℕ → CellText} → AreLaws → IsPlainForm by → (most : Most) (v d c k : List ℕ) (refused other : Refusal) → IsRefusalOver most v d (by c) k refused → IsRefusalOver most v d (by c) k other → refused ≡ other
one_refusal law plain most v d c k refused other (of_netlist (n, a, fault)) (of_netlist (m, b, other_fault)) = a ∙ ap (refusal.Syntax role.Netlist) (law.one_fault v n m fault other_fault) ∙ sym b
one_refusal law plain most v d c k refused other (of_netlist (n, a, fault)) (of_delays m is b) = absurd (law.no_fault v m n is fault)
one_refusal law plain most v d c k refused other (of_netlist (n, a, fault)) (of_cells m ds is said b) = absurd (law.no_fault v m n is fault)
one_refusal law plain most v d c k refused other (of_netlist (n, a, fault)) (of_clock m ds cs is said described b) = absurd (law.no_fault v m n is fault)
one_refusal law plain most v d c k refused other (of_netlist (n, a, fault)) (of_hierarchy m ds cs x read b) = absurd (law.no_fault v m n read.netlist_read fault)
one_refusal law plain most v d c k refused other (of_netlist (n, a, fault)) (of_design m ds cs x h read flat b) = absurd (law.no_fault v m n read.netlist_read fault)
one_refusal law plain most v d c k refused other (of_delays m is a) (of_netlist (n, b, fault)) = absurd (law.no_fault v m n is fault)
one_refusal law plain most v d c k refused other (of_delays m is a) (of_delays n are b) = one_delays_refusal d refused other a b
one_refusal law plain most v d c k refused other (of_delays m is a) (of_cells n ds are said b) = absurd (no_delays d ds refused said a)
one_refusal law plain most v d c k refused other (of_delays m is a) (of_clock n ds cs are said described b) = absurd (no_delays d ds refused said a)
one_refusal law plain most v d c k refused other (of_delays m is a) (of_hierarchy n ds cs x read b) = absurd (no_delays d ds refused read.delays_read a)
one_refusal law plain most v d c k refused other (of_delays m is a) (of_design n ds cs x h read flat b) = absurd (no_delays d ds refused read.delays_read a)
one_refusal law plain most v d c k refused other (of_cells m ds is said a) (of_netlist (n, b, fault)) = absurd (law.no_fault v m n is fault)
one_refusal law plain most v d c k refused other (of_cells m ds is said a) (of_delays n are b) = absurd (no_delays d ds other said b)
one_refusal law plain most v d c k refused other (of_cells m ds is said a) (of_cells n es are told b) = plain.one_refused c refused other a b
one_refusal law plain most v d c k refused other (of_cells m ds is said a) (of_clock n es cs are told described b) = absurd (plain.no_refused c cs refused described a)
one_refusal law plain most v d c k refused other (of_cells m ds is said a) (of_hierarchy n es cs x read b) = absurd (plain.no_refused c cs refused read.cells_read a)
one_refusal law plain most v d c k refused other (of_cells m ds is said a) (of_design n es cs x h read flat b) = absurd (plain.no_refused c cs refused read.cells_read a)
one_refusal law plain most v d c k refused other (of_clock m ds cs is said described a) (of_netlist (n, b, fault)) = absurd (law.no_fault v m n is fault)
one_refusal law plain most v d c k refused other (of_clock m ds cs is said described a) (of_delays n are b) = absurd (no_delays d ds other said b)
one_refusal law plain most v d c k refused other (of_clock m ds cs is said described a) (of_cells n es are told b) = absurd (plain.no_refused c cs other described b)
one_refusal law plain most v d c k refused other (of_clock m ds cs is said described a) (of_clock n es bs are told too b) = one_clock_refusal law.one_bad_clock k refused other a b
one_refusal law plain most v d c k refused other (of_clock m ds cs is said described a) (of_hierarchy n es bs x read b) = absurd (no_clock law.no_bad_clock k x refused read.clock_read a)
one_refusal law plain most v d c k refused other (of_clock m ds cs is said described a) (of_design n es bs x h read flat b) = absurd (no_clock law.no_bad_clock k x refused read.clock_read a)
one_refusal law plain most v d c k refused other (of_hierarchy m ds cs x read a) (of_netlist (n, b, fault)) = absurd (law.no_fault v m n read.netlist_read fault)
one_refusal law plain most v d c k refused other (of_hierarchy m ds cs x read a) (of_delays n are b) = absurd (no_delays d ds other read.delays_read b)
one_refusal law plain most v d c k refused other (of_hierarchy m ds cs x read a) (of_cells n es are told b) = absurd (plain.no_refused c cs other read.cells_read b)
one_refusal law plain most v d c k refused other (of_hierarchy m ds cs x read a) (of_clock n es bs are told too b) = absurd (no_clock law.no_bad_clock k x other read.clock_read b)
one_refusal law plain most v d c k refused other (of_hierarchy m ds cs x read a) (of_hierarchy n es bs y also b) =
    let same = same_reading law plain v d c k m n ds es cs bs x y read also in
    one_of (refusal_of most (source_of cs m.modules) x.top) refused other a (moved_refusal most m n cs bs x y other same.same_netlist same.same_cells same.same_clock b)
one_refusal law plain most v d c k refused other (of_hierarchy m ds cs x read a) (of_design n es bs y h also flat b) =
    let same = same_reading law plain v d c k m n ds es cs bs x y read also in
    absurd (no_hierarchy most (source_of cs m.modules) x.top h refused (moved most m n cs bs x y h same.same_netlist same.same_cells same.same_clock flat) a)
one_refusal law plain most v d c k refused other (of_design m ds cs x h read flat a) (of_netlist (n, b, fault)) = absurd (law.no_fault v m n read.netlist_read fault)
one_refusal law plain most v d c k refused other (of_design m ds cs x h read flat a) (of_delays n are b) = absurd (no_delays d ds other read.delays_read b)
one_refusal law plain most v d c k refused other (of_design m ds cs x h read flat a) (of_cells n es are told b) = absurd (plain.no_refused c cs other read.cells_read b)
one_refusal law plain most v d c k refused other (of_design m ds cs x h read flat a) (of_clock n es bs are told too b) = absurd (no_clock law.no_bad_clock k x other read.clock_read b)
one_refusal law plain most v d c k refused other (of_design m ds cs x h read flat a) (of_hierarchy n es bs y also b) =
    let same = same_reading law plain v d c k m n ds es cs bs x y read also in
    absurd (no_hierarchy most (source_of cs m.modules) x.top h other flat (moved_refusal most m n cs bs x y other same.same_netlist same.same_cells same.same_clock b))
one_refusal law plain most v d c k refused other (of_design m ds cs x h read flat a) (of_design n es bs y g also level b) =
    let same = same_reading law plain v d c k m n ds es cs bs x y read also in
    let shape = same_hierarchy law plain most v d c k m n ds es cs bs x y h g same flat level in
    law.one_refusal most h cs x ds refused other a (moved_fault most h g cs bs x y ds es other shape same.same_cells same.same_clock same.same_delays b)

pub plain_lem : (by : List ℕ → CellText) → AreLaws → IsPlainForm by → ArePlain by
plain_lem by law plain = record { one_design = one_design law plain; no_refusal = no_refusal law plain; one_refusal = one_refusal law plain }
