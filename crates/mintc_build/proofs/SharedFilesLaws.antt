-- Four texts say one thing each, or are refused in one way, and so have one hierarchy.
use Rattle.std.proofs.Common.{◌≡◌, ℕ, List, [], ◌∷◌, Option, Some, None, Ok, Err, sym, ap, ◌∙◌, subst}
use Rattle.mintc_text.specs.declared.limits.Most.{Most}
use Rattle.mintc_text.specs.declared.refusals.Refusal.{Refusal}
use Rattle.mintc_text.specs.declared.refusals.Refusal.TheVariants as refusal
use Rattle.mintc_text.specs.declared.refusals.Role.TheVariants as role
use Rattle.mintc_netlist.specs.declared.module.Module.{Module}
use Rattle.mintc_netlist.specs.declared.module.Netlist.{Netlist}
use Rattle.mintc_verilog.specs.Netlists.{IsNetlist}
use Rattle.mintc_verilog.specs.Laws.{HaveOneNetlist, HaveNoFault, HaveOneFault}
use Rattle.mintc_sdf.specs.declared.delays.Delay.{Delay}
use Rattle.mintc_sdf.specs.Texts.{delays_of}
use Rattle.mintc_cells.specs.CellsOf.{AreCells, IsBadCell, IsBadCellBy}
use Rattle.mintc_cells.specs.Laws.{BadCellsAreDetermined, CellsAreDetermined, CellsAreNotRefused}
use Rattle.mintc_clock.specs.declared.clock.Clock.{Clock}
use Rattle.mintc_clock.specs.ClockOf.{IsClock, IsClockRefusal}
use Rattle.mintc_clock.specs.Laws.{BadClocksAreDetermined, ClocksAreDetermined, ClocksAreNotRefused}
use Rattle.mintc_flatten_hierarchy.specs.declared.hierarchy.Hierarchy.{Hierarchy}
use Rattle.mintc_flatten_hierarchy.specs.Sources.{Source}
use Rattle.mintc_flatten_hierarchy.specs.Hierarchies.{hierarchy_of}
use Rattle.mintc_flatten_hierarchy.specs.Refusals.{tops_of, refusal_of, IsHierarchy, IsRefusal}
use Rattle.mintc_flatten_hierarchy.specs.Shape.{CellTable}
use Rattle.mintc_liberty.specs.Meaning.{liberty_cells}
use Rattle.mintc_build.specs.FilesDesign.{CellText, described_by, library_by, IsLibraryRefusal, IsHierarchyOf, IsHierarchyRefusal}

-- the laws of the texts, and three of the designs that are made of them
pub record AreFilesLaws (OneDesign NoRefusal OneRefusal : Type 0) : Type 0 where
  pub one_netlist : HaveOneNetlist
  pub no_fault : HaveNoFault
  pub one_fault : HaveOneFault
  pub one_clock : ClocksAreDetermined
  pub no_bad_clock : ClocksAreNotRefused
  pub one_bad_clock : BadClocksAreDetermined
  pub one_design : OneDesign
  pub no_refusal : NoRefusal
  pub one_refusal : OneRefusal

pub one_of : {A : Type 0} (o : Option A) (x y : A) → o ≡ Some x → o ≡ Some y → x ≡ y
one_of o x y a b = cc

pub none_or : {A : Type 0} (o : Option A) (x : A) → o ≡ None → o ≡ Some x → ⊥
none_or o x a b = absurd (cc)

-- what each text gives is one
netlist_from : (a b : Netlist) → a.modules ≡ b.modules → a ≡ b
netlist_from a b same = ap (λ (ms : List Module). record { modules = ms }) same

pub one_netlist : HaveOneNetlist → (v : List ℕ) (a b : Netlist) → IsNetlist v a → IsNetlist v b → a ≡ b
one_netlist law v a b h k = netlist_from a b (law v a b h k)

pub one_delays : (d : List ℕ) (a b : List Delay) → delays_of d ≡ Ok a → delays_of d ≡ Ok b → a ≡ b
one_delays d a b h k = cc

pub no_delays : (d : List ℕ) (a : List Delay) (refused : Refusal) → delays_of d ≡ Ok a → delays_of d ≡ Err refused → ⊥
no_delays d a refused h k = absurd (cc)

pub one_delays_refusal : (d : List ℕ) (refused other : Refusal) → delays_of d ≡ Err refused → delays_of d ≡ Err other → refused ≡ other
one_delays_refusal d refused other h k = cc

-- cells of one form: a text has one list of them, or one refusal
pub record IsPlainForm (by : List ℕ → CellText) : Type 1 where
  pub one_cells : (c : List ℕ) (a b : CellTable) → (by c).Describes a → (by c).Describes b → a ≡ b
  pub no_refused : (c : List ℕ) (cells : CellTable) (refused : Refusal) → (by c).Describes cells → (by c).Refuses refused → ⊥
  pub one_refused : (c : List ℕ) (refused other : Refusal) → (by c).Refuses refused → (by c).Refuses other → refused ≡ other

no_described : CellsAreNotRefused → (c : List ℕ) (cells : CellTable) (refused : Refusal) → AreCells c cells → IsBadCellBy (IsBadCell c) refused → ⊥
no_described law c cells (refusal.BadCell n rule) h k = law c cells n rule h k
no_described law c cells _ h k = k

one_described_refusal : BadCellsAreDetermined → (c : List ℕ) (refused other : Refusal) → IsBadCellBy (IsBadCell c) refused → IsBadCellBy (IsBadCell c) other → refused ≡ other
one_described_refusal law c (refusal.BadCell n rule) (refusal.BadCell m another) h k =
    let both = law c n rule m another h k in
    ap (λ x. refusal.BadCell x rule) both.0 ∙ ap (refusal.BadCell m) both.1
one_described_refusal law c (refusal.BadCell n rule) _ h k = absurd k
one_described_refusal law c _ other h k = absurd h

pub described_plain : CellsAreDetermined → CellsAreNotRefused → BadCellsAreDetermined → IsPlainForm described_by
described_plain one none bad = record { one_cells = one; no_refused = no_described none; one_refused = one_described_refusal bad }

pub one_library : (c : List ℕ) (a b : CellTable) → liberty_cells c ≡ Ok a → liberty_cells c ≡ Ok b → a ≡ b
one_library c a b h k = cc

pub no_library : (c : List ℕ) (cells : CellTable) (refused : Refusal) → liberty_cells c ≡ Ok cells → IsLibraryRefusal c refused → ⊥
no_library c cells refused h (n, k, named) = absurd (cc)

pub one_number : (c : List ℕ) (n m : ℕ) → liberty_cells c ≡ Err n → liberty_cells c ≡ Err m → n ≡ m
one_number c n m h k = cc

pub one_library_refusal : (c : List ℕ) (refused other : Refusal) → IsLibraryRefusal c refused → IsLibraryRefusal c other → refused ≡ other
one_library_refusal c refused other (n, h, named) (m, k, other_named) = named ∙ ap (refusal.Syntax role.Cells) (one_number c n m h k) ∙ sym other_named

pub library_plain : IsPlainForm library_by
library_plain = record { one_cells = one_library; no_refused = no_library; one_refused = one_library_refusal }

pub no_clock : ClocksAreNotRefused → (k : List ℕ) (clock : Clock) (refused : Refusal) → IsClock k clock → IsClockRefusal k refused → ⊥
no_clock law k clock (refusal.BadClock n r) h g = law k clock n r h g
no_clock law k clock _ h g = g

pub one_clock_refusal : BadClocksAreDetermined → (k : List ℕ) (refused other : Refusal) → IsClockRefusal k refused → IsClockRefusal k other → refused ≡ other
one_clock_refusal law k (refusal.BadClock n r) (refusal.BadClock m s) h g =
    let both = law k n r m s h g in
    ap (λ x. refusal.BadClock x r) both.0 ∙ ap (refusal.BadClock m) both.1
one_clock_refusal law k (refusal.BadClock n r) _ h g = absurd g
one_clock_refusal law k _ other h g = absurd h

-- a netlist has one hierarchy from a top, and none beside a refusal
head_of : (xs : List ℕ) (a b : ℕ) → xs ≡ a ∷ [] → xs ≡ b ∷ [] → a ≡ b
head_of xs a b h k = cc

pub one_hierarchy : (most : Most) (s : Source) (top : Option (List ℕ)) (a b : Hierarchy) → IsHierarchy most s top a → IsHierarchy most s top b → a ≡ b
one_hierarchy most s top a b h k = h.is_of_top ∙ ap (hierarchy_of s) (head_of (tops_of s top) h.number k.number h.one_top k.one_top) ∙ sym k.is_of_top

pub no_hierarchy : (most : Most) (s : Source) (top : Option (List ℕ)) (a : Hierarchy) (refused : Refusal) → IsHierarchy most s top a → IsRefusal most s top refused → ⊥
no_hierarchy most s top a refused h k = none_or (refusal_of most s top) refused h.unrefused k

-- what is said of a netlist, cells and a clock is said of others that are the same
pub moved : (most : Most) (n m : Netlist) (cs bs : CellTable) (x y : Clock) (h : Hierarchy) → n ≡ m → cs ≡ bs → x ≡ y → IsHierarchyOf most m bs y h → IsHierarchyOf most n cs x h
moved most n m cs bs x y h a b e is =
    subst (λ (z : Netlist). IsHierarchyOf most z cs x h) (sym a) (subst (λ (z : CellTable). IsHierarchyOf most m z x h) (sym b) (subst (λ (z : Clock). IsHierarchyOf most m bs z h) (sym e) is))

pub moved_refusal : (most : Most) (n m : Netlist) (cs bs : CellTable) (x y : Clock) (refused : Refusal) → n ≡ m → cs ≡ bs → x ≡ y → IsHierarchyRefusal most m bs y refused → IsHierarchyRefusal most n cs x refused
moved_refusal most n m cs bs x y refused a b e is =
    subst (λ (z : Netlist). IsHierarchyRefusal most z cs x refused) (sym a) (subst (λ (z : CellTable). IsHierarchyRefusal most m z x refused) (sym b) (subst (λ (z : Clock). IsHierarchyRefusal most m bs z refused) (sym e) is))

-- what is made of a hierarchy, its cells, a clock and delays, whatever says so
pub moved_by : {D : Type 0} (Made : Hierarchy → CellTable → Clock → List D → Type 0) (h g : Hierarchy) (cs bs : CellTable) (x y : Clock) (ds es : List D) → h ≡ g → cs ≡ bs → x ≡ y → ds ≡ es → Made g bs y es → Made h cs x ds
moved_by {D} Made h g cs bs x y ds es a b e f is =
    subst (λ (z : Hierarchy). Made z cs x ds) (sym a) (subst (λ (z : CellTable). Made g z x ds) (sym b) (subst (λ (z : Clock). Made g bs z ds) (sym e) (subst (λ (z : List D). Made g bs y z) (sym f) is)))
