-- One hop more, and one stage more.
use Rattle.std.proofs.Common.{◌≡◌, ℕ, zero, suc, ◌<◌, ◌+◌, ℤ, pos, negsuc, ◌+ℤ◌, ◌*ℤ◌, ◌≤ℤ◌, List, [], ◌∷◌, ◌++◌, append_assoc, length, get_or, take, arith, ap, ◌∙◌, sym, refl}
use Rattle.std.specs.Prelude.{codes, flat_map}
use Rattle.std.specs.List.{range_with_len}
use Rattle.std.proofs.lemmas.Int.{ints}
use Rattle.std.proofs.lemmas.List.{append-nil}
use Rattle.std.proofs.lemmas.List.Concat.{flat_map-append}
use Rattle.mintc_certificate.proofs.SharedPathDelays.{delay_more}
use Rattle.mintc_timing.proofs.SharedProducts.{add-times}
use Rattle.mintc_timing.specs.declared.clocking.Schedule.{Schedule}
use Rattle.mintc_timing.specs.declared.parts.TimingArc.{TimingArc}
use Rattle.mintc_timing.specs.Design.{Design, element_at}
use Rattle.mintc_timing.specs.Paths.{arc_at, greatest_delay}
use Rattle.mintcx_amounts.specs.declared.unit.Unit.{Unit}
use Rattle.mintcx_chain.specs.declared.stages.Stage.{Stage}
use Rattle.mintcx_chain.specs.declared.stages.Why.{Why}
use Rattle.mintcx_chain.specs.declared.stages.Why.TheVariants.{Reach}
use Rattle.mintcx_chain.specs.Gates.{gate_of}
use Rattle.mintcx_columns.specs.declared.cells.Column.{Column}
use Rattle.mintcx_columns.specs.Tables.{Grid}
use Rattle.mintcx_reports.specs.Hops.{arc_row, arc_text, hop_cells, hop_rows, out_rows, stage_hops}
use Rattle.mintcx_reports.proofs.PlaceLaws.{range_more}

-- the parts of one number more
pub parts_more : {A : Type 0} (f : ℕ → List A) (k : ℕ) → flat_map f (range_with_len 0 (k + 1)) ≡ flat_map f (range_with_len 0 k) ++ f k
parts_more f k =
    ap (flat_map f) (range_more k) ∙ flat_map-append f (range_with_len 0 k) (k ∷ []) ∙ ap (λ v. flat_map f (range_with_len 0 k) ++ v) (append-nil (f k))

joined : (begin all one den : ℤ) → begin +ℤ (all +ℤ one) *ℤ den ≡ (begin +ℤ all *ℤ den) +ℤ one *ℤ den
joined begin all one den = let e = add-times all one den in omega (arith, ints)

-- when data comes to the end of one arc more
pub ends_more : (arcs : List TimingArc) (path : List ℕ) (i : ℕ) (begin den : ℤ) → i < length path →
    begin +ℤ greatest_delay arcs (take (i + 1) path) *ℤ den ≡ (begin +ℤ greatest_delay arcs (take i path) *ℤ den) +ℤ (arc_at arcs (get_or path i 0)).max *ℤ den
ends_more arcs path i begin den below =
    ap (λ x. begin +ℤ x *ℤ den) (delay_more arcs path i below) ∙ joined begin (greatest_delay arcs (take i path)) (arc_at arcs (get_or path i 0)).max den

-- a hop that takes no time has no row
pub no_hop : (s : Schedule) (unit : Unit) (delay ends : ℤ) (what : List ℕ) → delay ≤ℤ pos 0 → hop_rows s unit delay ends what ≡ []
no_hop s unit (pos zero) ends what h = refl
no_hop s unit (pos (suc n)) ends what h = absurd (omega (arith, ints, h))
no_hop s unit (negsuc n) ends what h = refl

-- a hop with other names for its parts
pub same_hop : (s : Schedule) (unit : Unit) (old new : List (List (List ℕ))) (delay ends other time : ℤ) (what word : List ℕ) →
    new ≡ old ++ hop_rows s unit delay ends what → delay ≡ other → ends ≡ time → what ≡ word → new ≡ old ++ hop_rows s unit other time word
same_hop s unit old new delay ends other time what word e f g h =
    e ∙ ap (λ (x : ℤ). old ++ hop_rows s unit x ends what) f ∙ ap (λ (x : ℤ). old ++ hop_rows s unit other x what) g
    ∙ ap (λ (v : List ℕ). old ++ hop_rows s unit other time v) h

pub same_cells : (s : Schedule) (unit : Unit) (old new : List (List (List ℕ))) (delay ends other time : ℤ) (what word : List ℕ) →
    new ≡ old ++ hop_cells s unit delay ends what ∷ [] → delay ≡ other → ends ≡ time → what ≡ word → new ≡ old ++ hop_cells s unit other time word ∷ []
same_cells s unit old new delay ends other time what word e f g h =
    e ∙ ap (λ (x : ℤ). old ++ hop_cells s unit x ends what ∷ []) f ∙ ap (λ (x : ℤ). old ++ hop_cells s unit other x what ∷ []) g
    ∙ ap (λ (v : List ℕ). old ++ hop_cells s unit other time v ∷ []) h

-- the rows of one arc more
pub arcs_more : (design : Design) (s : Schedule) (cells : List (List ℕ)) (unit : Unit) (l : ℕ) (path : List ℕ) (begin ends : ℤ) (i : ℕ)
    (first before new : List (List (List ℕ))) → before ≡ first ++ flat_map (arc_row design s cells unit l path begin) (range_with_len 0 i) →
    ends ≡ begin +ℤ greatest_delay design.arcs (take (i + 1) path) *ℤ s.den →
    new ≡ before ++ hop_rows s unit (arc_at design.arcs (get_or path i 0)).max ends
    (codes "  " ++ arc_text design cells l (get_or path i 0) (gate_of design (get_or path i 0))) →
    new ≡ first ++ flat_map (arc_row design s cells unit l path begin) (range_with_len 0 (i + 1))
arcs_more design s cells unit l path begin ends i first before new e f g =
    let row = arc_row design s cells unit l path begin in
    let so_far = flat_map row (range_with_len 0 i) in
    let n = get_or path i 0 in
    g ∙ ap (λ (x : ℤ). before ++ hop_rows s unit (arc_at design.arcs n).max x (codes "  " ++ arc_text design cells l n (gate_of design n))) f
    ∙ ap (λ (rows : List (List (List ℕ))). rows ++ row i) e ∙ append_assoc first so_far (row i)
    ∙ ap (λ (rows : List (List (List ℕ))). first ++ rows) (sym (parts_more row i))

-- the rows of a stage along a path
pub path_hops : (design : Design) (s : Schedule) (cells : List (List ℕ)) (unit : Unit) (begin out : ℤ) (stage : Stage) (why : Why) (j l : ℕ) (path : List ℕ)
    (old a new : List (List (List ℕ))) → why ≡ Reach j l path → a ≡ old ++ out_rows design s unit j begin →
    out ≡ begin +ℤ (element_at design j).dq_max *ℤ s.den →
    new ≡ a ++ flat_map (arc_row design s cells unit l path out) (range_with_len 0 (length path)) →
    new ≡ old ++ stage_hops design s cells unit begin stage why
path_hops design s cells unit begin out stage why j l path old a new is e f g =
    let rows : ℤ → List (List (List ℕ)) = λ x. flat_map (arc_row design s cells unit l path x) (range_with_len 0 (length path)) in
    let time = begin +ℤ (element_at design j).dq_max *ℤ s.den in
    g ∙ ap (λ (x : ℤ). a ++ rows x) f ∙ ap (λ (v : List (List (List ℕ))). v ++ rows time) e
    ∙ append_assoc old (out_rows design s unit j begin) (rows time)
    ∙ ap (λ (y : Why). old ++ stage_hops design s cells unit begin stage y) (sym is)

-- the rows of a stage: where it begins, and its hops
pub begun_and_hops : (old a new : List (List (List ℕ))) (cell : List (List ℕ)) (hops : List (List (List ℕ))) → a ≡ old ++ cell ∷ [] → new ≡ a ++ hops →
    new ≡ old ++ (cell ∷ [] ++ hops)
begun_and_hops old a new cell hops e f = f ∙ ap (λ (v : List (List (List ℕ))). v ++ hops) e ∙ append_assoc old (cell ∷ []) hops

-- the rows of one stage more
pub stages_more : (f : ℕ → List (List (List ℕ))) (n : ℕ) (first before new : List (List (List ℕ))) →
    before ≡ first ++ flat_map f (range_with_len 0 n) → new ≡ before ++ f n → new ≡ first ++ flat_map f (range_with_len 0 (n + 1))
stages_more f n first before new e g =
    g ∙ ap (λ (v : List (List (List ℕ))). v ++ f n) e ∙ append_assoc first (flat_map f (range_with_len 0 n)) (f n)
    ∙ ap (λ (v : List (List (List ℕ))). first ++ v) (sym (parts_more f n))

-- a table by its parts
pub grid_is : (t : Grid) (columns : List Column) (rows : List (List (List ℕ))) → t.columns ≡ columns → t.rows ≡ rows → t ≡ record { columns = columns; rows = rows }
grid_is t columns rows e f =
    let whole : List Column → List (List (List ℕ)) → Grid = λ xs ys. record { columns = xs; rows = ys } in
    ap (λ (xs : List Column). whole xs t.rows) e ∙ ap (λ (ys : List (List (List ℕ))). whole columns ys) f
