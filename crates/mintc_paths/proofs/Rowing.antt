-- The rows of the bits.
use Rattle.std.proofs.Common.{◌≡◌, ◌≢◌, ℕ, ◌<◌, ◌+◌, ◌*◌, List, length, get_or, map, arith, ap, ◌∙◌, sym, subst}
use Rattle.std.proofs.lemmas.List.{get_or_default, get_or-map, get_or_past, same_lists}
use Rattle.std.proofs.Math.ListN.{length-map}
use Rattle.mintc_timing.specs.declared.parts.TimingArc.{TimingArc}
use Rattle.mintc_timing.specs.Paths.{output_of}
use Rattle.mintc_paths_sums.specs.declared.sums.Sums.{Sums}
use Rattle.mintc_paths_sums.specs.declared.sums.TheConstants.{NO_SUMS}
use Rattle.mintc_paths_sums.specs.Sums.{sums_at, no_sums, IsBounded, IsAlike}
use Rattle.mintc_paths_sums.specs.Placed.{row_of, placed}
use Rattle.mintc_paths_sums.proofs.SharedPlaced.{length-placed, placed_at}
use Rattle.mintc_paths.specs.declared.rows.Rows.{Rows}
use Rattle.mintc_paths.specs.Sums.{LeadsBack, AreRows, moved, AreBegun, AreSums}
use Rattle.mintc_paths.specs.Long.{IsShortLane}
use Rattle.mintc_paths.proofs.Beginning.{IsBegun, AreBegun-none, AreBegun-more}
use Rattle.mintc_paths.proofs.Filling.{IsCarried}

-- where one row alone has changed, one bit alone has
pub moved_others : {X : Type 0} (n : ℕ) (rows bits : List ℕ) → LeadsBack n rows bits → (new old : ℕ → X) (d : X) (end : ℕ) → end < n → ((row : ℕ) → row ≢ row_of rows end → new row ≡ old row) →
    (bit : ℕ) → bit ≢ end → get_or (map new rows) bit d ≡ get_or (map old rows) bit d
moved_others n rows bits h new old d end below others bit ne =
    let many = length-map rows new in
    let many_old = length-map rows old in
    grind (arith, get_or-map new rows bit 0 d, get_or-map old rows bit 0 d, get_or_past (map new rows) bit d, get_or_past (map old rows) bit d, h.count, h.leads bit, h.leads end, others (row_of rows bit))

module _ (n : ℕ) (rows bits : List ℕ) (h : LeadsBack n rows bits) (old new : List Sums) where
  pub placed_others : (end : ℕ) → end < n → ((row : ℕ) → row ≢ row_of rows end → sums_at new row ≡ sums_at old row) →
      (bit : ℕ) → bit ≢ end → sums_at (placed rows new) bit ≡ sums_at (placed rows old) bit
  placed_others = moved_others n rows bits h (sums_at new) (sums_at old) no_sums

  -- what is carried from row to row is carried from bit to bit
  pub IsCarried-placed : (arc : TimingArc) → arc.from < n → arc.to < n → IsCarried (moved rows arc) old new → IsCarried arc (placed rows old) (placed rows new)
  IsCarried-placed arc from to carried =
      let old_from : sums_at (placed rows old) arc.from ≡ sums_at old (row_of rows arc.from) = placed_at rows old arc.from (omega arith) in
      let old_to : sums_at (placed rows old) arc.to ≡ sums_at old (row_of rows arc.to) = placed_at rows old arc.to (omega arith) in
      let new_to : sums_at (placed rows new) arc.to ≡ sums_at new (row_of rows arc.to) = placed_at rows new arc.to (omega arith) in
      record {
        others = placed_others arc.to to carried.others;
        greatest = rw (old_from, old_to, new_to) carried.greatest;
        least = rw (old_from, old_to, new_to) carried.least;
        bounded = rw (old_from, old_to, new_to) carried.bounded;
      }

pub AreBegun-placed_none : (arcs : List TimingArc) (order : List ℕ) (first n : ℕ) (rows : Rows) → AreRows n rows → (sums : List Sums) → length sums ≡ n →
    ((row : ℕ) → row < length sums → sums_at sums row ≡ NO_SUMS) → AreBegun arcs order first 0 (placed rows.of_bits.items sums)
AreBegun-placed_none arcs order first n rows h sums same none =
    AreBegun-none arcs order first (placed rows.of_bits.items sums) (λ bit below.
    let low : bit < n = omega (arith, length-placed rows.of_bits.items sums) in
    placed_at rows.of_bits.items sums bit (omega arith) ∙ none (row_of rows.of_bits.items bit) (omega (arith, h.of_bits.inside bit low)))

pub AreBegun-placed_more : (arcs : List TimingArc) (order : List ℕ) (first lane n : ℕ) (rows : Rows) → AreRows n rows → (old new : List Sums) → lane < 8 → output_of (first + lane) < n →
    IsBegun old new (row_of rows.of_bits.items (output_of (first + lane))) lane → AreBegun arcs order first lane (placed rows.of_bits.items old) → AreBegun arcs order first (lane + 1) (placed rows.of_bits.items new)
AreBegun-placed_more arcs order first lane n rows h old new few inside begun before =
    let xs : List ℕ = rows.of_bits.items in
    let bit : ℕ = output_of (first + lane) in
    let was : sums_at (placed xs old) bit ≡ sums_at old (row_of xs bit) = placed_at xs old bit (omega arith) in
    let is : sums_at (placed xs new) bit ≡ sums_at new (row_of xs bit) = placed_at xs new bit (omega arith) in
    AreBegun-more arcs order first lane (placed xs old) (placed xs new) (length-placed xs new ∙ sym (length-placed xs old)) few
    (record { others = placed_others n xs rows.bits.items h.of_bits old new bit inside begun.others; lanes = rw (was, is) begun.lanes; own = rw is begun.own }) before

-- each row is that of a bit, so what is known of the sums at the bits is known of those in the rows
module _ (arcs : List TimingArc) (order : List ℕ) (k first lanes n : ℕ) (rows : Rows) (h : AreRows n rows) (sums : List Sums)
    (g : AreSums arcs order k first lanes (placed rows.of_bits.items sums)) where
  in_row : (P : Sums → Type 0) → ((bit : ℕ) → bit < length (placed rows.of_bits.items sums) → P (sums_at (placed rows.of_bits.items sums) bit)) → (row : ℕ) → row < n → P (sums_at sums row)
  in_row P each row below =
      let bit : ℕ = row_of rows.bits.items row in
      let inside : bit < length rows.of_bits.items = omega (arith, h.bits.inside row below) in
      subst (λ r. P (sums_at sums r)) (h.bits.leads row below) (subst P (placed_at rows.of_bits.items sums bit inside) (each bit (omega (arith, length-placed rows.of_bits.items sums))))

  pub bounded_each : (row : ℕ) → row < n → IsBounded (k * 1000000000) (sums_at sums row)
  bounded_each = in_row (IsBounded (k * 1000000000)) g.bounded

  pub alike_each : (row : ℕ) → row < n → IsAlike (sums_at sums row)
  alike_each = in_row IsAlike g.alike

-- where no row has a sum of the lane above the limit, no bit has
pub short : (n : ℕ) (rows : Rows) → AreRows n rows → (sums : List Sums) → length sums ≡ n → (lane : ℕ) → IsShortLane sums lane → IsShortLane (placed rows.of_bits.items sums) lane
short n rows h sums same lane is bit below =
    let inside : bit < length rows.of_bits.items = omega (arith, length-placed rows.of_bits.items sums) in
    rw (placed_at rows.of_bits.items sums bit inside) (is (row_of rows.of_bits.items bit) (omega (arith, h.of_bits.inside bit (omega arith))))

-- rows of the bits' own numbers
pub placed_plain : (rows : List ℕ) (sums : List Sums) → length rows ≡ length sums → ((bit : ℕ) → bit < length rows → row_of rows bit ≡ bit) → placed rows sums ≡ sums
placed_plain rows sums same own = same_lists (placed rows sums) sums (length-placed rows sums ∙ same) (λ bit d below.
    let low : bit < length rows = omega (arith, length-placed rows sums) in
    get_or-map (sums_at sums) rows bit 0 d low ∙ ap (sums_at sums) (own bit low) ∙ get_or_default sums bit no_sums d (omega arith))
