use Rattle.std.proofs.Common.{◌≡◌, ◌∙◌, ℕ, List, ◌++◌, length, take, drop, replicate, sym, ap, arith}
use Rattle.std.proofs.Math.Seq.{take-append_seam}
use Rattle.std.proofs.lemmas.List.{length-replicate}
use Rattle.mintc_paths_sums.specs.declared.sums.TheConstants.{NO_SUMS}
use Rattle.mintc_paths_sums.specs.SparseRows.{place_at, places_of}
use Rattle.mintc_paths_sums.specs.Sums.{sums_at}
use Rattle.mintc_paths_sums.proofs.SharedPlaced.{length-placed}
use Rattle.mintc_paths_sums.proofs.Give.{placed_none, AreHeld_none, all_zero, first_alone}
use Rattle.mintc_paths_sums.proofs.sparse_rows.SparseRows.begin_anew.Goals as goal
use Rattle.mintc_paths_sums.proofs.sparse_rows.SparseRows.begin_anew.Goals.{After-truncate}

-- the numbers of the rows as they are written back, which are all 0
numbers : After-truncate → List ℕ
numbers c = take c.self.inside.numbers.len (c.take_back.new.numbers ++ drop (length c.take_back.new.numbers) c.self.inside.numbers.items)

are_zero : (c : After-truncate) → numbers c ≡ replicate (length c.deref_mut.result.now) 0
unfolding numbers
are_zero c =
    let is = c.take_back.ensures in
    let count : length c.take_back.new.numbers ≡ length c.deref_mut.result.now = ap length is ∙ length-replicate (length c.deref_mut.result.now) 0 in
    let same : c.self.inside.numbers.len ≡ length c.take_back.new.numbers = sym c.deref_mut.ensures.len ∙ sym count in
    ap (λ (n : ℕ). take n (c.take_back.new.numbers ++ drop (length c.take_back.new.numbers) c.self.inside.numbers.items)) same
    ∙ take-append_seam c.take_back.new.numbers (drop (length c.take_back.new.numbers) c.self.inside.numbers.items) ∙ is

off : (c : After-truncate) (row : ℕ) → place_at (places_of 0 (numbers c)) row ≡ 0
off c row = all_zero (length c.deref_mut.result.now) (numbers c) (are_zero c) row

one : (c : After-truncate) → (sums_at (take 1 c.self.inside.sums.items) 0 ≡ NO_SUMS) × (length (take 1 c.self.inside.sums.items) ≡ 1)
one c = first_alone c.self.inside.sums.items c.self.invariant.held.none (omega (arith, c.self.invariant.held.below 0))

pub invariant_of-self : goal.invariant_of-self
unfolding numbers
invariant_of-self c =
    let alone = one c in
    rw c.truncate.ensures.items (record {
      held = AreHeld_none (places_of 0 (numbers c)) _ (off c) alone.0 (omega arith);
      few = omega arith;
    })

pub returns-clause-none : goal.returns-clause-none
unfolding numbers
returns-clause-none c = λ row low.
    let places = places_of 0 (numbers c) in
    placed_none places c.truncate.new.self.items (off c) (rw c.truncate.ensures.items (one c).0) row (rw (length-placed places c.truncate.new.self.items) at low)
