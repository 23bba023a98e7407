use Rattle.std.proofs.Common.{◌≡◌, ◌+◌, ◌-◌, ℕ, length, take, arith}
use Rattle.mintc_paths_sums.specs.declared.sums.TheConstants.{NO_SUMS}
use Rattle.mintc_paths_sums.specs.SparseRows.{place_at, places_of}
use Rattle.mintc_paths_sums.specs.Sums.{sums_at}
use Rattle.mintc_paths_sums.proofs.SharedPlaced.{length-placed}
use Rattle.mintc_paths_sums.proofs.Give.{placed_none, AreHeld_none, none_above, first_alone}
use Rattle.mintc_paths_sums.proofs.sparse_rows.SparseRows.raise.Goals as goal
use Rattle.mintc_paths_sums.proofs.sparse_rows.SparseRows.raise.Goals.{After-len}

-- once the base is raised by how many sums are held, no row has a place
off : (c : After-len) (row : ℕ) → place_at (places_of (c.self.inside.base + (c.len.result - 1)) c.self.inside.numbers.items) row ≡ 0
off c = none_above c.self.inside.base (c.self.inside.base + (c.len.result - 1)) c.self.inside.numbers.items c.self.inside.sums.items c.self.invariant.held (omega (arith, c.len.ensures, c.self.inside.sums.ok.0))

one : (c : After-len) → (sums_at (take 1 c.self.inside.sums.items) 0 ≡ NO_SUMS) × (length (take 1 c.self.inside.sums.items) ≡ 1)
one c = first_alone c.self.inside.sums.items c.self.invariant.held.none (omega (arith, c.self.invariant.held.below 0))

pub invariant_of-self : goal.invariant_of-self
invariant_of-self c =
    let at = (goal.at.invariant_of-self c).After-len in
    let alone = one at in
    rw c.truncate.ensures.items (record {
      held = AreHeld_none (places_of (c.self.inside.base + (c.len.result - 1)) c.self.inside.numbers.items) _ (off at) alone.0 (omega arith);
      few = omega (arith, c.self.invariant.few, c.self.invariant.held.below 0, c.len.ensures, c.self.inside.sums.ok.0);
    })

pub returns-clause-none : goal.returns-clause-none
returns-clause-none c = λ row low.
    let at = (goal.at.returns-clause-none c).After-len in
    let places = places_of (c.self.inside.base + (c.len.result - 1)) c.self.inside.numbers.items in
    placed_none places c.truncate.new.self.items (off at) (rw c.truncate.ensures.items (one at).0) row (rw (length-placed places c.truncate.new.self.items) at low)
