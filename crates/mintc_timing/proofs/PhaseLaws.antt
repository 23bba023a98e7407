-- Phases that feed one another exist.
use Rattle.std.proofs.Common.{◌≡◌, ℕ, ◌&&◌, ◌==◌, Bool, true, not, arith}
use Rattle.std.proofs.lemmas.Bool.Decides.{nat_tests}
use Rattle.std.proofs.lemmas.List.Folds.{Any-from_list_any}
use Rattle.std.specs.List.{All}
use Rattle.mintc_timing.specs.declared.parts.Pair.{Pair}
use Rattle.mintc_timing.specs.Design.{Timing, phase_count, element_at, phase_of, no_element}
use Rattle.mintc_timing.specs.Clocking.{feeds_of, is_pair_between}
use Rattle.mintc_timing.specs.Limits.{IsPhase, IsDesign}
use Rattle.mintc_timing.specs.Paths.{HasExtremes}

three : (a b i j : ℕ) (flop : Bool) → ((a == i) && (b == j) && not flop) ≡ true → (a ≡ i) × (b ≡ j)
three a b i j flop h = grind (arith, nat_tests)

-- Phases that feed one another exist.
pub feeds-phases : (t : Timing) → IsDesign t.flat → All (HasExtremes t.flat) t.pairs → (i j : ℕ) → feeds_of t i j ≡ true → IsPhase (phase_count t.flat) i × IsPhase (phase_count t.flat) j
feeds-phases t limits extremes i j h =
    let some = Any-from_list_any (is_pair_between t.flat i j) t.pairs h in
    let p : Pair = some.1 in
    let named : HasExtremes t.flat p = rw some.3 at (extremes some.0 p some.2) in
    let same = three (phase_of t.flat p.from) (phase_of t.flat p.to) i j (element_at t.flat p.to).flop some.4 in
    let from = (limits.each_element p.from no_element named.from).phase in
    let to = (limits.each_element p.to no_element named.to).phase in
    (rw same.0 at from, rw same.1 at to)
