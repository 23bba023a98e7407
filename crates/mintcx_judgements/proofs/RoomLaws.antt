-- Rooms as they are read from 128 bits.
use Rattle.std.proofs.Common.{◌≡◌, ℤ, ◌+ℤ◌, ◌-ℤ◌, Bool, true, false, ℕ, List, Option, Some, None, if◌then◌else◌, arith, refl, ap, ◌∙◌, FitsSigned}
use Rattle.std.specs.Int.{w128}
use Rattle.std.proofs.lemmas.Int.{ints}
use Rattle.std.specs.Prelude.{option_map}
use Rattle.mintc_timing.specs.declared.clocking.Schedule.{Schedule}
use Rattle.mintc_timing.specs.Design.{Timing, element_at}
use Rattle.mintc_timing.specs.Limits.{IsModest, IsNumerator}
use Rattle.mintcx_judgements.specs.Passes.{hold_room, setup_room}
use Rattle.mintcx_judgements.specs.Sources.{coming_early, coming_late, earliest_into, edge_of, hold_of, latest_into, setup_of, there}
use Rattle.mintcx_judgements.specs.Shown.{IsEdge, IsComing, IsLong}
use Rattle.mintcx_judgements.proofs.WideLaws.{read_wide, wide}

-- the room that a setup leaves
module _ (a b c : ℤ) (edge : IsEdge a) (setup : IsModest b) (comes : IsComing c) where
  last_is : wide (wide a -ℤ wide b) -ℤ wide c ≡ a -ℤ b -ℤ c
  last_is =
      rw (
        read_wide a (omega (arith, ints), omega (arith, ints)),
        read_wide b (omega (arith, ints), omega (arith, ints)),
        read_wide (a -ℤ b) (omega (arith, ints), omega (arith, ints)),
        read_wide c (omega (arith, ints), omega (arith, ints)),
      ) refl

  pub setup_fits : FitsSigned w128 (wide (wide a -ℤ wide b) -ℤ wide c)
  setup_fits = rw last_is (omega (arith, ints))

  pub setup_is : wide (wide (wide a -ℤ wide b) -ℤ wide c) ≡ a -ℤ b -ℤ c
  setup_is = rw last_is (read_wide (a -ℤ b -ℤ c) (omega (arith, ints), omega (arith, ints)))

  pub setup_in_range : IsLong (wide (wide (wide a -ℤ wide b) -ℤ wide c))
  setup_in_range = rw setup_is (omega (arith, ints), omega (arith, ints))

-- and the one that a hold leaves
module _ (a b c : ℤ) (comes : IsComing a) (cycle : IsNumerator b) (edge : IsEdge c) where
  next_is : wide (wide a +ℤ wide b) -ℤ wide c ≡ a +ℤ b -ℤ c
  next_is =
      rw (
        read_wide a (omega (arith, ints), omega (arith, ints)),
        read_wide b (omega (arith, ints), omega (arith, ints)),
        read_wide (a +ℤ b) (omega (arith, ints), omega (arith, ints)),
        read_wide c (omega (arith, ints), omega (arith, ints)),
      ) refl

  pub next_fits : FitsSigned w128 (wide (wide a +ℤ wide b) -ℤ wide c)
  next_fits = rw next_is (omega (arith, ints))

module _ (a b c d : ℤ) (comes : IsComing a) (cycle : IsNumerator b) (edge : IsEdge c) (hold : IsModest d) where
  held_is : wide (wide (wide a +ℤ wide b) -ℤ wide c) -ℤ wide d ≡ a +ℤ b -ℤ c -ℤ d
  held_is =
      rw (next_is a b c comes cycle edge, read_wide (a +ℤ b -ℤ c) (omega (arith, ints), omega (arith, ints)), read_wide d (omega (arith, ints), omega (arith, ints))) refl

  pub hold_fits : FitsSigned w128 (wide (wide (wide a +ℤ wide b) -ℤ wide c) -ℤ wide d)
  hold_fits = rw held_is (omega (arith, ints))

  pub hold_is : wide (wide (wide (wide a +ℤ wide b) -ℤ wide c) -ℤ wide d) ≡ a +ℤ b -ℤ c -ℤ d
  hold_is = rw held_is (read_wide (a +ℤ b -ℤ c -ℤ d) (omega (arith, ints), omega (arith, ints)))

  pub hold_in_range : IsLong (wide (wide (wide (wide a +ℤ wide b) -ℤ wide c) -ℤ wide d))
  hold_in_range = rw hold_is (omega (arith, ints), omega (arith, ints))

-- which rooms those are
module _ (t : Timing) (s : Schedule) (d : List ℤ) (l : ℕ) where
  abbrev before_edge : ℤ → ℤ
  before_edge x = edge_of t.flat s l -ℤ setup_of t.flat s l -ℤ x

  abbrev of_flop : Option ℤ
  of_flop = option_map (λ n. before_edge (coming_late t s d n)) (latest_into t s d l)

  abbrev of_latch : Option ℤ
  of_latch = Some (before_edge (there t.flat s d l))

  pub latch_room : (element_at t.flat l).flop ≡ false → setup_room t s d l ≡ of_latch
  latch_room e = ap (λ (b : Bool). if b then of_flop else of_latch) e

  pub flop_room : (n : ℕ) → (element_at t.flat l).flop ≡ true → latest_into t s d l ≡ Some n → setup_room t s d l ≡ Some (before_edge (coming_late t s d n))
  flop_room n e f =
      ap (λ (b : Bool). if b then of_flop else of_latch) e ∙ ap (option_map (λ n. before_edge (coming_late t s d n))) f

  abbrev behind_edge : ℕ → ℤ
  behind_edge n = coming_early t s d n +ℤ s.cycle -ℤ edge_of t.flat s l -ℤ hold_of t.flat s l

  pub held_room : (n : ℕ) → (element_at t.flat l).has_hold ≡ true → earliest_into t s d l ≡ Some n → hold_room t s d l ≡ Some (behind_edge n)
  held_room n e f =
      ap (λ (b : Bool). if b then option_map behind_edge (earliest_into t s d l) else None) e ∙ ap (option_map behind_edge) f
