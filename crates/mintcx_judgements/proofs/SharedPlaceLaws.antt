-- Places are those of what is told.
use Rattle.std.proofs.Common.{◌≡◌, ℕ, zero, suc, ◌<◌, ◌≤◌, ◌+◌, ℤ, pos, List, [], ◌∷◌, length, map, Option, Some, None, arith, refl, subst, sym}
use Rattle.std.specs.Prelude.{All}
use Rattle.std.specs.List.{range_with_len}
use Rattle.std.proofs.lemmas.List.Elements.{All-map}
use Rattle.std.proofs.lemmas.List.Sorted.{All-permutation}
use Rattle.mintc_timing.specs.declared.clocking.Schedule.{Schedule}
use Rattle.mintc_timing.specs.declared.violation.Violation.{Violation}
use Rattle.mintc_timing.specs.Design.{Timing, element_count}
use Rattle.mintc_timing.specs.Violations.{elements_of}
use Rattle.mintcx_judgements.specs.Fails.{AreRanked, place_of}
use Rattle.mintcx_judgements.specs.Passes.{AreByRoom, room_place, setup_room}
use Rattle.mintcx_judgements.proofs.CauseLaws.{All-range}

pub ranked_inside : (vs : List Violation) (places : List (ℕ × ℤ × ℕ)) → AreRanked vs places → All (λ (p : ℕ × ℤ × ℕ). p.2 < length vs) places
ranked_inside vs places h =
    All-permutation (λ (p : ℕ × ℤ × ℕ). p.2 < length vs) (map (place_of vs) (range_with_len 0 (length vs))) places h.permutation
    (All-map (λ (p : ℕ × ℤ × ℕ). p.2 < length vs) (place_of vs) (range_with_len 0 (length vs)) (All-range (λ n. n < length vs) 0 (length vs) (λ k low high. omega arith)))

number_of_place : (l : ℕ) (room : Option ℤ) → (room_place l room).2 ≡ l
number_of_place l (Some room) = refl
number_of_place l None = refl

pub by_room_inside : (t : Timing) (s : Schedule) (late : List ℤ) (places : List (ℕ × ℤ × ℕ)) → AreByRoom t s late places → All (λ (p : ℕ × ℤ × ℕ). p.2 < element_count t.flat) places
by_room_inside t s late places h =
    let place : ℕ → ℕ × ℤ × ℕ = λ l. room_place l (setup_room t s late l) in
    All-permutation (λ (p : ℕ × ℤ × ℕ). p.2 < element_count t.flat) (map place (elements_of t.flat)) places h.permutation
    (All-map (λ (p : ℕ × ℤ × ℕ). p.2 < element_count t.flat) place (elements_of t.flat)
    (All-range (λ l. (place l).2 < element_count t.flat) 0 (element_count t.flat)
    (λ k low high. subst (λ n. n < element_count t.flat) (sym (number_of_place k (setup_room t s late k))) (omega arith))))
