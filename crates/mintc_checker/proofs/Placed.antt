-- Labels at the places of bits.
use Rattle.std.proofs.Common.{◌≡◌, ℕ, ◌<◌, ◌+◌, ℤ, List, length, get_or, arith, ap, ◌∙◌, sym, None}
use Rattle.std.proofs.lemmas.List.{get_or-map, get_or-replicate, get_or_default}
use Rattle.std.proofs.Math.ListN.{length-map}
use Rattle.mintc_timing.specs.Design.{Design}
use Rattle.mintc_lanes.specs.declared.TheConstants.{ABSENT}
use Rattle.mintc_lanes.specs.Lanes.{lane_of, lane_at}
use Rattle.mintc_checker.specs.declared.labels.Labels.{Labels}
use Rattle.mintc_checker.specs.declared.labels.TheConstants.{NO_LABELS}
use Rattle.mintc_checker.specs.declared.course.Course.{Course}
use Rattle.mintc_checker.specs.Course.{place_at, placed, AreInside, IsCourse, IsOutput}
use Rattle.mintc_checker.specs.Labels.{labels_at, no_labels, AreRows, IsStart}

pub length-placed : (places : List ℕ) (rows : List Labels) → length (placed places rows) ≡ length places
length-placed places rows = length-map places (labels_at rows)

pub placed_at : (places : List ℕ) (rows : List Labels) (bit : ℕ) → bit < length places → labels_at (placed places rows) bit ≡ labels_at rows (place_at places bit)
placed_at places rows bit below = get_or-map (labels_at rows) places bit 0 no_labels below

-- the rows are as many as places are given, and one more
pub AreInside_given : (design : Design) (order : List ℕ) (course : Course) (rows : List Labels) → IsCourse design order course → length rows ≡ course.places.given + 1 → AreInside course.places.of_bits.items rows
AreInside_given design order course rows h count = λ bit. omega (arith, h.places.below bit)

no_lane : (lane : ℕ) → lane < 8 → lane_at NO_LABELS.lanes lane ≡ None
no_lane lane low = ap lane_of (get_or-replicate 8 lane ABSENT ABSENT low)

-- Where no labels are, no element has begun.
pub AreRows-none : (design : Design) (den : ℤ) (d : List ℤ) (places : List ℕ) (rows : List Labels) → ((row : ℕ) → row < length rows → labels_at rows row ≡ NO_LABELS) → AreRows design den d (IsOutput 0) IsStart places rows
AreRows-none design den d places rows none = record {
  held = λ bit o. absurd (omega (arith, o.1));
  others = λ row lane below eight unheld. ap (λ (l : Labels). lane_at l.lanes lane) (none row below) ∙ no_lane lane eight;
}

-- what is read at the place of a bit
pub read_placed : (places : List ℕ) (rows seen : List Labels) → placed places rows ≡ seen → AreInside places rows → (bit at : ℕ) (x : Labels) → bit < length seen →
    at ≡ place_at places bit → x ≡ get_or rows at x → x ≡ labels_at seen bit
read_placed places rows seen view_is inside bit at x low is x_is =
    let below : bit < length places = omega (arith, length-placed places rows, ap (λ (xs : List Labels). length xs) view_is) in
    x_is ∙ get_or_default rows at x no_labels (omega (arith, inside bit, is)) ∙ ap (labels_at rows) is ∙ sym (placed_at places rows bit below) ∙ ap (λ (xs : List Labels). labels_at xs bit) view_is
