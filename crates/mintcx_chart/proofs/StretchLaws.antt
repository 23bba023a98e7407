-- The least and the greatest of the times of rows, row by row.
use Rattle.std.proofs.Common.{◌≡◌, false, refl, rules, ◌*ℤ◌, ◌-ℤ◌, ◌<ℤ◌, pos, subst, ℕ, ◌+◌, ◌<◌, ℤ, List, [], ◌∷◌, ◌++◌, length, get_or, take, ap, ◌∙◌, sym}
use Rattle.std.specs.Prelude.{flat_map}
use Rattle.std.specs.List.{fold}
use Rattle.std.proofs.lemmas.List.{flat_map_more, take_more}
use Rattle.std.proofs.lemmas.List.Sums.{fold-append}
use Rattle.mintcx_chart.specs.declared.lanes.Lane.{Lane}
use Rattle.mintcx_chart.specs.Stretches.{closes_at, is_clock, lane_times, opens_at}

pub lane_more : (g : ℤ → ℤ → ℤ) (f : Lane → List ℤ) (lanes : List Lane) (i : ℕ) (lane : Lane) (a b c : ℤ) → i < length lanes → lane ≡ get_or lanes i lane →
    b ≡ fold g a (flat_map f (take i lanes)) → c ≡ fold g b (f lane) → c ≡ fold g a (flat_map f (take (i + 1) lanes))
lane_more g f lanes i lane a b c below is before here =
    here ∙ ap (λ (v : ℤ). fold g v (f lane)) before ∙ sym (fold-append g a (flat_map f (take i lanes)) (f lane))
    ∙ ap (λ (v : List ℤ). fold g a v) (flat_map_more f [] (take i lanes) lane)
    ∙ ap (λ (v : List Lane). fold g a (flat_map f v)) (ap (λ (v : Lane). take i lanes ++ v ∷ []) is ∙ sym (take_more lanes i lane below))

-- the times of a row of an element
pub lane_fold : (g : ℤ → ℤ → ℤ) (cycle : ℤ) (lane : Lane) (a b d e o k : ℤ) → is_clock lane.kind ≡ false → b ≡ g a lane.at → o ≡ opens_at cycle lane → k ≡ closes_at cycle lane →
    d ≡ g b o → e ≡ g d k → e ≡ fold g a (lane_times cycle lane)
lane_fold g cycle lane a b d e o k clock hb ho hk hd he =
    he ∙ ap (λ (v : ℤ). g v k) hd ∙ ap (λ (v : ℤ). g (g v o) k) hb ∙ ap (λ (v : ℤ). g (g (g a lane.at) v) k) ho
    ∙ ap (λ (v : ℤ). g (g (g a lane.at) (opens_at cycle lane)) v) hk ∙ rw clock refl
