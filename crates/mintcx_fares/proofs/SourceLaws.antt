-- Every second row.
use Rattle.std.proofs.Common.{◌≡◌, ℕ, zero, suc, ◌+◌, ◌*◌, ◌<◌, List, [], ◌∷◌, length, get_or, take, arith, refl, ap, ◌∙◌, sym}
use Rattle.std.proofs.Math.Seq.{take-length}
use Rattle.mintcx_amounts.specs.declared.unit.Unit.{Unit as UnitOfTime}
use Rattle.mintcx_picture.specs.declared.forms.Form.{Form}
use Rattle.mintcx_picture.specs.declared.scale.Scale.{Scale}
use Rattle.mintcx_chart.specs.declared.lanes.Lane.{Lane}
use Rattle.mintcx_chart.specs.Rows.{HasBar, HasBars}
use Rattle.mintcx_chart.proofs.SharedRowLaws.{bars_more}
use Rattle.mintcx_fares.specs.Drawings.{sources}

pub sources_at : (lanes : List Lane) (k : ℕ) (d : Lane) → k + k + 1 < length lanes → get_or (sources lanes) k d ≡ get_or lanes (k + k) d
sources_at [] k d h = absurd (omega (arith, h))
sources_at (a ∷ []) k d h = absurd (omega (arith, h))
sources_at (a ∷ b ∷ lanes) zero d h = refl
sources_at (a ∷ b ∷ lanes) (suc k) d h =
    let next : suc (suc (k + k)) ≡ suc k + suc k = omega arith in
    sources_at lanes k d (omega (arith, h)) ∙ ap (λ (n : ℕ). get_or (a ∷ b ∷ lanes) n d) next

pub sources_count : (lanes : List Lane) (n : ℕ) → length lanes ≡ n + n → length (sources lanes) ≡ n
sources_count [] n h = omega (arith, h)
sources_count (a ∷ []) n h = absurd (omega (arith, h))
sources_count (a ∷ b ∷ lanes) zero h = absurd (omega (arith, h))
sources_count (a ∷ b ∷ lanes) (suc n) h = omega (arith, sources_count lanes n (omega (arith, h)))

pub all_sources : (lanes : List Lane) (n : ℕ) → length lanes ≡ n + n → take n (sources lanes) ≡ sources lanes
all_sources lanes n h = ap (λ (k : ℕ). take k (sources lanes)) (sym (sources_count lanes n h)) ∙ take-length (sources lanes)

-- the bar of one source more
pub source_bars : (scale : Scale) (unit : UnitOfTime) (lanes : List Lane) (most n : ℕ) (source : Lane) (old before new : List (List Form)) → length lanes ≡ most + most → n < most →
    source ≡ get_or lanes (2 * n) source → HasBars scale unit (take n (sources lanes)) old before → HasBar scale unit source before new →
    HasBars scale unit (take (n + 1) (sources lanes)) old new
source_bars scale unit lanes most n source old before new count below is has more =
    let twice : 2 * n ≡ n + n = omega arith in
    bars_more scale unit (sources lanes) n source old before new (omega (arith, sources_count lanes most count, below))
    (is ∙ ap (λ (k : ℕ). get_or lanes k source) twice ∙ sym (sources_at lanes n source (omega (arith, count, below)))) has more
