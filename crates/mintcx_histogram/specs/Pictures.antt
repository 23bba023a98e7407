-- The picture of slacks.
use Rattle.std.specs.Prelude.{◌≡◌, ◌*◌, ℕ, ℤ, List, [], ◌∷◌, ◌++◌, map}
use Rattle.mintc_fraction.specs.Ratio.{Ratio}
use Rattle.mintc_slack.specs.declared.finding.Slacks.{Slacks}
use Rattle.mintc_slack.specs.declared.finding.Slacks.TheVariants as slacks
use Rattle.mintcx_amounts.specs.declared.unit.Unit.{Unit}
use Rattle.mintcx_frame.specs.declared.view.View.{View}
use Rattle.mintcx_frame.specs.Ends.{unit_for}
use Rattle.mintcx_picture.specs.declared.drawn.Drawn.{Drawn}
use Rattle.mintcx_picture.specs.declared.drawn.Drawn.TheVariants.{NoSchedule, Picture}
use Rattle.mintcx_picture.specs.declared.forms.Form.{Form}
use Rattle.mintcx_picture.specs.declared.pictures.Head.{Head}
use Rattle.mintcx_picture.specs.Pictures.{picture_text}
use Rattle.mintcx_slacks.specs.Histograms.{IsStep, bars_of, count_of, fullest_of, most_of, step_at}
use Rattle.mintcx_histogram.specs.declared.bars.Bar.{Bar}
use Rattle.mintcx_histogram.specs.Bars.{bar_forms}

-- the bar of a number, by the step of the bars
abbrev pub bar_at : ℕ → List ℤ → ℕ → Bar
bar_at step extra number = record {
  number = number;
  end = number * step;
  count = count_of step extra number;
  fullest = fullest_of step extra;
}

-- the layers of the bars, the first one at the top
abbrev pub bar_layers : Unit → ℕ → List ℤ → List (List Form)
bar_layers unit step extra = map (λ number. bar_forms unit (bar_at step extra number)) (bars_of step extra)

-- The text is a picture with the bars of these slacks by a step, between other layers.
abbrev pub IsOfStep : Unit → ℕ → List ℤ → List ℕ → Type 0
IsOfStep unit step extra text = (head : Head) × (top : List Form) × (foot : List Form)
    × (text ≡ picture_text head (top ∷ bar_layers unit step extra ++ foot ∷ []))

-- The same of a least cycle, by the least step of which twelve are as much as the greatest slack.
abbrev pub IsSlackPicture : Ratio → List ℤ → View → List ℕ → Type 0
IsSlackPicture cycle extra view text =
    (n : ℕ) × IsStep (most_of extra) n × IsOfStep (unit_for view.unit cycle) (step_at n) extra text

-- What is drawn of slacks: their picture, or nothing where no schedule is right.
abbrev pub IsSlackDrawn : View → Slacks → Drawn → Type 0
IsSlackDrawn view (slacks.Least cycle extra) drawn = (text : List ℕ) × (drawn ≡ Picture text)
    × IsSlackPicture cycle extra view text
IsSlackDrawn view slacks.Never drawn = drawn ≡ NoSchedule
