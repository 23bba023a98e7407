-- Setups that are late by their data.
use Rattle.std.proofs.Common.{◌≡◌, ℕ, ℤ, ◌+ℤ◌, Bool, true, List, [], ◌∷◌, Some, if◌then◌else◌, ap}
use Rattle.std.specs.Prelude.{codes}
use Rattle.mintc_timing.specs.declared.clocking.Schedule.{Schedule}
use Rattle.mintc_timing.specs.Design.{Timing, pair_at}
use Rattle.mintcx_amounts.specs.declared.unit.Unit.{Unit}
use Rattle.mintcx_judgements.specs.Data.{is_data, late_lines, opening_lines, source_line, wanted_line}
use Rattle.mintcx_judgements.specs.Sources.{edge_of, leaving, longest, turning}

module _ (t : Timing) (s : Schedule) (d : List ℤ) (unit : Unit) (l n : ℕ) where
  abbrev pub data_line : List ℕ
  data_line = source_line t.flat s unit (pair_at t n).from (codes " and takes ") (leaving t s d n) (longest t s n)

  abbrev pub data_wanted : List ℕ
  data_wanted = wanted_line t.flat s unit l (edge_of t.flat s l +ℤ turning t s n)

  pub late_by_data : is_data t s d l n ≡ true → late_lines t s d unit l (Some n) ≡ data_line ∷ data_wanted ∷ []
  late_by_data e = ap (λ (b : Bool). if b then data_line ∷ data_wanted ∷ [] else opening_lines t s d unit l) e
