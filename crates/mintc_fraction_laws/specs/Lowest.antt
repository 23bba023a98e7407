-- That each fraction has lowest terms.
use Rattle.std.specs.Prelude.{◌≤ℤ◌}
use Rattle.mintc_fraction.specs.Ratio.{Ratio, IsEqual, IsFraction, IsLowest}

-- The value of a fraction in lowest terms, with a denominator that is no greater.
pub record IsReducedTo (a lowest : Ratio) : Type 0 where
  pub positive : IsFraction lowest
  pub reduced : IsLowest lowest
  pub equal : IsEqual lowest a
  pub less : lowest.den ≤ℤ a.den

-- Each fraction has such terms.
abbrev pub FractionsReduce : Type 0
FractionsReduce = (a : Ratio) → IsFraction a → (lowest : Ratio) × IsReducedTo a lowest
