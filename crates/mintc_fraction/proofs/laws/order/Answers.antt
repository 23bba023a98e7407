use Rattle.std.proofs.Common.{◌*ℤ◌}
use Rattle.mintc_fraction.proofs.Comparing.{either_order, IsAtMost-trans, equal_is, strict_is}
use Rattle.mintc_fraction.proofs.laws.order.Goals as goal

pub returns : goal.returns
returns c =
    record {
      total = λ a b. either_order (a.num *ℤ b.den) (b.num *ℤ a.den);
      transitive = IsAtMost-trans;
      equal = λ a b. equal_is (a.num *ℤ b.den) (b.num *ℤ a.den);
      strict = λ a b. strict_is (a.num *ℤ b.den) (b.num *ℤ a.den);
    }
