use Rattle.std.proofs.Common.{refl}
use Rattle.mintc_sdf.specs.declared.delays.Subject.TheVariants as subject
use Rattle.mintc_sdf.proofs.SharedCarriedLaws.{passed-on}
use Rattle.mintc_sdf.proofs.checks.setup.Goals as goal

pub returns-in_err-pin : goal.returns-in_err-pin
returns-in_err-pin c = passed-on c.from_residual.result c.in_err-pin.field-0.0 _ _ _ c.from_residual.ensures.1 (λ e. e) (c.in_err-pin.ensures subject.Setup)

pub returns : goal.returns
returns c = c.in_ok-pin.ensures subject.Setup refl
