-- The usual limits in numbers.
use Rattle.std.proofs.Common.{refl, arith}
use Rattle.mintc_command_answers.specs.Usual.{UsualLimits}

pub usual_limits_lem : UsualLimits
usual_limits_lem = record {
  files = λ files. (λ h. h, λ h. h);
  designs = λ d. refl;
  hierarchies = λ s top. refl;
  pairs = λ d count. (λ h. h, λ h. h);
  members = λ m ws. (λ h. h, λ h. h);
  corners = λ ts r. (λ h. h, λ h. h);
  slack = λ d file r accepted h. let few = accepted.within.elements in let many = h.0 in omega (arith, few, many);
}
