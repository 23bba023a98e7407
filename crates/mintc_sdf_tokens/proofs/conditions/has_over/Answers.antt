use Rattle.std.proofs.Common.{rules, tests}
use Rattle.std.proofs.lemmas.Iterator.{YieldsList-from_slice}
use Rattle.std.proofs.lemmas.Iterator.Search.{any_from_yields_List}
use Rattle.mintc_sdf_tokens.specs.Conditions.{is_over}
use Rattle.mintc_sdf_tokens.proofs.conditions.has_over.Goals as goal

pub returns : goal.returns
returns c = any_from_yields_List is_over _ _ _ c.any.ensures.ran (YieldsList-from_slice c.args.layers.now cc) (λ x b q k. search (rules, tests))
