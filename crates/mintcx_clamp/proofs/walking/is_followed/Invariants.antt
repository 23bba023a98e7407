use Rattle.std.proofs.Common.{◌≡◌}
use Rattle.mintc_sdf_tokens.specs.Tokens.{tokens_of}
use Rattle.mintcx_clamp.specs.declared.walking.Mode.TheVariants as mode
use Rattle.mintcx_clamp.specs.Walking.{followed}
use Rattle.mintcx_clamp.proofs.walking.is_followed.Given as goal

-- what is left decides
abbrev pub invariant-loop-token : goal.invariant-loop-token
invariant-loop-token l = followed l.mode l.here ≡ l.there → followed mode.Free (tokens_of l.text) ≡ tokens_of l.other
