use Rattle.std.proofs.Common.{subst, sym}
use Rattle.mintc_timing.specs.Order.{ArePathsShort}
use Rattle.mintcx_optima.proofs.holds.hold_stage.Goals as goal

pub path_delay-least-requires-clause-short : goal.path_delay-least-requires-clause-short
path_delay-least-requires-clause-short c = subst ArePathsShort (sym c.flat-flat.ensures.value) c.flat-flat.ensures.kept.short
