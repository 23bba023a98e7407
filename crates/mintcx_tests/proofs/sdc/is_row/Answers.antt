use Rattle.mintcx_tests.proofs.sdc.is_row.Goals as goal

pub is_said-requires-clause-limits : goal.is_said-requires-clause-limits
is_said-requires-clause-limits c = c.clocks_keep_limits.ensures c.as_bytes-text.result.now c.in-Ok-Ok.clock c.in-Ok-Ok.ensures
