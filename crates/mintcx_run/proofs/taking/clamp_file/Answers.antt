use Rattle.std.proofs.Common.{[], inl, inr, refl, sym}
use Rattle.std.proofs.lemmas.List.{set-get_or}
use Rattle.mintcx_run.proofs.TakingLaws.{clamped_at}
use Rattle.mintcx_run.proofs.taking.clamp_file.Goals as goal

pub returns-in-Some-clause-taken : goal.returns-in-Some-clause-taken
returns-in-Some-clause-taken c = (
  c.in-Some.text,
  inr (clamped_at c.args.files.now c.args.at c.index-files-at.result c.in-Some.text c.requires (rw c.items.ensures at (rw c.in-Some.is at c.in_ok-text.ensures))),
  refl,
)

pub returns-in_default-clause-taken : goal.returns-in_default-clause-taken
returns-in_default-clause-taken c = (_, inl refl, sym (set-get_or c.args.files.now c.args.at []))
