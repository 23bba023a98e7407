use Rattle.std.proofs.Common.{inl, inr, refl}
use Rattle.mintcx_refusals.proofs.files.name_of.Goals as goal

pub returns-in-Some : goal.returns-in-Some
returns-in-Some c = inl (c.in-Some.at, c.in-Some.ensures.some, c.name_at.ensures)

pub returns-in-None : goal.returns-in-None
returns-in-None c = inr (c.in-None.ensures.none, refl)
