use Rattle.mintc_flatten_hierarchy.specs.Sources.{source_of}
use Rattle.mintc_flatten.specs.Tops.{AreMarks}
use Rattle.mintc_flatten.proofs.tops.mark_modules.Given as goal

abbrev pub invariant-loop-number : goal.invariant-loop-number
invariant-loop-number l = AreMarks (source_of l.cells l.modules) l.number l.marks
