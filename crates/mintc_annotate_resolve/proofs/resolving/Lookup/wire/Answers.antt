use Rattle.std.proofs.Common.{subst}
use Rattle.std.proofs.lemmas.Result.{IfOk-weaker}
use Rattle.mintc_annotate_resolve.specs.Targets.{IsResolved}
use Rattle.mintc_annotate_resolve.proofs.SharedResolutionLaws.{wire_there, wire_nowhere}
use Rattle.mintc_annotate_resolve.proofs.resolving.Lookup.wire.Goals as goal

pub returns-then-not-is_there : goal.returns-then-not-is_there
returns-then-not-is_there c = record {
  right = wire_nowhere c.args.self.now.hierarchy.now c.args.self.now.cells.now c.args.path.now c.args.to.now c.args.instance c.is_there.result c.requires.instance c.is_there.ensures c.if-not-is_there.true;
  there = tt;
}

pub returns : goal.returns
returns c =
    let h = c.args.self.now.hierarchy.now in
    IfOk-weaker c.to_end_below.result _ _
    (λ s known. subst (IsResolved h s) (wire_there h c.args.self.now.cells.now c.args.path.now c.args.to.now c.args.instance c.is_there.result c.requires.instance c.is_there.ensures c.if-not-is_there.false) known)
    c.to_end_below.ensures
