use Rattle.std.proofs.Common.{ap, ◌∙◌}
use Rattle.mintc_optimise.specs.Benches.{Workplace}
use Rattle.mintc_optimise.proofs.SolvedLaws.{bounded, solved}
use Rattle.mintc_optimise.proofs.bench.Bench.solve.Goals as goal

pub returns-clause-solved : goal.returns-clause-solved
returns-clause-solved g c = λ t limits ends is.
    let same = ap (λ (b : Workplace). b.list) c.self.view_is ∙ is in
    solved t limits ends c.search.new.room c.search.result (rw same at c.search.ensures.searched)

pub returns-clause-bounded : goal.returns-clause-bounded
returns-clause-bounded g c = λ t limits ends is.
    let same = ap (λ (b : Workplace). b.list) c.self.view_is ∙ is in
    bounded t limits ends c.search.new.room (rw same at c.self.invariant.ordinary) c.search.result (rw same at c.search.ensures.searched)
