use Rattle.std.proofs.Common.{ap, ◌∙◌}
use Rattle.mintc_timing.specs.Design.{Design}
use Rattle.mintc_timing.specs.Links.{cycles_of, delay_of}
use Rattle.mintc_certificate.specs.Valid.{links_of_members}
use Rattle.mintcx_verdicts.proofs.ChainLaws.{same_sums}
use Rattle.mintcx_verdicts.proofs.verdict.sums_over.Goals as goal

pub returns-clause-value : goal.returns-clause-value
returns-clause-value c =
    let design = c.args.system.now.flat in
    let chain = c.args.chain.now in
    same_sums c.sums_of.result (delay_of (links_of_members design chain)) (cycles_of (links_of_members design chain))
    (c.sums_of.ensures.delay ∙ ap (λ (v : Design). delay_of (links_of_members v chain)) c.flat.ensures.value)
    (c.sums_of.ensures.cycles ∙ ap (λ (v : Design). cycles_of (links_of_members v chain)) c.flat.ensures.value)

pub returns-clause-range : goal.returns-clause-range
returns-clause-range c = record { delay = c.sums_of.ensures.delay_range; cycles = c.sums_of.ensures.cycles_range }
