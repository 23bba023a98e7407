use Rattle.std.proofs.Common.{◌∷◌, ap, sym, ◌∙◌}
use Rattle.mintc_sdf_tokens.specs.Reading.{after_opening}
use Rattle.mintc_sdf.proofs.SharedCarriedLaws.{carried, passed-on}
use Rattle.mintc_sdf_edges.proofs.WalkLaws.{closed, stopped, opened-row, opened-on, opened-lost}
use Rattle.mintc_sdf_edges.proofs.texts.step.Goals as goal

pub returns-then-close-clause-on : goal.returns-then-close-clause-on
returns-then-close-clause-on c = λ rows e. closed c.args.telling.now rows c.args.reader.now c.close.new.self e c.if-close.ensures

pub returns-in_err-read_opening-clause-on : goal.returns-in_err-read_opening-clause-on
returns-in_err-read_opening-clause-on c = λ rows e.
    passed-on c.from_residual.result c.in_err-read_opening.field-0.0 _ _ _ c.from_residual.ensures.1
    (λ f. stopped c.args.telling.now rows c.args.reader.now e c.requires c.if-close.ensures.0 (ap after_opening (sym c.if-close.ensures.1) ∙ f)) c.in_err-read_opening.ensures

pub returns-clause-on : goal.returns-clause-on
returns-clause-on c = λ rows e.
    let opened = opened-row rows c.args.reader.now c.read_opening.new.reader e (ap after_opening (sym c.if-close.ensures.1) ∙ c.in_ok-read_opening.ensures) in
    carried c.list.result _ _ _ _
    (λ _ f. opened-on c.args.telling.now c.list.new.telling rows c.read_opening.new.reader c.list.new.reader opened f)
    (λ f. opened-lost c.args.telling.now rows c.read_opening.new.reader opened f)
    (c.list.ensures.entered (opened.1 ∷ opened.2) opened.0 opened.4)
