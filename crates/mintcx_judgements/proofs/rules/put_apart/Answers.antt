use Rattle.std.proofs.Common.{◌≡◌, ◌++◌, ◌∷◌, [], ap, ◌∙◌, sym, append_assoc, arith, w64, to_z, of_z}
use Rattle.std.specs.Prelude.{codes}
use Rattle.std.proofs.lemmas.Int.{ints}
use Rattle.std.proofs.lemmas.Result.{on_ok_weaker}
use Rattle.mintc_text.specs.Lines.{text_of}
use Rattle.mintcx_frame.specs.Names.{phase_name}
use Rattle.mintcx_judgements.specs.Rules.{first_between, racing}
use Rattle.mintcx_judgements.specs.declared.rules.Excess.{Excess}
use Rattle.mintcx_judgements.specs.Shown.{about, measured}
use Rattle.mintcx_judgements.specs.Sources.{numbers_of}
use Rattle.mintcx_judgements.proofs.WrittenLaws.{line_and_rest}
use Rattle.mintcx_judgements.proofs.rules.put_apart.Goals as goal

pub returns : goal.returns
returns c =
    let unit = c.args.told.now.unit in
    let s = c.args.told.now.schedule.now in
    let t = c.args.told.now.system.now in
    let i = c.args.i in
    let j = c.args.j in
    let amount : to_z w64 (of_z w64 c.args.amount) ≡ c.args.amount = omega (arith, ints, c.ranges.amount.sfits) in
    let claim = about (codes "  apart  ") (phase_name t.flat i) (codes " starts ") in
    on_ok_weaker c.put_racing.result
    (λ e. line_and_rest c.args.lines.now c.put_claim.new.lines c.put_about.new.lines c.put_racing.new.lines
    (measured unit s claim c.args.amount) (about (codes " before ") (phase_name t.flat j) (codes " has ended")) (racing t i j (first_between t i j (numbers_of t)))
    (c.in_ok-put_claim.ensures ∙ ap (λ (x : Excess). c.args.lines.now ++ measured unit s (about (codes "  apart  ") (phase_name t.flat x.phase) (codes " starts ")) x.amount) c.excess_of.ensures.value
    ∙ ap (λ x. c.args.lines.now ++ measured unit s claim x) amount)
    (c.in_ok-put_about.ensures ∙ ap (λ v. c.put_claim.new.lines ++ about (codes " before ") v (codes " has ended" ++ 10 ∷ [])) c.phase_name.ensures
    ∙ ap (λ v. c.put_claim.new.lines ++ v) (sym (append_assoc (codes " before " ++ phase_name t.flat j) (codes " has ended") (10 ∷ []))))
    (e ∙ ap (λ found. c.put_about.new.lines ++ text_of (racing t i j found)) c.first_between.ensures.value))
    c.put_racing.ensures
