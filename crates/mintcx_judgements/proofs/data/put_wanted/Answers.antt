use Rattle.std.proofs.Common.{◌≡◌, ◌++◌, ◌∷◌, [], ◌-ℤ◌, ap, ◌∙◌, arith}
use Rattle.std.specs.Prelude.{codes}
use Rattle.std.proofs.lemmas.Int.{ints}
use Rattle.std.proofs.lemmas.Result.{on_ok_weaker}
use Rattle.mintcx_judgements.specs.Data.{edge_text}
use Rattle.mintcx_judgements.specs.Shown.{IsComing, timed}
use Rattle.mintcx_judgements.specs.Sources.{setup_of}
use Rattle.mintcx_judgements.proofs.WideLaws.{less_at, read_wide, wide}
use Rattle.mintcx_judgements.proofs.WrittenLaws.{in_five}
use Rattle.mintcx_judgements.proofs.data.put_wanted.Goals as goal

pub returns : goal.returns
returns c =
    let unit = c.args.told.now.unit in
    let s = c.args.told.now.schedule.now in
    let design = c.args.told.now.system.now.flat in
    let l = c.args.element in
    let range = c.setup-setup.ensures.range in
    let comes = c.requires.edge in
    let small : IsComing c.setup-setup.result = (omega (arith, ints), omega (arith, ints)) in
    let edge : wide c.args.edge ≡ c.args.edge = read_wide c.args.edge (omega (arith, ints), omega (arith, ints)) in
    let setup : wide c.setup-setup.result ≡ setup_of design s l = read_wide c.setup-setup.result (omega (arith, ints), omega (arith, ints)) ∙ c.setup-setup.ensures.value in
    let time : wide (wide c.args.edge -ℤ wide c.setup-setup.result) ≡ c.args.edge -ℤ setup_of design s l =
    less_at c.args.edge c.setup-setup.result comes small ∙ ap (λ x. c.args.edge -ℤ x) c.setup-setup.ensures.value in
    on_ok_weaker c.put-2.result
    (λ e. in_five c.args.lines.now (timed unit s (codes "         wanted by ") (c.args.edge -ℤ setup_of design s l)) (timed unit s (codes ", which is ") (setup_of design s l)) (codes " before ")
    (edge_text design s unit l c.args.edge) (10 ∷ [])
    (c.in_ok-put_timed.ensures ∙ ap (λ x. c.args.lines.now ++ timed unit s (codes "         wanted by ") x) time)
    (c.in_ok-put_timed-2.ensures ∙ ap (λ x. c.put_timed.new.lines ++ timed unit s (codes ", which is ") x) setup)
    c.in_ok-put.ensures.ok
    (c.in_ok-put_edge.ensures ∙ ap (λ x. c.put.new.self ++ edge_text design s unit l x) edge)
    e)
    c.put-2.ensures.ok
