use Rattle.std.proofs.Common.{◌≡◌, ℤ, ◌+◌, ◌++◌, ◌∷◌, [], ap, ◌∙◌, sym, append_assoc}
use Rattle.std.specs.Prelude.{codes}
use Rattle.std.proofs.lemmas.Result.{on_ok_weaker}
use Rattle.mintc_text.specs.Lines.{ended}
use Rattle.mintc_timing.specs.Clocking.{start_of}
use Rattle.mintcx_frame.specs.Names.{phase_name}
use Rattle.mintcx_judgements.specs.Shown.{about, measured, timed}
use Rattle.mintcx_judgements.proofs.WideLaws.{read_cycle, wide}
use Rattle.mintcx_judgements.proofs.WrittenLaws.{line_of_two_then}
use Rattle.mintcx_judgements.proofs.rules.put_order.Goals as goal

pub returns : goal.returns
returns c =
    let unit = c.args.told.now.unit in
    let s = c.args.told.now.schedule.now in
    let design = c.args.told.now.system.now.flat in
    let p = c.args.excess.phase in
    let first : wide c.start-starts.result ≡ start_of s p = read_cycle c.start-starts.result c.start-starts.ensures.range ∙ c.start-starts.ensures.value in
    let second : wide c.start-next.result ≡ start_of s (p + 1) = read_cycle c.start-next.result c.start-next.ensures.range ∙ c.start-next.ensures.value in
    let claim = about (codes "  order  ") (phase_name design p) (codes " starts ") in
    let follows = about (codes " after ") (phase_name design (p + 1)) (codes ", which follows it") in
    let line = λ (x : ℤ) (y : ℤ). ended (timed unit s (codes "         at ") x ++ timed unit s (codes " and at ") y) in
    on_ok_weaker c.put_times.result
    (λ e. line_of_two_then c.args.lines.now (measured unit s claim c.args.excess.amount) follows
    (timed unit s (codes "         at ") (start_of s p) ++ timed unit s (codes " and at ") (start_of s (p + 1)))
    c.in_ok-put_claim.ensures
    (c.in_ok-put_about.ensures ∙ ap (λ v. c.put_claim.new.lines ++ about (codes " after ") v (codes ", which follows it" ++ 10 ∷ [])) c.phase_name.ensures
    ∙ ap (λ v. c.put_claim.new.lines ++ v) (sym (append_assoc (codes " after " ++ phase_name design (p + 1)) (codes ", which follows it") (10 ∷ []))))
    (e ∙ ap (λ x. c.put_about.new.lines ++ line x (wide c.start-next.result)) first ∙ ap (λ y. c.put_about.new.lines ++ line (start_of s p) y) second))
    c.put_times.ensures
