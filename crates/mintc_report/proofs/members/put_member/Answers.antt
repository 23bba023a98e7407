use Rattle.std.proofs.Common.{◌≡◌, pos, [], ◌∷◌, ◌++◌, map, ap, ◌∙◌, sym, subst, SFits, w64, rules}
use Rattle.std.specs.Prelude.{All}
use Rattle.std.proofs.lemmas.Int.{to_z-of_z}
use Rattle.std.proofs.lemmas.Result.{on_ok_weaker}
use Rattle.mintc_text.specs.Lines.{spaced, text_of}
use Rattle.mintc_timing.specs.declared.link.Link.{Link}
use Rattle.mintc_report.specs.Reports.{IsThrough, amount_words, through_line}
use Rattle.mintc_report.proofs.ReportLaws.{member_written}
use Rattle.mintc_report.proofs.Throughs.{are_through}
use Rattle.mintc_report.proofs.members.put_member.Goals as goal

pub put_throughs-requires : goal.put_throughs-requires
put_throughs-requires c =
    subst (All (IsThrough c.args.system.now.flat)) (sym c.later_arcs.ensures) (are_through c.args.system.now c.args.member.now c.link_at-link.ensures.design c.requires.member)

pub returns : goal.returns
returns c =
    let t = c.args.system.now in
    let link = c.link_at-link.result in
    let begun = c.put_names.new.lines in
    let first = c.put_amounts.new.lines in
    let delay_fits : SFits w64 c.link_at-link.result.delay = search rules in
    let cycles_fit : SFits w64 c.from.result = search rules in
    let amounts : first ≡ begun ++ (spaced (amount_words link.delay (pos link.cycles)) ++ 10 ∷ []) =
    rw (to_z-of_z w64 link.delay delay_fits, to_z-of_z w64 c.from.result cycles_fit, c.from.ensures) at c.in_ok-put_amounts.ensures in
    on_ok_weaker c.put_throughs.result
    (λ e. member_written t c.args.member.now c.args.lines.now begun first c.put_throughs.new.lines c.in_ok-put_names.ensures
    (subst (λ (k : Link). first ≡ begun ++ (spaced (amount_words k.delay (pos k.cycles)) ++ 10 ∷ [])) c.link_at-link.ensures.value amounts)
    (e ∙ ap (λ v. first ++ text_of (map (through_line t.flat) v)) c.later_arcs.ensures)) c.put_throughs.ensures
