use Rattle.std.proofs.Common.{bytes_eq, not, sym, ap, ◌∙◌}
use Rattle.mintc_liberty.proofs.NextLaws.{by-answer, group-opens, cell-there, not-named}
use Rattle.mintc_liberty.proofs.places.is_cell.Goals as goal

pub returns-in-Some-only_name : goal.returns-in-Some-only_name
returns-in-Some-only_name c =
    let ts = c.args.reader.now in
    let g = c.in-Some.group in
    let name = c.in-Some-only_name.name.now in
    let there = c.in-Some.ensures.some in
    let named = c.if-ne.ensures ∙ ap (λ k. not (bytes_eq g.name.now k)) c.as_slice.ensures in
    let opens = group-opens ts g.name.now g.items g.inside there in
    by-answer c.is_name.result
    (λ e. (g.items, opens, cell-there ts g.items g.name.now name g.items g.inside opens there named c.in-Some-only_name.ensures (sym c.is_name.ensures ∙ e)))
    (λ e. not-named ts g.name.now name g.items g.inside there named c.in-Some-only_name.ensures (sym c.is_name.ensures ∙ e))
