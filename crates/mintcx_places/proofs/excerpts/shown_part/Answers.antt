use Rattle.std.proofs.Common.{◌≡◌, ◌++◌, ◌∙◌, ap, length, arith, nat_lt, vec_len}
use Rattle.std.specs.Prelude.{slice_range}
use Rattle.mintcx_places.specs.Excerpts.{cut, lead, marked, shown}
use Rattle.mintcx_places.proofs.ShownLaws.{begun, counted, ended}
use Rattle.mintcx_places.proofs.excerpts.shown_part.Goals as goal

pub returns : goal.returns
returns c =
    let text = c.args.text.now in
    let line = c.args.line.now in
    let part = c.args.part.now in
    let before : c.put_shown.new.out.items ≡ lead text line part =
    begun (cut (nat_lt line.from part.from)) (shown (slice_range text part.from part.caret)) c.in_ok-out.ensures.items c.in_ok-put_cut.ensures c.in_ok-put_shown.ensures in
    let middle : c.put_shown-2.new.out.items ≡ lead text line part ++ marked text part = c.in_ok-put_shown-2.ensures ∙ ap (λ v. v ++ marked text part) before in
    let many : vec_len c.put_shown.new.out ≡ length c.put_shown.new.out.items = grind arith in
    let more : vec_len c.put_shown-2.new.out ≡ length c.put_shown-2.new.out.items = grind arith in
    let caret : c.len-caret.result ≡ length (lead text line part) = c.len-caret.ensures ∙ many ∙ ap length before in
    let end : c.len-end.result ≡ length (lead text line part ++ marked text part) = c.len-end.ensures ∙ more ∙ ap length middle in
    record {
      whole = c.new.ensures ∙ ended (lead text line part ++ marked text part) (shown (slice_range text part.marked part.to)) (cut (nat_lt part.to line.to)) middle c.in_ok-put_shown-3.ensures c.in_ok-put_cut-2.ensures;
      caret = caret;
      marks = c.max.ensures ∙ counted (lead text line part) (marked text part) c.len-caret.result c.len-end.result caret end;
    }
