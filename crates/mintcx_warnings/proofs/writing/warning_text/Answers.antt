use Rattle.std.proofs.Common.{◌++◌, ◌∙◌, ap}
use Rattle.std.specs.Prelude.{codes, replicate}
use Rattle.mintcx_refusals.specs.Messages.{place_text}
use Rattle.mintcx_warnings.specs.Warnings.{advice_text, head_text}
use Rattle.mintcx_warnings.proofs.WrittenLaws.{made_of_four}
use Rattle.mintcx_warnings.proofs.writing.warning_text.Goals as goal

pub returns : goal.returns
returns c =
    let said = c.args.said.now in
    let excerpt = c.in_ok-excerpt.excerpt in
    let width = c.in_ok-margin.margin in
    let blanks = replicate width 32 in
    record {
      excerpt = excerpt;
      width = width;
      is_shown = c.in_ok-excerpt.ensures;
      is_wide = c.in_ok-margin.ensures;
      whole = c.new.ensures ∙ c.into_bytes.ensures
          ∙ made_of_four (head_text said.what) (place_text width c.args.scene.now.name.now excerpt said.label) (advice_text blanks (codes " = why: ") said.why) (advice_text blanks (codes " = help: ") said.help)
          c.new-lines.ensures
          (c.in_ok-put_head.ensures ∙ ap (λ v. c.new-lines.result ++ head_text v) c.items.ensures)
          (c.in_ok-put_place.ensures ∙ ap (λ v. c.put_head.new.lines ++ place_text width c.args.scene.now.name.now excerpt v) c.items-2.ensures)
          (c.in_ok-put_advice.ensures ∙ ap (λ v. c.put_place.new.lines ++ advice_text blanks (codes " = why: ") v) c.items-3.ensures)
          (c.in_ok-put_advice-2.ensures ∙ ap (λ v. c.put_advice.new.lines ++ advice_text blanks (codes " = help: ") v) c.items-4.ensures);
    }
