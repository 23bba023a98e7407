use Rattle.std.proofs.Common.{refl, true, ◌∙◌}
use Rattle.mintc_sdf_tokens.proofs.SharedInsideLaws.{needs-word}
use Rattle.mintc_sdf_edges.specs.Telling.{item}
use Rattle.mintc_sdf.proofs.SharedCarriedLaws.{carried, passed-on}
use Rattle.mintc_sdf.proofs.SharedFoundLaws.{plain-word, plain-def}
use Rattle.mintc_sdf_edges.proofs.ItemLaws.{item-plain}
use Rattle.mintc_sdf_edges.proofs.items.plain_item.Goals as goal

pub returns-in_err-key : goal.returns-in_err-key
unfolding item
returns-in_err-key c = passed-on c.from_residual.result c.in_err-key.field-0.0 _ _ _ c.from_residual.ensures.1 (needs-word (item c.args.telling.now) c.args.reader.now refl (λ _ _. refl) (λ _ _. refl)) c.in_err-key.ensures

pub returns : goal.returns
returns c =
    let key = plain-def c.in_ok-key.key.now (plain-word true c.args.reader.now c.read_word.new.reader c.in_ok-key.key.now c.in_ok-key.ensures c.requires.plain) in
    let same = item-plain c.args.telling.now c.args.reader.now c.read_word.new.reader c.in_ok-key.key.now c.in_ok-key.ensures key.0 key.1 in
    carried c.plain.result _ _ _ _ (λ _ e. same ∙ e) (λ e. same ∙ e) c.plain.ensures
