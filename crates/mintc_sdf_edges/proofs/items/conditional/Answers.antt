use Rattle.std.proofs.Common.{ap, ◌∙◌}
use Rattle.std.proofs.lemmas.Option.{MatchOption-at_some, MatchOption-at_none}
use Rattle.mintc_sdf_edges.specs.Telling.{item}
use Rattle.mintc_sdf.proofs.SharedCarriedLaws.{carried, passed-on}
use Rattle.mintc_sdf.proofs.SharedListLaws.{at-none}
use Rattle.mintc_sdf.proofs.SharedFoundLaws.{shown}
use Rattle.mintc_sdf_edges.proofs.ConditionLaws.{plain-there, def-found, def-found_none, item-shown, item-hidden}
use Rattle.mintc_sdf_edges.proofs.items.conditional.Goals as goal

pub returns-in_default : goal.returns-in_default
returns-in_default c = λ ts e.
    def-found_none c.args.telling.now ts c.args.reader.now c.args.outer e (MatchOption-at_none _ _ c.in_default.is c.in_ok-inner.ensures.none)

pub returns-in_err-read_opening : goal.returns-in_err-read_opening
returns-in_err-read_opening c = λ ts e.
    let found =
    def-found c.args.telling.now ts c.args.reader.now c.in-Some.inner c.innermost.new.reader c.args.outer e (MatchOption-at_some _ _ c.in-Some.inner c.in-Some.is c.in_ok-inner.ensures.some) in
    passed-on c.from_residual-in_err-read_opening.result c.in_err-read_opening.field-0.0 _ _ _ c.from_residual-in_err-read_opening.ensures.1 (λ f. found.0 ∙ ap (shown c.innermost.new.reader) (at-none (item c.args.telling.now) c.in-Some.inner f)) c.in_err-read_opening.ensures

pub returns : goal.returns
returns c = λ ts e.
    let found =
    def-found c.args.telling.now ts c.args.reader.now c.in-Some.inner c.innermost.new.reader c.args.outer e (MatchOption-at_some _ _ c.in-Some.inner c.in-Some.is c.in_ok-inner.ensures.some) in
    carried c.plain_item.result _ _ _ _
    (λ _ f. item-shown c.args.telling.now c.plain_item.new.telling _ c.in-Some.inner c.read_opening.new.reader c.plain_item.new.reader c.innermost.new.reader found.0 c.in_ok-read_opening.ensures f)
    (λ f. item-hidden c.args.telling.now _ c.in-Some.inner c.read_opening.new.reader c.innermost.new.reader found.0 c.in_ok-read_opening.ensures f)
    c.plain_item.ensures

pub plain_item-requires : goal.plain_item-requires
plain_item-requires c = record {
  plain =
      plain-there c.args.telling.now c.args.reader.now c.in-Some.inner c.innermost.new.reader c.args.outer (MatchOption-at_some _ _ c.in-Some.inner c.in-Some.is c.in_ok-inner.ensures.some)
      c.read_opening.new.reader c.in_ok-read_opening.ensures;
}
