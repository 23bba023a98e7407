use Rattle.std.proofs.Common.{ap, ◌∙◌}
use Rattle.std.proofs.lemmas.Option.{MatchOption-at_some, MatchOption-at_none}
use Rattle.mintc_sdf.proofs.SharedCarriedLaws.{carried}
use Rattle.mintc_sdf.proofs.SharedFoundLaws.{shown}
use Rattle.mintc_sdf_edges.proofs.ConditionLaws.{port-found, port-found_none}
use Rattle.mintc_sdf_edges.proofs.ports.inner_port.Goals as goal

pub returns-in_default-2 : goal.returns-in_default-2
returns-in_default-2 c =
    port-found_none c.args.reader.now c.condition.new.reader c.in-Some.outer c.in-Some.ensures.some (MatchOption-at_none _ _ c.in_default-2.is c.in_ok-inner.ensures.none)

pub plain_port-requires : goal.plain_port-requires
plain_port-requires c = record {
  plain =
      (port-found c.args.reader.now c.condition.new.reader c.in-Some-2.inner c.innermost.new.reader c.in-Some.outer c.in-Some.ensures.some (MatchOption-at_some _ _ c.in-Some-2.inner c.in-Some-2.is c.in_ok-inner.ensures.some)).1;
}

pub returns : goal.returns
returns c =
    let found =
    port-found c.args.reader.now c.condition.new.reader c.in-Some-2.inner c.innermost.new.reader c.in-Some.outer c.in-Some.ensures.some (MatchOption-at_some _ _ c.in-Some-2.inner c.in-Some-2.is c.in_ok-inner.ensures.some) in
    carried c.plain_port.result _ _ _ _ (λ n e. found.0 ∙ ap (shown c.innermost.new.reader) e.0) (λ e. found.0 ∙ ap (shown c.innermost.new.reader) e) c.plain_port.ensures
