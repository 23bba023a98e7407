use Rattle.std.proofs.Common.{◌-◌, arith, inr, refl, sym, ◌∙◌}
use Rattle.mintc_vlex.specs.Tokens.{tokens_behind}
use Rattle.mintcx_places.proofs.statements.range_of.Goals as goal

pub returns-in-Some-clause-statement : goal.returns-in-Some-clause-statement
returns-in-Some-clause-statement c = (
  c.args.number - 1,
  omega arith,
  record {
    first = c.in-Some.first;
    more = tokens_behind c.args.text.now c.in-Some.first.to;
    whole = sym c.place_behind.ensures.value ∙ c.in-Some.ensures.some;
    from = refl;
    to = c.last_end.ensures.value;
  },
)

pub returns-in-None-clause-none : goal.returns-in-None-clause-none
returns-in-None-clause-none c = inr (c.args.number - 1, omega arith, sym c.place_behind.ensures.value ∙ c.in-None.ensures.none)
