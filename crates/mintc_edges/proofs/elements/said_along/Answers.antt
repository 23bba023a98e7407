use Rattle.std.proofs.Common.{ℕ, ℤ, Option, cond, None, ap, ◌∙◌}
use Rattle.mintc_senses.specs.Senses.{sense_at}
use Rattle.mintc_senses_expressions.specs.declared.transitions.Transitions.{Transitions}
use Rattle.mintc_senses_expressions.specs.Transitions.{has}
use Rattle.mintc_edges.specs.declared.edge.Edge.{Edge}
use Rattle.mintc_edges.specs.declared.edge.Edge.TheVariants.{Rise, Fall}
use Rattle.mintc_edges.specs.declared.spreads.Spread.{Spread}
use Rattle.mintc_edges.specs.Edges.{is_rise}
use Rattle.mintc_edges.specs.Numbers.{wider}
use Rattle.mintc_edges.specs.Stored.{output_told, path_said}
use Rattle.mintc_edges.proofs.StoredLaws.{ends-said}
use Rattle.mintc_edges.proofs.elements.said_along.Goals as goal

abbrev said-if : ℕ → Edge → Transitions → Spread → Edge → Option (ℤ × ℤ)
said-if from e s x y = cond (has s (is_rise e) (is_rise y)) (path_said x from e y) None

pub returns : goal.returns
returns c =
    let e = c.args.edge in
    let from = c.args.from in
    let s : Transitions = sense_at c.args.apart.now.senses.now c.args.stored.cell 0 c.args.output in
    let x : Spread = output_told c.args.apart.now.told.now c.args.stored from c.args.output in
    c.wider.ensures ∙ ap (λ v. wider v c.said_if-fall.result) c.said_if-rise.ensures ∙ ap (wider (said-if from e c.sense-sense.result c.path-spread.result Rise)) c.said_if-fall.ensures
    ∙ ap (λ (t : Transitions). wider (said-if from e t c.path-spread.result Rise) (said-if from e t c.path-spread.result Fall)) c.sense-sense.ensures
    ∙ ap (λ (y : Spread). wider (said-if from e s y Rise) (said-if from e s y Fall)) c.path-spread.ensures ∙ ends-said (λ y. path_said x from e y) (λ y. has s (is_rise e) (is_rise y))
