use Rattle.std.proofs.Common.{◌≡◌, ◌++◌, ◌∷◌, [], ap, ◌∙◌, ℕ, ℤ, List, length, arith, w64, to_z, of_z}
use Rattle.std.proofs.lemmas.Int.{clamps, ints, to_z-of_z}
use Rattle.std.proofs.lemmas.Result.{on_ok_weaker}
use Rattle.mintcx_amounts.specs.declared.unit.Unit.{Unit}
use Rattle.mintcx_chain.specs.declared.rows.Row.{Row}
use Rattle.mintcx_chain.specs.Rows.{rows_of}
use Rattle.mintcx_chain.specs.Sums.{cycles_of, delay_of}
use Rattle.mintcx_optima.specs.Counts.{decided_text}
use Rattle.mintcx_optima.specs.Least.{unit_of}
use Rattle.mintcx_optima.specs.Tables.{chain_text}
use Rattle.mintcx_optima.proofs.ChainLaws.{rows_count}
use Rattle.mintcx_optima.proofs.WrittenLaws.{in_three}
use Rattle.mintcx_optima.proofs.least.put_deciding.Goals as goal

pub put_chain-requires-clause-rows : goal.put_chain-requires-clause-rows
put_chain-requires-clause-rows c =
    ap (λ (rows : List Row). length rows) (c.items.ensures ∙ c.in_ok-rows.ensures.value)
    ∙ rows_count c.args.flat.now c.args.decided.now.schedule.now c.args.decided.now.departures.now c.args.decided.now.stages.now

pub returns : goal.returns
returns c =
    let old = c.args.lines.now in
    let flat = c.args.flat.now in
    let view = c.args.view.now in
    let s = c.args.decided.now.schedule.now in
    let departures = c.args.decided.now.departures.now in
    let stages = c.args.decided.now.stages.now in
    let unit = unit_of s view in
    let is = c.unit_of.ensures in
    let decided = c.in_ok-put_decided.ensures ∙ ap (λ (x : Unit). old ++ decided_text (length stages) c.sums_of.result.delay c.sums_of.result.cycles x) is
    ∙ ap (λ (x : ℤ). old ++ decided_text (length stages) x c.sums_of.result.cycles unit) c.sums_of.ensures.delay
    ∙ ap (λ (x : ℕ). old ++ decided_text (length stages) (delay_of stages) x unit) c.sums_of.ensures.cycles in
    let low = c.requires.clocked.in_range.den.0 in
    let high = c.requires.clocked.in_range.den.1 in
    let den : to_z w64 (of_z w64 s.den) ≡ s.den = to_z-of_z w64 s.den (omega (arith, ints, clamps)) in
    let chain = ap (λ (x : ℤ). c.put.new.self ++ chain_text flat c.unit_of.result x stages c.items.result.now view.limit) den
    ∙ ap (λ (x : Unit). c.put.new.self ++ chain_text flat x s.den stages c.items.result.now view.limit) is
    ∙ ap (λ (x : List Row). c.put.new.self ++ chain_text flat unit s.den stages x view.limit) (c.items.ensures ∙ c.in_ok-rows.ensures.value) in
    on_ok_weaker c.put_chain.result
    (λ e. in_three old c.put_decided.new.lines c.put.new.self c.put_chain.new.lines
    (decided_text (length stages) (delay_of stages) (cycles_of stages) unit) (10 ∷ []) (chain_text flat unit s.den stages (rows_of flat s departures stages) view.limit)
    decided c.in_ok-put.ensures.ok (e ∙ chain))
    c.put_chain.ensures
