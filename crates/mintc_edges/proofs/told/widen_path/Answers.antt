use Rattle.std.proofs.Common.{◌≡◌, Some, cond, unwrap_or, ap, ◌∙◌, w64, SFits, rules}
use Rattle.std.specs.HashMap.{get}
use Rattle.std.proofs.lemmas.Int.{to_z-of_z}
use Rattle.mintc_edges.specs.declared.spreads.Spread.{Spread}
use Rattle.mintc_edges.specs.Spreads.{no_spread, widened_along}
use Rattle.mintc_annotate_delays.specs.Ranges.{same_key}
use Rattle.mintc_edges.specs.Told.{path_in}
use Rattle.mintc_edges.proofs.TableLaws.{at_key_is}
use Rattle.mintc_edges.proofs.told.widen_path.Goals as goal

pub returns : goal.returns
returns c =
    let said = c.args.said in
    let low : SFits w64 said.least = search rules in
    let high : SFits w64 said.greatest = search rules in
    let spread : c.widened-spread.result ≡ widened_along said.from said.to said.least said.greatest (path_in c.args.paths.now c.args.key) =
    cc (to_z-of_z w64 said.least low, to_z-of_z w64 said.greatest high, c.widened-spread.ensures, c.path_in.ensures) in
    λ k. ap (λ o. unwrap_or o no_spread) (c.in_ok-insert.ensures.updates.0 k)
    ∙ ap (λ (x : Spread). unwrap_or (cond (same_key c.args.key k) (Some x) (get same_key c.args.paths.now k)) no_spread) spread
    ∙ at_key_is c.args.paths.now c.args.key k (widened_along said.from said.to said.least said.greatest)
