use Rattle.std.proofs.Common.{◌≡◌, ◌≢◌, ◌≤◌, ℕ, List, [], length, arith, ap, ◌∙◌}
use Rattle.std.proofs.lemmas.List.{get_or-set_other}
use Rattle.std.proofs.lemmas.List.Elements.{All-set}
use Rattle.mintc_command_answers.specs.Commands.{source_roles}
use Rattle.mintc_command_answers.proofs.source.give_back.Goals as goal

pub loop-place-preserved : goal.loop-place-preserved
loop-place-preserved c =
    let below = c.loop-place-test.true in
    let before = c.loop-place.invariant.before in
    let apart : length (source_roles c.args.source) ≢ c.loop-place.place = λ e. omega (arith, below, before, e) in
    let empty : c.new-in-loop-place.result ≡ [] = c.new-in-loop-place.ensures ∙ c.new.ensures.items in
    let none = ap (λ (bytes : List ℕ). length bytes) empty in
    record {
      own = get_or-set_other c.loop-place.files c.loop-place.place (length (source_roles c.args.source)) c.new-in-loop-place.result [] apart ∙ c.loop-place.invariant.own;
      short = λ most all. All-set (λ (bytes : List ℕ). length bytes ≤ most.bytes) c.loop-place.files c.loop-place.place c.new-in-loop-place.result (omega (arith, none)) (c.loop-place.invariant.short most all);
      before = before;
    }
