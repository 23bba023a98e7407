use Rattle.std.proofs.Common.{◌≡◌, ◌<◌, ◌+◌, ◌-◌, ◌++◌, ℕ, List, [], ◌∷◌, length, drop, take, ap, ◌∙◌, arith}
use Rattle.mintc_netlist.specs.Connections.{places_in}
use Rattle.mintc_flatten_rules.proofs.DriveLaws.{step_again, step_passed, pieces_more, pieces_whole}
use Rattle.mintc_flatten_rules.proofs.two_drivers.Driven.drive_pieces.Goals as goal

pub returns-then-branch : goal.returns-then-branch
returns-then-branch c =
    let m = c.args.module_nets.now.part.now in
    let ps = c.args.pieces.now in
    let n = c.loop-number.number in
    let p = c.index-pieces-pieces.result in
    let at = length ps - 1 - n in
    let test : n < length ps = c.loop-number-test.true in
    let inside : at < length ps = omega arith in
    let next : at + 1 ≡ length ps - n = omega arith in
    let whole = pieces_whole m ps at ∙ ap (λ (l : List ℕ). l ++ places_in m (take at ps)) (pieces_more m ps at p inside c.index-pieces-pieces.is ∙ ap (λ (k : ℕ). places_in m (drop k ps) ++ places_in m (p ∷ [])) next) in
    step_again c.args.self.now c.loop-number.self c.drive_piece.new.self (places_in m (drop (length ps - n) ps)) (places_in m (p ∷ [])) (places_in m (take at ps)) (places_in m ps) c.in_ok-drive_piece.field-0
    whole c.loop-number.invariant c.in_ok-drive_piece.ensures c.if-branch.true

pub loop-number-preserved : goal.loop-number-preserved
loop-number-preserved c =
    let m = c.args.module_nets.now.part.now in
    let ps = c.args.pieces.now in
    let n = c.loop-number.number in
    let p = c.index-pieces-pieces.result in
    let at = length ps - 1 - n in
    let test : n < length ps = c.loop-number-test.true in
    let inside : at < length ps = omega arith in
    let next : at + 1 ≡ length ps - n = omega arith in
    let same : length ps - (n + 1) ≡ at = omega arith in
    let more = ap (λ (k : ℕ). places_in m (drop k ps)) same ∙ pieces_more m ps at p inside c.index-pieces-pieces.is ∙ ap (λ (k : ℕ). places_in m (drop k ps) ++ places_in m (p ∷ [])) next in
    step_passed c.args.self.now c.loop-number.self c.drive_piece.new.self (places_in m (drop (length ps - n) ps)) (places_in m (p ∷ [])) (places_in m (drop (length ps - (n + 1)) ps)) c.in_ok-drive_piece.field-0
    more c.loop-number.invariant c.in_ok-drive_piece.ensures c.if-branch.false
