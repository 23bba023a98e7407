use Rattle.std.proofs.Common.{◌++◌, ◌∷◌, [], ℕ, List, Some, ap, sym, subst, ◌∙◌}
use Rattle.mintc_flatten_binding.specs.Wired.{IsConnected}
use Rattle.mintc_flatten_binding.proofs.ConnectedLaws.{added, passed}
use Rattle.mintc_flatten_binding.proofs.connection_index.ConnectionIndex.add.Goals as goal

pub returns : goal.returns
returns c before count h =
    subst (λ (ns : List ℕ). IsConnected c.add.new.self ns (before ++ c.args.connection.now ∷ [])) (sym c.in_ok-push.ensures.items)
    (added c.args.self.now.names c.add.new.self c.args.self.now.numbers.items before c.args.connection.now c.bytes.result.now c.args.number c.in_ok-add.field-0 (c.in-Some.is ∙ ap Some (sym c.bytes.ensures)) count h
    c.in_ok-add.ensures.added c.if-not-branch.false c.in_ok-add.ensures.names)

pub returns-then-not-branch : goal.returns-then-not-branch
returns-then-not-branch c before count h =
    passed c.args.self.now.names c.add.new.self c.args.self.now.numbers.items before c.args.connection.now c.bytes.result.now c.in_ok-add.field-0 (c.in-Some.is ∙ ap Some (sym c.bytes.ensures)) h
    c.in_ok-add.ensures.added c.if-not-branch.true c.in_ok-add.ensures.names
