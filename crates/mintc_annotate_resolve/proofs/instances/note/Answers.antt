use Rattle.std.proofs.Common.{◌≡◌, ℕ, Some, None, Option, unwrap_or, sym, ap, ◌∙◌}
use Rattle.mintc_annotate_resolve.specs.Instances.{key_of, seen}
use Rattle.mintc_annotate_resolve.proofs.SharedInstanceLaws.{kept_key, put_key}
use Rattle.mintc_annotate_resolve.proofs.instances.note.Goals as goal

pub returns-in-Some-clause-first : goal.returns-in-Some-clause-first
returns-in-Some-clause-first c =
    let key : c.write_key.new.key.items ≡ key_of c.args.scope c.args.name.now = c.in_ok-write_key.ensures in
    let found : Some c.in-Some.first.now ≡ seen c.args.children.now (key_of c.args.scope c.args.name.now) = c.in-Some.ensures.value ∙ ap (seen c.args.children.now) (c.as_slice.ensures.value ∙ key) in
    ((c.write_key.new.key, key), ap (λ (o : Option ℕ). unwrap_or o c.args.number) found)

pub returns-in-Some-clause-seen : goal.returns-in-Some-clause-seen
returns-in-Some-clause-seen c =
    let key : c.write_key.new.key.items ≡ key_of c.args.scope c.args.name.now = c.in_ok-write_key.ensures in
    let found : Some c.in-Some.first.now ≡ seen c.args.children.now (key_of c.args.scope c.args.name.now) = c.in-Some.ensures.value ∙ ap (seen c.args.children.now) (c.as_slice.ensures.value ∙ key) in
    λ k its. kept_key c.args.children.now (key_of c.args.scope c.args.name.now) k c.in-Some.first.now (sym found)

pub returns-clause-first : goal.returns-clause-first
returns-clause-first c =
    let key : c.write_key.new.key.items ≡ key_of c.args.scope c.args.name.now = c.in_ok-write_key.ensures in
    let none : None ≡ seen c.args.children.now (key_of c.args.scope c.args.name.now) = c.in_default.ensures.value ∙ ap (seen c.args.children.now) (c.as_slice.ensures.value ∙ key) in
    ((c.write_key.new.key, key), ap (λ (o : Option ℕ). unwrap_or o c.args.number) none)

pub returns-clause-seen : goal.returns-clause-seen
returns-clause-seen c =
    put_key c.args.children.now c.insert.new.self c.write_key.new.key c.args.number c.in_ok-insert.ensures.updates.0 (key_of c.args.scope c.args.name.now) c.in_ok-write_key.ensures
