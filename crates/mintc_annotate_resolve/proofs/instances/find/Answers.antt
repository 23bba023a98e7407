use Rattle.std.proofs.Common.{◌≡◌, ap, ◌∙◌}
use Rattle.mintc_annotate_resolve.specs.Instances.{key_of, seen}
use Rattle.mintc_annotate_resolve.proofs.instances.find.Goals as goal

pub returns : goal.returns
returns c =
    let key : c.write_key.new.key.items ≡ key_of c.args.scope c.args.name.now = c.in_ok-write_key.ensures in
    ((c.write_key.new.key, key), c.copied.ensures ∙ c.get.ensures.value ∙ ap (seen c.args.children.now) (c.as_slice.ensures.value ∙ key))
