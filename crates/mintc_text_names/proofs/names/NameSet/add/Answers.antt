use Rattle.std.proofs.Common.{◌≡◌, ap, sym, ◌∙◌, true, false, not, cond, ◌++◌, ◌∷◌, [], Bool}
use Rattle.mintc_text_names.specs.Names.{is_among}
use Rattle.mintc_text_names.proofs.SharedNamesLaws.{among, taken}
use Rattle.mintc_text_names.proofs.names.NameSet.add.Goals as goal

there : (c : goal.Then-contains) → is_among c.args.name.now c.args.self.now ≡ true
there c = among c.args.name.now c.self.inside.set.keys c.args.self.now c.contains.result true c.contains.ensures c.self.view_is c.if-contains.true

pub returns-then-contains-clause-added : goal.returns-then-contains-clause-added
returns-then-contains-clause-added c = ap not (sym (there c))

pub returns-then-contains-clause-names : goal.returns-then-contains-clause-names
returns-then-contains-clause-names c = ap (λ (b : Bool). cond b c.args.self.now (c.args.self.now ++ c.args.name.now ∷ [])) (sym (there c))

pub returns-clause-added : goal.returns-clause-added
returns-clause-added c =
    ap not (sym (among c.args.name.now c.self.inside.set.keys c.args.self.now c.contains.result false c.contains.ensures c.self.view_is c.if-contains.false))

pub returns-clause-names : goal.returns-clause-names
returns-clause-names c =
    taken c.args.name.now c.in_ok-bytes.bytes c.self.inside.set.keys c.insert_full.new.self.keys c.args.self.now c.in_ok-bytes.ensures.items
    (sym c.contains.ensures ∙ c.if-contains.false) c.in_ok-insert_full.ensures.keys c.self.view_is
