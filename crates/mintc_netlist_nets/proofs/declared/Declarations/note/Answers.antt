use Rattle.std.proofs.Common.{◌≡◌, ap, sym, ◌∙◌, true, is_some, cond, ◌++◌, ◌∷◌, [], Bool, List, ℕ}
use Rattle.mintc_netlist_nets.specs.declared.declared.Declaration.{Declaration}
use Rattle.mintc_netlist_nets.specs.Declaring.{look}
use Rattle.mintc_netlist_nets.proofs.SharedLookLaws.{look-seen, taken_in}
use Rattle.mintc_netlist_nets.proofs.declared.Declarations.note.Goals as goal

pub returns-then-contains_key : goal.returns-then-contains_key
returns-then-contains_key c =
    let name = c.args.name.now in
    let ds = c.args.self.now in
    let there : is_some (look name ds) ≡ true =
    ap (λ (xs : List (List ℕ × Declaration)). is_some (look name xs)) (sym c.self.view_is) ∙ ap is_some (look-seen name c.self.inside.entries.entries) ∙ sym c.contains_key.ensures ∙ c.if-contains_key.true in
    ap (λ (b : Bool). cond b ds (ds ++ (name, c.args.declaration) ∷ [])) (sym there)

pub returns : goal.returns
returns c =
    taken_in c.args.name.now c.in_ok-bytes.bytes c.args.declaration c.self.inside.entries.entries c.insert.new.self.entries c.args.self.now c.in_ok-bytes.ensures.items
    (sym c.contains_key.ensures ∙ c.if-contains_key.false) c.in_ok-insert.ensures.entries c.self.view_is
