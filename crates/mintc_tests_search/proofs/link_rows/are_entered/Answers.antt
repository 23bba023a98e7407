use Rattle.std.proofs.Common.{◌≡◌, ◌<◌, ℕ, List, [], ◌∷◌, ◌++◌, length, refl, sym, ◌∙◌, below_more}
use Rattle.mintc_timing.specs.declared.link.Link.{Link}
use Rattle.mintc_constraints.specs.Ordinary.{Leads}
use Rattle.mintc_timing.specs.Links.{link_at}
use Rattle.mintc_tests_search.proofs.link_rows.are_entered.Goals as goal

-- a walk and one link more
and_then : (links : List Link) (a b e : ℕ) (walk : List ℕ) → Leads links a walk b → e < length links → (link_at links e).from ≡ b → Leads links a (walk ++ e ∷ []) (link_at links e).to
and_then links a b e [] here h from = (h, from ∙ sym here, refl)
and_then links a b e (k ∷ walk) leads h from = (leads.0, leads.1, and_then links (link_at links k).to b e walk leads.2 h from)

entered : (links : List Link) (node : ℕ) → ((v : ℕ) → v < node → (walk : List ℕ) × Leads links 0 walk v) →
    (e : ℕ) × (e < length links) × ((link_at links e).from < node) × ((link_at links e).to ≡ node) → (walk : List ℕ) × Leads links 0 walk node
entered links node before h =
    let to = before (link_at links h.0).from h.2 in
    (to.0 ++ h.0 ∷ [], rw (← h.3) (and_then links 0 (link_at links h.0).from h.0 to.0 to.1 h.1 refl))

pub loop-node-preserved : goal.loop-node-preserved
loop-node-preserved c = below_more (λ v. (walk : List ℕ) × Leads c.args.links.now 0 walk v) c.loop-node.node c.loop-node.invariant (entered c.args.links.now c.loop-node.node c.loop-node.invariant c.if-not-is_entered.ensures)
