-- Ports.
use Rattle.std.proofs.Common.{◌≡◌, ℕ, Bool, true, false, if◌then◌else◌, List, Some, None, option_map, option_and_then, codes, refl, sym, ap, subst, ◌∙◌, arith}
use Rattle.mintc_sdf_tokens.specs.Tokens.{Token}
use Rattle.mintc_sdf_tokens.specs.Items.{Items, leaf, items, after}
use Rattle.mintc_sdf_tokens.specs.Words.{is_key}
use Rattle.mintc_sdf.specs.Forms.{list_at}
use Rattle.mintc_sdf_tokens.specs.Reading.{after_opening, after_closing, word_at, inside}
use Rattle.mintc_sdf_tokens.proofs.SharedInsideLaws.{no-leaf, no-list, word-next, opening-next, closing-next, items-word, at-open, inside-word, inside-same, inside-open, inside-closed}
use Rattle.mintc_sdf_edges.specs.declared.delays.Edges.{Edges}
use Rattle.mintc_sdf_edges.specs.Edges.{both_edges, edge_of, inner_edge, last_edge, edge_at}
use Rattle.mintc_sdf_edges.specs.Telling.{heading}
use Rattle.mintc_sdf.proofs.SharedListLaws.{at-bad, at-some}

-- a port that comes next
pub port-word : (ts next : List Token) (w : List ℕ) → word_at ts ≡ Some (w, next) → (edge_at (items ts) ≡ Some (both_edges, items next)) × (after next ≡ after ts)
port-word ts next w e =
    let t = word-next ts w next e in
    let i = items-word w next in
    (ap (λ l. edge_at (items l)) t ∙ ap edge_at i.0, sym (ap after t ∙ i.1))

pub port-none : (ts : List Token) → word_at ts ≡ None → after_opening ts ≡ None → edge_at (items ts) ≡ None
port-none ts e f = grind (arith, no-leaf ts e, no-list ts f)

port-lists : (ts next : List Token) → after_opening ts ≡ Some next → edge_at (items ts) ≡ list_at inner_edge (items ts)
port-lists ts next e = subst (λ l. edge_at (items l) ≡ list_at inner_edge (items l)) (sym (opening-next ts next e)) (at-open (λ is. edge_at is ≡ list_at inner_edge is) next refl (λ _ _. refl))

pub port-bad : (ts next : List Token) → after_opening ts ≡ Some next → inside inner_edge next ≡ None → edge_at (items ts) ≡ None
port-bad ts next e f = port-lists ts next e ∙ at-bad inner_edge ts next e f

pub port-list : (ts next rest : List Token) (p : Edges) → after_opening ts ≡ Some next → inside inner_edge next ≡ Some (p, rest) →
    (edge_at (items ts) ≡ Some (p, items rest)) × (after rest ≡ after ts)
port-list ts next rest p e f = let s = at-some inner_edge ts next rest p e f in (port-lists ts next e ∙ s.0, s.1)

-- an edge and a name
keyed-edge : (ts next : List Token) (k : List ℕ) → word_at ts ≡ Some (k, next) → is_key (codes "COND") k ≡ false → inside inner_edge ts ≡ inside (λ is. Some (edge_of k)) next
unfolding inner_edge
keyed-edge ts next k e f =
    inside-word inner_edge ts k next e ∙ inside-same (λ is. inner_edge (leaf k is)) (λ is. Some (edge_of k)) next (λ is. ap (λ b. if b then last_edge is else Some (edge_of k)) f)

pub edge-open : (ts next : List Token) (k : List ℕ) → word_at ts ≡ Some (k, next) → is_key (codes "COND") k ≡ false → after_closing (after next) ≡ None → inside inner_edge ts ≡ None
edge-open ts next k e f g = keyed-edge ts next k e f ∙ inside-open (λ is. Some (edge_of k)) next g

pub edge-done : (ts next rest : List Token) (k : List ℕ) → word_at ts ≡ Some (k, next) → is_key (codes "COND") k ≡ false → after_closing (after next) ≡ Some rest →
    inside inner_edge ts ≡ Some (edge_of k, rest)
edge-done ts next rest k e f g = keyed-edge ts next k e f ∙ inside-closed (λ is. Some (edge_of k)) next rest (edge_of k) (closing-next (after next) rest g) refl

-- one port, and two
pub heading-none : (two : Bool) (is : Items) → edge_at is ≡ None → heading two is ≡ None
heading-none true is e = ap (option_and_then (λ first. option_map (λ second. (first.0, second.1)) (edge_at first.1))) e
heading-none false is e = ap (option_map (λ port. (both_edges, port.1))) e

pub heading-one : (two : Bool) (is rest : Items) (e : Edges) → two ≡ false → edge_at is ≡ Some (e, rest) → heading two is ≡ Some (both_edges, rest)
heading-one two is rest e f g = ap (λ b. heading b is) f ∙ ap (option_map (λ port. (both_edges, port.1))) g

pub heading-half : (two : Bool) (is rest : Items) (e : Edges) → two ≡ true → edge_at is ≡ Some (e, rest) → edge_at rest ≡ None → heading two is ≡ None
heading-half two is rest e f g h =
    ap (λ b. heading b is) f ∙ ap (option_and_then (λ first. option_map (λ second. (first.0, second.1)) (edge_at first.1))) g ∙ ap (option_map (λ second. (e, second.1))) h

pub heading-two : (two : Bool) (is mid rest : Items) (e d : Edges) → two ≡ true → edge_at is ≡ Some (e, mid) → edge_at mid ≡ Some (d, rest) → heading two is ≡ Some (e, rest)
heading-two two is mid rest e d f g h =
    ap (λ b. heading b is) f ∙ ap (option_and_then (λ first. option_map (λ second. (first.0, second.1)) (edge_at first.1))) g ∙ ap (option_map (λ second. (e, second.1))) h
