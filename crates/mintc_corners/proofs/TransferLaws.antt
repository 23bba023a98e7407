-- Lists that have the same links have the same walks, and so the same greatest values.
use Rattle.std.proofs.Common.{◌≡◌, ℕ, ◌<◌, ◌^◌, List, [], ◌∷◌, length, get_or, map, refl, ap, ◌∙◌, sym, subst}
use Rattle.std.specs.List.{All, Contains}
use Rattle.std.proofs.lemmas.List.Elements.{All-contains}
use Rattle.mintc_timing.specs.declared.link.Link.{Link}
use Rattle.mintc_timing.specs.Links.{IsChain, no_link, link_at}
use Rattle.mintc_constraints.specs.Ordinary.{HasPlainLink, IsOrdinary, IsOrdinaryLink, Leads, constraints_of}
use Rattle.mintc_constraints.proofs.SharedOrdinaryLaws.{number_of}

-- a walk over a list is one, with other numbers, over each list that has its links
module _ (xs ys : List Link) (sub : All (Contains ys) xs) where
  pub carried : (walk : List ℕ) (a b : ℕ) → Leads xs a walk b → (other : List ℕ) × Leads ys a other b × (map (link_at ys) other ≡ map (link_at xs) walk)
  carried [] a b h = ([], h, refl)
  carried (e ∷ walk) a b h =
      let place = number_of ys (link_at xs e) (sub e no_link h.0) in
      let rest = carried walk (link_at xs e).to b h.2 in (
        place.0 ∷ rest.0,
        (place.1, ap (λ (k : Link). k.from) place.2 ∙ h.1, subst (λ (k : Link). Leads ys k.to rest.0 b) (sym place.2) rest.1),
        ap (λ (k : Link). k ∷ map (link_at ys) rest.0) place.2 ∙ ap (λ (ks : List Link). link_at xs e ∷ ks) rest.2,
      )

  pub carried_chain : (chain : List Link) → IsChain xs chain → IsChain ys chain
  carried_chain chain h = record { listed = λ e d below. All-contains (Contains ys) xs (get_or chain e d) sub (h.listed e d below); closed = h.closed }

  plain : (a b laps : ℕ) → HasPlainLink xs a b laps → HasPlainLink ys a b laps
  plain a b laps h =
      let place = number_of ys (link_at xs h.number) (sub h.number no_link h.exists) in
      record {
        number = place.0;
        exists = place.1;
        from = ap (λ (k : Link). k.from) place.2 ∙ h.from;
        to = ap (λ (k : Link). k.to) place.2 ∙ h.to;
        delay = ap (λ (k : Link). k.delay) place.2 ∙ h.delay;
        cycles = ap (λ (k : Link). k.cycles) place.2 ∙ h.cycles;
      }

  module _ (back : All (Contains xs) ys) where
    pub carried_all : (P : Link → Type 0) → All P xs → All P ys
    carried_all P h e d below = All-contains P xs (get_or ys e d) h (back e d below)

    pub carried_ordinary : (count : ℕ) → length ys < 2 ^ 28 → IsOrdinary (constraints_of count xs) → IsOrdinary (constraints_of count ys)
    carried_ordinary count few h = record {
      nodes = h.nodes;
      few = few;
      each = carried_all (IsOrdinaryLink count) h.each;
      forth = plain 0 1 0 h.forth;
      back = plain 1 0 1 h.back;
      reached = λ node below. let walk = h.reached node below in let other = carried walk.0 0 node walk.1 in (other.0, other.1);
    }
