-- A ring of links that is turned: what it keeps.
use Rattle.std.proofs.Common.{◌≡◌, ◌≢◌, ℕ, ◌+◌, ◌-◌, ◌<◌, ◌≤◌, ◌⊎◌, inl, inr, ℤ, pos, ◌+ℤ◌, ◌*ℤ◌, ◌≤ℤ◌, ◌<ℤ◌, List, [], ◌∷◌, ◌++◌, length, get_or, map, take, drop, arith, refl, sym, subst, ap, ◌∙◌, All, AllPairs, Contains, length-append, length-drop}
use Rattle.std.proofs.lemmas.Int.{ints}
use Rattle.std.proofs.lemmas.Bool.{cases_lt}
use Rattle.std.proofs.lemmas.List.{length-map, length-take, take-append-drop, take-map, drop-map, map-append, get_or_append_left, get_or-append_right, get_or-drop}
use Rattle.std.proofs.lemmas.List.Elements.{All-append, All-take, All-drop}
use Rattle.mintc_timing.specs.declared.link.Link.{Link}
use Rattle.mintc_graph.specs.Rings.{total, Joins, IsClosed}
use Rattle.mintc_graph.proofs.SharedRingLaws.{total-append}
use Rattle.mintc_timing.specs.Links.{IsChain, IsStuck, IsTight, link_at, no_link, cycles_of, delay_of}
use Rattle.mintc_constraints.specs.Ordinary.{Constraints}
use Rattle.mintc_constraints.specs.Rooms.{Space}
use Rattle.mintc_ratio.specs.declared.searching.Outcome.{Outcome}
use Rattle.mintc_ratio.specs.declared.searching.Outcome.TheVariants.{Least, Never}
use Rattle.mintc_ratio.specs.Chains.{NamesChain, links_at}
use Rattle.mintc_ratio.specs.Searched.{HasSearched}
use Rattle.mintc_optimise.specs.Making.{StandInOrder}
use Rattle.mintc_optimise.specs.Beginning.{AskTheSame, BeginsFirst, IsBeginning, turned}

pub All-turned : {X : Type 0} (P : X → Type 0) (n : ℕ) (xs : List X) → All P xs → All P (turned n xs)
All-turned P n xs h = All-append P (drop n xs) (take n xs) (All-drop P n xs h) (All-take P n xs h)

pub map-turned : {X Y : Type 0} (f : X → Y) (n : ℕ) (xs : List X) → map f (turned n xs) ≡ turned n (map f xs)
map-turned f n xs = rw (map-append f (drop n xs) (take n xs), drop-map f n xs, take-map f n xs) refl

pub total-turned : {X : Type 0} (f : X → ℤ) (n : ℕ) (xs : List X) → total f (turned n xs) ≡ total f xs
total-turned f n xs =
    let back = total-append f (drop n xs) (take n xs) in
    let forth = ap (total f) (sym (take-append-drop n xs)) ∙ total-append f (take n xs) (drop n xs) in
    omega (arith, ints, back, forth)

-- Each pair of a list's items is one of the turned list's, in the one order or the other.
pub AllPairs-swapped : {X : Type 0} (R : X → X → Type 0) → ((x y : X) → R x y → R y x) → (xs ys : List X) → AllPairs R (xs ++ ys) → AllPairs R (ys ++ xs)
AllPairs-swapped {X} R back xs ys h i j d less inside = at (cases_lt i (length ys)) (cases_lt j (length ys))
  where
    both : length (xs ++ ys) ≡ length xs + length ys
    both = length-append xs ys

    swapped : length (ys ++ xs) ≡ length ys + length xs
    swapped = length-append ys xs

    late : (k : ℕ) → k < length ys → get_or (xs ++ ys) (k + length xs) d ≡ get_or (ys ++ xs) k d
    late k below = get_or-append_right xs ys (length xs) (k + length xs) d refl (omega arith) ∙ ap (λ (n : ℕ). get_or ys n d) (omega arith) ∙ sym (get_or_append_left ys xs d k below)

    early : (k : ℕ) → length ys ≤ k → k < length ys + length xs → get_or (xs ++ ys) (k - length ys) d ≡ get_or (ys ++ xs) k d
    early k above below = get_or_append_left xs ys d (k - length ys) (omega arith) ∙ sym (get_or-append_right ys xs (length ys) k d refl above)

    at : (i < length ys) ⊎ (length ys ≤ i) → (j < length ys) ⊎ (length ys ≤ j) → R (get_or (ys ++ xs) i d) (get_or (ys ++ xs) j d)
    at (inl a) (inl b) = rw (late i a, late j b) at (h (i + length xs) (j + length xs) d (omega (arith, both, swapped)) (omega (arith, both, swapped)))
    at (inl a) (inr b) =
        rw (late i a, early j b (omega (arith, both, swapped))) at (back _ _ (h (j - length ys) (i + length xs) d (omega (arith, both, swapped)) (omega (arith, both, swapped))))
    at (inr a) (inl b) = absurd (omega (arith, both, swapped))
    at (inr a) (inr b) =
        rw (early i a (omega (arith, both, swapped)), early j b (omega (arith, both, swapped))) at (h (i - length ys) (j - length ys) d (omega (arith, both, swapped)) (omega (arith, both, swapped)))

pub AllPairs-turned : {X : Type 0} (R : X → X → Type 0) → ((x y : X) → R x y → R y x) → (n : ℕ) (xs : List X) → AllPairs R xs → AllPairs R (turned n xs)
AllPairs-turned R back n xs h = AllPairs-swapped R back (take n xs) (drop n xs) (subst (AllPairs R) (sym (take-append-drop n xs)) h)

-- Items that lead round lead round from any of them.
module _ {X : Type 0} (from to : X → ℕ) where
  split : (a : ℕ) (xs ys : List X) (b : ℕ) → Joins from to a (xs ++ ys) b → (m : ℕ) × Joins from to a xs m × Joins from to m ys b
  split a [] ys b h = (a, refl, h)
  split a (x ∷ xs) ys b h = let rest = split (to x) xs ys b h.1 in (rest.0, (h.0, rest.1), rest.2)

  joined : (a : ℕ) (xs ys : List X) (m b : ℕ) → Joins from to a xs m → Joins from to m ys b → Joins from to a (xs ++ ys) b
  joined a [] ys m b h g = subst (λ (v : ℕ). Joins from to v ys b) (sym h) g
  joined a (x ∷ xs) ys m b h g = (h.0, joined (to x) xs ys m b h.1 g)

  closed_from : (xs : List X) → IsClosed from to xs → (a : ℕ) × (1 ≤ length xs) × Joins from to a xs a
  closed_from [] h = absurd h
  closed_from (x ∷ xs) h = (from x, omega arith, (refl, h))

  closed_by : (a : ℕ) (xs : List X) → 1 ≤ length xs → Joins from to a xs a → IsClosed from to xs
  closed_by a [] some h = absurd (omega (arith, some))
  closed_by a (x ∷ xs) some h = subst (λ (v : ℕ). Joins from to (to x) xs v) (sym h.0) h.1

  closed-swapped : (xs ys : List X) → IsClosed from to (xs ++ ys) → IsClosed from to (ys ++ xs)
  closed-swapped xs ys h =
      let a = closed_from (xs ++ ys) h in
      let parts = split a.0 xs ys a.0 a.2 in
      closed_by parts.0 (ys ++ xs) (omega (arith, length-append xs ys, length-append ys xs, a.1)) (joined parts.0 ys xs a.0 parts.0 parts.2 parts.1)

  pub closed-turned : (n : ℕ) (xs : List X) → IsClosed from to xs → IsClosed from to (turned n xs)
  closed-turned n xs h = closed-swapped (take n xs) (drop n xs) (subst (IsClosed from to) (sym (take-append-drop n xs)) h)

-- So a chain stays one, with its sums.
pub named-turned : (links : List Link) (n : ℕ) (chain : List ℕ) → NamesChain links chain → NamesChain links (turned n chain)
named-turned links n chain h = record {
  exist = All-turned (λ e. e < length links) n chain h.exist;
  chain = rw (map-turned (link_at links) n chain) (record {
    listed = All-turned (Contains links) n (links_at links chain) h.chain.listed;
    closed = closed-turned (λ (k : Link). k.from) (λ (k : Link). k.to) n (links_at links chain) h.chain.closed;
  });
  once = AllPairs-turned (λ a b. (link_at links a).to ≢ (link_at links b).to) (λ a b apart e. apart (sym e)) n chain h.once;
}

module _ (n : ℕ) (chain : List Link) where
  turns_same : cycles_of (turned n chain) ≡ cycles_of chain
  turns_same = total-turned (λ (k : Link). pos k.cycles) n chain

  delay_same : delay_of (turned n chain) ≡ delay_of chain
  delay_same = total-turned (λ (k : Link). k.delay) n chain

  pub tight-turned : (num den : ℤ) → IsTight chain num den → IsTight (turned n chain) num den
  tight-turned num den h = record {
    turns = subst (λ (x : ℤ). pos 1 ≤ℤ x) (sym turns_same) h.turns;
    tight = ap (λ (x : ℤ). x *ℤ den) delay_same ∙ h.tight ∙ ap (λ (x : ℤ). x *ℤ num) (sym turns_same);
  }

  pub stuck-turned : IsStuck chain → IsStuck (turned n chain)
  stuck-turned h = record { turns = turns_same ∙ h.turns; stuck = subst (λ (x : ℤ). pos 0 <ℤ x) (sym delay_same) h.stuck }

-- A chain turned to the link that comes first begins with it.
pub begins-turned : (links : List Link) (place : ℕ) (chain : List Link) → IsBeginning links chain place → BeginsFirst links (turned place chain)
begins-turned links place chain h =
    let first = h.1 in
    let rest : 0 < length (drop place chain) = omega (arith, length-drop place chain, first.inside) in (
      h.0,
      record {
        inside = omega (arith, length-append (drop place chain) (take place chain), rest);
        listed = first.listed;
        same = rw (at_start rest) first.same;
        none_before = λ e less. All-turned (λ l. AskTheSame (link_at links e) l → ⊥) place chain (first.none_before e less);
      },
    )
  where
    at_start : 0 < length (drop place chain) → link_at (turned place chain) 0 ≡ link_at chain place
    at_start some =
        get_or_append_left (drop place chain) (take place chain) no_link 0 some ∙ get_or-drop place chain 0 no_link ∙ ap (λ (n : ℕ). get_or chain n no_link) (omega arith)

-- a room whose chain is turned
abbrev pub turned_room : ℕ → Space → Space
turned_room n room = record room { chain = turned n room.chain }

-- A search's answer stays one.
pub searched-turned : (list : Constraints) (room : Space) (found : Outcome) (n : ℕ) → HasSearched list room found → HasSearched list (turned_room n room) found
searched-turned list room (Least cycle) n h = record {
  cycle_is = h.cycle_is;
  small = h.small;
  none_forbids = h.none_forbids;
  values = h.values;
  chain = named-turned list.links n room.chain h.chain;
  tight = subst (λ (ks : List Link). IsTight ks cycle.num cycle.den) (sym (map-turned (link_at list.links) n room.chain)) (tight-turned n (links_at list.links room.chain) cycle.num cycle.den h.tight);
}
searched-turned list room Never n h =
    (named-turned list.links n room.chain h.0, subst IsStuck (sym (map-turned (link_at list.links) n room.chain)) (stuck-turned n (links_at list.links room.chain) h.1))

pub searched_named : (list : Constraints) (room : Space) (found : Outcome) → HasSearched list room found → NamesChain list.links room.chain
searched_named list room (Least cycle) h = h.chain
searched_named list room Never h = h.0

-- Members that stand for links still do, and are as many.
module _ {M : Type 0} {meant few : M → Type 0} {shows : M → Link} (link : ℕ → Link) (chain : List ℕ) (members : List M) (stand : StandInOrder meant few shows link chain members) where
  pub stand-turned : (n : ℕ) → StandInOrder meant few shows link (turned n chain) (turned n members)
  stand-turned n = record {
    each = All-turned meant n members stand.each;
    same = map-turned shows n members ∙ ap (λ (ks : List Link). turned n ks) stand.same ∙ sym (map-turned link n chain);
    counted = All-turned few n members stand.counted;
  }

  pub stand_many : length members ≡ length chain
  stand_many = sym (length-map members shows) ∙ ap (λ (ks : List Link). length ks) stand.same ∙ length-map chain link

-- What is turned to its beginning is not past its end.
pub beginning_inside : {M : Type 0} (links : List Link) (chain : List ℕ) (members : List M) (place : ℕ) → IsBeginning links (links_at links chain) place → length members ≡ length chain → place ≤ length members
beginning_inside links chain members place h many = omega (arith, h.1.inside, many, length-map chain (link_at links))

-- The members that stand for a chain's links begin as it does.
pub begins_as : {M : Type 0} (shows : M → Link) (links : List Link) (chain : List ℕ) (members : List M) (place : ℕ) → map shows members ≡ links_at links chain → IsBeginning links (links_at links chain) place →
    BeginsFirst links (map shows (turned place members))
begins_as shows links chain members place same h =
    subst (BeginsFirst links) (ap (λ (ks : List Link). turned place ks) (sym same) ∙ sym (map-turned shows place members)) (begins-turned links place (links_at links chain) h)
