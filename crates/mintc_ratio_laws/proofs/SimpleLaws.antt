-- Closed walks: whatever one shows that one of its parts shows too, a chain shows that enters no node twice.
use Rattle.std.proofs.Common.{◌≡◌, ◌≢◌, ℕ, zero, suc, ◌<◌, ◌≤◌, ℤ, ◌+ℤ◌, List, [], ◌∷◌, length, refl, sym, subst, ◌⊎◌, inl, inr, ⊎_elim, arith}
use Rattle.std.proofs.lemmas.Bool.{cases_eq, cases_lt}
use Rattle.mintc_timing.specs.declared.link.Link.{Link}
use Rattle.mintc_timing.specs.Links.{no_link, link_at, IsChain}
use Rattle.mintc_graph.specs.Rings.{IsClosed}
use Rattle.mintc_graph.proofs.SharedRingLaws.{exist-leads, leads-closed, numbers_of}
use Rattle.mintc_constraints.specs.Ordinary.{Leads}
use Rattle.mintc_constraints.proofs.SharedWalkLaws.{closed_walks_are_chains_lem}
use Rattle.mintc_ratio.specs.Chains.{NamesChain, links_at}
use Rattle.mintc_ratio_laws.proofs.Best.{Decided, both, moved}
use Rattle.mintc_ratio_laws.proofs.Walks.{AreApart, IsCut, cut, cycles, delay}

module _ (links : List Link) where
  -- where a walk begins that has links
  abbrev pub begin : List ℕ → ℕ
  begin [] = 0
  begin (e ∷ w) = (link_at links e).from

  -- It has links, and leads back to where it begins.
  abbrev pub IsRound : List ℕ → Type 0
  IsRound w = (1 ≤ length w) × Leads links (begin w) w (begin w)

  pub round_of : (a : ℕ) (w : List ℕ) → 1 ≤ length w → Leads links a w a → IsRound w
  round_of a [] some h = absurd (omega arith)
  round_of a (e ∷ w) some h = (some, subst (λ (n : ℕ). Leads links n (e ∷ w) n) (sym h.1) h)

  exists-decided : (e : ℕ) → Decided (e < length links)
  exists-decided e = ⊎_elim (λ (h : e < length links). inl h) (λ (h : length links ≤ e). inr (λ g. omega arith)) (cases_lt e (length links))

  same-decided : (a b : ℕ) → Decided (a ≡ b)
  same-decided a b = ⊎_elim (λ (h : a ≡ b). inl h) (λ (h : a ≢ b). inr (λ e. h e)) (cases_eq a b)

  pub leads-decided : (a : ℕ) (w : List ℕ) (b : ℕ) → Decided (Leads links a w b)
  leads-decided a [] b = same-decided a b
  leads-decided a (e ∷ w) b =
      moved (λ (h : (e < length links) × (((link_at links e).from ≡ a) × Leads links (link_at links e).to w b)). (h.0, h.1.0, h.1.1)) (λ h. (h.0, (h.1, h.2)))
      (both (exists-decided e) (both (same-decided (link_at links e).from a) (leads-decided (link_at links e).to w b)))

  some-decided : (w : List ℕ) → Decided (1 ≤ length w)
  some-decided [] = inr (λ h. omega arith)
  some-decided (e ∷ w) = inl (omega arith)

  pub round-decided : (w : List ℕ) → Decided (IsRound w)
  round-decided w = both (some-decided w) (leads-decided (begin w) w (begin w))

  -- The links of a chain are those of a closed walk, and the way back.
  pub round_of_chain : (chain : List Link) → IsChain links chain → (w : List ℕ) × IsRound w × (links_at links w ≡ chain)
  round_of_chain chain is =
      let numbers = numbers_of no_link links chain is.listed in
      let closed = leads-closed (λ (k : Link). k.from) (λ (k : Link). k.to) no_link links numbers.0 numbers.2
      (subst (λ (x : List Link). IsClosed (λ (k : Link). k.from) (λ (k : Link). k.to) x) (sym numbers.1) is.closed) in
      (numbers.0, round_of closed.0 numbers.0 (some numbers.0 closed.2) closed.3, numbers.1)
    where
      some : (w : List ℕ) → w ≢ [] → 1 ≤ length w
      some [] h = absurd (h refl)
      some (e ∷ w) h = omega arith

  pub chain_of_round : (w : List ℕ) → IsRound w → IsChain links (links_at links w)
  chain_of_round [] h = absurd (omega (arith, h.0))
  chain_of_round (e ∷ w) h = closed_walks_are_chains_lem links (link_at links e).from (e ∷ w) (λ q. cc) h.1

  named : (w : List ℕ) → IsRound w → AreApart links w → NamesChain links w
  named w h once = record {
    exist = exist-leads (λ (k : Link). k.from) (λ (k : Link). k.to) no_link links (begin w) w (begin w) h.1;
    chain = chain_of_round w h;
    once = once;
  }

  pub round_of_named : (w : List ℕ) → NamesChain links w → IsRound w
  round_of_named w h =
      let closed = leads-closed (λ (k : Link). k.from) (λ (k : Link). k.to) no_link links w h.exist h.chain.closed in
      round_of closed.0 w (some w closed.2) closed.3
    where
      some : (w : List ℕ) → w ≢ [] → 1 ≤ length w
      some [] h = absurd (h refl)
      some (e ∷ w) h = omega arith

  -- What two closed walks show together, one of them shows.
  abbrev pub IsShared : (List ℕ → Type 0) → Type 0
  IsShared P = (w x y : List ℕ) → IsRound x → IsRound y → delay links w ≡ delay links x +ℤ delay links y →
      cycles links w ≡ cycles links x +ℤ cycles links y → P w → P x ⊎ P y

  abbrev pub IsSimple : (List ℕ → Type 0) → Type 0
  IsSimple P = (w : List ℕ) × NamesChain links w × P w

  shorter : (P : List ℕ → Type 0) → IsShared P → (turns : ℕ) (a : ℕ) (w : List ℕ) → length w ≤ turns → 1 ≤ length w → Leads links a w a → P w → IsSimple P
  shorter P shared zero a w few some h p = absurd (omega arith)
  shorter P shared (suc turns) a w few some h p =
      ⊎_elim
      (λ (c : IsCut links a a w).
      ⊎_elim
      (λ (q : P c.rest). shorter P shared turns a c.rest (omega (arith, c.lengths, c.round)) c.some c.leads q)
      (λ (q : P c.ring). shorter P shared turns c.node c.ring (omega (arith, c.lengths, c.some)) c.round c.closed q)
      (shared w c.rest c.ring (round_of a c.rest c.some c.leads) (round_of c.node c.ring c.round c.closed) c.delays c.turns p))
      (λ (once : AreApart links w). (w, named w (round_of a w some h) once, p))
      (cut links a a w h)

  pub simple : (P : List ℕ → Type 0) → IsShared P → (w : List ℕ) → IsRound w → P w → IsSimple P
  simple P shared w h p = shorter P shared (length w) (begin w) w (omega arith) h.0 h.1 p
