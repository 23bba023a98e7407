-- Moments along links that hold of them, and round in a ring.
use Rattle.std.proofs.Common.{◌≡◌, ℕ, ℤ, pos, ◌≤ℤ◌, ◌+ℤ◌, ◌-ℤ◌, ◌*ℤ◌, List, [], ◌∷◌, get_or, arith, refl, ap, ◌∙◌, sym}
use Rattle.std.proofs.lemmas.Int.{ints}
use Rattle.std.proofs.lemmas.List.Elements.{All-head, All-tail, All-contains}
use Rattle.std.specs.List.{All, Contains}
use Rattle.mintc_graph.specs.Rings.{Joins, IsClosed}
use Rattle.mintc_timing.specs.declared.link.Link.{Link}
use Rattle.mintc_timing.specs.Links.{IsMet, IsChain, delay_of, cycles_of}
use Rattle.std.proofs.Math.IntN.{*ℤ_comm}
use Rattle.mintc_timing.proofs.SharedProducts.{add-times, swap-times, times-mono_positive, times-cancel_positive}

joined : (a m b p q r w pq sum : ℤ) → pq ≡ p +ℤ q → sum ≡ r +ℤ w → (a +ℤ p -ℤ r) ≤ℤ m → (m +ℤ q -ℤ w) ≤ℤ b → (a +ℤ pq -ℤ sum) ≤ℤ b
joined a m b p q r w pq sum e f g h = omega (arith, ints)

pub of_listed : (P : Link → Type 0) (links chain : List Link) → All P links → All (Contains links) chain → All P chain
of_listed P links chain h listed = λ k e below. All-contains P links (get_or chain k e) h (listed k e below)

module _ (num den : ℤ) (moment : ℕ → ℤ) where
  -- Along links that hold, moments rise at least as they ask.
  pub along : (ks : List Link) (a b : ℕ) → All (IsMet num den moment) ks → Joins (λ (k : Link). k.from) (λ (k : Link). k.to) a ks b →
      (moment a +ℤ delay_of ks *ℤ den -ℤ cycles_of ks *ℤ num) ≤ℤ moment b
  along [] a b each joins = rw joins (omega (arith, ints))
  along (k ∷ ks) a b each joins =
      let here = All-head (IsMet num den moment) k ks each in
      let rest = along ks k.to b (All-tail (IsMet num den moment) k ks each) joins.1 in
      let split : delay_of (k ∷ ks) *ℤ den ≡ k.delay *ℤ den +ℤ delay_of ks *ℤ den = add-times k.delay (delay_of ks) den in
      let split' : cycles_of (k ∷ ks) *ℤ num ≡ pos k.cycles *ℤ num +ℤ cycles_of ks *ℤ num = add-times (pos k.cycles) (cycles_of ks) num in
      joined (moment a) (moment k.to) (moment b) _ _ _ _ _ _ split split' (rw joins.0 at here) rest

  -- A ring of links that hold asks for no more than its cycles have.
  pub ring-at_most : (ks : List Link) → All (IsMet num den moment) ks → IsClosed (λ (k : Link). k.from) (λ (k : Link). k.to) ks → (delay_of ks *ℤ den) ≤ℤ (cycles_of ks *ℤ num)
  ring-at_most [] each closed = absurd closed
  ring-at_most (k ∷ ks) each closed =
      let whole = along (k ∷ ks) k.from k.from each (refl, closed) in
      omega (arith, ints)

  -- So does a chain of links that all hold.
  pub chain-at_most : (links chain : List Link) → All (IsMet num den moment) links → IsChain links chain → (delay_of chain *ℤ den) ≤ℤ (cycles_of chain *ℤ num)
  chain-at_most links chain met is_chain = ring-at_most chain (of_listed (IsMet num den moment) links chain met is_chain.listed) is_chain.closed

times_assoc : (x y z : ℤ) → (x *ℤ y) *ℤ z ≡ x *ℤ (y *ℤ z)
times_assoc x y z = sym (*ℤ_comm x (y *ℤ z) ∙ swap-times y z x ∙ ap (λ v. v *ℤ z) (*ℤ_comm y x))

-- Where delay * den' is at most cycles * num', the chain can't ask for more at a fraction equal to num' / den'.
pub no_more : (delay cycles num den num' den' : ℤ) → pos 1 ≤ℤ den → pos 1 ≤ℤ den' → num' *ℤ den ≡ num *ℤ den' → (delay *ℤ den') ≤ℤ (cycles *ℤ num') → (delay *ℤ den) ≤ℤ (cycles *ℤ num)
no_more delay cycles num den num' den' some some' same h =
    let grown = times-mono_positive (delay *ℤ den') (cycles *ℤ num') den h some in
    let left : (delay *ℤ den') *ℤ den ≡ (delay *ℤ den) *ℤ den' = swap-times delay den' den in
    let right : (cycles *ℤ num') *ℤ den ≡ (cycles *ℤ num) *ℤ den' = times_assoc cycles num' den ∙ ap (λ v. cycles *ℤ v) same ∙ sym (times_assoc cycles num den') in
    times-cancel_positive (delay *ℤ den) (cycles *ℤ num) den' some' (rw (left, right) at grown)

-- Where a chain takes exactly its cycles at num / den, no num' / den' at which it asks for no more is smaller.
pub no_less : (delay cycles num den num' den' : ℤ) → pos 1 ≤ℤ den → pos 1 ≤ℤ cycles → delay *ℤ den ≡ cycles *ℤ num → (delay *ℤ den') ≤ℤ (cycles *ℤ num') → (num *ℤ den') ≤ℤ (num' *ℤ den)
no_less delay cycles num den num' den' some turns tight h =
    let grown = times-mono_positive (delay *ℤ den') (cycles *ℤ num') den h some in
    let left : (delay *ℤ den') *ℤ den ≡ (num *ℤ den') *ℤ cycles =
    swap-times delay den' den ∙ ap (λ v. v *ℤ den') tight ∙ ap (λ v. v *ℤ den') (*ℤ_comm cycles num) ∙ swap-times num cycles den' in
    let right : (cycles *ℤ num') *ℤ den ≡ (num' *ℤ den) *ℤ cycles = ap (λ v. v *ℤ den) (*ℤ_comm cycles num') ∙ swap-times num' cycles den in
    times-cancel_positive (num *ℤ den') (num' *ℤ den) cycles turns (rw (left, right) at grown)
