-- Where a chain of links begins.
use Rattle.std.specs.Prelude.{◌≡◌, ◌<◌, ℕ, List, ◌++◌, length, take, drop, slice_index_or, All}
use Rattle.mintc_timing.specs.declared.link.Link.{Link}
use Rattle.mintc_timing.specs.Design.{Timing}
use Rattle.mintc_timing.specs.Links.{link_at, links_of}
use Rattle.mintc_certificate.specs.declared.certificate.Certificate.{Certificate}
use Rattle.mintc_certificate.specs.Valid.{chain_of, links_of_members}

-- The links ask for the same: they lead from and to the same nodes, with the same delay and the same cycles.
abbrev pub AskTheSame : Link → Link → Type 0
AskTheSame k l = (k.from ≡ l.from) × (k.to ≡ l.to) × (k.delay ≡ l.delay) × (k.cycles ≡ l.cycles)

-- No link of the chain asks for the same as this one.
abbrev pub IsAbsent : List Link → Link → Type 0
IsAbsent chain k = All (λ l. AskTheSame k l → ⊥) chain

-- The link of this number asks for the same as the chain's link at this place, both counted from 0, and no link before
-- it in the list asks for the same as any of the chain.
pub record ComesFirst (links chain : List Link) (place number : ℕ) : Type 0 where
  pub inside : place < length chain
  pub listed : number < length links
  pub same : AskTheSame (link_at links number) (link_at chain place)
  pub none_before : (e : ℕ) → e < number → IsAbsent chain (link_at links e)

-- The chain's link at this place comes first in the list of links, of all links of the chain.
abbrev pub IsBeginning : List Link → List Link → ℕ → Type 0
IsBeginning links chain place = (number : ℕ) × ComesFirst links chain place number

-- The chain begins with that of its links that comes first in the list.
abbrev pub BeginsFirst : List Link → List Link → Type 0
BeginsFirst links chain = IsBeginning links chain 0

-- So does the chain of a certificate, in the list of the design's links.
abbrev pub HasBeginning : Timing → Certificate → Type 0
HasBeginning t certificate = BeginsFirst (links_of t) (links_of_members t.flat (chain_of certificate))

-- a ring from its n-th item, counted from 0, round to it
abbrev pub turned : {X : Type 0} → ℕ → List X → List X
turned n ring = drop n ring ++ take n ring

-- For each of so many nodes a place; for that which a link of the chain enters, one of the first so many, it is the
-- link's place.
pub record ArePlaces (nodes : ℕ) (links : List Link) (chain : List ℕ) (count : ℕ) (places : List ℕ) : Type 0 where
  pub each_node : length places ≡ nodes
  pub there : (i : ℕ) → i < count →
      slice_index_or places (link_at links (slice_index_or chain i 0)).to 0 ≡ i
