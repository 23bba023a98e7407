-- The chain that the search begins with: from node 0 to node 1 and back.
use Rattle.std.proofs.Common.{◌≡◌, ◌≢◌, ◌<◌, ℕ, zero, suc, List, [], ◌∷◌, length, arith, sym, ap, ◌∙◌, All}
use Rattle.std.specs.Prelude.{replicate, slice_set}
use Rattle.std.specs.List.{AllPairs}
use Rattle.std.proofs.lemmas.List.Elements.{All-nil, All-cons}
use Rattle.mintc_timing.specs.declared.link.Link.{Link}
use Rattle.mintc_timing.specs.Links.{link_at, no_link}
use Rattle.mintc_ratio.specs.Chains.{NamesChain}
use Rattle.mintc_ratio.specs.Climbing.{IsPlainAt}
use Rattle.mintc_graph.proofs.SharedRingLaws.{listed}

-- a link from node 0 to node 1 and one back are a chain
pub rest_named : (links : List Link) (forth back : ℕ) → IsPlainAt links 0 1 0 forth → IsPlainAt links 1 0 1 back → NamesChain links (forth ∷ back ∷ [])
rest_named links forth back f b =
    let exist : All (λ e. e < length links) (forth ∷ back ∷ []) = All-cons (λ e. e < length links) forth (back ∷ []) f.exists (All-cons (λ e. e < length links) back [] b.exists (All-nil (λ e. e < length links))) in
    let apart : (link_at links forth).to ≢ (link_at links back).to = λ e. let p = f.to in let q = b.to in absurd (omega arith) in
    record {
      exist = exist;
      chain = record { listed = listed no_link links (forth ∷ back ∷ []) exist; closed = (b.from ∙ sym f.to, b.to ∙ sym f.from) };
      once = two_apart apart;
    }
  where
    two_apart : (link_at links forth).to ≢ (link_at links back).to → AllPairs (λ m n. (link_at links m).to ≢ (link_at links n).to) (forth ∷ back ∷ [])
    two_apart apart zero zero d h k = absurd (omega arith)
    two_apart apart zero (suc zero) d h k = apart
    two_apart apart zero (suc (suc j)) d h k = absurd (omega arith)
    two_apart apart (suc i) zero d h k = absurd (omega arith)
    two_apart apart (suc i) (suc j) d h k = absurd (omega arith)

-- the two numbers that the code writes
pub two_set : (a b c : List ℕ) (forth back : ℕ) → a ≡ replicate 2 0 → b ≡ slice_set a 0 forth → c ≡ slice_set b 1 back → c ≡ forth ∷ back ∷ []
two_set a b c forth back p q r = r ∙ ap (λ (x : List ℕ). slice_set x 1 back) q ∙ ap (λ (x : List ℕ). slice_set (slice_set x 0 forth) 1 back) p
