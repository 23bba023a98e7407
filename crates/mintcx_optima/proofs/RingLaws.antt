-- The stages of a chain are a ring, however it is turned.
use Rattle.std.proofs.Common.{◌≡◌, ◌≤◌, ℕ, ℤ, List, length, map, ap, ◌∙◌, sym, subst}
use Rattle.std.proofs.lemmas.List.{length-map}
use Rattle.std.specs.Prelude.{All}
use Rattle.mintc_text.specs.declared.limits.TheConstants.{MOST_MEMBERS}
use Rattle.mintc_timing.specs.Design.{Design}
use Rattle.mintcx_chain.specs.declared.stages.Stage.{Stage}
use Rattle.mintcx_chain.specs.Turning.{HasTurned}
use Rattle.mintcx_chain.specs.Names.{IsShort, IsStage}
use Rattle.mintcx_optima.specs.Least.{IsRing}

module _ {M : Type 0} (f : M → Stage) (members : List M) (stages : List Stage) (are : stages ≡ map f members) where
  count : length members ≡ length stages
  count = sym (ap (λ (ks : List Stage). length ks) are ∙ length-map members f)

  pub some_stages : 1 ≤ length members → 1 ≤ length stages
  some_stages h = subst (λ (n : ℕ). 1 ≤ n) count h

  pub turned_ring : (design : Design) (result : List Stage) → 1 ≤ length members → length members ≤ MOST_MEMBERS → length result ≡ length stages →
      All (IsStage design) result → All IsShort result → IsRing design result
  turned_ring design result some most same each short = record {
    some = subst (λ (n : ℕ). 1 ≤ n) (count ∙ sym same) some;
    most = subst (λ (n : ℕ). n ≤ MOST_MEMBERS) (count ∙ sym same) most;
    each = each;
    short = short;
  }

  -- what is turned of the stages of a design is turned of the members'
  pub turned_of : (given design : Design) (d : List ℤ) (result : List Stage) → given ≡ design → HasTurned given d stages result → HasTurned design d (map f members) result
  turned_of given design d result same h =
      subst (λ (ks : List Stage). HasTurned design d ks result) are (subst (λ (x : Design). HasTurned x d stages result) same h)

  pub each_of : (given design : Design) (result : List Stage) → given ≡ design → (All (IsStage given) stages → All (IsStage given) result) → All (IsStage design) stages → All (IsStage design) result
  each_of given design result same h each = subst (λ (x : Design). All (IsStage x) stages → All (IsStage x) result) same h each
