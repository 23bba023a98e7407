-- What one turn of the search keeps.
use Rattle.std.proofs.Common.{◌≡◌, ◌≤◌, ◌<◌, ◌*◌, ◌+◌, ◌-◌, ◌/◌, ◌^◌, ℕ, zero, suc, ℤ, pos, ◌+ℤ◌, ◌-ℤ◌, ◌*ℤ◌, ◌≤ℤ◌, ◌<ℤ◌, arith, ⊎_elim, ◌⊎◌, min, lit<, to_z, of_z}
use Rattle.std.specs.Int.{w128}
use Rattle.mintc_graph_walks.specs.Bounds.{IsWithin}
use Rattle.mintc_ratio.proofs.Weights.{fits_128}
use Rattle.std.proofs.lemmas.Int.{ints, to_z-of_z}
use Rattle.std.proofs.Math.Nat.{pow-suc}
use Rattle.mintc_fraction.specs.Ratio.{over}
use Rattle.mintc_constraints.specs.Ordinary.{Constraints, IsOrdinary}
use Rattle.mintc_constraints.specs.Rooms.{Space}
use Rattle.mintc_ratio.specs.declared.sums.Sums.{Sums}
use Rattle.mintc_ratio.specs.Climbing.{IsHeld, IsLow, IsSteeper, IsClimbing, grid_of, most_tests}
use Rattle.mintc_ratio.specs.Tested.{NoneForbids}
use Rattle.mintc_ratio.proofs.GridLaws.{few_steps, top_small}
use Rattle.mintc_ratio.proofs.ClimbLaws.{low_inside, low_rises, low_halved, high_free, gap}

-- the range of a turn
pub record IsRange (high low : ℤ) : Type 0 where
  pub from : pos 0 ≤ℤ low
  pub order : low ≤ℤ high
  pub most : high ≤ℤ pos (2 ^ 75)

pub range_of : (list : Constraints) → IsOrdinary list → (start begun : ℕ) (room : Space) (held : Sums) (high low : ℤ) (k now : ℕ) →
    IsClimbing list start begun room held high k now → IsLow list.nodes held low → IsRange high low
range_of list ordinary start begun room held high low k now s floor =
    let inside = low_inside list room held high low s.is_held s.is_high floor in
    let few = ordinary.nodes.1 in
    let top = top_small list.nodes few in
    let under = s.inside in
    record { from = inside.0; order = inside.1; most = omega (arith, ints) }

-- one test more of the tests that are left
tests_left : (k n : ℕ) → (suc k + 1) * (n + 1) ≡ (k + 1) * (n + 1) + (n + 1)
tests_left k n = grind arith

two_left : (k n : ℕ) → (k + 2) * (n + 1) ≡ (k + 1) * (n + 1) + (n + 1)
two_left k n = grind arith

module _ (list : Constraints) (ordinary : IsOrdinary list) (start begun : ℕ) (old : Space) (held : Sums) (high low : ℤ) (k now width : ℕ) (s : IsClimbing list start begun old held high k now)
    (floor : IsLow list.nodes held low) (wide : pos width ≡ high -ℤ low) (new : Space) (later : ℕ) (cost : later ≤ now + list.nodes + 1) (some : now < later) where
  some_nodes : 1 ≤ list.nodes
  some_nodes = omega (arith, ordinary.nodes.0)

  -- A jump leaves a steeper chain, and it wasn't the last test.
  pub jumped_on : (sums : Sums) (taken : ℕ) → taken ≡ min now (2 ^ 64 - 1) →
      (width ≤ 1) ⊎ ((left : ℕ) × (width ≤ 2 ^ left)
      × ((first last : ℕ) → begun ≡ min first (2 ^ 64 - 1) → taken ≡ min last (2 ^ 64 - 1) → last ≤ first + 2 ^ 21 → last + (left + 2) * (list.nodes + 1) ≤ first + most_tests list.nodes * (list.nodes + 1))) →
      IsHeld list new sums → IsSteeper held sums → (halvings : ℕ) × IsClimbing list start begun new sums high halvings later
  jumped_on sums taken said may is steeper =
      ⊎_elim
      (λ near. absurd (gap list old new held sums high low ordinary.nodes.0 s.is_held is s.is_high floor (omega (arith, ints)) steeper))
      (λ m.
      let steps = few_steps start now ((k + 1) * (list.nodes + 1)) list.nodes ordinary.nodes.1 s.few in
      let room = m.2 start now s.said said steps in
      let two = two_left m.0 list.nodes in
      let reach = m.1 in (
        m.0,
        record {
          is_held = is;
          is_high = s.is_high;
          inside = s.inside;
          said = s.said;
          later = omega (arith, s.later);
          near = λ next other. let rises = low_rises list.nodes held sums low next s.is_held.turns is.turns floor other steeper some_nodes in omega (arith, ints);
          few = omega arith;
        },
      ))
      may

  -- A halving leaves a chain that forbids the middle.
  pub halved_on : (sums : Sums) → 2 ≤ width → IsHeld list new sums → ((low +ℤ pos (width / 2)) *ℤ pos sums.cycles) <ℤ (sums.delay *ℤ grid_of list.nodes) →
      (halvings : ℕ) × IsClimbing list start begun new sums high halvings later
  halved_on sums two is above = by_count k s
    where
      by_count : (j : ℕ) → IsClimbing list start begun old held high j now → (halvings : ℕ) × IsClimbing list start begun new sums high halvings later
      by_count zero t = let near = t.near low floor in absurd (omega (arith, ints))
      by_count (suc j) t =
          let near = t.near low floor in
          let double = pow-suc 2 j in
          let left = tests_left j list.nodes in
          let few = t.few in (
            j,
            record {
              is_held = is;
              is_high = t.is_high;
              inside = t.inside;
              said = t.said;
              later = omega (arith, t.later);
              near = λ next other. let rises = low_halved list.nodes sums (low +ℤ pos (width / 2)) next other above in omega (arith, ints);
              few = omega arith;
            },
          )

  -- Or it leaves the chain that was held, and no chain forbids the middle.
  pub freed_on : 2 ≤ width → NoneForbids list.links (over (low +ℤ pos (width / 2)) (grid_of list.nodes)) → new.chain ≡ old.chain →
      (halvings : ℕ) × IsClimbing list start begun new held (low +ℤ pos (width / 2)) halvings later
  freed_on two none same = by_count k s
    where
      by_count : (j : ℕ) → IsClimbing list start begun old held high j now → (halvings : ℕ) × IsClimbing list start begun new held (low +ℤ pos (width / 2)) halvings later
      by_count zero t = let near = t.near low floor in absurd (omega (arith, ints))
      by_count (suc j) t =
          let near = t.near low floor in
          let double = pow-suc 2 j in
          let left = tests_left j list.nodes in
          let few = t.few in
          let before = t.is_held in
          let under = t.inside in (
            j,
            record {
              is_held = record { chain = rw same before.chain; has_sums = rw same before.has_sums; small = before.small; turns = before.turns; low = before.low };
              is_high = high_free list (low +ℤ pos (width / 2)) none;
              inside = omega (arith, ints);
              said = t.said;
              later = omega (arith, t.later);
              near = λ next other. let rises = other.greatest low floor.low in omega (arith, ints);
              few = omega arith;
            },
          )

-- the numbers of a range, as the code reads them
pub read_low : (high low : ℤ) → IsRange high low → to_z w128 (of_z w128 low) ≡ low
read_low high low r =
    let a = r.from in let b = r.order in let c = r.most in
    let within : IsWithin (2 ^ 75) low = (omega (arith, ints), omega (arith, ints)) in
    to_z-of_z w128 low (fits_128 (2 ^ 75) low (lit< tt) within)

pub read_high : (high low : ℤ) → IsRange high low → to_z w128 (of_z w128 high) ≡ high
read_high high low r =
    let a = r.from in let b = r.order in let c = r.most in
    let within : IsWithin (2 ^ 75) high = (omega (arith, ints), omega (arith, ints)) in
    to_z-of_z w128 high (fits_128 (2 ^ 75) high (lit< tt) within)

-- the middle of a range is in it
pub read_middle : (high low middle : ℤ) (width : ℕ) → IsRange high low → pos width ≡ high -ℤ low → middle ≡ low +ℤ pos (width / 2) → to_z w128 (of_z w128 middle) ≡ low +ℤ pos (width / 2)
read_middle high low middle width r wide is =
    let a = r.from in let b = r.order in let c = r.most in
    let within : IsWithin (2 ^ 75) (low +ℤ pos (width / 2)) = (omega (arith, ints), omega (arith, ints)) in
    rw is (to_z-of_z w128 (low +ℤ pos (width / 2)) (fits_128 (2 ^ 75) (low +ℤ pos (width / 2)) (lit< tt) within))

pub middle_low : (high low : ℤ) (width : ℕ) → IsRange high low → pos 0 ≤ℤ (low +ℤ pos (width / 2))
middle_low high low width r = let a = r.from in omega (arith, ints)

pub middle_high : (high low : ℤ) (width : ℕ) → IsRange high low → pos width ≡ high -ℤ low → (low +ℤ pos (width / 2)) ≤ℤ high
middle_high high low width r wide = let a = r.order in omega (arith, ints)

pub width_small : (high low : ℤ) (width : ℕ) → IsRange high low → pos width ≡ high -ℤ low → width ≤ 2 ^ 75
width_small high low width r wide = let a = r.from in let b = r.most in omega (arith, ints)
