-- A design has no more pairs than its arcs into inputs bring: each pair has an arc that is the last of a path of it, and
-- a number below what the arcs bring, which no other pair has.
use Rattle.std.proofs.Common.{◌≡◌, ◌≢◌, ℕ, zero, suc, ◌<◌, ◌≤◌, ◌+◌, ◌-◌, ◌*◌, ◌/◌, List, [], ◌∷◌, length, get_or, take, arith, refl, ap, ◌∙◌, sym, subst, ⊎_elim}
use Rattle.std.proofs.lemmas.Bool.{cases_lt}
use Rattle.std.proofs.lemmas.Bool.Decides.{Decides-eqb, nat_tests}
use Rattle.std.proofs.lemmas.List.{get_or_default}
use Rattle.std.proofs.lemmas.List.Sorted.{IsNonDecreasingBy-from_all_adjacent}
use Rattle.std.proofs.lemmas.List.Sums.{sum_by_more, sum_by-take-le}
use Rattle.std.proofs.lemmas.Map.Made.{IsDistinct-from_AllPairs}
use Rattle.std.proofs.lemmas.Map.Steps.{length-le_from_distinct_below}
use Rattle.std.proofs.lemmas.Map.Views.{Contains-from_any}
use Rattle.std.specs.List.{All, AllAdjacentBelow, AllPairs, Contains, sum_by}
use Rattle.mintc_text.specs.declared.limits.TheConstants.{MOST_ELEMENTS}
use Rattle.mintc_text.specs.declared.limits.Most.{Most}
use Rattle.mintc_timing.specs.declared.parts.Pair.{Pair}
use Rattle.mintc_timing.specs.declared.parts.TimingArc.{TimingArc}
use Rattle.mintc_timing.specs.Design.{Design, no_arc, no_pair}
use Rattle.mintc_timing.specs.Limits.{IsArc, IsDesign}
use Rattle.mintc_timing.specs.Order.{IsOrder}
use Rattle.mintc_timing.specs.Paths.{Leads, ArePairs, ComesBefore, HasExtremes, arc_at, input_of, output_of}
use Rattle.mintc_paths.specs.Reversed.{key_of}
use Rattle.mintc_paths.proofs.SharedExisting.{pairs_exist_lem}
use Rattle.mintc_paths_count.specs.Bound.{HasFewPairs, pairs_by, most_pairs}

-- the last arc of a path, and what leads to it
last_step : (arcs : List TimingArc) (from n : ℕ) (path : List ℕ) (to : ℕ) → Leads arcs from (n ∷ path) to →
    (front : List ℕ) × (e : ℕ) × (e < length arcs) × Leads arcs from front (arc_at arcs e).from × ((arc_at arcs e).to ≡ to)
last_step arcs from n [] to h = ([], n, h.0, sym h.1, h.2)
last_step arcs from n (m ∷ path) to h =
    let rest = last_step arcs (arc_at arcs n).to m path to h.2 in
    (n ∷ rest.0, rest.1, rest.2, (h.0, h.1, rest.3), rest.4)

-- what leads to a bit that no arc enters is nothing
nothing_leads : (arcs : List TimingArc) (from : ℕ) (path : List ℕ) (to : ℕ) → ((e : ℕ) → e < length arcs → (arc_at arcs e).to ≢ to) → Leads arcs from path to → from ≡ to
nothing_leads arcs from [] to none h = h
nothing_leads arcs from (n ∷ path) to none h = let last = last_step arcs from n path to h in absurd (none last.1 last.2 last.4)

module _ (n : ℕ) (arcs : List TimingArc) where
  -- what the first k arcs bring
  abbrev before : ℕ → ℕ
  before k = sum_by (pairs_by n) (take k arcs)

  before_more : (e : ℕ) → e < length arcs → before (e + 1) ≡ before e + pairs_by n (arc_at arcs e)
  before_more e inside = sum_by_more (pairs_by n) arcs e no_arc inside

  before_rises : (d more : ℕ) → d + more ≤ length arcs → before d ≤ before (d + more)
  before_rises d zero few = let same : d + 0 ≡ d = omega arith in rw same (omega arith)
  before_rises d (suc more) few =
      let same : d + suc more ≡ (d + more) + 1 = omega arith in
      rw same (omega (arith, before_rises d more (omega (arith, few)), before_more (d + more) (omega (arith, few))))

  before_later : (d e : ℕ) → d < e → e ≤ length arcs → before (d + 1) ≤ before e
  before_later d e less few = let more : (k : ℕ) × ((d + 1) + k ≡ e) = (e - (d + 1), omega (arith, less)) in rw (← more.1) (before_rises (d + 1) more.0 (omega (arith, more.1, few)))

  -- The number is the pair's: among those that arc e brings, the last of a path of the pair.
  record IsCode (p : Pair) (c : ℕ) : Type 0 where
    arc : ℕ
    inside : arc < length arcs
    to : (arc_at arcs arc).to ≡ input_of p.to
    low : before arc ≤ c
    high : c < before (arc + 1)
    own : (arc_at arcs arc).from < 2 * n → (arc_at arcs arc).from ≡ output_of p.from
    inner : 2 * n ≤ (arc_at arcs arc).from → c ≡ before arc + p.from

  -- two pairs of one number are one
  one_arc : (p q : Pair) (c : ℕ) (h : IsCode p c) (g : IsCode q c) → h.arc ≡ g.arc
  one_arc p q c h g = ⊎_elim
      (λ less. absurd (omega (arith, before_later h.arc g.arc less (omega (arith, g.inside)), h.high, g.low)))
      (λ least. ⊎_elim
      (λ more. absurd (omega (arith, before_later g.arc h.arc more (omega (arith, h.inside)), g.high, h.low)))
      (λ most. omega (arith, least, most))
      (cases_lt g.arc h.arc))
      (cases_lt h.arc g.arc)

  one_pair : (p q : Pair) (c : ℕ) → IsCode p c → IsCode q c → (p.from ≡ q.from) × (p.to ≡ q.to)
  one_pair p q c h g =
      let same = one_arc p q c h g in
      let to : (arc_at arcs h.arc).to ≡ input_of q.to = rw same g.to in
      let own : (arc_at arcs h.arc).from < 2 * n → (arc_at arcs h.arc).from ≡ output_of q.from = rw same g.own in
      let inner : 2 * n ≤ (arc_at arcs h.arc).from → c ≡ before h.arc + q.from = rw same g.inner in
      (⊎_elim (λ less. omega (arith, h.own less, own less)) (λ least. omega (arith, h.inner least, inner least)) (cases_lt (arc_at arcs h.arc).from (2 * n)), omega (arith, h.to, to))

module _ (design : Design) (kept : IsDesign design) where
  abbrev n : ℕ
  n = length design.elements

  arc_inside : (e : ℕ) → e < length design.arcs → IsArc n (length design.inner) (arc_at design.arcs e)
  arc_inside e inside = kept.each_arc e no_arc inside

  -- an arc that comes from an output comes from the first bit of each path that it is the last of
  from_output : (from : ℕ) (path : List ℕ) (e : ℕ) → e < length design.arcs → (arc_at design.arcs e).from < 2 * n → Leads design.arcs (output_of from) path (arc_at design.arcs e).from →
      (arc_at design.arcs e).from ≡ output_of from
  from_output from path e inside low h =
      let half : ℕ = (arc_at design.arcs e).from / 2 in
      let few : half < n = omega (arith, low) in
      let odd : (arc_at design.arcs e).from ≡ 2 * half + 1 = parity (arc_at design.arcs e).from ((arc_inside e inside).leaves half few) in
      sym (nothing_leads design.arcs (output_of from) path (arc_at design.arcs e).from (λ m below is. (arc_inside m below).enters half few (is ∙ odd)) h)
    where
      parity : (x : ℕ) → x ≢ 2 * (x / 2) → x ≡ 2 * (x / 2) + 1
      parity x ne = omega (arith, ne)

  -- each pair has a number
  code_by : (p : Pair) → p.from < n → p.to < n → (front : List ℕ) (e : ℕ) → e < length design.arcs → Leads design.arcs (output_of p.from) front (arc_at design.arcs e).from →
      (arc_at design.arcs e).to ≡ input_of p.to → (c : ℕ) × IsCode n design.arcs p c
  code_by p from to front e inside leads ends = ⊎_elim
      (λ low.
      let brings : pairs_by n (arc_at design.arcs e) ≡ 1 = one (arc_at design.arcs e) (omega (arith, ends, to)) low in (
        before n design.arcs e,
        record {
          arc = e;
          inside = inside;
          to = ends;
          low = omega arith;
          high = omega (arith, before_more n design.arcs e inside, brings);
          own = λ below. from_output p.from front e inside low leads;
          inner = λ above. absurd (omega (arith, low, above));
        },
      ))
      (λ high.
      let brings : pairs_by n (arc_at design.arcs e) ≡ n = many (arc_at design.arcs e) (omega (arith, ends, to)) high in (
        before n design.arcs e + p.from,
        record {
          arc = e;
          inside = inside;
          to = ends;
          low = omega arith;
          high = omega (arith, before_more n design.arcs e inside, brings, from);
          own = λ below. absurd (omega (arith, below, high));
          inner = λ above. refl;
        },
      ))
      (cases_lt (arc_at design.arcs e).from (2 * n))
    where
      one : (arc : TimingArc) → arc.to < 2 * n → arc.from < 2 * n → pairs_by n arc ≡ 1
      one arc h g = grind (arith, nat_tests)

      many : (arc : TimingArc) → arc.to < 2 * n → 2 * n ≤ arc.from → pairs_by n arc ≡ n
      many arc h g = grind (arith, nat_tests)

  code_along : (p : Pair) → p.from < n → p.to < n → (path : List ℕ) → path ≢ [] → Leads design.arcs (output_of p.from) path (input_of p.to) → (c : ℕ) × IsCode n design.arcs p c
  code_along p from to [] some h = absurd (some refl)
  code_along p from to (m ∷ path) some h =
      let last = last_step design.arcs (output_of p.from) m path (input_of p.to) h in
      code_by p from to last.0 last.1 last.2 last.3 last.4

  code_of : (p : Pair) → HasExtremes design p → (c : ℕ) × IsCode n design.arcs p c
  code_of p h = let path = h.greatest.attained in code_along p h.from h.to path.0 path.1.0 path.1.1

  -- the numbers of pairs one after another
  record AreCodes (ps : List Pair) (cs : List ℕ) : Type 0 where
    count : length cs ≡ length ps
    each : (k : ℕ) → k < length ps → IsCode n design.arcs (get_or ps k no_pair) (get_or cs k 0)

  codes_cons : (p : Pair) (c : ℕ) (ps : List Pair) (cs : List ℕ) → IsCode n design.arcs p c → AreCodes ps cs → AreCodes (p ∷ ps) (c ∷ cs)
  codes_cons p c ps cs h g = record { count = ap suc g.count; each = each }
    where
      each : (k : ℕ) → k < length (p ∷ ps) → IsCode n design.arcs (get_or (p ∷ ps) k no_pair) (get_or (c ∷ cs) k 0)
      each zero low = h
      each (suc k) low = g.each k (omega (arith, low))

  codes : (ps : List Pair) → All (HasExtremes design) ps → (cs : List ℕ) × AreCodes ps cs
  codes [] h = ([], record { count = refl; each = λ k low. absurd (omega (arith, low)) })
  codes (p ∷ ps) h =
      let here = code_of p (h 0 no_pair (omega arith)) in
      let rest = codes ps (λ k d low. h (suc k) d (omega (arith, low))) in
      (here.0 ∷ rest.0, codes_cons p here.0 ps rest.0 here.1 rest.1)

  -- the keys of pairs in order rise
  key_rises : (p q : Pair) → p.to < MOST_ELEMENTS → ComesBefore p q → key_of p < key_of q
  key_rises p q low h = grind arith

  rises : (ps : List Pair) → All (HasExtremes design) ps → AllAdjacentBelow ComesBefore ps (length ps) → AllPairs (λ p q. key_of p < key_of q) ps
  rises ps each ascending i j d less low =
      let next : (k : ℕ) (e : Pair) → k + 1 < length ps → key_of (get_or ps k e) < key_of (get_or ps (k + 1) e) =
      λ k e below. key_rises (get_or ps k e) (get_or ps (k + 1) e) (omega (arith, (each k e (omega (arith, below))).to, kept.elements)) (ascending k e below) in
      let later = IsNonDecreasingBy-from_all_adjacent key_of ps (λ k e below. omega (arith, next k e below)) in
      omega (arith, next i d (omega (arith, less, low)), later (i + 1) j d (omega (arith, less)) low)

  -- a design has no more pairs than its arcs bring
  pub few_pairs : (ps : List Pair) → ArePairs design ps → length ps ≤ most_pairs n design.arcs
  few_pairs ps h =
      let found = codes ps h.each in
      let cs = found.0 in
      let are = found.1 in
      let apart : AllPairs (λ x y. x ≢ y) cs =
      λ i j d less low e.
      let low_j : j < length ps = omega (arith, low, are.count) in
      let code_i = are.each i (omega (arith, less, low_j)) in
      let code_j = subst (λ (c : ℕ). IsCode n design.arcs (get_or ps j no_pair) c) (get_or_default cs j 0 d low ∙ sym e ∙ get_or_default cs i d 0 (omega (arith, less, low))) (are.each j low_j) in
      let same = one_pair n design.arcs (get_or ps i no_pair) (get_or ps j no_pair) (get_or cs i 0) code_i code_j in
      omega (arith, rises ps h.each h.ascending i j no_pair less low_j, same.0, same.1) in
      length_of are (length-le_from_distinct_below cs (most_pairs n design.arcs) (IsDistinct-from_AllPairs Decides-eqb cs apart)
      (λ q is. below are q (Contains-from_any (λ x y. (Decides-eqb x y).0) q cs is)))
    where
      length_of : {cs : List ℕ} → AreCodes ps cs → length cs ≤ most_pairs n design.arcs → length ps ≤ most_pairs n design.arcs
      length_of are few = omega (arith, are.count, few)

      below : {cs : List ℕ} → AreCodes ps cs → (q : ℕ) → Contains cs q → q < most_pairs n design.arcs
      below {cs} are q at =
          let code = are.each at.0 (omega (arith, at.1, are.count)) in
          let is : get_or cs at.0 0 ≡ q = get_or_default cs at.0 0 q at.1 ∙ at.2 in
          omega (arith, is, code.high, sum_by-take-le (pairs_by n) design.arcs (code.arc + 1))

pub has_few : (design : Design) → IsDesign design → (order : List ℕ) → IsOrder design.arcs order → (most : Most) → most_pairs (length design.elements) design.arcs ≤ most.pairs → HasFewPairs most design
has_few design kept order is_order most few = let all = pairs_exist_lem design order is_order in (all.0, all.1, omega (arith, few_pairs design kept all.0 all.1, few))
