-- Each system has slacks, or no schedule is right.
use Rattle.std.proofs.Common.{◌≡◌, ℕ, zero, ◌<◌, ◌≤◌, ℤ, pos, negsuc, ◌≤ℤ◌, Bool, true, false, List, [], ◌∷◌, ◌++◌, length, map, arith, refl, sym, ap, subst, ◌⊎◌, inl, inr}
use Rattle.std.specs.Int.{int_div_euclid}
use Rattle.std.specs.Int.RustNames.{unsigned_abs}
use Rattle.std.specs.List.{Contains, range_with_len}
use Rattle.std.proofs.lemmas.Bool.{cases_lt}
use Rattle.std.proofs.lemmas.Int.{ints}
use Rattle.std.proofs.lemmas.List.FromFn.{length-map-range_with_len, get_or-map-range_with_len}
use Rattle.mintc_fraction.specs.Ratio.{Ratio, IsModest}
use Rattle.mintc_fraction_laws.proofs.SharedReducing.{div_euclid-high, div_euclid-low, next_is}
use Rattle.mintc_timing.specs.declared.link.Link.{Link}
use Rattle.mintc_timing.specs.Design.{Timing, element_at, element_count, no_element, pair_at, no_pair, phase_count, phase_of}
use Rattle.mintc_timing.specs.Limits.{IsDesign, IsPhase}
use Rattle.mintc_timing.specs.Links.{links_of, cycle_link, element_node, end_node, no_link, node_count, setup_link, span_link, start_node}
use Rattle.mintc_timing.specs.Order.{IsTiming}
use Rattle.mintc_timing.proofs.SharedByKind.{stands}
use Rattle.mintc_timing.proofs.SharedLinkLaws.{ends_of}
use Rattle.mintc_graph.proofs.SharedRingLaws.{LeadsBy-append}
use Rattle.mintc_constraints.specs.Ordinary.{Constraints, IsOrdinary, Leads, constraints_of}
use Rattle.mintc_constraints.specs.Rooms.{Space}
use Rattle.mintc_constraints.proofs.SharedChainLaws.{stuck_is_hopeless_lem}
use Rattle.mintc_constraints.proofs.SharedOrdinaryLaws.{number_of, ordinary}
use Rattle.mintc_ratio.specs.declared.searching.Outcome.{Outcome}
use Rattle.mintc_ratio.specs.declared.searching.Outcome.TheVariants as outcome
use Rattle.mintc_ratio.specs.Chains.{links_at}
use Rattle.mintc_ratio.specs.Searched.{HasSearched, IsCycle, IsLeast}
use Rattle.mintc_ratio_laws.specs.Existence.{LeadsBack}
use Rattle.mintc_ratio_laws.proofs.SharedOutcomeLaws.{searches_end_lem}
use Rattle.mintc_ratio_laws.proofs.SharedValuesLaws.{greatest_walks_exist_lem}
use Rattle.mintc_optimise.proofs.SharedWalkedLaws.{AreLeast, are_least}
use Rattle.mintc_slack.specs.declared.finding.Slacks.{Slacks}
use Rattle.mintc_slack.specs.declared.finding.Slacks.TheVariants as slacks
use Rattle.mintc_slack.specs.Answers.{IsSlackAnswer}
use Rattle.mintc_slack.specs.Laws.{RoomIsSlack}
use Rattle.mintc_slack.specs.PairRoom.{AreFrom, IsWhole, room_of}
use Rattle.mintc_slack.specs.Slack.{AreSlacks, IsSlack}
use Rattle.mintc_slack_laws.specs.Existence.{SlacksExist}

abs_small : (x : ℤ) (n : ℕ) → pos 0 ≤ℤ x → x ≤ℤ pos n → unsigned_abs x ≤ n
abs_small (pos m) n h k = omega (arith, ints)
abs_small (negsuc m) n h k = absurd (omega (arith, ints))

modest : (cycle : Ratio) → IsCycle cycle → IsModest cycle
modest cycle is = record {
  num = (let few = abs_small cycle.num 40034000000000 is.low (omega (arith, ints, is.num)) in omega arith);
  den = omega (arith, ints, is.den);
}

-- the whole femtoseconds in a time
whole_of : (at : Ratio) (x : ℤ) → pos 1 ≤ℤ at.den → (u : ℤ) × IsWhole at x u
whole_of at x some =
    let u = int_div_euclid x at.den in
    let high = div_euclid-high x at.den some in
    let next = next_is u at.den in
    (u, record { fits = div_euclid-low x at.den some; most = omega (arith, ints, high, next) })

module _ (t : Timing) (limits : IsDesign t.flat) (kept : IsTiming t.flat t.order t.pairs) where
  abbrev links : List Link
  links = links_of t

  abbrev list : Constraints
  list = constraints_of (node_count t.flat) links

  all : IsOrdinary list
  all = ordinary t limits kept

  -- one link as a walk
  one : (k : Link) → Contains links k → (walk : List ℕ) × Leads links k.from walk k.to
  one k h =
      let e = number_of links k h in
      (e.0 ∷ [], (e.1, ap (λ (x : Link). x.from) e.2, ap (λ (x : Link). x.to) e.2))

  joined : (a b c : ℕ) → (walk : List ℕ) × Leads links a walk b → (walk : List ℕ) × Leads links b walk c → (walk : List ℕ) × Leads links a walk c
  joined a b c g h = (g.0 ++ h.0, LeadsBy-append (λ (k : Link). k.from) (λ (k : Link). k.to) no_link links a g.0 b h.0 c g.1 h.1)

  -- from the start and the end of a phase to node 0
  from_start : (p : ℕ) → IsPhase (phase_count t.flat) p → (walk : List ℕ) × Leads links (start_node p) walk 0
  from_start p h = one (cycle_link p) ((stands t).cycle p h)

  from_end : (p : ℕ) → IsPhase (phase_count t.flat) p → (walk : List ℕ) × Leads links (end_node p) walk 0
  from_end p h = joined (end_node p) (start_node p) 0 (one (span_link p) ((stands t).span p h)) (from_start p h)

  after_setup : (l p : ℕ) → IsPhase (phase_count t.flat) p → phase_of t.flat l ≡ p → (flop : Bool) → (element_at t.flat l).flop ≡ flop → (walk : List ℕ) × Leads links (setup_link t.flat l).to walk 0
  after_setup l p h is true e = rw (e, is) (from_start p h)
  after_setup l p h is false e = rw (e, is) (from_end p h)

  back : (l : ℕ) → l < element_count t.flat → LeadsBack list (element_node t.flat l)
  back l h =
      let phase = (limits.each_element l no_element h).phase in
      joined (element_node t.flat l) (setup_link t.flat l).to 0 (one (setup_link t.flat l) ((stands t).setup l h)) (after_setup l (phase_of t.flat l) phase refl (element_at t.flat l).flop refl)

  module _ (slack : RoomIsSlack) (room : Space) (cycle : Ratio) (found : IsLeast list cycle room) where
    least_is : AreLeast t cycle room.values
    least_is = are_least t limits (ends_of t kept.extremes) cycle room.values found.values found.cycle_is (links_at links room.chain) found.chain.chain found.tight

    from_of : (l : ℕ) → l < element_count t.flat → (values : List ℤ) × AreFrom t cycle l values
    from_of l h =
        let walks = greatest_walks_exist_lem list cycle (element_node t.flat l) all found.none_forbids (omega arith) (back l h) in
        (walks.0, record { zero = walks.1.here; met = walks.1.met; walked = walks.1.asked })

    -- the slack of pair n
    one_slack : (n : ℕ) → n < length t.pairs → (u : ℤ) × IsSlack t cycle.num cycle.den n u
    one_slack n h =
        let to = (ends_of t kept.extremes n no_pair h).1 in
        let values = from_of (pair_at t n).to to in
        let whole = whole_of cycle (room_of t.flat cycle values.0 (pair_at t n)) found.cycle_is.fraction in
        (whole.0, slack t cycle values.0 n whole.0 limits (ends_of t kept.extremes) least_is.least h values.1 whole.1)

    -- those of all pairs
    abbrev pick : (n : ℕ) → (n < length t.pairs) ⊎ (length t.pairs ≤ n) → ℤ
    pick n (inl h) = (one_slack n h).0
    pick n (inr h) = pos 0

    picked : (n : ℕ) → n < length t.pairs → (c : (n < length t.pairs) ⊎ (length t.pairs ≤ n)) → IsSlack t cycle.num cycle.den n (pick n c)
    picked n h (inl g) = (one_slack n g).1
    picked n h (inr g) = absurd (omega arith)

    abbrev extra_of : ℕ → ℤ
    extra_of n = pick n (cases_lt n (length t.pairs))

    are_slacks : AreSlacks t cycle.num cycle.den (map extra_of (range_with_len 0 (length t.pairs)))
    are_slacks = record {
      count = length-map-range_with_len extra_of 0 (length t.pairs);
      each = λ n h. subst (IsSlack t cycle.num cycle.den n) (sym (get_or-map-range_with_len extra_of 0 (length t.pairs) n n (pos 0) h (omega arith))) (picked n h (cases_lt n (length t.pairs)));
    }

    pub least : (x : Slacks) × IsSlackAnswer t x
    least = (
      slacks.Least cycle (map extra_of (range_with_len 0 (length t.pairs))),
      record { least = least_is.least; lowest = found.cycle_is.lowest; modest = modest cycle found.cycle_is; slacks = are_slacks },
    )

  answer : RoomIsSlack → (room : Space) (found : Outcome) → HasSearched list room found → (x : Slacks) × IsSlackAnswer t x
  answer slack room (outcome.Least cycle) h = least slack room cycle h
  answer slack room outcome.Never h = (slacks.Never, stuck_is_hopeless_lem t (links_at links room.chain) limits (ends_of t kept.extremes) h.0.chain h.1)

pub slacks_exist_lem : RoomIsSlack → SlacksExist
slacks_exist_lem slack t limits kept =
    let ended = searches_end_lem (node_count t.flat) (links_of t) (ordinary t limits kept) in
    answer t limits kept slack ended.0 ended.1 ended.2
