use Rattle.std.proofs.Common.{◌≡◌, ◌<◌, ℕ, [], ◌∷◌, ◌++◌, length, arith, refl, ap, below_more}
use Rattle.std.proofs.lemmas.List.Elements.{All-push, Contains-append_left, Contains-push}
use Rattle.std.proofs.lemmas.List.Sorted.{All-permutation, Contains-permutation}
use Rattle.std.specs.List.{Contains}
use Rattle.mintc_timing.specs.Design.{pair_at}
use Rattle.mintc_slack.specs.declared.finding.Entry.{Entry}
use Rattle.mintc_slack.proofs.finding.entries.Goals as goal

abbrev entry : ℕ → ℕ → Entry
entry to number = record { to = to; number = number }

pub loop-number-preserved : goal.loop-number-preserved
loop-number-preserved c =
    let t = c.args.system.now in
    let i = c.loop-number.number in
    let old = c.loop-number.entries.items in
    let e = entry (pair_at t i).to i in
    let below : i < length t.pairs = omega (arith, ap length c.pairs-number-end.ensures.value) in
    rw (c.in_ok-push.ensures.items, c.pair.ensures.value) (record {
      of_pairs = All-push (λ (x : Entry). (x.number < length t.pairs) × (x.to ≡ (pair_at t x.number).to)) old e c.loop-number.invariant.of_pairs (below, refl);
      all = below_more (λ n. Contains (old ++ e ∷ []) (entry (pair_at t n).to n)) i
          (λ n less. Contains-append_left old (e ∷ []) (entry (pair_at t n).to n) (c.loop-number.invariant.all n less)) (Contains-push old e);
    })

pub returns : goal.returns
returns c =
    let t = c.args.system.now in
    let P : Entry → Type 0 = λ e. (e.number < length t.pairs) × (e.to ≡ (pair_at t e.number).to) in
    record {
      of_pairs = All-permutation P c.loop-number.entries.items c.sort_unstable.new.self.items c.sort_unstable.ensures.permutation c.loop-number.invariant.of_pairs;
      all = λ n h. Contains-permutation c.loop-number.entries.items c.sort_unstable.new.self.items (entry (pair_at t n).to n) c.sort_unstable.ensures.permutation
          (c.loop-number.invariant.all n (omega (arith, ap length c.pairs-number-end.ensures.value)));
    }
