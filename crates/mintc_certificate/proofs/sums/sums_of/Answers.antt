use Rattle.std.proofs.Common.{◌≡◌, ◌<◌, ◌+◌, ℕ, ℤ, pos, ◌+ℤ◌, List, length, get_or, take, arith}
use Rattle.std.proofs.lemmas.Grind.{take_at_read}
use Rattle.std.proofs.lemmas.Int.{ints}
use Rattle.std.proofs.lemmas.List.{map-append}
use Rattle.mintc_graph.specs.Rings.{total}
use Rattle.mintc_graph.proofs.SharedRingLaws.{total-append}
use Rattle.mintc_timing.specs.declared.link.Link.{Link}
use Rattle.mintc_timing.specs.Design.{Design}
use Rattle.mintc_certificate.specs.declared.members.Member.{Member}
use Rattle.mintc_certificate.specs.Valid.{link_of, links_of_members}
use Rattle.mintc_certificate.proofs.sums.sums_of.Goals as goal

-- the link of one member more
sums_more : (f : Link → ℤ) (design : Design) (chain : List Member) (i : ℕ) (m : Member) → i < length chain → m ≡ get_or chain i m →
    total f (links_of_members design (take (i + 1) chain)) ≡ total f (links_of_members design (take i chain)) +ℤ f (link_of design m)
sums_more f design chain i m below is = grind (arith, ints, take_at_read, map-append, total-append)

pub loop-member-preserved : goal.loop-member-preserved
loop-member-preserved c =
    let below = c.loop-member-test.true in
    let delay = rw (← c.link_of-link.ensures.value) at (sums_more (λ (k : Link). k.delay) c.args.flat.now c.args.members.now c.loop-member.member-index c.member-item.result below c.member-item.is) in
    let cycles = rw (← c.link_of-link.ensures.value) at (sums_more (λ (k : Link). pos k.cycles) c.args.flat.now c.args.members.now c.loop-member.member-index c.member-item.result below c.member-item.is) in
    let most = c.requires.chain.most in
    record {
      delay_is = omega (arith, ints);
      delay_low = omega (arith, ints);
      delay_high = omega (arith, ints);
      cycles_is = omega (arith, ints);
      cycles_low = omega (arith, ints);
      cycles_high = omega (arith, ints);
    }
