use Rattle.std.proofs.Common.{◌≡◌, ℕ, ℤ, pos, ◌≤ℤ◌, ◌-ℤ◌, refl, ap, arith, w64, of_z, to_z}
use Rattle.std.specs.List.{Contains}
use Rattle.std.proofs.lemmas.Int.{ints, to_z-of_z}
use Rattle.mintc_timing.specs.declared.link.Link.{Link}
use Rattle.mintc_timing.specs.declared.link.LinkKind.TheVariants as kind
use Rattle.mintc_timing.specs.Design.{Timing, element_at, no_element, no_pair}
use Rattle.mintc_timing.specs.Limits.{IsDesign}
use Rattle.mintc_timing.specs.Links.{links_of}
use Rattle.mintc_timing.specs.Order.{IsTiming}
use Rattle.mintc_timing.proofs.SharedRanges.{pair-max_range}
use Rattle.mintc_optimise.proofs.SharedStandingLaws.{of_kind, pair_of_reach, leaves}
use Rattle.mintc_optimise.proofs.chain.pair_delay.Goals as goal

-- What a reach asks for is small, and no less than its first element's delay.
range : (t : Timing) (limits : IsDesign t.flat) (kept : IsTiming t.flat t.order t.pairs) (k : Link) (j l : ℕ) → k.kind ≡ kind.Reach j l → Contains (links_of t) k →
    (pos 0 ≤ℤ (element_at t.flat j).dq_max) × ((element_at t.flat j).dq_max ≤ℤ k.delay) × (k.delay ≤ℤ pos 2000000000)
range t limits kept k j l is listed =
    let h = of_kind t limits k (kind.Reach j l) is listed in
    let max = pair-max_range t.flat t.order t.pairs limits kept h.0 no_pair h.1 in
    let dq = (limits.each_element j no_element (leaves t limits kept k j l h)).dq_max in
    let asked = ap (λ (x : Link). x.delay) h.4 in
    (omega (arith, ints), omega (arith, ints), omega (arith, ints))

pub element-requires : goal.element-requires
element-requires c =
    leaves c.args.system.now c.requires.design c.requires.kept c.args.link.now c.args.from c.args.to
    (of_kind c.args.system.now c.requires.design c.args.link.now (kind.Reach c.args.from c.args.to) c.requires.kind c.requires.link)

pub overflow_sub-result : goal.overflow_sub-result
overflow_sub-result c =
    let k = c.args.link.now in
    let dq : ℤ = (element_at c.args.system.now.flat c.args.from).dq_max in
    let here = range c.args.system.now c.requires.design c.requires.kept k c.args.from c.args.to c.requires.kind c.requires.link in
    rw (c.element.ensures.value, to_z-of_z w64 k.delay (omega (arith, ints)), to_z-of_z w64 dq (omega (arith, ints))) (omega (arith, ints))

pub returns : goal.returns
returns c =
    let t = c.args.system.now in
    let k = c.args.link.now in
    let limits = c.requires.design in
    let dq : ℤ = (element_at t.flat c.args.from).dq_max in
    let here = range t limits c.requires.kept k c.args.from c.args.to c.requires.kind c.requires.link in
    let value : to_z w64 (of_z w64 (to_z w64 (of_z w64 k.delay) -ℤ to_z w64 (of_z w64 c.element.result.now.dq_max))) ≡ k.delay -ℤ dq =
    rw (c.element.ensures.value, to_z-of_z w64 k.delay (omega (arith, ints)), to_z-of_z w64 dq (omega (arith, ints)), to_z-of_z w64 (k.delay -ℤ dq) (omega (arith, ints))) refl in
    record { value = value; pair = pair_of_reach t limits k c.args.from c.args.to (of_kind t limits k (kind.Reach c.args.from c.args.to) c.requires.kind c.requires.link) _ value }
