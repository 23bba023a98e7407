use Rattle.std.proofs.Common.{◌≡◌, ◌==◌, ◌∙◌, arith, ap, false, List, Bool, length, replicate, vec_len, sym}
use Rattle.std.proofs.lemmas.List.{length-map}
use Rattle.mintc_bitset.proofs.Stamping.{next_up, begun_up}
use Rattle.mintc_bitset.proofs.stamps.Stamps.clear.Goals as goal

pub returns-then-self : goal.returns-then-self
returns-then-self c =
    let count : vec_len c.self.inside.stamps ≡ length c.self.inside.stamps.items = grind arith in
    rw (c.fill.ensures.items, count, sym c.self.view_is, length-map c.self.inside.stamps.items (λ stamp. stamp == c.self.inside.last))
    (begun_up 1 (length c.self.inside.stamps.items) (omega arith))

pub returns-else-self : goal.returns-else-self
returns-else-self c = next_up c.self.inside.last c.self.inside.stamps.items c.self.invariant.past ∙ ap (λ (flags : List Bool). replicate (length flags) false) c.self.view_is
