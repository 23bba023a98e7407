use Rattle.std.proofs.Common.{◌≡◌, ◌<◌, ◌+◌, get_or, length, arith}
use Rattle.std.proofs.lemmas.List.{get_or_default}
use Rattle.mintc_order.proofs.Counting.{IsSearch-few}
use Rattle.mintc_order.proofs.Entering.{IsSearch-entered_as}
use Rattle.mintc_order.proofs.search.Search.enter.Goals as goal
use Rattle.mintc_order.proofs.search.Search.enter.Goals.{After-len}

-- There is room for one bit more.
room : (c : After-len) → c.len.result + 1 < 4294967296
room c = omega (arith, IsSearch-few c.requires.search.1)

pub overflow_cast-len : goal.overflow_cast-len
overflow_cast-len c = omega (arith, room (goal.at.overflow_cast-len c).After-len)

pub overflow_add-len : goal.overflow_add-len
overflow_add-len c = omega (arith, room (goal.at.overflow_add-len c).After-len)

pub returns-clause-search : goal.returns-clause-search
returns-clause-search c =
    let inside : c.args.bit < length c.args.ranges.now.starts.items = omega (arith, c.requires.search.0.each_start) in
    let same : c.index.result.now ≡ get_or c.args.ranges.now.starts.items c.args.bit 0 = omega (arith, get_or_default c.args.ranges.now.starts.items c.args.bit 0 c.index.result.now inside) in
    let mark : c.len.result + 1 ≡ length c.args.self.now.path.items + 2 = omega (arith, c.len.ensures, c.in_ok-push.ensures.len) in
    IsSearch-entered_as c.requires.search.0 c.requires.search.1 c.args.bit c.requires.bit c.requires.unmet c.requires.ends
    c.push.new.self.items c.push-2.new.self.items c.index.result.now (c.len.result + 1)
    c.in_ok-push.ensures.items c.in_ok-push-2.ensures.items same mark
