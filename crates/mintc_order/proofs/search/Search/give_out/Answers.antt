use Rattle.std.proofs.Common.{arith}
use Rattle.mintc_order.proofs.Giving.{IsSearch-given_as}
use Rattle.mintc_order.proofs.search.Search.give_out.Goals as goal

pub returns-clause-search : goal.returns-clause-search
returns-clause-search c =
    IsSearch-given_as c.requires.search c.args.bit c.requires.some c.requires.last c.requires.through
    c.pop.new.self.items c.pop-2.new.self.items c.push.new.self.items (omega arith) (omega arith) c.pop.ensures.rest c.pop-2.ensures.rest c.in_ok-push.ensures.items
