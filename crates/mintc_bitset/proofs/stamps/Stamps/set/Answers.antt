use Rattle.std.proofs.Common.{◌∙◌, ap, true, List, Bool, set}
use Rattle.mintc_bitset.proofs.Stamping.{set_up}
use Rattle.mintc_bitset.proofs.stamps.Stamps.set.Goals as goal

pub returns : goal.returns
returns c = set_up c.self.inside.last c.self.inside.stamps.items c.args.place ∙ ap (λ (flags : List Bool). set flags c.args.place true) c.self.view_is
