use Rattle.std.proofs.Common.{ℕ, List, IfOk, subst}
use Rattle.mintc_flatten_binding.specs.NetsOfModules.{source_in}
use Rattle.mintc_flatten_rules.specs.Driving.{Drives}
use Rattle.mintc_flatten_rules.proofs.DriveLaws.{item_drives}
use Rattle.mintc_flatten_rules.proofs.two_drivers.Driven.drive_item.Goals as goal

pub returns-in-Instance : goal.returns-in-Instance
returns-in-Instance c =
    subst (λ (places : List ℕ). IfOk c.drive_instance.result (λ again. Drives c.args.self.now c.drive_instance.new.self places again))
    (item_drives (source_in c.args.site.now.source) c.args.site.now.module_nets.part.now c.args.item.now c.args.binding c.in-Instance.entry c.in-Instance.cell c.in-Instance.name c.in-Instance.by_name
    c.in-Instance.connections c.in-Instance.is c.requires.binding)
    c.drive_instance.ensures
