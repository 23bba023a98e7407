use Rattle.std.proofs.Common.{refl}
use Rattle.mintc_text.proofs.SharedOutsideLaws.{faults-later, err-rose, OnOk-always}
use Rattle.mintcx_run.proofs.adapters.OutputFolderFolder.TheImpl.Goals as goal

-- what a folder owes that tells neither files nor calls
pub make-tells : goal.make-tells
make-tells g c = record {
  ok = OnOk-always c.result refl;
  later = faults-later _ c.args.self.now c.new.self.now c.ensures.counted;
  cause = err-rose c.result c.args.self.now c.new.self.now c.ensures.counted;
  counted = refl;
}
