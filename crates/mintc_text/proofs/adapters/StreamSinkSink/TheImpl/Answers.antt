use Rattle.std.proofs.Common.{refl}
use Rattle.mintc_text.proofs.SharedOutsideLaws.{faults-later, err-rose, OnOk-always, OnErr-always}
use Rattle.mintc_text.proofs.adapters.StreamSinkSink.TheImpl.Goals as goal

-- what a sink owes that tells neither bytes nor calls
pub write-tells : goal.write-tells
write-tells g c = record {
  ok = OnOk-always c.result refl;
  err = OnErr-always c.result refl;
  later = faults-later _ c.args.self.now c.new.self.now c.ensures.counted;
  cause = err-rose c.result c.args.self.now c.new.self.now c.ensures.counted;
  counted = refl;
}
