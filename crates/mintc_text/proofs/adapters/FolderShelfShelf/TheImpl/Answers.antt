use Rattle.std.proofs.Common.{refl}
use Rattle.mintc_text.proofs.SharedOutsideLaws.{faults-later, failed-rose, IfOk-nothing}
use Rattle.mintc_text.proofs.adapters.FolderShelfShelf.TheImpl.Goals as goal

-- what a shelf owes that tells neither files nor calls and is never sound
pub read-tells : goal.read-tells
read-tells g c = record {
  bytes = IfOk-nothing c.result;
  short = c.ensures.short;
  same = refl;
  later = faults-later _ c.args.self.now c.new.self.now c.ensures.counted;
  cause = λ failed. failed-rose c.result _ c.args.self.now c.new.self.now c.ensures.counted failed;
  counted = refl;
  sound = λ none held. none;
  quiet = λ none held. absurd none;
  answers = λ none held failed. none;
}
