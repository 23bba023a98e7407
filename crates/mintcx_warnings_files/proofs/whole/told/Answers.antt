use Rattle.std.proofs.Common.{◌++◌, ◌∙◌, ap}
use Rattle.std.proofs.lemmas.Result.{IfOk-weaker}
use Rattle.mintcx_warnings_files.proofs.whole.told.Goals as goal

pub returns : goal.returns
returns c = IfOk-weaker c.together.result _ _ (λ text h. record {
  same = c.in_ok-same.same;
  late = c.in_ok-late.late;
  entered = c.in_ok-entered.entered;
  unlisted = c.in_ok-unlisted.unlisted;
  is_same = c.in_ok-same.ensures;
  is_late = c.in_ok-late.ensures;
  is_entered = c.in_ok-entered.ensures;
  is_unlisted = c.in_ok-unlisted.ensures;
  whole = h
      ∙ ap (λ v. v ++ c.items-2.result.now ++ c.items-3.result.now ++ c.items-4.result.now) c.items.ensures
      ∙ ap (λ v. c.in_ok-same.same ++ v ++ c.items-3.result.now ++ c.items-4.result.now) c.items-2.ensures
      ∙ ap (λ v. c.in_ok-same.same ++ c.in_ok-late.late ++ v ++ c.items-4.result.now) c.items-3.ensures
      ∙ ap (λ v. c.in_ok-same.same ++ c.in_ok-late.late ++ c.in_ok-entered.entered ++ v) c.items-4.ensures;
}) c.together.ensures
