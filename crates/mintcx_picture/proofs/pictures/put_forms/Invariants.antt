use Rattle.std.proofs.Common.{◌≡◌, ◌++◌, take}
use Rattle.std.specs.Prelude.{flat_map}
use Rattle.mintcx_picture.specs.Forms.{form_text}
use Rattle.mintcx_picture.proofs.pictures.put_forms.Given as goal

-- the texts of the items so far are written
abbrev pub invariant-loop-form : goal.invariant-loop-form
invariant-loop-form l = l.lines ≡ l.fn.lines ++ flat_map form_text (take l.form-index l.forms)
