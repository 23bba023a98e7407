use Rattle.std.proofs.Common.{sym}
use Rattle.std.proofs.lemmas.Result.{err_from_is_err_and}
use Rattle.mintc_text.specs.Stops.{StopsAt}
use Rattle.mintc_build.specs.FilesDesign.{IsFilesDesign, IsFilesRefusal}
use Rattle.mintc_command_answers.specs.Corners.{files_with}
use Rattle.mintc_command_answers.specs.Sources.{file_at}
use Rattle.mintc_command_answers.specs.declared.command.Source.TheVariants.{Files}
use Rattle.mintc_command_answers.proofs.SourceLaws.{Gives-system, Refuses-system, StopsAt-design}
use Rattle.mintc_command_answers.proofs.corners_answers.corner_system.Goals as goal

pub returns-in_err-flat-clause-stop : goal.returns-in_err-flat-clause-stop
returns-in_err-flat-clause-stop c =
    let own : StopsAt (IsFilesRefusal c.args.limits.now (file_at c.args.texts.now 0) c.args.delays.now (file_at c.args.texts.now 1) (file_at c.args.texts.now 2)) c.in_err-flat.field-0.0 =
    rw (sym c.file_at.ensures.value, sym c.items.ensures, sym c.file_at-2.ensures.value, sym c.file_at-3.ensures.value) c.in_err-flat.ensures.stop in
    let p = err_from_is_err_and c.from_residual.result c.from_residual.ensures.1 in
    rw (p.1, p.2) (StopsAt-design c.args.limits.now Files (files_with c.args.texts.now c.args.delays.now) c.in_err-flat.field-0.0 own)

pub returns-clause-value : goal.returns-clause-value
returns-clause-value c =
    let own : IsFilesDesign c.args.limits.now (file_at c.args.texts.now 0) c.args.delays.now (file_at c.args.texts.now 1) (file_at c.args.texts.now 2) c.in_ok-flat.flat =
    rw (sym c.file_at.ensures.value, sym c.items.ensures, sym c.file_at-2.ensures.value, sym c.file_at-3.ensures.value) c.in_ok-flat.ensures.value in
    Gives-system c.args.limits.now Files (files_with c.args.texts.now c.args.delays.now) c.in_ok-flat.flat c.accepted_system.result own c.accepted_system.ensures.value

pub returns-clause-stop : goal.returns-clause-stop
returns-clause-stop c =
    let own : IsFilesDesign c.args.limits.now (file_at c.args.texts.now 0) c.args.delays.now (file_at c.args.texts.now 1) (file_at c.args.texts.now 2) c.in_ok-flat.flat =
    rw (sym c.file_at.ensures.value, sym c.items.ensures, sym c.file_at-2.ensures.value, sym c.file_at-3.ensures.value) c.in_ok-flat.ensures.value in
    Refuses-system c.args.limits.now Files (files_with c.args.texts.now c.args.delays.now) c.in_ok-flat.flat c.accepted_system.result own c.accepted_system.ensures.limits c.in_ok-flat.ensures.within c.accepted_system.ensures.stop
