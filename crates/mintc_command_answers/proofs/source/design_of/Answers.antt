use Rattle.std.proofs.Common.{ℕ, List, IfOk, IfErr}
use Rattle.mintc_text.specs.Stops.{StopsAt}
use Rattle.mintc_build.specs.FilesDesign.{IsFilesDesign, IsFilesRefusal, IsLibertyDesign, IsLibertyRefusal}
use Rattle.mintc_command_answers.specs.Sources.{Describes, HasNoDesign}
use Rattle.mintc_command_answers.specs.declared.command.Source.{Source}
use Rattle.mintc_command_answers.specs.declared.command.Source.TheVariants.{Files, Liberty}
use Rattle.mintc_command_answers.proofs.SourceLaws.{of_four}
use Rattle.mintc_command_answers.proofs.source.design_of.Goals as goal

pub returns-in-Files-clause-value : goal.returns-in-Files-clause-value
returns-in-Files-clause-value c =
    of_four (λ (v d t k : List ℕ). IfOk c.from_files.result (IsFilesDesign c.args.limits.now v d t k)) (λ (s : Source). IfOk c.from_files.result (Describes c.args.limits.now s c.args.files.now)) Files c.args.source c.args.files.now _ _ _ _ (λ h. h) c.in-Files.is
    c.file_at-in-Files.ensures.value c.file_at-in-Files-2.ensures.value c.file_at-in-Files-3.ensures.value c.file_at-in-Files-4.ensures.value c.from_files.ensures.value

pub returns-in-Files-clause-stop : goal.returns-in-Files-clause-stop
returns-in-Files-clause-stop c =
    of_four (λ (v d t k : List ℕ). IfErr c.from_files.result (StopsAt (IsFilesRefusal c.args.limits.now v d t k))) (λ (s : Source). IfErr c.from_files.result (StopsAt (HasNoDesign c.args.limits.now s c.args.files.now))) Files c.args.source c.args.files.now _ _ _ _ (λ h. h) c.in-Files.is
    c.file_at-in-Files.ensures.value c.file_at-in-Files-2.ensures.value c.file_at-in-Files-3.ensures.value c.file_at-in-Files-4.ensures.value c.from_files.ensures.stop

pub returns-in-Liberty-clause-value : goal.returns-in-Liberty-clause-value
returns-in-Liberty-clause-value c =
    of_four (λ (v d t k : List ℕ). IfOk c.from_liberty.result (IsLibertyDesign c.args.limits.now v d t k)) (λ (s : Source). IfOk c.from_liberty.result (Describes c.args.limits.now s c.args.files.now)) Liberty c.args.source c.args.files.now _ _ _ _ (λ h. h) c.in-Liberty.is
    c.file_at-in-Liberty.ensures.value c.file_at-in-Liberty-2.ensures.value c.file_at-in-Liberty-3.ensures.value c.file_at-in-Liberty-4.ensures.value c.from_liberty.ensures.value

pub returns-in-Liberty-clause-stop : goal.returns-in-Liberty-clause-stop
returns-in-Liberty-clause-stop c =
    of_four (λ (v d t k : List ℕ). IfErr c.from_liberty.result (StopsAt (IsLibertyRefusal c.args.limits.now v d t k))) (λ (s : Source). IfErr c.from_liberty.result (StopsAt (HasNoDesign c.args.limits.now s c.args.files.now))) Liberty c.args.source c.args.files.now _ _ _ _ (λ h. h) c.in-Liberty.is
    c.file_at-in-Liberty.ensures.value c.file_at-in-Liberty-2.ensures.value c.file_at-in-Liberty-3.ensures.value c.file_at-in-Liberty-4.ensures.value c.from_liberty.ensures.stop
