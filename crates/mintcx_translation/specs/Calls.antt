-- What a request asks of mintc: a command, and the files that it names.
use Rattle.std.specs.Prelude.{◌≡◌, ◌&&◌, ◌==◌, ◌+◌, ℕ, Bool, true, false, nat_le, List, [], ◌∷◌, ◌++◌, length}
use Rattle.std.specs.Prelude.{Option, option_to_list, Some, None, Result, Ok, Err, if◌then◌else◌}
use Rattle.mintc_command_answers.specs.Commands.{roles_of}
use Rattle.mintc_command_answers.specs.declared.command.Command.{Command}
use Rattle.mintc_command_answers.specs.declared.command.Command.TheVariants.{OfDesign, Sample, Corners}
use Rattle.mintc_command_answers.specs.declared.command.Job.{Job}
use Rattle.mintc_command_answers.specs.declared.command.Job.TheVariants as job
use Rattle.mintc_command_answers.specs.declared.command.Source.{Source}
use Rattle.mintc_command_answers.specs.declared.command.Source.TheVariants as source
use Rattle.mintcx_manners.specs.declared.manners.Format.{Format}
use Rattle.mintcx_manners.specs.declared.manners.Format.TheVariants as format
use Rattle.mintcx_project.specs.declared.edges.Edges.{Edges}
use Rattle.mintcx_project.specs.declared.edges.Edges.TheVariants as edges
use Rattle.mintcx_requests.specs.Requests.{Text, is_empty}
use Rattle.mintcx_requests.specs.declared.requests.Cells.{Cells}
use Rattle.mintcx_requests.specs.declared.requests.Cells.TheVariants as cells
use Rattle.mintcx_requests.specs.declared.requests.Design.{Design}
use Rattle.mintcx_requests.specs.declared.requests.Design.TheVariants as design
use Rattle.mintcx_requests.specs.declared.requests.Task.{Task}
use Rattle.mintcx_requests.specs.declared.requests.Task.TheVariants as task
use Rattle.mintcx_translation.specs.declared.calls.Aspect.{Aspect}
use Rattle.mintcx_translation.specs.declared.calls.Aspect.TheVariants as aspect
use Rattle.mintcx_translation.specs.declared.calls.Call.{Call}
use Rattle.mintcx_translation.specs.declared.calls.Gap.{Gap}
use Rattle.mintcx_translation.specs.declared.calls.Gap.TheVariants as gap
use Rattle.mintcx_translation.specs.declared.calls.NoCall.{NoCall}
use Rattle.mintcx_translation.specs.declared.calls.NoCall.TheVariants as none

-- a value and then the next step, or the gap
abbrev pub and_then : {A B : Type 0} → Result A Gap → (A → Result B Gap) → Result B Gap
and_then (Ok x) next = next x
and_then (Err e) next = Err e

-- ---- the files

-- what the cells are read from
abbrev pub cells_file : Cells → Text
cells_file (cells.Description file) = file
cells_file (cells.Library file gates) = file

-- the gates of a library that carry the clock alone
abbrev pub gates_in : Cells → List Text
gates_in (cells.Description file) = []
gates_in (cells.Library file gates) = gates

-- the same of a design
abbrev pub gates_of : Design → List Text
gates_of (design.Table table) = []
gates_of (design.Files netlist delays kind clock made) = gates_in kind

-- the files of a design, in mintc's order: of `corners` the delays come last
abbrev pub design_files : Bool → Design → List Text
design_files for_corners (design.Table table) = table ∷ []
design_files for_corners (design.Files netlist delays kind clock made) = if for_corners
    then (netlist ∷ cells_file kind ∷ clock ∷ []) ++ delays
    else ((netlist ∷ []) ++ delays) ++ (cells_file kind ∷ clock ∷ [])

-- the file that stands beside the design's, where there is one
abbrev pub own_file : Task → Option Text
own_file (task.Check schedule) = Some schedule
own_file (task.Verify certificate) = Some certificate
own_file (task.Schedule certificate cycle) = certificate
own_file (task.Sdc file) = Some file
own_file (task.Draw file histogram) = file
own_file what = None

-- the task is about several delay files
abbrev pub is_corners : Task → Bool
is_corners task.Corners = true
is_corners what = false

-- all files of a task on a design, in mintc's order
abbrev pub files_of : Task → Design → List Text
files_of what files = design_files (is_corners what) files ++ option_to_list (own_file what)

-- the file that a certificate is written to, where there is one
abbrev pub certificate_file : Task → Option Text
certificate_file (task.Optimise certificate cycle) = certificate
certificate_file what = None

-- ---- the command

-- a schedule is that of a certificate, or of an optimum
abbrev pub schedule_job : Option Text → Job
schedule_job (Some certificate) = job.Verify
schedule_job None = job.Optimise

-- a picture is of all slacks, or of an optimum, or of what a file says
abbrev pub draw_job : Option Text → Bool → Job
draw_job file true = job.Slack
draw_job (Some file) false = job.Verify
draw_job None false = job.Optimise

-- the job of a task on one design; clocks and pictures are those of a certificate, where the file isn't a schedule's
-- own text; a table is that of the design of an optimum
abbrev pub job_of : Task → Result Job Gap
job_of (task.Check schedule) = Ok job.Check
job_of (task.Optimise certificate cycle) = Ok job.Optimise
job_of (task.Verify certificate) = Ok job.Verify
job_of task.Report = Ok job.Report
job_of task.Safe = Ok job.Safe
job_of (task.Slack histogram) = Ok job.Slack
job_of task.Corners = Err gap.Misfit
job_of (task.Schedule certificate cycle) = Ok (schedule_job certificate)
job_of (task.Sdc file) = Ok job.Verify
job_of (task.Draw file histogram) = Ok (draw_job file histogram)
job_of task.Table = Ok job.Optimise

-- what of a task's command is told
abbrev pub aspect_of : Task → Aspect
aspect_of (task.Optimise certificate (Some cycle)) = aspect.Cycle cycle
aspect_of (task.Slack true) = aspect.Histogram
aspect_of (task.Schedule certificate cycle) = aspect.Schedule cycle
aspect_of (task.Sdc file) = aspect.Clocks
aspect_of (task.Draw file histogram) = aspect.Picture
aspect_of task.Table = aspect.Table
aspect_of what = aspect.Whole

-- the source of a design with these cells: a library with gates that carry the clock is described
abbrev pub source_of : Cells → Source
source_of (cells.Description file) = source.Files
source_of (cells.Library file gates) = if is_empty gates then source.Liberty else source.Files

-- the command of a job on a design
abbrev pub job_on : Job → Design → Command
job_on work (design.Table table) = OfDesign work source.Table
job_on work (design.Files netlist delays kind clock made) = OfDesign work (source_of kind)

-- the command of so many corners
abbrev pub corners_with : ℕ → Result Command Gap
corners_with count = if nat_le 2 count && nat_le count 4 then Ok (Corners count) else Err gap.Misfit

-- the command of a design with several delay files
abbrev pub corners_on : Design → Result Command Gap
corners_on (design.Table table) = Err gap.Misfit
corners_on (design.Files netlist delays kind clock made) = corners_with (length delays)

-- the cells of a design are those of a library
abbrev pub has_library : Design → Bool
has_library (design.Files netlist delays (cells.Library file gates) clock made) = true
has_library files = false

-- the command is asked of a description of cells
abbrev pub takes_description : Command → Bool
takes_description (OfDesign work source.Files) = true
takes_description (Corners count) = true
takes_description command = false

-- the cells of a library are described for the command
abbrev pub of_library : Command → Design → Bool
of_library command files = takes_description command && has_library files

-- what is made of the edges of a design; a table has them as they are
abbrev pub edges_of : Design → Edges
edges_of (design.Table table) = edges.Merged
edges_of (design.Files netlist delays kind clock made) = made

-- the command is asked of one design of four files
abbrev pub takes_four : Command → Bool
takes_four (OfDesign work source.Files) = true
takes_four (OfDesign work source.Liberty) = true
takes_four command = false

-- edges are kept apart
abbrev pub are_apart : Edges → Bool
are_apart edges.Merged = false
are_apart edges.Apart = true

-- the command is asked of a design of four files with edges apart
abbrev pub is_apart : Command → Design → Bool
is_apart command files = takes_four command && are_apart (edges_of files)

-- the number of the file of the cells among those of a command that is asked of a description, counted from 0
abbrev pub cells_place : Command → ℕ
cells_place (Corners count) = 1
cells_place command = 2

-- the command of a task on a design
abbrev pub command_for : Task → Design → Result Command Gap
command_for what files =
    if is_corners what then corners_on files else and_then (job_of what) (λ work. Ok (job_on work files))

-- the command names so many files
abbrev pub is_fitting : Command → ℕ → Bool
is_fitting (OfDesign work from) count = count == length (roles_of (OfDesign work from))
is_fitting (Sample number) count = false
is_fitting (Corners corners) count = (nat_le 2 corners && nat_le corners 4) && (count == corners + 3)

-- ---- the call

-- a certificate is written to a file
abbrev pub is_certified : Task → Bool
is_certified (task.Optimise (Some name) cycle) = true
is_certified what = false

-- what mintc has no text for, and a certificate beside its text, which is one; a schedule and a table have one text
-- alone, in mintc's form, and so have clocks, as SDC, and pictures, as SVG
abbrev pub plain_gap : Bool → Aspect → Option Gap
plain_gap true told = Some gap.Certificate
plain_gap false (aspect.Cycle cycle) = Some gap.Cycle
plain_gap false aspect.Histogram = Some gap.Histogram
plain_gap false told = None

-- the answer to a task has rows as CSV, and is an object as JSON
abbrev pub has_data : Task → Bool
has_data (task.Optimise None cycle) = true
has_data (task.Slack false) = true
has_data (task.Check schedule) = true
has_data (task.Verify certificate) = true
has_data task.Report = true
has_data task.Safe = true
has_data task.Corners = true
has_data what = false

-- what of a form is not there yet for a task
abbrev pub form_gap : Format → Task → Option Gap
form_gap format.Json what = if has_data what then None else Some gap.Json
form_gap format.Csv what = if has_data what then None else Some gap.Csv
form_gap format.Text what = None
form_gap format.Plain what = plain_gap (is_certified what) (aspect_of what)

-- the rows of a task
abbrev pub rows_of : Task → Aspect
rows_of (task.Optimise certificate (Some cycle)) = aspect.CycleRows cycle
rows_of what = aspect.Rows

-- the object of a task
abbrev pub object_of : Task → Aspect
object_of (task.Optimise certificate (Some cycle)) = aspect.CycleObject cycle
object_of what = aspect.Object

-- what of a task is told in a form
abbrev pub told_in : Format → Task → Aspect
told_in format.Csv what = rows_of what
told_in format.Json what = object_of what
told_in form what = aspect_of what

-- a call whose files are as many as its command takes
abbrev pub fitting : Call → Result Call Gap
fitting call = if is_fitting call.command (length call.files) then Ok call else Err gap.Misfit

-- the command of a task on a design, with the names of all its files
abbrev pub call_on : Option Gap → Aspect → Bool → Task → Design → Result Call Gap
call_on (Some missing) told clamp what files = Err missing
call_on None told clamp what files = and_then (command_for what files) (λ command. fitting (record {
  command = command;
  aspect = told;
  of_library = of_library command files;
  gates = gates_of files;
  clamp = clamp;
  apart = is_apart command files;
  files = files_of what files;
  certificate = certificate_file what;
}))

-- what is asked of mintc, with 0 for each delay below 0 where that is wanted; or what of it is not there yet
abbrev pub call_for : Format → Bool → Task → Design → Result Call Gap
call_for form clamp what files = call_on (form_gap form what) (told_in form what) clamp what files

-- why a task on a design is no call
abbrev pub IsNoCall : Result Call Gap → NoCall → Type 0
IsNoCall found (none.Missing missing) = found ≡ Err missing
IsNoCall found none.OutOfMemory = Unit {0}
