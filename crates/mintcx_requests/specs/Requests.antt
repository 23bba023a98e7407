-- What the words and the project file ask for, together.
use Rattle.std.specs.Prelude.{ℕ, Bool, ◌&&◌, ◌||◌, ◌==◌, not, nat_le, List, length, Option, Some}
use Rattle.std.specs.Prelude.{None, is_some, unwrap_or, Result, Ok, Err, if◌then◌else◌}
use Rattle.std.specs.Option.{option_or}
use Rattle.mintcx_requests.specs.Commands.{has_table}
use Rattle.mintcx_manners.specs.Manners.{limit_of}
use Rattle.mintcx_manners.specs.Times.{time_of}
use Rattle.mintcx_requests.specs.declared.commands.Asked.{Asked}
use Rattle.mintcx_requests.specs.declared.commands.Asked.TheVariants as ask
use Rattle.mintcx_manners.specs.declared.manners.TimeUnit.{TimeUnit}
use Rattle.mintcx_manners.specs.declared.manners.TimeUnit.TheVariants as time_unit
use Rattle.mintcx_manners.specs.declared.manners.Limit.{Limit}
use Rattle.mintcx_manners.specs.declared.manners.Limit.TheVariants as rows
use Rattle.mintcx_project.specs.Edges.{are_apart}
use Rattle.mintcx_project.specs.declared.edges.Edges.{Edges}
use Rattle.mintcx_project.specs.declared.edges.Edges.TheVariants as edges
use Rattle.mintcx_project.specs.declared.sources.Sources.{Sources}
use Rattle.mintcx_requests.specs.declared.given.Particulars.{Particulars}
use Rattle.mintcx_requests.specs.declared.given.MannerWords.{MannerWords}
use Rattle.mintcx_requests.specs.declared.given.Given.{Given}
use Rattle.mintcx_project.specs.declared.project.Settings.{Settings}
use Rattle.mintcx_requests.specs.declared.requests.Cells.{Cells}
use Rattle.mintcx_requests.specs.declared.requests.Cells.TheVariants as cells
use Rattle.mintcx_requests.specs.declared.requests.Design.{Design}
use Rattle.mintcx_requests.specs.declared.requests.Design.TheVariants as design
use Rattle.mintcx_requests.specs.declared.requests.Task.{Task}
use Rattle.mintcx_requests.specs.declared.requests.Task.TheVariants as task
use Rattle.mintcx_requests.specs.declared.requests.Manner.{Manner}
use Rattle.mintcx_requests.specs.declared.requests.Request.{Request}
use Rattle.mintcx_requests.specs.declared.requests.Request.TheVariants as request
use Rattle.mintcx_requests.specs.declared.requests.Fault.{Fault}
use Rattle.mintcx_requests.specs.declared.requests.Fault.TheVariants as fault

-- texts are bytes
abbrev pub Text : Type 0
Text = List ℕ

-- a value and then the next step, or the fault
abbrev pub and_then : {A B : Type 0} → Result A Fault → (A → Result B Fault) → Result B Fault
and_then (Ok x) next = next x
and_then (Err e) next = Err e

-- a value that has to be there
abbrev pub needed : {A : Type 0} → Fault → Option A → Result A Fault
needed missing None = Err missing
needed missing (Some x) = Ok x

-- ---- the parts of the design

-- a list has nothing
abbrev pub is_empty : {A : Type 0} → List A → Bool
is_empty xs = length xs == 0

-- the first list, or the second where that has nothing
abbrev pub list_or : List Text → List Text → List Text
list_or first second = if is_empty first then second else first

-- a file of the design but a table is named
abbrev pub names_a_file : Sources → Bool
names_a_file s = is_some s.netlist
    || (not (is_empty s.delays) || (is_some s.cells || (is_some s.library || is_some s.clock)))

-- the first, or the second where that is missing and nothing else replaces it
abbrev pub first_or : Bool → Option Text → Option Text → Option Text
first_or is_replaced first second = if is_replaced then first else option_or first second

-- the gates of a library, or the second list where the first has none and nothing replaces it
abbrev pub clock_cells_or : Bool → List Text → List Text → List Text
clock_cells_or is_replaced first second = if is_replaced then first else list_or first second

-- a name, none where it is replaced
abbrev pub kept : Bool → Option Text → Option Text
kept is_replaced name = if is_replaced then None else name

-- An option replaces the same key of the project file; `--lib` replaces `cells`, and so the other way; `--table`
-- replaces all, and a file replaces `table`.
abbrev pub merged : Sources → Sources → Sources
merged words project = if is_some words.table then words else record {
  netlist = option_or words.netlist project.netlist;
  delays = list_or words.delays project.delays;
  cells = first_or (is_some words.library) words.cells project.cells;
  library = first_or (is_some words.cells) words.library project.library;
  clock_cells = clock_cells_or (is_some words.cells) words.clock_cells project.clock_cells;
  clock = option_or words.clock project.clock;
  table = kept (names_a_file words) project.table;
  edges = option_or words.edges project.edges;
}

-- ---- the design

-- one delay file is taken, and for corners two to four
abbrev pub counted : Asked → List Text → Result (List Text) Fault
counted asked delays = if is_empty delays then Err fault.NoDelays
    else (if has_table asked
    then (if length delays == 1 then Ok delays else Err (fault.TooManyDelays (length delays)))
    else (if nat_le 2 (length delays) && nat_le (length delays) 4 then Ok delays
    else Err (fault.CornerCount (length delays))))

-- a cell description, or a library and the gates in it that carry the clock alone
abbrev pub cells_of : Option Text → Option Text → List Text → Result Cells Fault
cells_of (Some file) (Some library) clock_cells = Err fault.CellsAndLibrary
cells_of (Some file) None clock_cells =
    if is_empty clock_cells then Ok (cells.Description file) else Err fault.ClockCellsWithoutLibrary
cells_of None (Some library) clock_cells = Ok (cells.Library library clock_cells)
cells_of None None clock_cells =
    if is_empty clock_cells then Err fault.NoCells else Err fault.ClockCellsWithoutLibrary

-- what is made of edges where nothing is said: kept apart for one design with cells of a library, else merged
abbrev pub usual_edges : Asked → Cells → Edges
usual_edges asked (cells.Description file) = edges.Merged
usual_edges asked (cells.Library file clock_cells) = if has_table asked then edges.Apart else edges.Merged

-- what is made of edges, which for corners are merged alone
abbrev pub edges_for : Asked → Cells → Option Edges → Result Edges Fault
edges_for asked kind said = if are_apart said && not (has_table asked) then Err fault.EdgesOfCorners
    else Ok (unwrap_or said (usual_edges asked kind))

-- the design of four files, or the first fault: of the cells, the netlist, the delays, the clock, the edges
abbrev pub files_of : Asked → Sources → Result Design Fault
files_of asked s = and_then (cells_of s.cells s.library s.clock_cells) (λ kind.
    and_then (needed fault.NoNetlist s.netlist) (λ netlist.
    and_then (counted asked s.delays) (λ delays.
    and_then (needed fault.NoClock s.clock) (λ clock.
    and_then (edges_for asked kind s.edges) (λ made. Ok (design.Files netlist delays kind clock made))))))

-- no file but a table is named, and no gate of a library
abbrev pub names_nothing : Sources → Bool
names_nothing s = not (names_a_file s) && is_empty s.clock_cells

-- a table, in which edges are as they are
abbrev pub lone_table : Option Edges → Text → Result Design Fault
lone_table said table = if are_apart said then Err fault.EdgesOfTable else Ok (design.Table table)

-- the design of a table, where nothing else is named and the command takes one delay file
abbrev pub table_of : Asked → Bool → Option Edges → Text → Result Design Fault
table_of asked is_lone said table = if is_lone
    then (if has_table asked then lone_table said table else Err fault.TableOfCorners) else Err fault.TableAndFiles

-- the design, by the table that is named or else by files
abbrev pub table_or_files : Asked → Sources → Option Text → Result Design Fault
table_or_files asked s None = if names_nothing s then Err fault.NoDesign else files_of asked s
table_or_files asked s (Some table) = table_of asked (names_nothing s) s.edges table

-- a design is one table or four files
abbrev pub design_of : Asked → Sources → Result Design Fault
design_of asked s = table_or_files asked s s.table

-- ---- the task

-- the cycle time of a text, where there is one
abbrev pub cycle_in : Option Text → Result (Option ℕ) Fault
cycle_in None = Ok None
cycle_in (Some text) = and_then (needed (fault.Cycle text) (time_of text)) (λ cycle. Ok (Some cycle))

-- a certificate is of the least cycle time
abbrev pub optimise_of : Particulars → Result Task Fault
optimise_of p = if is_some p.certificate && is_some p.cycle then Err fault.CertificateOfCycle
    else and_then (cycle_in p.cycle) (λ cycle. Ok (task.Optimise p.certificate cycle))

-- a schedule is of a certificate or of a cycle time, or of the least one
abbrev pub schedule_of : Particulars → Result Task Fault
schedule_of p = if is_some p.subject && is_some p.cycle then Err fault.CertificateAndCycle
    else and_then (cycle_in p.cycle) (λ cycle. Ok (task.Schedule p.subject cycle))

-- a file is drawn, or the slacks of all pairs
abbrev pub draw_of : Particulars → Result Task Fault
draw_of p = if is_some p.subject && p.histogram then Err fault.FileAndSlack else Ok (task.Draw p.subject p.histogram)

-- the file that a command is about
abbrev pub subject_of : Particulars → Result Text Fault
subject_of p = needed fault.NoSubject p.subject

-- what is asked of a design, None for what needs no design
abbrev pub task_of : Asked → Particulars → Option (Result Task Fault)
task_of ask.Check p = Some (and_then (subject_of p) (λ file. Ok (task.Check file)))
task_of ask.Optimise p = Some (optimise_of p)
task_of ask.Verify p = Some (and_then (subject_of p) (λ file. Ok (task.Verify file)))
task_of ask.Report p = Some (Ok task.Report)
task_of ask.Safe p = Some (Ok task.Safe)
task_of ask.Slack p = Some (Ok (task.Slack p.histogram))
task_of ask.Corners p = Some (Ok task.Corners)
task_of ask.Schedule p = Some (schedule_of p)
task_of ask.Sdc p = Some (and_then (subject_of p) (λ file. Ok (task.Sdc file)))
task_of ask.Draw p = Some (draw_of p)
task_of ask.Table p = Some (Ok task.Table)
task_of ask.Explain p = None

-- ---- how the answer is given

-- the limit of a text, ten rows where there is none
abbrev pub limit_in : Option Text → Result Limit Fault
limit_in None = Ok (rows.Rows 10)
limit_in (Some text) = needed (fault.Limit text) (limit_of text)

-- how the answer is given: the unit of the words, else of the project file, else the one that fits
abbrev pub manner_of : MannerWords → Option TimeUnit → Result Manner Fault
manner_of words project = and_then (limit_in words.limit) (λ most. Ok (record {
  format = words.format;
  unit = unwrap_or (option_or words.unit project) time_unit.Auto;
  limit = most;
  output = words.output;
  quiet = words.quiet;
  detail = words.detail;
  color = words.color;
}))

-- ---- the request

-- a task with its design and the manner of its answer, or the first fault of these two
abbrev pub of_design : Task → Given → Settings → Result Request Fault
of_design what given settings = and_then (design_of given.asked (merged given.sources settings.sources)) (λ files.
    and_then (manner_of given.manner settings.unit) (λ manner. Ok (request.OfDesign what files given.clamp manner)))

-- a task of a design, or an explanation, which needs none
abbrev pub asked_of : Option (Result Task Fault) → Given → Settings → Result Request Fault
asked_of None given settings = and_then (subject_of given.particulars) (λ topic. Ok (request.Explain topic))
asked_of (Some what) given settings = and_then what (λ x. of_design x given settings)

-- what is asked, or the first fault: of the command's own words, of the design, of the answer
abbrev pub request_of : Given → Settings → Result Request Fault
request_of given settings = asked_of (task_of given.asked given.particulars) given settings
