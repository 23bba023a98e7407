-- What a project file says.
use Rattle.std.specs.Prelude.{◌≡◌, ◌||◌, ◌==◌, ℕ, zero, suc, Bool, true, false, List, [], ◌∷◌, ◌++◌, map, take, Option}
use Rattle.std.specs.Prelude.{Some, None, is_some, option_map, option_and_then, unwrap_or, Result, MatchResult}
use Rattle.std.specs.Prelude.{bytes_eq, codes, if◌then◌else◌}
use Rattle.std.specs.Option.{option_or}
use Rattle.std.specs.List.{list_any}
use Rattle.toml.specs.Errors.{IsMemory}
use Rattle.toml.specs.declared.de.error.Error.{Error}
use Rattle.toml.specs.Data.{Data, Members, no_members, member, get_member, as_str, as_array, as_table}
use Rattle.mintc_toml.specs.Documents.{IsDocument}
use Rattle.mintc_toml.specs.Lookups.{are_texts_in, is_one_of, is_text_in, texts_in, texts_of}
use Rattle.mintcx_manners.specs.Manners.{unit_of}
use Rattle.mintcx_project.specs.Edges.{edges_of}
use Rattle.mintcx_project.specs.declared.sources.Sources.{Sources}
use Rattle.mintcx_project.specs.declared.project.Settings.{Settings}
use Rattle.mintcx_project.specs.declared.project.ProjectFault.{ProjectFault}
use Rattle.mintcx_project.specs.declared.project.ProjectFault.TheVariants as fault

-- ---- the keys

-- the keys of the whole document
abbrev pub top_keys : List (List ℕ)
top_keys = codes "design" ∷ codes "answer" ∷ []

-- the keys of the table `design`
abbrev pub design_keys : List (List ℕ)
design_keys = codes "netlist" ∷ codes "sdf" ∷ codes "cells" ∷ codes "lib" ∷ codes "clock-cells" ∷ codes "clock"
    ∷ codes "table" ∷ codes "edges" ∷ []

-- the keys of the table `answer`
abbrev pub answer_keys : List (List ℕ)
answer_keys = codes "unit" ∷ []

-- the words that stand for a unit
abbrev pub units : List (List ℕ)
units = codes "auto" ∷ codes "fs" ∷ codes "ps" ∷ codes "ns" ∷ []

-- the words that say something of edges
abbrev pub edge_words : List (List ℕ)
edge_words = codes "merged" ∷ codes "apart" ∷ []

-- the first key that is none of these
abbrev pub stray_fault : List (List ℕ) → Members → Option ProjectFault
stray_fault keys no_members = None
stray_fault keys (member k d ms) = if list_any (bytes_eq k) keys then stray_fault keys ms else Some (fault.NoKey k)

-- a value that is none that its key takes
abbrev pub value_fault : Bool → List ℕ → Option ProjectFault
value_fault is_good key = if is_good then None else Some (fault.BadValue key)

-- a key is absent or holds a table; that table
abbrev pub is_table_in : Option Data → Bool
is_table_in None = true
is_table_in (Some d) = is_some (as_table d)

-- the table at a key, empty where there is none
abbrev pub table_at : List ℕ → Members → Members
table_at key ms = unwrap_or (option_and_then as_table (get_member key ms)) no_members

-- the delay files are one text or an array of texts
abbrev pub are_delays_in : Option Data → Bool
are_delays_in at = is_text_in true at || are_texts_in true at

-- ---- faults, the first of them

-- the value at a key is there and is no text
abbrev pub text_fault : List ℕ → Members → Option ProjectFault
text_fault key ms = value_fault (is_text_in true (get_member key ms)) key

-- the first fault of what the table `design` names, in the order of its keys here
abbrev pub names_fault : Members → Option ProjectFault
names_fault ms = option_or (stray_fault design_keys ms)
    (option_or (text_fault (codes "netlist") ms)
    (option_or (value_fault (are_delays_in (get_member (codes "sdf") ms)) (codes "sdf"))
    (option_or (text_fault (codes "cells") ms)
    (option_or (text_fault (codes "lib") ms)
    (option_or (value_fault (are_texts_in true (get_member (codes "clock-cells") ms)) (codes "clock-cells"))
    (option_or (text_fault (codes "clock") ms)
    (text_fault (codes "table") ms)))))))

-- what the table `design` says of edges is no word for it
abbrev pub edges_fault : Members → Option ProjectFault
edges_fault ms = value_fault (is_one_of edge_words (codes "merged") (get_member (codes "edges") ms)) (codes "edges")

-- the first fault of the table `design`: of its keys and of what they name, then of edges
abbrev pub design_fault : Members → Option ProjectFault
design_fault ms = option_or (names_fault ms) (edges_fault ms)

-- the first fault of the table `answer`
abbrev pub answer_fault : Members → Option ProjectFault
answer_fault ms = option_or (stray_fault answer_keys ms)
    (value_fault (is_one_of units (codes "auto") (get_member (codes "unit") ms)) (codes "unit"))

-- the first fault of the document: of its own keys, then of the design, then of the answer
abbrev pub project_fault : Members → Option ProjectFault
project_fault ms = option_or (stray_fault top_keys ms)
    (option_or (value_fault (is_table_in (get_member (codes "design") ms)) (codes "design"))
    (option_or (value_fault (is_table_in (get_member (codes "answer") ms)) (codes "answer"))
    (option_or (design_fault (table_at (codes "design") ms))
    (answer_fault (table_at (codes "answer") ms)))))

-- ---- paths, from the folder of the project file

-- how many bytes stand up to the last slash, with it, where one byte more stands in front
abbrev pub len_after : Bool → ℕ → ℕ
len_after is_slash zero = if is_slash then 1 else 0
len_after is_slash (suc len) = suc (suc len)

-- how many bytes stand up to the last slash, with it
abbrev pub folder_len : List ℕ → ℕ
folder_len [] = 0
folder_len (b ∷ path) = len_after (b == 47) (folder_len path)

-- the path begins with a slash
abbrev pub is_rooted : List ℕ → Bool
is_rooted [] = false
is_rooted (b ∷ path) = b == 47

-- a path, taken from the folder of the project file where it does not begin with a slash
abbrev pub beside : List ℕ → List ℕ → List ℕ
beside project path = if is_rooted path then path else take (folder_len project) project ++ path

-- ---- what it says

-- the text at a key, where there is one
abbrev pub text_at : List ℕ → Members → Option (List ℕ)
text_at key ms = option_and_then as_str (get_member key ms)

-- the delay files of a value: one text, or each text of an array
abbrev pub delays_of : Data → List (List ℕ)
delays_of d = unwrap_or (option_map (λ text. text ∷ []) (as_str d)) (texts_of (as_array d))

-- the delay files of what stands at their key, none where nothing does
abbrev pub delays_in : Option Data → List (List ℕ)
delays_in at = unwrap_or (option_map delays_of at) []

-- the path at a key, from the folder of the project file
abbrev pub path_at : List ℕ → List ℕ → Members → Option (List ℕ)
path_at project key ms = option_map (beside project) (text_at key ms)

-- no part of a design
abbrev pub no_sources : Sources
no_sources = record {
  netlist = None;
  delays = [];
  cells = None;
  library = None;
  clock_cells = [];
  clock = None;
  table = None;
  edges = None;
}

-- with the paths that the table names, each once
abbrev pub with_paths : List ℕ → Members → Sources → Sources
with_paths project ms s = record s {
  netlist = path_at project (codes "netlist") ms;
  cells = path_at project (codes "cells") ms;
  library = path_at project (codes "lib") ms;
  clock = path_at project (codes "clock") ms;
  table = path_at project (codes "table") ms;
}

-- with the names of which it may have several
abbrev pub with_lists : List ℕ → Members → Sources → Sources
with_lists project ms s = record s {
  delays = map (beside project) (delays_in (get_member (codes "sdf") ms));
  clock_cells = texts_in (get_member (codes "clock-cells") ms);
}

-- with what the table says of edges
abbrev pub with_edges : Members → Sources → Sources
with_edges ms s = record s { edges = option_map edges_of (text_at (codes "edges") ms) }

-- the parts of a design that a table names
abbrev pub sources_in : List ℕ → Members → Sources
sources_in project ms = with_edges ms (with_lists project ms (with_paths project ms no_sources))

-- what a document says, by its tables `design` and `answer`
abbrev pub settings_of : List ℕ → Members → Settings
settings_of project ms = record {
  sources = sources_in project (table_at (codes "design") ms);
  unit = option_map unit_of (text_at (codes "unit") (table_at (codes "answer") ms));
}

-- ---- what a call gives that looks for a fault

-- the fault is this one, which is none of TOML; a want of memory says nothing
abbrev pub IsFault : Option ProjectFault → ProjectFault → Type 0
IsFault found fault.OutOfMemory = Unit {0}
IsFault found (fault.NoToml said) = ⊥
IsFault found e = found ≡ Some e

-- there is no fault, or this one
abbrev pub Settles : {T : Type 0} → Option ProjectFault → Result T ProjectFault → Type 0
Settles found r = MatchResult r (λ _. found ≡ None) (IsFault found)

-- the text is a document without a fault, and this is what it says
abbrev pub Says : List ℕ → List ℕ → Settings → Type 0
Says project text settings =
    (ms : Members) × IsDocument text ms × (project_fault ms ≡ None) × (settings ≡ settings_of project ms)

-- what is made of an error of TOML: a text that is no TOML, where the error isn't a want of memory
abbrev pub IsTomlFault : Error → ProjectFault → Type 0
IsTomlFault e (fault.NoToml said) = IsMemory e → ⊥
IsTomlFault e fault.OutOfMemory = Unit {0}
IsTomlFault e _ = ⊥

-- Why a text says nothing: it is no document, or a document of this fault. A want of memory says nothing.
abbrev pub IsFaultOf : List ℕ → ProjectFault → Type 0
IsFaultOf text (fault.NoToml said) = (ms : Members) → IsDocument text ms → ⊥
IsFaultOf text fault.OutOfMemory = Unit {0}
IsFaultOf text e = (ms : Members) × IsDocument text ms × (project_fault ms ≡ Some e)

-- where there is no project file
abbrev pub no_settings : Settings
no_settings = record { sources = no_sources; unit = None }
