-- What `corners` is asked of: the files of a netlist, cells and a clock, and two to four delay files, each of which
-- makes a corner with the others.
use Rattle.std.specs.Prelude.{◌≡◌, ◌<◌, ◌*◌, ◌⊎◌, ℕ, suc, List, [], ◌∷◌, length, map, drop}
use Rattle.std.specs.List.{AllZip}
use Rattle.mintc_text.specs.declared.limits.Most.{Most}
use Rattle.mintc_text.specs.Lines.{text_of}
use Rattle.mintc_text.specs.declared.refusals.Refusal.{Refusal}
use Rattle.mintc_text.specs.declared.refusals.Refusal.TheVariants as refusal
use Rattle.mintc_text.specs.declared.refusals.Kind.TheVariants as kind
use Rattle.mintc_timing.specs.Design.{Timing, element_count}
use Rattle.mintc_corners.specs.declared.certificate.CornerCertificate.{CornerCertificate}
use Rattle.mintc_corners.specs.declared.certificate.CornerCertificate.TheVariants.{Least, Never}
use Rattle.mintc_corners.specs.CornerOptimum.{IsOptimumOf}
use Rattle.mintc_corners.specs.CornerText.{corner_lines}
use Rattle.mintc_command_answers.specs.Sources.{Gives, IsSourceRefused, file_at}
use Rattle.mintc_command_answers.specs.declared.command.Source.TheVariants.{Files}
use Rattle.mintc_command_answers.specs.declared.corners_answers.CornerStop.{CornerStop}
use Rattle.mintc_command_answers.specs.declared.corners_answers.CornerStop.TheVariants as stop
use Rattle.mintc_command_answers.specs.declared.status.Status.{Status}
use Rattle.mintc_command_answers.specs.declared.status.Status.TheVariants.{Done, Found}

-- the four files of a corner, in the order of a design's files: the command names the netlist, the cells and the
-- clock first, and then the delays of each corner
abbrev pub files_with : List (List ℕ) → List ℕ → List (List ℕ)
files_with texts delays = file_at texts 0 ∷ delays ∷ file_at texts 1 ∷ file_at texts 2 ∷ []

-- those of each corner
abbrev pub corners_of : List (List ℕ) → List (List (List ℕ))
corners_of texts = map (files_with texts) (drop 3 texts)

-- These are the timings of all corners.
abbrev pub AreGiven : Most → List (List (List ℕ)) → List Timing → Type 0
AreGiven most corners ts = AllZip (Gives most Files) corners ts

-- The corners being counted from c on, this one is the first whose files are refused, and this is their refusal.
abbrev pub IsFirstRefused : Most → List (List (List ℕ)) → ℕ → ℕ → Refusal → Type 0
IsFirstRefused most [] c corner own = ⊥
IsFirstRefused most (files ∷ corners) c corner own =
    ((corner ≡ c) × IsSourceRefused most Files files own)
    ⊎ ((t : Timing) × Gives most Files files t × IsFirstRefused most corners (suc c) corner own)

-- Why the corners, counted from c on, have no systems: files that are refused, or want of memory.
abbrev pub IsCornerStop : Most → List (List (List ℕ)) → ℕ → CornerStop → Type 0
IsCornerStop most corners c (stop.Refused corner own) = IsFirstRefused most corners c corner own
IsCornerStop most corners c (stop.TooMany refused) = ⊥
IsCornerStop most corners c stop.OutOfMemory = Unit {0}

-- how many elements the corners have together, each as many as the first
abbrev pub elements_together : List Timing → ℕ
elements_together [] = 0
elements_together (t ∷ ts) = length (t ∷ ts) * element_count t.flat

-- They are more than a design may have in the run.
abbrev pub AreTooMany : Most → List Timing → Refusal → Type 0
AreTooMany most ts refused = (most.elements < elements_together ts)
    × (refused ≡ refusal.Limit kind.Elements (elements_together ts))

-- Why the corners of a command's texts are not asked for an optimum: the first that is refused, the elements of all, or
-- want of memory.
abbrev pub HaveStopped : Most → List (List ℕ) → CornerStop → Type 0
HaveStopped most texts (stop.Refused corner own) = IsFirstRefused most (corners_of texts) 1 corner own
HaveStopped most texts (stop.TooMany refused) =
    (ts : List Timing) × AreGiven most (corners_of texts) ts × AreTooMany most ts refused
HaveStopped most texts stop.OutOfMemory = Unit {0}

-- The refusal of a command with these corners: of the first corner that is refused, or of the elements of all.
pub data IsCornersRefusal (most : Most) (corners : List (List (List ℕ))) (refused : Refusal) : Type 0 where
  of_corner : (corner : ℕ) (own : Refusal) → IsFirstRefused most corners 1 corner own →
      refused ≡ refusal.Corner corner → IsCornersRefusal most corners refused
  of_elements : (ts : List Timing) → AreGiven most corners ts → AreTooMany most ts refused →
      IsCornersRefusal most corners refused

-- how a run ends that has this certificate
abbrev pub corner_status : CornerCertificate → Status
corner_status (Least schedule departures chain) = Done
corner_status (Never chain) = Found

-- The answer of `corners`: the text of the optimum of all corners.
abbrev pub IsCornersAnswer : List Timing → Status → List ℕ → Type 0
IsCornersAnswer ts status text = (c : CornerCertificate) × IsOptimumOf ts c × (status ≡ corner_status c)
    × (text ≡ text_of (corner_lines c))
