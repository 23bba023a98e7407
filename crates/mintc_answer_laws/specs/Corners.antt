-- What is free in the answers to `corners`: the chain of an optimum, and the arcs of a corner's own refusal.
use Rattle.std.specs.Prelude.{◌≡◌, ◌≤◌, ℕ, List, length, ◌⊎◌}
use Rattle.mintc_text.specs.Limits.{AreLimits}
use Rattle.mintc_text.specs.Lines.{text_of}
use Rattle.mintc_text.specs.declared.limits.Most.{Most}
use Rattle.mintc_corners.specs.declared.certificate.CornerCertificate.{CornerCertificate}
use Rattle.mintc_corners.specs.CornerText.{corner_lines}
use Rattle.mintc_command_answers.specs.Answers.{IsDefined}
use Rattle.mintc_command_answers.specs.Commands.{roles_of}
use Rattle.mintc_command_answers.specs.Optima.{JointlyDifferInChain}
use Rattle.mintc_command_answers.specs.declared.command.Command.TheVariants.{Corners}
use Rattle.mintc_command_answers.specs.declared.status.Status.{Status}
use Rattle.mintc_command_answers.specs.declared.status.Status.TheVariants.{Refused}
use Rattle.mintc_answer_laws.specs.Free.{AreCornersOfArcs}

-- The texts are those of two certificates of corners with one schedule and the same departures, or of two without a
-- schedule.
abbrev pub DifferInJointChains : List ℕ → List ℕ → Type 0
DifferInJointChains text another = (c : CornerCertificate) × (d : CornerCertificate) × JointlyDifferInChain c d
    × (text ≡ text_of (corner_lines c)) × (another ≡ text_of (corner_lines d))

-- What two answers of one status share.
abbrev pub AreSameCorners : Status → List ℕ → List ℕ → Type 0
AreSameCorners Refused text another = (text ≡ another) ⊎ AreCornersOfArcs text another
AreSameCorners status text another = DifferInJointChains text another

-- The answers to `corners` on the same files, as many as it names, have one status, and are the same but for that.
abbrev pub CornerAnswersAreTheSame : Type 0
CornerAnswersAreTheSame = (most : Most) → AreLimits most → (count : ℕ) (files : List (List ℕ)) (status other : Status)
    (text another : List ℕ) → length files ≡ length (roles_of (Corners count)) → 2 ≤ count → count ≤ 4 →
    IsDefined most (Corners count) files status text → IsDefined most (Corners count) files other another →
    (status ≡ other) × AreSameCorners status text another
