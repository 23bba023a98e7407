-- Flags by stamps.
use Rattle.std.specs.Prelude.{ℕ, ◌≤◌, ◌<◌, ◌==◌, Bool, List, map, All}

-- the flag of each place: up where its stamp is the last one
abbrev pub flags_of : ℕ → List ℕ → List Bool
flags_of last stamps = map (λ stamp. stamp == last) stamps

-- No stamp is later than the last one, and 0 is no stamp of a flag that is up.
pub record AreStamped (last : ℕ) (stamps : List ℕ) : Type 0 where
  pub some : 0 < last
  pub past : All (λ stamp. stamp ≤ last) stamps
