-- The arcs that are awake along a sequence.
use Rattle.std.proofs.Common.{◌≡◌, ◌≢◌, ℕ, ◌≤◌, ◌+◌, Bool, false, List, length, get_or, arith}
use Rattle.mintc_timing.specs.declared.parts.TimingArc.{TimingArc}
use Rattle.mintc_timing.specs.Paths.{arc_at}
use Rattle.mintc_paths.specs.Worklist.{IsReady, IsOn, IsAwake}
use Rattle.mintc_paths.specs.declared.worklist.Worklist.{Worklist}

-- what is awake from a place on is so from a later one on
pub IsAwake-later : (along : List TimingArc) (k m : ℕ) (reached : List Bool) (awake : Worklist) → k ≤ m → IsAwake along k reached awake → IsAwake along m reached awake
IsAwake-later along k m reached awake low h = record { ready = h.ready; each = λ i from below on. h.each i (omega arith) below on }

-- An arc is no longer awake, and the arcs after it are.
pub IsAwake-next : (along : List TimingArc) (place : ℕ) (reached : List Bool) (old new : Worklist) →
    length new.places.words.items ≡ length old.places.words.items → ((other : ℕ) → other ≢ place → IsOn old other → IsOn new other) →
    IsAwake along place reached old → IsAwake along (place + 1) reached new
IsAwake-next along place reached old new count others h = record {
  ready = record {
    room = let before = h.ready.room in omega arith;
    few = let before = h.ready.few in omega arith;
  };
  each = λ i from below on. others i (omega arith) (h.each i (omega arith) below on);
}

-- Where no row is reached no arc has to be awake.
pub IsAwake-none : (along : List TimingArc) (place : ℕ) (reached : List Bool) (awake : Worklist) → IsReady (length along) awake →
    ((row : ℕ) → get_or reached row false ≡ false) → IsAwake along place reached awake
IsAwake-none along place reached awake ready off = record { ready = ready; each = λ i from below on. let not_on = off (arc_at along i).from in absurd (cc) }
