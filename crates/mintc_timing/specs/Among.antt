-- Paths along the first arcs of an order.
use Rattle.std.specs.Prelude.{◌≡◌, ◌<◌, ℕ, List, [], ◌∷◌, length, slice_index_or}

-- The arc stands among the first k of the order.
abbrev pub IsAmong : List ℕ → ℕ → ℕ → Type 0
IsAmong order k n = (i : ℕ) × (i < k) × (i < length order) × (slice_index_or order i 0 ≡ n)

-- Each arc of the path does.
abbrev pub AreAmong : List ℕ → ℕ → List ℕ → Type 0
AreAmong order k [] = Unit {0}
AreAmong order k (n ∷ path) = IsAmong order k n × AreAmong order k path
