-- What a turned ring keeps.
use Rattle.std.proofs.Common.{◌≡◌, ℕ, ◌≤◌, List, length, take, drop, arith, length-append, length-drop}
use Rattle.std.specs.Prelude.{All}
use Rattle.std.proofs.lemmas.List.{length-take}
use Rattle.std.proofs.lemmas.List.Elements.{All-append, All-take, All-drop}
use Rattle.mintcx_chain.specs.Turning.{turned}

pub All-turned : {X : Type 0} (P : X → Type 0) (n : ℕ) (xs : List X) → All P xs → All P (turned n xs)
All-turned P n xs h = All-append P (drop n xs) (take n xs) (All-drop P n xs h) (All-take P n xs h)

pub length-turned : {X : Type 0} (n : ℕ) (xs : List X) → n ≤ length xs → length (turned n xs) ≡ length xs
length-turned n xs h = grind (arith, length-append, length-drop, length-take)
