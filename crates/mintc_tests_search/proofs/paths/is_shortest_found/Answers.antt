use Rattle.std.proofs.Common.{◌≡◌, ◌<◌, ℕ, List, length, get_or, refl, sym, subst, arith, SFits, w64}
use Rattle.std.specs.List.{Contains}
use Rattle.std.proofs.lemmas.Int.{to_z-of_z}
use Rattle.std.proofs.lemmas.List.{get_or_default}
use Rattle.mintc_timing.specs.declared.parts.Pair.{Pair}
use Rattle.mintc_timing.specs.Design.{no_pair}
use Rattle.mintc_tests_search.proofs.paths.is_shortest_found.Goals as goal

-- a pair that is read is listed
listed : (pairs all : List Pair) (n : ℕ) → pairs ≡ all → n < length all → Contains all (get_or pairs n no_pair)
listed pairs all n is below = subst (λ (xs : List Pair). Contains all (get_or xs n no_pair)) (sym is) (n, below, get_or_default all n (get_or all n no_pair) no_pair below)

pub shortest_path_of-requires : goal.shortest_path_of-requires
shortest_path_of-requires c =
    let pair : Pair = get_or c.pairs.result.now c.args.place no_pair in
    let fits : SFits w64 pair.min = record { sfits = let inv = c.type_inv.pair in omega arith } in
    (pair, listed c.pairs.result.now c.args.system.now.pairs c.args.place c.pairs.ensures.value c.requires, refl, refl, sym (to_z-of_z w64 pair.min fits))
