use Rattle.std.proofs.Common.{◌<◌, rules, subst, sym}
use Rattle.mintc_paths_sums.specs.SparseRows.{places_of}
use Rattle.mintc_paths_sums.proofs.Give.{placed_none, all_zero, length-places}
use Rattle.mintc_paths_sums.proofs.sparse_rows.SparseRows.new.Goals as goal

pub returns-clause-none : goal.returns-clause-none
returns-clause-none c =
    let numbers = c.in_ok-vec.field-0.items in
    λ row low. placed_none (places_of 0 numbers) c.in_ok-vec-2.field-0.items (all_zero c.args.rows numbers (search rules)) (search rules) row (subst (λ n. row < n) (sym (length-places 0 numbers)) (search rules))
