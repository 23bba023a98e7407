-- The warnings beside an answer.
use Rattle.std.proofs.Common.{◌≡◌, ℕ, List, [], ◌∷◌, ◌++◌, All, sym, subst, inl, refl, append-nil}
use Rattle.std.proofs.lemmas.List.Elements.{All-push}
use Rattle.mintcx_warnings_files.specs.declared.files.File.{File}
use Rattle.mintcx_requests.specs.Requests.{Text}
use Rattle.mintcx_run.specs.declared.orders.Order.{Order}
use Rattle.mintcx_run.specs.Warned.{AreAllWarned, AreClampsTold, IsFileOf, IsSomeFileOf, IsWarned}

-- two texts of warnings, one behind the other
pub both_warned : (order : Order) (fronts taken : List Text) (clamps others text : Text) → AreClampsTold order fronts clamps → IsWarned order taken others → text ≡ clamps ++ others → AreAllWarned order fronts taken text
both_warned order fronts taken clamps others text told warned whole = record { clamps = clamps; others = others; are_clamps = told; are_others = warned; whole = whole }

-- the first of them alone
pub clamps_warned : (order : Order) (fronts taken : List Text) (clamps : Text) → AreClampsTold order fronts clamps → AreAllWarned order fronts taken clamps
clamps_warned order fronts taken clamps told = record { clamps = clamps; others = []; are_clamps = told; are_others = inl refl; whole = sym (append-nil clamps) }

-- one file more of an order
pub one_file_more : (order : Order) (fronts : List Text) (files new : List File) (number : ℕ) (file : File) → All (IsSomeFileOf order fronts) files → IsFileOf order.call.files fronts number file → new ≡ files ++ file ∷ [] →
    All (IsSomeFileOf order fronts) new
one_file_more order fronts files new number file so_far is same = subst (λ (fs : List File). All (IsSomeFileOf order fronts) fs) (sym same) (All-push (IsSomeFileOf order fronts) files file so_far (number, is))
