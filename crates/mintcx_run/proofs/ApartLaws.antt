-- A table in the place of four files.
use Rattle.std.proofs.Common.{◌≡◌, ◌<◌, ◌≤◌, ◌+◌, ◌++◌, ◌∷◌, ℕ, Bool, true, List, [], length, refl, arith, take, drop, set}
use Rattle.std.specs.Prelude.{remove}
use Rattle.mintc_command_answers.specs.Commands.{roles_of}
use Rattle.mintc_command_answers.specs.declared.command.Command.{Command}
use Rattle.mintc_command_answers.specs.declared.command.Command.TheVariants.{OfDesign, Sample, Corners}
use Rattle.mintc_command_answers.specs.declared.command.Job.{Job}
use Rattle.mintc_command_answers.specs.declared.command.Job.TheVariants as job
use Rattle.mintc_command_answers.specs.declared.command.Source.TheVariants as source
use Rattle.mintcx_translation.specs.Calls.{cells_place, takes_four}
use Rattle.mintcx_run.specs.Apart.{lone, on_table}

-- the first of four, and those behind them, by three removals
pub lone_is : {X : Type 0} (xs : List X) → 4 ≤ length xs → remove (remove (remove xs 3) 2) 1 ≡ lone xs
lone_is [] few = absurd (omega (arith, few))
lone_is (a ∷ []) few = absurd (omega (arith, few))
lone_is (a ∷ b ∷ []) few = absurd (omega (arith, few))
lone_is (a ∷ b ∷ c ∷ []) few = absurd (omega (arith, few))
lone_is (a ∷ b ∷ c ∷ d ∷ xs) few = refl

-- a text in the place of the first of them
pub first_put : {X : Type 0} (xs : List X) (x : X) → 4 ≤ length xs → set (lone xs) 0 x ≡ x ∷ drop 4 xs
first_put [] x few = absurd (omega (arith, few))
first_put (a ∷ []) x few = absurd (omega (arith, few))
first_put (a ∷ b ∷ []) x few = absurd (omega (arith, few))
first_put (a ∷ b ∷ c ∷ []) x few = absurd (omega (arith, few))
first_put (a ∷ b ∷ c ∷ d ∷ xs) x few = refl

-- and so many are left with it
pub put_length : {X : Type 0} (xs : List X) (x : X) → 4 ≤ length xs → length (set (lone xs) 0 x) + 3 ≡ length xs
put_length [] x few = absurd (omega (arith, few))
put_length (a ∷ []) x few = absurd (omega (arith, few))
put_length (a ∷ b ∷ []) x few = absurd (omega (arith, few))
put_length (a ∷ b ∷ c ∷ []) x few = absurd (omega (arith, few))
put_length (a ∷ b ∷ c ∷ d ∷ xs) x few = omega arith

-- so many are left
pub lone_length : {X : Type 0} (xs : List X) → 4 ≤ length xs → length (lone xs) + 3 ≡ length xs
lone_length [] few = absurd (omega (arith, few))
lone_length (a ∷ []) few = absurd (omega (arith, few))
lone_length (a ∷ b ∷ []) few = absurd (omega (arith, few))
lone_length (a ∷ b ∷ c ∷ []) few = absurd (omega (arith, few))
lone_length (a ∷ b ∷ c ∷ d ∷ xs) few = omega arith

-- the files of a command of four files, and of the same asked of a table
three_fewer : (work : Job) → length (roles_of (OfDesign work source.Table)) + 3 ≡ length (roles_of (OfDesign work source.Files))
three_fewer job.Check = refl
three_fewer job.Optimise = refl
three_fewer job.Verify = refl
three_fewer job.Report = refl
three_fewer job.Safe = refl
three_fewer job.Slack = refl

three_less : (work : Job) → length (roles_of (OfDesign work source.Table)) + 3 ≡ length (roles_of (OfDesign work source.Liberty))
three_less job.Check = refl
three_less job.Optimise = refl
three_less job.Verify = refl
three_less job.Report = refl
three_less job.Safe = refl
three_less job.Slack = refl

pub table_roles : (command : Command) → takes_four command ≡ true → length (roles_of (on_table command)) + 3 ≡ length (roles_of command)
table_roles (OfDesign work source.Files) four = three_fewer work
table_roles (OfDesign work source.Liberty) four = three_less work
table_roles (OfDesign work source.Table) four = absurd (cc four)
table_roles (Sample number) four = absurd (cc four)
table_roles (Corners count) four = absurd (cc four)

some_role : (work : Job) → 1 ≤ length (roles_of (OfDesign work source.Table))
some_role job.Check = omega arith
some_role job.Optimise = omega arith
some_role job.Verify = omega arith
some_role job.Report = omega arith
some_role job.Safe = omega arith
some_role job.Slack = omega arith

pub four_roles : (command : Command) → takes_four command ≡ true → 4 ≤ length (roles_of command)
four_roles (OfDesign work source.Files) four = let more = three_fewer work in let some = some_role work in omega (arith, more, some)
four_roles (OfDesign work source.Liberty) four = let more = three_less work in let some = some_role work in omega (arith, more, some)
four_roles (OfDesign work source.Table) four = absurd (cc four)
four_roles (Sample number) four = absurd (cc four)
four_roles (Corners count) four = absurd (cc four)

-- the file of the cells is one of the four
pub cells_among : (command : Command) → takes_four command ≡ true → cells_place command < length (roles_of command)
cells_among (OfDesign work source.Files) four = let more = three_fewer work in let some = some_role work in omega (arith, more, some)
cells_among (OfDesign work source.Liberty) four = let more = three_less work in let some = some_role work in omega (arith, more, some)
cells_among (OfDesign work source.Table) four = absurd (cc four)
cells_among (Sample number) four = absurd (cc four)
cells_among (Corners count) four = absurd (cc four)
