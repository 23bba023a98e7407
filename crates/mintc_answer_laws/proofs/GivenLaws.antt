-- Files give one design with one list of pairs.
use Rattle.std.proofs.Common.{◌≡◌, ℕ, List, sym, subst}
use Rattle.mintc_text.specs.declared.limits.Most.{Most}
use Rattle.mintc_timing.specs.Design.{Design, Timing}
use Rattle.mintc_timing.specs.Laws.{PairsAreDetermined}
use Rattle.mintc_timing.specs.Paths.{ArePairs, HasEnds}
use Rattle.mintc_timing_text.specs.TextLaws.{HaveOneDesign}
use Rattle.mintc_build.specs.FilesDesign.{described_by, library_by}
use Rattle.mintc_build.specs.Laws.{ArePlain}
use Rattle.mintc_command_answers.specs.Sources.{Describes, Gives, file_at}
use Rattle.mintc_command_answers.specs.declared.command.Source.{Source}
use Rattle.mintc_command_answers.specs.declared.command.Source.TheVariants.{Table, Files, Liberty}

-- the laws that say so
pub record AreSourceLaws : Type 0 where
  pub tables : HaveOneDesign
  pub files : ArePlain described_by
  pub liberty : ArePlain library_by
  pub pairs : PairsAreDetermined

one_design : AreSourceLaws → (most : Most) (source : Source) (files : List (List ℕ)) (design other : Design) → Describes most source files design → Describes most source files other → design ≡ other
one_design law most Table files design other a b = law.tables (file_at files 0) design other a b
one_design law most Files files design other a b = law.files.one_design most (file_at files 0) (file_at files 1) (file_at files 2) (file_at files 3) design other a b
one_design law most Liberty files design other a b = law.liberty.one_design most (file_at files 0) (file_at files 1) (file_at files 2) (file_at files 3) design other a b

-- The timings are those of one design and one list of pairs, whatever their orders are.
pub record AreAlike (t u : Timing) : Type 0 where
  pub flat : t.flat ≡ u.flat
  pub pairs : t.pairs ≡ u.pairs

pub given_alike : AreSourceLaws → (most : Most) (source : Source) (files : List (List ℕ)) (t u : Timing) → Gives most source files t → Gives most source files u → AreAlike t u
given_alike law most source files t u a b =
    let flat : t.flat ≡ u.flat = one_design law most source files t.flat u.flat a.design b.design in
    record { flat = flat; pairs = law.pairs t.flat t.pairs u.pairs a.pairs (subst (λ (d : Design). ArePairs d u.pairs) (sym flat) b.pairs) }

pub alike_back : (t u : Timing) → AreAlike t u → AreAlike u t
alike_back t u h = record { flat = sym h.flat; pairs = sym h.pairs }

pub given_ends : (most : Most) (source : Source) (files : List (List ℕ)) (t : Timing) → Gives most source files t → HasEnds t
given_ends most source files t gives n d below = let named = gives.pairs.each n d below in (named.from, named.to)
