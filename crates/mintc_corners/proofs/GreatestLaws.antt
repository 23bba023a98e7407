-- The greatest values of walks over one list are those over each list with the same links.
use Rattle.std.proofs.Common.{ℕ, ℤ, ◌≤ℤ◌, List, ap, ◌∙◌, subst}
use Rattle.std.specs.List.{All, Contains}
use Rattle.mintc_fraction.specs.Ratio.{Ratio}
use Rattle.mintc_graph_walks.specs.Walks.{value_at}
use Rattle.mintc_timing.specs.declared.link.Link.{Link}
use Rattle.mintc_constraints.specs.Ordinary.{constraints_of}
use Rattle.mintc_ratio.specs.Greatest.{AreGreatest, asked_by}
use Rattle.mintc_timing.specs.Links.{IsMet}
use Rattle.mintc_corners.proofs.TransferLaws.{carried, carried_all}

module _ (count : ℕ) (xs ys : List Link) (sub : All (Contains ys) xs) (back : All (Contains xs) ys) (at : Ratio) (values : List ℤ) where
  pub carried_greatest : AreGreatest (constraints_of count xs) at values → AreGreatest (constraints_of count ys) at values
  carried_greatest g = record {
    count = g.count;
    origin = g.origin;
    greatest = λ node below.
        let here = g.greatest node below in
        record {
          attained = (let own = here.attained in let other = carried xs ys sub own.0 0 node own.1 in (other.0, other.1, ap (λ (ks : List Link). asked_by at ks) other.2 ∙ own.2));
          bound = λ walk leads.
              let other = carried ys xs back walk 0 node leads in
              subst (λ (ks : List Link). asked_by at ks ≤ℤ value_at values node) other.2 (here.bound other.0 other.1);
        };
    met = carried_all xs ys sub back (IsMet at.num at.den (value_at values)) g.met;
    least = λ value origin met. g.least value origin (carried_all ys xs back sub (IsMet at.num at.den value) met);
  }
