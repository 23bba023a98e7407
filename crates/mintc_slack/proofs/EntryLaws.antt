-- Entries of pairs, and the slacks that are found one after another.
use Rattle.std.proofs.Common.{◌≡◌, ℕ, ◌<◌, ◌+◌, ◌-◌, ℤ, pos, List, length, get_or, get_or-set_other, get_or-set_same, arith, ap, ◌∙◌, sym, subst, ⊎_elim}
use Rattle.std.proofs.lemmas.Bool.{cases_eq}
use Rattle.std.proofs.lemmas.List.{get_or_default}
use Rattle.std.specs.Prelude.{slice_set}
use Rattle.mintc_fraction.specs.Ratio.{Ratio}
use Rattle.mintc_timing.specs.Design.{Timing, pair_at}
use Rattle.mintc_constraints.specs.Ordinary.{Constraints}
use Rattle.mintc_slack.specs.declared.finding.Entry.{Entry}
use Rattle.mintc_slack.specs.declared.walked.SlackWalks.{SlackWalks}
use Rattle.std.specs.Bool.{OnTrue}
use Rattle.mintc_slack.specs.Gaps.{AreGaps}
use Rattle.mintc_slack.specs.Rows.{AreInRows}
use Rattle.mintc_slack.specs.Entries.{AreEntries, HasSettled, entry_at}
use Rattle.mintc_slack.specs.Ready.{IsReady}

pub ready-kept : (t : Timing) (list : Constraints) (at : Ratio) (w v : SlackWalks) → IsReady t list at w → v ≡ record w { distances = v.distances; ahead = v.ahead } →
    length v.distances.items ≡ length w.distances.items → IsReady t list at v
ready-kept t list at w v h kept count = record {
  system = ap (λ (x : SlackWalks). x.system.now) kept ∙ h.system;
  list_is = ap (λ (x : SlackWalks). x.list.now) kept ∙ h.list_is;
  at_is = ap (λ (x : SlackWalks). x.at.now) kept ∙ h.at_is;
  links = h.links;
  cycle = h.cycle;
  short = h.short;
  hub = subst (λ (x : SlackWalks). x.hub < list.nodes) (sym kept) h.hub;
  gaps = subst (λ (x : SlackWalks). AreGaps list at x.hub x.potentials.items x.rows.gaps.items) (sym kept) h.gaps;
  rows = subst (λ (x : SlackWalks). OnTrue x.in_rows (AreInRows x.rows.gaps.items x.rows.firsts.items)) (sym kept) h.rows;
  count = count ∙ h.count;
}

-- the entry that the code reads
module _ (t : Timing) (entries : List Entry) (place : ℕ) (below : place < length entries) (are : AreEntries t entries) (e : Entry) (is : e ≡ get_or entries place e) where
  pub entry-same : entry_at entries place ≡ e
  entry-same = get_or_default entries place (record { to = 0; number = 0 }) e below ∙ sym is

  pub entry_number : e.number < length t.pairs
  entry_number = subst (λ (x : Entry). x.number < length t.pairs) (sym is) (are.of_pairs place e below).0

  pub entry-to : (entry_at entries place).to ≡ (pair_at t e.number).to
  entry-to = (are.of_pairs place (record { to = 0; number = 0 }) below).1 ∙ ap (λ (x : Entry). (pair_at t x.number).to) entry-same

-- one number more
pub done-next : (P : ℕ → ℤ → Type 0) (entries : List Entry) (extra : List ℤ) (place : ℕ) (e : Entry) (x : ℤ) → entry_at entries place ≡ e → e.number < length extra → P e.number x →
    ((k : ℕ) → k < place → P (entry_at entries k).number (get_or extra (entry_at entries k).number (pos 0))) →
    (k : ℕ) → k < place + 1 → P (entry_at entries k).number (get_or (slice_set extra e.number x) (entry_at entries k).number (pos 0))
done-next P entries extra place e x same inside here before k h = ⊎_elim
    (λ (is : (entry_at entries k).number ≡ e.number).
    subst (λ (n : ℕ). P n (get_or (slice_set extra e.number x) n (pos 0))) (sym is) (subst (P e.number) (sym (get_or-set_same extra e.number x (pos 0) inside)) here))
    (λ (is : (entry_at entries k).number ≡ e.number → ⊥).
    subst (P (entry_at entries k).number) (sym (get_or-set_other extra e.number (entry_at entries k).number x (pos 0) is))
    (⊎_elim
    (λ (last : k ≡ place). absurd (is (ap (λ (n : ℕ). (entry_at entries n).number) last ∙ ap (λ (y : Entry). y.number) same)))
    (λ (last : k ≡ place → ⊥). before k (omega arith))
    (cases_eq k place)))
    (cases_eq (entry_at entries k).number e.number)

-- the entry before the next one
pub last-entry : (entries : List Entry) (place l : ℕ) → HasSettled entries (place + 1) l → (entry_at entries place).to ≡ l
last-entry entries place l h =
    let is : place + 1 - 1 ≡ place = omega arith in
    ap (λ (k : ℕ). (entry_at entries k).to) (sym is) ∙ h.before
