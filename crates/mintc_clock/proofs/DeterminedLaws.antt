-- A text gives one clock or one refusal.
use Rattle.std.proofs.Common.{◌≡◌, ℕ, List, Some, None, sym, ap, ◌∙◌}
use Rattle.toml.specs.Data.{Members}
use Rattle.mintc_toml.specs.Documents.{IsDocument}
use Rattle.mintc_clock.specs.ClockOf.{fault_of, clock_of, no_document, bad_document}
use Rattle.mintc_clock.specs.Laws.{ClocksAreDetermined, ClocksAreNotRefused, BadClocksAreDetermined}

same_some : {A : Type 0} (a b : A) → Some a ≡ Some b → a ≡ b
same_some a b e = cc

some_is_none : {A : Type 0} (a : A) → Some a ≡ None → ⊥
some_is_none a e = cc

one_document : (text : List ℕ) (ms other : Members) → IsDocument text ms → IsDocument text other → ms ≡ other
one_document text ms other h g = same_some ms other (sym h.1 ∙ g.1)

pub clocks_are_determined : ClocksAreDetermined
clocks_are_determined text a b h g = h.2.same ∙ ap clock_of (one_document text h.0 g.0 h.1 g.1) ∙ sym g.2.same

pub clocks_are_not_refused : ClocksAreNotRefused
clocks_are_not_refused text clock n r h (no_document none zeroth first) = none h.0 h.1
clocks_are_not_refused text clock n r h (bad_document ms is fault) = some_is_none (n, r) (sym fault ∙ ap fault_of (one_document text ms h.0 is h.1) ∙ h.2.faultless)

same_pair : (a b : ℕ × ℕ) → a ≡ b → (a.0 ≡ b.0) × (a.1 ≡ b.1)
same_pair a b e = (ap (λ (p : ℕ × ℕ). p.0) e, ap (λ (p : ℕ × ℕ). p.1) e)

pub bad_clocks_are_determined : BadClocksAreDetermined
bad_clocks_are_determined text n r m other (no_document none a b) (no_document also c d) = (a ∙ sym c, b ∙ sym d)
bad_clocks_are_determined text n r m other (no_document none a b) (bad_document ms is fault) = absurd (none ms is)
bad_clocks_are_determined text n r m other (bad_document ms is fault) (no_document none a b) = absurd (none ms is)
bad_clocks_are_determined text n r m other (bad_document ms is fault) (bad_document ms' is' fault') =
    same_pair (n, r) (m, other) (same_some _ _ (sym fault ∙ ap fault_of (one_document text ms ms' is is') ∙ fault'))
