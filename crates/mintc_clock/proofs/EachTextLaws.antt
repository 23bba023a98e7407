-- Each text has a clock or a refusal.
use Rattle.std.proofs.Common.{◌≡◌, ℕ, Bool, true, false, List, Option, Some, None, refl, sym, ◌∙◌, ◌⊎◌, inl, inr, ⊎_elim}
use Rattle.std.specs.Str.{is_utf8}
use Rattle.std.proofs.lemmas.Str.{IsUtf8-from_is_utf8, is_utf8-from_IsUtf8}
use Rattle.toml.specs.Data.{Members}
use Rattle.toml.specs.Parse.{parse_document}
use Rattle.mintc_toml.specs.Documents.{IsDocument}
use Rattle.mintc_clock.specs.declared.clock.Clock.{Clock}
use Rattle.mintc_clock.specs.ClockOf.{IsClock, IsBadClock, no_document, bad_document, fault_of, clock_of}
use Rattle.mintc_clock.specs.Laws.{TextsHaveClocksOrRefusals}

-- a text is a document or none
abbrev IsEither : List ℕ → Type 0
IsEither text = ((ms : Members) × IsDocument text ms) ⊎ ((ms : Members) → IsDocument text ms → ⊥)

is_either : (text : List ℕ) (b : Bool) (found : Option Members) → is_utf8 text ≡ b → parse_document text ≡ found → IsEither text
is_either text true (Some ms) utf8 parsed = inl (ms, (IsUtf8-from_is_utf8 text utf8, parsed))
is_either text true None utf8 parsed = inr (λ ms h. let wrong : None ≡ Some ms = sym parsed ∙ h.1 in absurd (cc wrong))
is_either text false found utf8 parsed = inr (λ ms h. let wrong : false ≡ true = sym utf8 ∙ is_utf8-from_IsUtf8 text h.0 in absurd (cc wrong))

document_or_none : (text : List ℕ) → IsEither text
document_or_none text = is_either text (is_utf8 text) (parse_document text) refl refl

abbrev Judged : List ℕ → Type 0
Judged text = ((clock : Clock) × IsClock text clock) ⊎ ((n : ℕ) × (r : ℕ) × IsBadClock text n r)

judged : (text : List ℕ) (ms : Members) (fault : Option (ℕ × ℕ)) → IsDocument text ms → fault_of ms ≡ fault → Judged text
judged text ms None is same = inl (clock_of ms, (ms, is, record { faultless = same; same = refl }))
judged text ms (Some fault) is same = inr (fault.0, fault.1, bad_document ms is same)

pub texts_have_clocks_or_refusals_lem : TextsHaveClocksOrRefusals
texts_have_clocks_or_refusals_lem text = ⊎_elim
    (λ (found : (ms : Members) × IsDocument text ms). judged text found.0 (fault_of found.0) found.1 refl)
    (λ (none : (ms : Members) → IsDocument text ms → ⊥). inr (0, 0, no_document none refl refl))
    (document_or_none text)
