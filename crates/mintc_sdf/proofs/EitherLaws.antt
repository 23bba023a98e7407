-- Each text has delays or a refusal.
use Rattle.std.proofs.Common.{◌≡◌, ℕ, List, Result, Ok, Err, refl, ◌⊎◌, inl, inr}
use Rattle.mintc_text.specs.declared.refusals.Refusal.{Refusal}
use Rattle.mintc_sdf.specs.declared.delays.Delay.{Delay}
use Rattle.mintc_sdf.specs.Texts.{delays_of}
use Rattle.mintc_sdf.specs.Laws.{HaveDelaysOrRefusal}

by : (text : List ℕ) (read : Result (List Delay) Refusal) → delays_of text ≡ read → ((ds : List Delay) × (delays_of text ≡ Ok ds)) ⊎ ((r : Refusal) × (delays_of text ≡ Err r))
by text (Ok ds) is = inl (ds, is)
by text (Err r) is = inr (r, is)

pub have_delays_or_refusal : HaveDelaysOrRefusal
have_delays_or_refusal text = by text (delays_of text) refl
