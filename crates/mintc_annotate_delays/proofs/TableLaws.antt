-- One more delay at a key of the paths.
use Rattle.std.proofs.Common.{◌≡◌, ℕ, ℤ, Bool, true, false, cond, Some, refl, ap}
use Rattle.std.specs.HashMap.{HashMap}
use Rattle.mintc_annotate_resolve.specs.Resolution.{widened}
use Rattle.mintc_annotate_delays.specs.Ranges.{same_key, path_at}
use Rattle.mintc_annotate_delays.proofs.SharedKeyLaws.{same_true}

module _ {S : Type 0} where
  at_key : (m : HashMap (ℕ × ℕ × ℕ) (ℤ × ℤ) S) (key k : ℕ × ℕ × ℕ) (least greatest : ℤ) (b : Bool) → same_key key k ≡ b →
      cond b (Some (widened least greatest (path_at m key))) (path_at m k) ≡ cond b (Some (widened least greatest (path_at m k))) (path_at m k)
  at_key m key k least greatest true same =
      ap (λ (q : ℕ × ℕ × ℕ). Some (widened least greatest (path_at m q))) (same_true key k same)
  at_key m key k least greatest false same = refl

  pub at_key_is : (m : HashMap (ℕ × ℕ × ℕ) (ℤ × ℤ) S) (key k : ℕ × ℕ × ℕ) (least greatest : ℤ) →
      cond (same_key key k) (Some (widened least greatest (path_at m key))) (path_at m k) ≡ cond (same_key key k) (Some (widened least greatest (path_at m k))) (path_at m k)
  at_key_is m key k least greatest = at_key m key k least greatest (same_key key k) refl
