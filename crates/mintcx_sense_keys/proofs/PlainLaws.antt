-- What is left of a table when the keys of senses are taken out.
use Rattle.std.proofs.Common.{◌≡◌, ℕ, Bool, true, false, cond, List, [], ◌∷◌, ap, ◌∙◌, subst, refl, String, Global, string_bytes, nat_cmp, is_eq, codes}
use Rattle.std.specs.Cmp.Lexicographic.{slice_cmp}
use Rattle.std.specs.BTreeMap.{is_at}
use Rattle.std.specs.Map.{remove_entry}
use Rattle.std.specs.Map.Calls.{RetainsPairs}
use Rattle.toml.specs.Data.{Data, Members, member}
use Rattle.toml.specs.View.{view, members_view}
use Rattle.toml.specs.declared.value.Value.{Value}
use Rattle.mintcx_sense_keys.specs.Plain.{is_clock, without, plain_table, each_value}

abbrev Entry : Type 0
Entry = String Global × Value

-- one of two lists, as members
either : (test : Bool) (a b : List Entry) (c d : Members) → members_view a ≡ c → members_view b ≡ d → members_view (cond test a b) ≡ cond test c d
either true a b c d e f = e
either false a b c d e f = f

-- a table out of which a key is taken
pub removed : (key : List ℕ) (es : List Entry) → members_view (remove_entry (is_at (λ k. slice_cmp nat_cmp key (string_bytes k))) es) ≡ without key (members_view es)
removed key [] = refl
removed key (e ∷ es) = either (is_eq (slice_cmp nat_cmp key (string_bytes e.0))) es _ _ _ refl (ap (member (string_bytes e.0) (view e.1)) (removed key es))

module _ {F : Type 0} (T : F → String Global → Value → Bool → Value → F → Type 0) where
  -- a closure that keeps all entries and changes what each value stands for
  pub changed : (g : Data → Data) (f : F) → ((k : String Global) (v : Value) (b : Bool) (w : Value) (f' : F) → T f k v b w f' → (b ≡ true) × (view w ≡ g (view v)) × (f' ≡ f)) → (es kept : List Entry) → RetainsPairs T f es kept →
      members_view kept ≡ each_value g (members_view es)
  changed g f h [] kept r = ap members_view r
  changed g f h (e ∷ es) kept r =
      let a = h e.0 e.1 r.0 r.1 r.2 r.4 in
      let rest = changed g f h es r.3 (subst (λ u. RetainsPairs T u es r.3) a.2 r.5) in
      ap members_view (r.6 ∙ ap (λ b. cond b ((e.0, r.1) ∷ r.3) r.3) a.0) ∙ (λ i. member (string_bytes e.0) (a.1 i) (rest i))

-- a table that isn't that of a clock cell
pub no_clock : (ms left : Members) → is_clock ms ≡ false → left ≡ without (codes "negative") (without (codes "positive") ms) → left ≡ plain_table ms
no_clock ms left other same = same ∙ rw other refl
