-- The words that name a member of a chain.
use Rattle.std.specs.Prelude.{◌≡◌, ℕ, List, [], ◌∷◌, length, map, codes, All}
use Rattle.mintc_timing_text.specs.Fields.{IsCount, number}
use Rattle.mintc_certificate.specs.declared.member_lines.MemberWord.{MemberWord}
use Rattle.mintc_certificate.specs.declared.member_lines.MemberWord.TheVariants.{One, Apart, Reach}
use Rattle.mintc_certificate.specs.declared.member_lines.Single.{Single}
use Rattle.mintc_certificate.specs.declared.member_lines.Single.TheVariants as one
use Rattle.mintc_certificate.specs.declared.members.Member.{Member}
use Rattle.mintc_certificate.specs.declared.members.Member.TheVariants as member

-- the word of a member that has one number, and of any member
abbrev pub single_word : Single → List ℕ
single_word one.Start = codes "start"
single_word one.Cycle = codes "cycle"
single_word one.Order = codes "order"
single_word one.Span = codes "span"
single_word one.Width = codes "width"
single_word one.Opening = codes "open"
single_word one.Opened = codes "opened"
single_word one.Setup = codes "setup"
single_word one.Bound = codes "bound"

-- the first word of a member's line
abbrev pub member_word : MemberWord → List ℕ
member_word (One word) = single_word word
member_word Apart = codes "apart"
member_word Reach = codes "reach"

-- the member of a word and its number
abbrev pub single : Single → ℕ → Member
single one.Start n = member.Start n
single one.Cycle n = member.Cycle n
single one.Order n = member.Order n
single one.Span n = member.Span n
single one.Width n = member.Width n
single one.Opening n = member.Opening n
single one.Opened n = member.Opened n
single one.Setup n = member.Setup n
single one.Bound n = member.Bound n

-- The words are one number.
abbrev pub IsOne : ℕ → List (List ℕ) → Type 0
IsOne n ws = IsCount n × (ws ≡ number n ∷ [])

-- The words are two numbers.
abbrev pub IsTwo : ℕ × ℕ → List (List ℕ) → Type 0
IsTwo p ws = IsCount p.0 × IsCount p.1 × (ws ≡ number p.0 ∷ number p.1 ∷ [])

-- The words are so many numbers.
pub record AreNumbers (count : ℕ) (numbers : List ℕ) (ws : List (List ℕ)) : Type 0 where
  pub counted : length numbers ≡ count
  pub each : All IsCount numbers
  pub spelled : ws ≡ map number numbers
