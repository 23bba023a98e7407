-- The words and the line of a refusal.
use Rattle.std.specs.Prelude.{ℕ, List, [], ◌∷◌, map, length, codes, decimal, Option, min, nat_lt, find}
use Rattle.std.specs.Option.{option_map}
use Rattle.mintc_text.specs.declared.limits.TheConstants.{MOST_TOLD}
use Rattle.mintc_text.specs.declared.refusals.Role.{Role}
use Rattle.mintc_text.specs.declared.refusals.Role.TheVariants as role
use Rattle.mintc_text.specs.declared.refusals.Kind.{Kind}
use Rattle.mintc_text.specs.declared.refusals.Kind.TheVariants as kind
use Rattle.mintc_text.specs.declared.refusals.Refusal.{Refusal}
use Rattle.mintc_text.specs.declared.refusals.Refusal.TheVariants as refusal
use Rattle.mintc_text.specs.Lines.{ended, words}

-- the words of the texts and of the quantities
abbrev pub role_word : Role → List ℕ
role_word role.Netlist = codes "netlist"
role_word role.Delays = codes "delays"
role_word role.Cells = codes "cells"
role_word role.Clock = codes "clock"
role_word role.Schedule = codes "schedule"
role_word role.Certificate = codes "certificate"
role_word role.Table = codes "table"

abbrev pub kind_word : Kind → List ℕ
kind_word kind.Scopes = codes "scopes"
kind_word kind.Depth = codes "depth"
kind_word kind.Leaves = codes "leaves"
kind_word kind.Inner = codes "inner"
kind_word kind.Phases = codes "phases"
kind_word kind.Elements = codes "elements"
kind_word kind.Arcs = codes "arcs"
kind_word kind.Bounds = codes "bounds"
kind_word kind.Pairs = codes "pairs"

-- the number of a refusal
abbrev pub refusal_number : Refusal → ℕ
refusal_number (refusal.Syntax text entry) = 1
refusal_number (refusal.TooLong text) = 2
refusal_number (refusal.NameTwice entry) = 3
refusal_number (refusal.NoModule entry) = 4
refusal_number (refusal.Recursive entry) = 5
refusal_number (refusal.NoPin entry) = 6
refusal_number (refusal.Width entry) = 7
refusal_number (refusal.TwoDrivers entry) = 8
refusal_number (refusal.TopUnclear count) = 9
refusal_number (refusal.NoInstance text entry) = 10
refusal_number (refusal.NoArc entry) = 11
refusal_number (refusal.Negative entry) = 12
refusal_number (refusal.BadCell entry rule) = 13
refusal_number (refusal.BadClock entry rule) = 14
refusal_number (refusal.NoPhase element) = 15
refusal_number (refusal.CombinationalLoop arcs) = 16
refusal_number (refusal.Limit quantity count) = 17
refusal_number (refusal.Range entry) = 18
refusal_number (refusal.PhaseMismatch design schedule) = 19
refusal_number (refusal.PathRange element bit) = 21
refusal_number (refusal.Corner file) = 22

-- the fields of a refusal, in order: a loop is its length and its arcs
abbrev pub refusal_fields : Refusal → List (List ℕ)
refusal_fields (refusal.Syntax text entry) = role_word text ∷ decimal entry ∷ []
refusal_fields (refusal.TooLong text) = role_word text ∷ []
refusal_fields (refusal.NameTwice entry) = decimal entry ∷ []
refusal_fields (refusal.NoModule entry) = decimal entry ∷ []
refusal_fields (refusal.Recursive entry) = decimal entry ∷ []
refusal_fields (refusal.NoPin entry) = decimal entry ∷ []
refusal_fields (refusal.Width entry) = decimal entry ∷ []
refusal_fields (refusal.TwoDrivers entry) = decimal entry ∷ []
refusal_fields (refusal.TopUnclear count) = decimal count ∷ []
refusal_fields (refusal.NoInstance text entry) = role_word text ∷ decimal entry ∷ []
refusal_fields (refusal.NoArc entry) = decimal entry ∷ []
refusal_fields (refusal.Negative entry) = decimal entry ∷ []
refusal_fields (refusal.BadCell entry rule) = decimal entry ∷ decimal rule ∷ []
refusal_fields (refusal.BadClock entry rule) = decimal entry ∷ decimal rule ∷ []
refusal_fields (refusal.NoPhase element) = decimal element ∷ []
refusal_fields (refusal.CombinationalLoop arcs) = decimal (length arcs) ∷ map decimal arcs
refusal_fields (refusal.Limit quantity count) = kind_word quantity ∷ decimal count ∷ []
refusal_fields (refusal.Range entry) = decimal entry ∷ []
refusal_fields (refusal.PhaseMismatch design schedule) = decimal design ∷ decimal schedule ∷ []
refusal_fields (refusal.PathRange element bit) = decimal element ∷ decimal bit ∷ []
refusal_fields (refusal.Corner file) = decimal file ∷ []

-- the line of a refusal
abbrev pub refusal_line : Refusal → List ℕ
refusal_line r = ended (words (codes "refused" ∷ decimal (refusal_number r) ∷ refusal_fields r))

-- the refusal of the first quantity that passes its limit: its kind and count, or the greatest that is told where
-- that is larger. Each stands with its count and its limit.
abbrev pub over_limit : List (Kind × ℕ × ℕ) → Option Refusal
over_limit counts = option_map (λ (q : Kind × ℕ × ℕ). refusal.Limit q.0 (min q.1 MOST_TOLD))
    (find (λ (q : Kind × ℕ × ℕ). nat_lt q.2 q.1) counts)
