-- How an answer is given, by words.
use Rattle.std.specs.Prelude.{ℕ, ◌&&◌, pos, List, Option, Some, None, option_and_then, nat_le, not, bytes_eq, codes}
use Rattle.std.specs.Prelude.{if◌then◌else◌}
use Rattle.std.specs.Ordering.{int_eq}
use Rattle.mintc_decimal.specs.Decimals.{Number, number_of}
use Rattle.mintcx_manners.specs.declared.manners.Format.{Format}
use Rattle.mintcx_manners.specs.declared.manners.Format.TheVariants as format
use Rattle.mintcx_manners.specs.declared.manners.TimeUnit.{TimeUnit}
use Rattle.mintcx_manners.specs.declared.manners.TimeUnit.TheVariants as unit
use Rattle.mintcx_manners.specs.declared.manners.Detail.{Detail}
use Rattle.mintcx_manners.specs.declared.manners.Detail.TheVariants as detail
use Rattle.mintcx_manners.specs.declared.manners.Color.{Color}
use Rattle.mintcx_manners.specs.declared.manners.Color.TheVariants as color
use Rattle.mintcx_manners.specs.declared.manners.Limit.{Limit}
use Rattle.mintcx_manners.specs.declared.manners.Limit.TheVariants as limit

-- the form of the answer that a word names; any other word means text for people
abbrev pub format_of : List ℕ → Format
format_of word = if bytes_eq word (codes "plain") then format.Plain
    else (if bytes_eq word (codes "json") then format.Json
    else (if bytes_eq word (codes "csv") then format.Csv else format.Text))

-- the unit that a word names; any other word means the one that fits the cycle
abbrev pub unit_of : List ℕ → TimeUnit
unit_of word = if bytes_eq word (codes "fs") then unit.Fs
    else (if bytes_eq word (codes "ps") then unit.Ps
    else (if bytes_eq word (codes "ns") then unit.Ns else unit.Auto))

-- how much is said of an error, by a word; any other word means all
abbrev pub detail_of : List ℕ → Detail
detail_of word = if bytes_eq word (codes "short") then detail.Short else detail.Full

-- when colours are used, by a word; any other word leaves it to the terminal
abbrev pub color_of : List ℕ → Color
color_of word = if bytes_eq word (codes "always") then color.Always
    else (if bytes_eq word (codes "never") then color.Never else color.Auto)

-- a whole number up to 10^9, without an exponent or a point
abbrev pub rows_in : Number → Option Limit
rows_in v = if not v.negative && (int_eq v.places (pos 0) && nat_le v.digits 1000000000)
    then Some (limit.Rows v.digits) else None

-- how many rows are shown, by a word: all of them, or a number; None where the word is neither
abbrev pub limit_of : List ℕ → Option Limit
limit_of word = if bytes_eq word (codes "all") then Some limit.All else option_and_then rows_in (number_of word)
