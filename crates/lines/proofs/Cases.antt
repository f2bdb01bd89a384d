-- Records of passplan's input, whole and bad, and lines of refusals and of bad records: bytes to days, answers to text.
-- Rests on computing the definitions.
use mathlib.Core.Path.{◌≡◌, refl}
use Prim.Native.Nat.{ℕ}
use Rattle.fields.specs.Reading.{Got, got, bad, part, be, whole, field, mark}
use Rattle.decimals.specs.Decimal.{digits, decimal}
use Rattle.decimals.proofs.Texts.{codes}
use Rattle.lines.specs.Record.{pass_at}
use Rattle.lines.specs.declared.Days.{Days}
use Rattle.lines.specs.Line.{words, line, result_text, line_of, bad_line_of}
use Rattle.lines.proofs.ReadBack.{half_of, bytes_of}
use Rattle.lines.proofs.Texts.{lowered, bytes}

-- ---- records: 505300640065, whole, behind another, cut at each of its lengths, and with wrong letters

abbrev days : ℕ → ℕ → ℕ → Got Days
days a b q = got (record { a = a; b = b }) q

pub record Records : Type 0 where
  pub whole-one : pass_at (bytes "505300640065") 0 ≡ days 100 101 6
  pub second : pass_at (bytes "505300640064 50530064FFFF") 6 ≡ days 100 65535 12
  pub five : pass_at (bytes "5053006400") 0 ≡ bad 2 4
  pub four : pass_at (bytes "50530064") 0 ≡ bad 2 4
  pub three : pass_at (bytes "505300") 0 ≡ bad 2 2
  pub two : pass_at (bytes "5053") 0 ≡ bad 2 2
  pub one : pass_at (bytes "51") 0 ≡ bad 2 0
  pub letters : pass_at (bytes "535000640065") 0 ≡ bad 1 0
  pub letters-first : pass_at (bytes "005054") 1 ≡ bad 1 1

pub records : Records
unfolding pass_at part mark field whole be half_of bytes_of codes lowered bytes
records =
    record { whole-one = refl; second = refl; five = refl; four = refl; three = refl; two = refl; one = refl; letters = refl; letters-first = refl }

-- ---- lines: a refusal's, whatever the buffer holds, and those of bad records

pub record Lines : Type 0 where
  pub refused : line_of 0 65535 10 2 65530 (bytes "49") ≡ codes "0 65535 10 2 65530 -\n"
  pub cut : bad_line_of 2 4 ≡ codes "- - 2 3 4 -\n"
  pub letters : bad_line_of 1 18446744073709551615 ≡ codes "- - 1 3 18446744073709551615 -\n"

pub lines : Lines
unfolding line_of bad_line_of line words result_text decimal digits half_of bytes_of codes lowered bytes
lines = record { refused = refl; cut = refl; letters = refl }
