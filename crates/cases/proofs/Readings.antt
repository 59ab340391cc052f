-- Lines that are read, and the number under which each is declined, 0 where it is accepted: document 01's examples of 'What is declined' that the reader judges, 11 with the limits of document 02, change 3; lines that only a later rule declines, marked cases 11 and 12; FFFFFF in a
-- load, FFFFFE, FFFFFF in an add (change 5); lines of clauses (change 7); train, choice and limit (change 8); orders (change 10); records (change 11); sizes (change 13).
use mathlib.Core.Bool.{Bool, true, ◌&&◌}
use mathlib.Core.List.{List, [], ◌∷◌, ◌++◌}
use Prim.Native.Nat.{ℕ}
use Prim.Native.String.{String}
use lib.Dec.{T, eqb}
use Rattle.refusals.specs.Refusals.{refusal_number}
use Rattle.frames.specs.Text.{zeros}
use Rattle.lines.specs.declared.request.Line.{Line}
use Rattle.lines.specs.declared.request.Line.TheVariants.{Asked, Refused}
use Rattle.reader.specs.Reading.{line_of}
use Rattle.cases.specs.Written.{text}
use Rattle.cases.specs.Calls.{Block}
use Rattle.cases.specs.Computed.{computed}
use Rattle.cases.specs.Studies.{fresh, j_with, j}

pub record Case : Type 0 where
  pub line : List ℕ
  pub on : Block
  pub number : ℕ

unfoldable pub row : String → Block → ℕ → Case
row l b n = record { line = text l; on = b; number = n }

-- with so many zeros after it
unfoldable pub long : String → ℕ → Block → ℕ → Case
long l z b n = record { line = text l ++ zeros z; on = b; number = n }

pub number_of : Line → ℕ
number_of (Asked q) = 0
number_of (Refused r) = refusal_number r

pub every : List Case → Bool
unfolding computed number_of
every [] = true
every (c ∷ l) = eqb (number_of (line_of c.line c.on.numbers)) c.number && every l

unfoldable pub table : List Case
table =
    row "0" fresh 1
    ∷ row "" fresh 1
    ∷ row "ff" fresh 1
    ∷ long "" 19837 fresh 2
    ∷ row "FF" fresh 3
    ∷ row "40" j 3
    ∷ row "10" j 3
    ∷ row "07" fresh 4
    ∷ row "0700" fresh 4
    ∷ row "0700" j 5
    ∷ row "07" j 0
    ∷ row "08" fresh 4
    ∷ row "0800" fresh 4
    ∷ row "0800" j 5
    ∷ row "08" j 0
    ∷ row "04" fresh 4
    ∷ row "0400" fresh 4
    ∷ row "0400" j 5
    ∷ row "060000000A00" j 5
    ∷ row "0100" fresh 6
    ∷ row "01010001010F4241" fresh 7
    ∷ row "0101000101000000010000" fresh 8
    ∷ row "020200000001" j 9
    ∷ row "0202" j 9
    ∷ row "0200000F4240" j 0
    ∷ row "03FF172B5AEFFF" j 11
    ∷ row "0300E8D4A51001" j 11
    ∷ row "03FFFFFFFFFFFF" j 5
    ∷ row "03FF172B5AF000" j 5
    ∷ long "03FFFFFFFFFFFF" 60 j 0
    ∷ long "03000000000001" 60 j 0
    ∷ row "05000000" j 13
    ∷ long "05000001" 48 j 0
    ∷ row "0600000000" j 15
    ∷ row "060000000000" j 15
    ∷ row "010200010202000002000000000000000000010001000001000000000003000002" fresh 0
    ∷ row "04" j 0
    ∷ row "05000001000001000000000000000001000000000001000000000000" j 0
    ∷ row "060000000A" j 0
    ∷ row "01010001010F424000" fresh 0
    ∷ long "0101000108" 50 fresh 0
    ∷ row "0101000109" fresh 6
    ∷ row "0101000101FFFFFF00" fresh 0
    ∷ row "0101000101FFFFFE" fresh 7
    ∷ row "010200010101000000000000010001FFFFFF" fresh 0
    ∷ row "010200010101000000000000010001FFFFFE" fresh 7
    ∷ row "020000FFFFFF" j 7
    ∷ row "09" fresh 5
    ∷ row "0900" fresh 6
    ∷ row "090100010000" fresh 0
    ∷ row "0901000101F5" fresh 6
    ∷ row "0902000100030102000005FF00000002FE01000001" fresh 0
    ∷ row "0902000100030102000005FF00000002FE01000001" j 0
    ∷ row "0902000100010001" fresh 19
    ∷ row "0902000100018000000001" fresh 19
    ∷ row "09020001000101FF000001" fresh 19
    ∷ row "0902000100010103" fresh 19
    ∷ row "09020001000100" fresh 5
    ∷ row "090200010001010200000100" fresh 5
    ∷ row "0902000100010102FFFFFF" fresh 7
    ∷ row "09020001000101020F4241" fresh 7
    ∷ row "0A000000000001" fresh 4
    ∷ row "0A" j 5
    ∷ row "0A02" j 9
    ∷ row "0A0002" j 9
    ∷ row "0A000000000A" j 5
    ∷ row "0A00000000000A00" j 5
    ∷ row "0A000000000000" j 0
    ∷ row "0A0101FFFFFFFF" j 0
    ∷ row "0B0100" fresh 4
    ∷ row "0B" j 5
    ∷ row "0B00" j 5
    ∷ row "0B000100" j 5
    ∷ row "0B02" j 5
    ∷ row "0B0000" j 21
    ∷ row "0B0101" j 21
    ∷ row "0B0002" j 21
    ∷ row "0B00FF" j 21
    ∷ row "0B0100" j 0
    ∷ row "0C020001000000000000000000000002" fresh 4
    ∷ row "0C" fresh 4
    ∷ row "0C" j 5
    ∷ row "0C02" j 5
    ∷ row "0C0200010000000000000000000000" j 5
    ∷ row "0C02000100000000000000000000000200" j 5
    ∷ row "0C00000000000000000000000000" j 22
    ∷ row "0C01000000000000000000000000000002" j 5
    ∷ row "0C0100000000000000000000000002" j 22
    ∷ row "0C03000100000000000002000000000002" j 22
    ∷ row "0C020002000000000003000000000001" j 22
    ∷ row "0C0200FF000000000003000000000001" j 22
    ∷ row "0C020001FFFFFFFFFFFF123456789ABC" j 0
    ∷ row "0D020000000000000003000000000001" fresh 4
    ∷ row "0D02000000000000000300000000000" j 1
    ∷ row "0D0200000000000000030000000000" j 5
    ∷ row "0D020200000000000003000000000001" j 22
    ∷ row "0D020001000000000003000000000002" j 0
    ∷ row "0E0001" fresh 4
    ∷ row "0E" j 5
    ∷ row "0E00" j 5
    ∷ row "0E000100" j 5
    ∷ row "0E0002" j 22
    ∷ row "0E0200" j 22
    ∷ row "0E0100" j 0
    ∷ row "0F" fresh 5
    ∷ row "0F01" fresh 5
    ∷ row "0F02020200" fresh 5
    ∷ row "0F00" fresh 6
    ∷ row "0F19" j 6
    ∷ row "0F0100" j 6
    ∷ row "0F0109" j 6
    ∷ row "0F020202" fresh 0
    ∷ row "0F0808080808080808" j 5
    ∷ row "0F080808080808080808" j 0
    ∷ []

pub table_right : T (every table)
unfolding computed number_of row long fresh j_with j every table
table_right = tt
