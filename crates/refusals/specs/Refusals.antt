-- Document 01, 'What is declined', and document 02, changes 5, 7, 10, 11, 13 and 14: the number of each refusal.
use Rattle.std.specs.Prelude.{ℕ}
use Rattle.refusals.specs.declared.Refusal.{Refusal}
use Rattle.refusals.specs.declared.Refusal.TheVariants.{Characters, TooLong, NoKind, FreshBlock, Fields, Range, Cost, Pair, Absent, CostAbove, Move, PartsOutside, FullWeight, Sums, Budget, Malformed, ForbiddenWeight, Literal, PairsAbove, Order, NotHeld, Figures, Tries, WrongSum}

abbrev pub refusal_number : Refusal → ℕ
refusal_number Characters = 1
refusal_number TooLong = 2
refusal_number NoKind = 3
refusal_number FreshBlock = 4
refusal_number Fields = 5
refusal_number Range = 6
refusal_number Cost = 7
refusal_number Pair = 8
refusal_number Absent = 9
refusal_number CostAbove = 10
refusal_number Move = 11
refusal_number PartsOutside = 12
refusal_number FullWeight = 13
refusal_number Sums = 14
refusal_number Budget = 15
refusal_number Malformed = 16
refusal_number ForbiddenWeight = 18
refusal_number Literal = 19
refusal_number PairsAbove = 20
refusal_number Order = 21
refusal_number NotHeld = 22
refusal_number Figures = 23
refusal_number Tries = 24
refusal_number WrongSum = 25
