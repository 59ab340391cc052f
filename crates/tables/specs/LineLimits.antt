-- Document 01, 'What is declined' 11, 13 and 15, and document 02, change 7: the ranges of the numbers that lines carry, beside those of the block.
use Rattle.std.specs.Prelude.{ℕ}

-- 11: how far a lift or a move is from 0 at most, in parts: 'A lift may now be −10^12 to 10^12' (document 02, change 3), 'move outside ±10^12'
abbrev pub max_move : ℕ
max_move = 1000000000000

-- 'W outside 1 to 100,000'
abbrev pub max_full_weight : ℕ
max_full_weight = 100000

-- 'budget outside 1 to 10,000,000'
abbrev pub max_budget : ℕ
max_budget = 10000000

-- 'count (2 bytes, at most 500, else 6)'
abbrev pub max_clauses : ℕ
max_clauses = 500
