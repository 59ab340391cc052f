-- Document 01, '03 shift', as its three equations: where c0, each permitted choice and each permitted entry of a pair end, by the numbers of the line alone. u i is u_i, and p n is the n-th of the
-- moves, which come 'for each pair .. p_i,a by a, then p_j,b by b'.
use Rattle.std.specs.Prelude.{List, ℕ, ◌+◌, ℤ, pos, ◌+ℤ◌, ◌-ℤ◌}
use Rattle.theory.specs.Whole.{sumℤ}
use Rattle.tables.specs.Plans.{shape_of}
use Rattle.tables.specs.Counts.{moves_before}
use Rattle.tables.specs.Block.{trains, pairs, size, first, constant, held_choice, held_entry}
use Rattle.rewriting.specs.Ends.{of_pair, Ends}

-- p_i,a of pair k, and its p_j,b
abbrev pub row_move : (ℕ → ℤ) → List ℤ → ℕ → ℕ → ℤ
row_move p b k a = p (moves_before (shape_of b) k + a)

abbrev pub column_move : (ℕ → ℤ) → List ℤ → ℕ → ℕ → ℤ
column_move p b k c = p (moves_before (shape_of b) k + size b (first b k) + c)

-- 'all moves of train i, choice a': of each pair that has the train
abbrev pub moves_of : (ℕ → ℤ) → List ℤ → ℕ → ℕ → ℤ
moves_of p b i a = sumℤ (pairs b) (λ k. of_pair b k i (row_move p b k a) (column_move p b k a) (pos 0))

-- 'c0 grows by the sum of u_i'
abbrev pub constant_end : (ℕ → ℤ) → List ℤ → ℤ
constant_end u b = pos (constant b) +ℤ sumℤ (trains b) u

-- 'c_i(a) becomes c_i(a) − u_i plus all moves of train i, choice a'
abbrev pub choice_end : (ℕ → ℤ) → (ℕ → ℤ) → List ℤ → ℕ → ℕ → ℤ
choice_end u p b i a = (pos (held_choice b i a) -ℤ u i) +ℤ moves_of p b i a

-- 'c_ij(a,b) becomes c_ij(a,b) − p_i,a − p_j,b'
abbrev pub entry_end : (ℕ → ℤ) → List ℤ → ℕ → ℕ → ℕ → ℤ
entry_end p b k a c = (pos (held_entry b k a c) -ℤ row_move p b k a) -ℤ column_move p b k c

-- All three. That no choice and no entry ends below 0 are the two conditions of the linear programme of source document 000, Theorem 4.2, with p_i,a of a constraint as the moves of
-- a pair; and the sum of u_i is what it raises
abbrev pub shift_ends : (ℕ → ℤ) → (ℕ → ℤ) → List ℤ → Ends
shift_ends u p b = record { constant = constant_end u b; choice = choice_end u p b; entry = entry_end p b }
