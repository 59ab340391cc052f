-- Document 02, change 10: the trains of a study in the order in which they are tried.
use Rattle.std.specs.Prelude.{List, ℕ, ℤ, pos, length, set}
use Rattle.theory.specs.Fold.{iter}
use Rattle.theory.specs.Lists.{nth}
use Rattle.tables.specs.Block.{order_place}

-- the trains f 0 to f (n - 1), in this order
abbrev pub order_stored : ℕ → (ℕ → ℕ) → List ℤ → List ℤ
order_stored n f b = iter n (λ d x. set x (order_place d) (pos (f d))) b

-- the block with the order that a list gives: 'Kind 0B gives n train numbers'
abbrev pub ordered_block : List ℕ → List ℤ → List ℤ
ordered_block l b = order_stored (length l) (nth l) b
