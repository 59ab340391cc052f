-- Source document 000, Algorithm 1: Project and UnaryProject, all together. What goes towards the constant stands in one `Moves`, what comes back in another, so that all is in naturals.
use Rattle.std.specs.Prelude.{◌≡◌, true, cond, ℕ, ◌+◌, ◌<◌, eqb}
use Rattle.theory.specs.Sum.{sum}
use Rattle.tables.specs.Plans.{Costs, Shape}

-- from each choice of a train to the constant, from each row and each column of a pair to its choice
pub record Moves : Type 0 where
  pub lift : ℕ → ℕ
  pub row : ℕ → ℕ → ℕ
  pub column : ℕ → ℕ → ℕ

-- what choice a of train i is given from pair k
abbrev pub given_by : Shape → Moves → ℕ → ℕ → ℕ → ℕ
given_by s m i a k = cond (eqb (s.first k) i) (m.row k a) 0 + cond (eqb (s.second k) i) (m.column k a) 0

-- 'all moves of train i, choice a'
unfoldable pub given : Shape → Moves → ℕ → ℕ → ℕ
given s m i a = sum s.pairs (given_by s m i a)

-- u is t after the moves `up` and the moves `down` back, on open entries: nothing is said of what is forbidden
pub record Rewritten (s : Shape) (t u : Costs) (up down : Moves) : Type 0 where
  pub constant : u.constant + sum s.trains down.lift ≡ t.constant + sum s.trains up.lift
  pub choices : (i a : ℕ) → i < s.trains → a < s.size i → s.choice_open i a ≡ true
      → u.choice i a + up.lift i + given s down i a ≡ t.choice i a + down.lift i + given s up i a
  pub entries : (k a c : ℕ) → k < s.pairs → a < s.size (s.first k) → c < s.size (s.second k) → s.entry_open k a c ≡ true
      → u.pair k a c + up.row k a + up.column k c ≡ t.pair k a c + down.row k a + down.column k c

-- no moves
abbrev pub no_moves : Moves
no_moves = record { lift = λ i. 0; row = λ k a. 0; column = λ k c. 0 }

-- two sets of moves together
abbrev pub together : Moves → Moves → Moves
together m n =
    record { lift = λ i. m.lift i + n.lift i; row = λ k a. m.row k a + n.row k a; column = λ k c. m.column k c + n.column k c }
