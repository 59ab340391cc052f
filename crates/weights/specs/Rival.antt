-- Document 02, change 5: rivals by lifts and moves. 'Start from s × the ledger's costs at that line and constant 0, and make any set of lifts and moves together, fractions allowed,
-- that leaves no permitted entry below 0: the ceiling is at least the constant that results.'
use Rattle.std.specs.Prelude.{◌≡◌, true, cond, ℕ, ◌<◌, eqb}
use Rattle.tables.specs.Plans.{Costs, Shape}
use Rattle.certificates.specs.Rival.{Fraction, as_fraction, plus, times, sum_of, AtMost}

-- an amount for each lift, each row and each column. A lift or a move of a rival is what one `Amounts` says less what another says, so that it may be below 0
pub record Amounts : Type 0 where
  pub lift : ℕ → Fraction
  pub row : ℕ → ℕ → Fraction
  pub column : ℕ → ℕ → Fraction

-- the amounts that choice a of train i is given from all pairs
unfoldable pub given_of : Shape → Amounts → ℕ → ℕ → Fraction
given_of s m i a =
    sum_of s.pairs (λ k. plus (cond (eqb (s.first k) i) (m.row k a) (as_fraction 0)) (cond (eqb (s.second k) i) (m.column k a) (as_fraction 0)))

-- from the costs t, the amounts `up` less the amounts `down` leave 'no permitted entry below 0': what is taken off each is at most what stands there and what is added
pub record Leaves (s : Shape) (t : Costs) (up down : Amounts) : Type 0 where
  pub choices : (i a : ℕ) → i < s.trains → a < s.size i → s.choice_open i a ≡ true
      → AtMost (plus (up.lift i) (given_of s down i a)) (plus (plus (as_fraction (t.choice i a)) (down.lift i)) (given_of s up i a))
  pub entries : (k a c : ℕ) → k < s.pairs → a < s.size (s.first k) → c < s.size (s.second k) → s.entry_open k a c ≡ true
      → AtMost (plus (up.row k a) (up.column k c)) (plus (plus (as_fraction (t.pair k a c)) (down.row k a)) (down.column k c))

-- W × the sum of the lifts is at most E
unfoldable pub LiftsAtMost : Shape → ℕ → ℕ → Amounts → Amounts → Type 0
LiftsAtMost s w e up down = AtMost (times w (sum_of s.trains up.lift)) (plus (as_fraction e) (times w (sum_of s.trains down.lift)))
