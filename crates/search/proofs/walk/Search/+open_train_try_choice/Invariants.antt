-- What falls is 16 for each train left and 1 for each choice left: a train that is opened is left, a choice that is tried is left, and its train no more.
use Rattle.std.proofs.Common.{◌-◌, ◌≡◌, ◌+◌, ◌*◌, ◌≤◌, ℕ, get_or}
use Rattle.rows.specs.Sums.{Sums}
use Rattle.search.specs.Sought.{Sought}
use Rattle.search.specs.Held.{left_of, walk_of, Later, At, comes_to, choices_from}
use Rattle.search.proofs.walk.Search.+open_train_try_choice.Given as goal

abbrev pub decreases-open_train : goal.decreases-open_train
decreases-open_train l = 16 * (l.self.now.table.now.trains - l.t)

abbrev pub decreases-try_choice : goal.decreases-try_choice
decreases-try_choice l = 16 * (l.self.now.table.now.trains - (l.t + 1)) + (get_or l.self.now.table.now.sizes l.t 0 - l.a)

-- the tries so far lead from here to where all of them lead from the start
abbrev pub invariant-open_train-loop-a : goal.invariant-open_train-loop-a
invariant-open_train-loop-a l =
    Later l.initial.self l.t l.initial.rest l.rest l.self
    × ((p : Sought) (budget partial : ℕ) → At p l.initial.self.table.now l.initial.self.sums l.t partial l.initial.self.chosen → Sums (comes_to p l.t partial l.initial.self.chosen) l.row → left_of l.initial.rest l.initial.self.best ≤ budget + 1
    → choices_from p budget l.t l.a partial l.initial.self.chosen (walk_of budget l.rest l.self.best) ≡ choices_from p budget l.t 0 partial l.initial.self.chosen (walk_of budget l.initial.rest l.initial.self.best))
