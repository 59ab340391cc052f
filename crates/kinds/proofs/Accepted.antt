-- What is known of a line of each other kind once its fields were judged fine: which fields are there, their ranges, and where the line ends.
use mathlib.Core.Path.{◌≡◌, refl, sym}
use mathlib.Core.Bool.{true}
use mathlib.Core.List.{List}
use Prim.Native.Nat.{ℕ, ◌-◌, ◌<◌, ◌≤◌}
use native.Mathlib.Omega.{arith}
use lib.Dec.{eqb}
use lib.IntN.{ℤ, nat_abs}
use borrow.Author.Tests.{eqb-true}
use Rattle.theory.specs.Order.{each_once}
use Rattle.refusals.specs.declared.Refusal.TheVariants.{Fields, Order}
use Rattle.refusals.specs.Verdicts.{Fine, then, unless}
use Rattle.refusals.proofs.Verdicts.{then_fine, unless_fine}
use Rattle.tables.specs.Block.{max_cost, trains, size}
use Rattle.tables.specs.LineLimits.{max_move, max_full_weight, max_budget}
use Rattle.frames.specs.Digits.{bytes}
use Rattle.lines.specs.declared.field.Field.{Field}
use Rattle.lines.specs.Layout.{end_of, further, below, add_train_field, add_train, add_choice_field, add_choice, points_field, add_points, lift_field, move_field, shift_lift, shift_move, full_weight_field, certify_full_weight, weight_field, budget_field, search_budget, explain_train, explain_choice, limit_field, order_field, order_train}
use Rattle.lines.specs.Verdicts.{field_verdict, end_verdict, last_verdict}
use Rattle.lines.proofs.Judged.{field-within, run_within_lem, run_around, last_fine, runs_fine}
use Rattle.kinds.specs.Lines.{choice_verdict, add_verdict, shift_verdict, certify_verdict, search_verdict, explain_verdict, order_verdict}

-- ---- a train and a choice, before a last field

pub record FineChoice (l : List ℕ) (b : List ℤ) (f : Field) : Type 0 where
  pub train : add_train l ≤ trains b - 1
  pub choice : add_choice l ≤ size b (add_train l) - 1
  pub last : field_verdict l f ≡ Fine
  pub ends : bytes l ≡ end_of f

pub choice_fine : (l : List ℕ) (b : List ℤ) (f : Field) → choice_verdict l b f ≡ Fine → FineChoice l b f
choice_fine l b f e =
    let train = below add_train_field (trains b) in
    let choice = below add_choice_field (size b (add_train l)) in
    let v = then_fine (field_verdict l train) (then (field_verdict l choice) (last_verdict l f)) e in
    let w = then_fine (field_verdict l choice) (last_verdict l f) v.1 in
    let h = last_fine l f w.1 in
    record { train = (field-within l train refl v.0).1.1; choice = (field-within l choice refl w.0).1.1; last = h.0; ends = h.1 }

-- ---- 02 add

pub record FineAdd (l : List ℕ) (b : List ℤ) : Type 0 where
  pub train : add_train l ≤ trains b - 1
  pub choice : add_choice l ≤ size b (add_train l) - 1
  pub points : add_points l ≤ max_cost
  pub ends : bytes l ≡ end_of points_field

pub add_fine : (l : List ℕ) (b : List ℤ) → add_verdict l b ≡ Fine → FineAdd l b
unfolding add_verdict
add_fine l b e =
    let f = choice_fine l b points_field e in
    record { train = f.train; choice = f.choice; points = (field-within l points_field refl f.last).1.1; ends = f.ends }

-- ---- 03 shift

pub record FineShift (l : List ℕ) (n moves : ℕ) : Type 0 where
  pub lift : (k : ℕ) → k < n → nat_abs (shift_lift l k) ≤ max_move
  pub move : (k : ℕ) → k < moves → nat_abs (shift_move l n k) ≤ max_move
  pub ends : bytes l ≡ (further (move_field n) moves).at

pub shift_fine : (l : List ℕ) (n moves : ℕ) → shift_verdict l n moves ≡ Fine → FineShift l n moves
unfolding shift_verdict
shift_fine l n moves e =
    let f = runs_fine l lift_field n (move_field n) moves e in
    record { lift = run_around l lift_field n f.0 refl; move = run_around l (move_field n) moves f.1 refl; ends = f.2 }

-- ---- 05 certify

pub record FineCertify (l : List ℕ) (weights : ℕ) : Type 0 where
  pub full_weight : (1 ≤ certify_full_weight l) × (certify_full_weight l ≤ max_full_weight)
  pub ends : bytes l ≡ (further weight_field weights).at

pub certify_fine : (l : List ℕ) (weights : ℕ) → certify_verdict l weights ≡ Fine → FineCertify l weights
unfolding certify_verdict
certify_fine l weights e =
    let f = runs_fine l full_weight_field 1 weight_field weights e in
    record { full_weight = run_within_lem l full_weight_field 1 f.0 refl 0 (omega arith); ends = f.2 }

-- ---- 06 search

pub record FineSearch (l : List ℕ) : Type 0 where
  pub budget : (1 ≤ search_budget l) × (search_budget l ≤ max_budget)
  pub ends : bytes l ≡ end_of budget_field

pub search_fine : (l : List ℕ) → search_verdict l ≡ Fine → FineSearch l
unfolding search_verdict
search_fine l e =
    let f = last_fine l budget_field e in
    record { budget = (field-within l budget_field refl f.0).1; ends = f.1 }

-- ---- 0A, why a choice is out: its limit is any number

pub record FineExplain (l : List ℕ) (b : List ℤ) : Type 0 where
  pub train : explain_train l ≤ trains b - 1
  pub choice : explain_choice l ≤ size b (explain_train l) - 1
  pub ends : bytes l ≡ end_of limit_field

pub explain_fine : (l : List ℕ) (b : List ℤ) → explain_verdict l b ≡ Fine → FineExplain l b
unfolding explain_verdict
explain_fine l b e =
    let f = choice_fine l b limit_field e in
    record { train = f.train; choice = f.choice; ends = f.ends }

-- ---- 0B, the order of the trains

pub record FineOrder (l : List ℕ) (n : ℕ) : Type 0 where
  pub once : each_once n (order_train l) ≡ true
  pub ends : bytes l ≡ (further order_field n).at

pub order_fine : (l : List ℕ) (n : ℕ) → order_verdict l n ≡ Fine → FineOrder l n
unfolding order_verdict
order_fine l n e =
    let at = (further order_field n).at in
    let v = then_fine (end_verdict (bytes l) at) (unless (each_once n (order_train l)) Order) e in
    record { once = unless_fine (each_once n (order_train l)) Order v.1; ends = sym (eqb-true at (bytes l) (unless_fine (eqb at (bytes l)) Fields v.0)) }
