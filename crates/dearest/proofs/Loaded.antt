-- The dearest study: its numbers are in range, and the block that they load is level.
use mathlib.Core.Path.{◌≡◌, refl, sym, ap, ◌∙◌}
use mathlib.Core.Bool.{Bool, true, false, cond}
use mathlib.Core.List.{List, []}
use Prim.Native.Nat.{ℕ, ◌+◌, ◌-◌, ◌<◌}
use native.Mathlib.Nat.{one-mul}
use native.Mathlib.Omega.{arith}
use lib.Dec.{leb}
use lib.ListN.{length, get_or-eq_default}
use borrow.Author.Tests.{le-leb, lt-leb}
use Rattle.theory.specs.Sum.{sum}
use Rattle.theory.specs.Lists.{nth}
use Rattle.theory.specs.Tries.{tries_of}
use Rattle.theory.proofs.Sum.{sum_none, sum_more, sum_front}
use Rattle.theory.proofs.Lists.{list_length, list_nth, list_all}
use Rattle.theory.proofs.Tries.{tries_of_cong}
use Rattle.tables.specs.Block.{loaded_choice_place, at, trains, size, held_choice, order}
use Rattle.tables.specs.WellFormed.{is_open, Study}
use Rattle.tables.specs.Plans.{shape_of, held_costs}
use Rattle.tables.specs.Numbers.{InRange, is_cost, permits, paid, choice_given}
use Rattle.operations.specs.Load.{loaded_block}
use Rattle.operations.proofs.Loaded.{load_trains_lem, load_pairs_lem, load_constant, load_size_lem, load_order_lem, load_held_choice, load_choice_open, load_study}
use Rattle.dearest.specs.Dearest.{SizesRight, dearest_tries, dearest_cost, dearest}
use Rattle.dearest.specs.Levels.{Level}

-- what holds of both numbers holds of the one that a test picks
either : (P : ℕ → Type 0) (t : Bool) {v w : ℕ} → P v → P w → P (cond t v w)
either P true p q = p
either P false p q = q

no_cost : (o : ℕ) → is_cost (nth [] o) ≡ true
unfolding is_cost
no_cost o = ap is_cost (get_or-eq_default [] 0 {n = o} (omega arith))

module _ {sizes : List ℕ} (r : SizesRight sizes) where
  -- ---- the numbers are in range

  pub dearest_in_range : InRange (dearest sizes)
  unfolding dearest is_cost
  dearest_in_range =
      record {
        trains = r.trains;
        scale = (omega arith, omega arith);
        pairs = (omega arith, refl);
        sizes = r.each;
        choices = list_length _ _;
        entries = sym (sum_none _);
        choice_costs = list_all (λ c. is_cost c ≡ true) refl (sum (length sizes) (nth sizes)) _ (λ k h. either (λ c. is_cost c ≡ true) (leb (sum (length sizes - 1) (nth sizes)) k) refl refl);
        entry_costs = no_cost;
        below = λ k h. absurd (omega arith);
        ascending = λ k h. absurd (omega arith);
      }

  -- ---- the block that they load

  pub dearest_study : Study (loaded_block (dearest sizes))
  dearest_study = load_study dearest_in_range

  pub dearest_trains : trains (loaded_block (dearest sizes)) ≡ length sizes
  unfolding dearest
  dearest_trains = load_trains_lem dearest_in_range

  pub dearest_size : (i : ℕ) → i < length sizes → size (loaded_block (dearest sizes)) i ≡ nth sizes i
  unfolding dearest
  dearest_size = load_size_lem dearest_in_range

  -- its trains are in the order of loading
  pub dearest_order : (d : ℕ) → d < trains (loaded_block (dearest sizes)) → order (loaded_block (dearest sizes)) d ≡ d
  unfolding dearest
  dearest_order d h = load_order_lem dearest_in_range d (omega (arith, dearest_trains))

  -- the number of tries of the block is that of the sizes
  pub dearest_block_tries : tries_of (trains (loaded_block (dearest sizes))) (size (loaded_block (dearest sizes))) ≡ dearest_tries sizes
  dearest_block_tries = ap (λ (n : ℕ). tries_of n (size (loaded_block (dearest sizes)))) dearest_trains ∙ tries_of_cong (length sizes) _ _ dearest_size

  -- ---- it is level

  module _ (d a : ℕ) (h : d < length sizes) (q : a < nth sizes d) where
    -- the cost of choice a of train d
    given : choice_given (dearest sizes) d a ≡ dearest_cost sizes (sum d (nth sizes) + a)
    unfolding dearest
    given =
        list_nth _ 0 (sum (length sizes) (nth sizes)) (sum d (nth sizes) + a)
        (omega (arith, sum_more d (nth sizes), sum_front (d + 1) (length sizes) (nth sizes) (omega arith)))

    held : held_choice (loaded_block (dearest sizes)) d a ≡ dearest_cost sizes (sum d (nth sizes) + a)
    unfolding dearest paid permits
    held =
        load_held_choice dearest_in_range d a h q ∙ one-mul _ ∙ ap paid given
        ∙ either (λ c. paid c ≡ c) (leb (sum (length sizes - 1) (nth sizes)) (sum d (nth sizes) + a)) refl refl

    held_before : d + 1 < length sizes → held_choice (loaded_block (dearest sizes)) d a ≡ 0
    held_before l =
        let e = lt-leb (sum (length sizes - 1) (nth sizes)) (sum d (nth sizes) + a) (omega (arith, sum_more d (nth sizes), sum_front (d + 1) (length sizes - 1) (nth sizes) (omega arith))) in
        held ∙ rw e

    held_last : d + 1 ≡ length sizes → held_choice (loaded_block (dearest sizes)) d a ≡ 1
    held_last l =
        let z : length sizes - 1 ≡ d = omega arith in
        let e = le-leb (sum (length sizes - 1) (nth sizes)) (sum d (nth sizes) + a) (omega (arith, ap (λ (m : ℕ). sum m (nth sizes)) z)) in
        held ∙ rw e

    open_choice : is_open (at (loaded_block (dearest sizes)) (loaded_choice_place d a)) ≡ true
    unfolding dearest permits
    open_choice =
        load_choice_open dearest_in_range d a h q ∙ ap permits given
        ∙ either (λ c. permits c ≡ true) (leb (sum (length sizes - 1) (nth sizes)) (sum d (nth sizes) + a)) refl refl

  pub dearest_level : Level (shape_of (loaded_block (dearest sizes))) (held_costs (loaded_block (dearest sizes)))
  unfolding dearest held_costs
  dearest_level =
      record {
        constant = load_constant dearest_in_range;
        pairs = load_pairs_lem dearest_in_range;
        before = λ d a h q.
            let l : d + 1 < length sizes = omega (arith, dearest_trains) in
            held_before d a (omega arith) (omega (arith, dearest_size d (omega arith))) l;
        last = λ d a h q.
            let l : d + 1 ≡ length sizes = omega (arith, dearest_trains) in
            held_last d a (omega arith) (omega (arith, dearest_size d (omega arith))) l;
        permitted = λ d a h q.
            let l : d < length sizes = omega (arith, dearest_trains) in
            open_choice d a l (omega (arith, dearest_size d l));
      }
