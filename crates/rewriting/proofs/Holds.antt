-- A block that holds natural numbers at its constant and at the open entries of a shape: a study does, by its own shape and by every shape that agrees with it, and so does a block on
-- the way that has no open number below 0.
use mathlib.Core.Path.{◌≡◌, sym, ◌∙◌}
use mathlib.Core.Bool.{true}
use mathlib.Core.List.{List}
use Prim.Native.Nat.{ℕ, ◌<◌}
use native.Mathlib.Omega.{arith}
use lib.IntN.{ℤ, pos}
use Rattle.tables.specs.Block.{max_pairs, constant_place, held_choice_place, held_entry_place, at, first, second}
use Rattle.tables.specs.Plans.{Shape, AlikeShapes, Costs, shape_of, held_costs}
use Rattle.tables.specs.WellFormed.{Study}
use Rattle.tables.proofs.Limits.{open_natural}
use Rattle.tables.proofs.Study.{choice_open_lem, entry_open_lem}
use Rattle.tables.proofs.Plans.{Shaped, first-size, second-size}
use Rattle.rewriting.specs.Moves.{ShapeInRange}
use Rattle.rewriting.specs.Leasts.{NonNegative}
use Rattle.rewriting.proofs.Shape.{SameLoaded}
use Rattle.rewriting.proofs.Opens.{open_constant, open_choice, open_entry, open_same, study_constant}

-- at the constant and at all open entries of s, b holds the natural numbers t
pub record Holds (s : Shape) (b : List ℤ) (t : Costs) : Type 0 where
  pub constant : at b constant_place ≡ pos t.constant
  pub choices : (i a : ℕ) → i < s.trains → a < s.size i → s.choice_open i a ≡ true → at b (held_choice_place i a) ≡ pos (t.choice i a)
  pub entries : (k a c : ℕ) → k < s.pairs → a < s.size (s.first k) → c < s.size (s.second k) → s.entry_open k a c ≡ true → at b (held_entry_place k a c) ≡ pos (t.pair k a c)

-- by a shape that agrees where it is used
pub holds_alike : {s u : Shape} {b : List ℤ} {t : Costs} → AlikeShapes s u → Shaped s → Holds u b t → Holds s b t
holds_alike e sh x =
    record {
      constant = x.constant;
      choices = λ i a h q o. x.choices i a (omega (arith, e.trains_same)) (omega (arith, e.sizes_same i h)) (sym (e.choices_open_same i a h q) ∙ o);
      entries = λ k a c h q r o.
          x.entries k a c (omega (arith, e.pairs_same)) (omega (arith, first-size e sh k h)) (omega (arith, second-size e sh k h)) (sym (e.entries_open_same k a c h q r) ∙ o);
    }

-- closed in T is closed in H
pub study_held : {b : List ℤ} → Study b → Holds (shape_of b) b (held_costs b)
unfolding held_costs
study_held {b} s =
    record {
      constant = study_constant s;
      choices = λ i a h q o. open_natural b (held_choice_place i a) (sym (choice_open_lem s i a h q) ∙ o);
      entries = λ k a c h q r o. open_natural b (held_entry_place k a c) (sym (entry_open_lem s k h a c q r) ∙ o);
    }

pub non_negative_held : {b c : List ℤ} → ShapeInRange b → SameLoaded b c → NonNegative c → Holds (shape_of b) c (held_costs c)
unfolding held_costs
non_negative_held {b} {c} s e o =
    record {
      constant = o.natural constant_place (omega arith) (open_constant c);
      choices = λ i a h q t.
          let z = s.sizes i (omega (arith, s.trains)) in
          let n = s.trains in
          o.natural (held_choice_place i a) (omega arith) (open_same e (held_choice_place i a) ∙ open_choice b i a (omega arith) (omega arith) ∙ t);
      entries = λ k a d h q r t.
          let l : k < max_pairs = omega (arith, s.pairs) in
          let y = s.sizes (first b k) (s.firsts k l) in
          let z = s.sizes (second b k) (s.seconds k l) in
          o.natural (held_entry_place k a d) (omega arith) (open_same e (held_entry_place k a d) ∙ open_entry b k a d (omega arith) (omega arith) (omega arith) ∙ t);
    }
