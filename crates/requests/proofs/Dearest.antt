-- The dearest study of given sizes is answered where its search tries no more choices than may be, and declined with 24 where it tries more: '24, that sum exceeds 10,000,000'.
-- The numbers of that study are in range, and their line is as long as was asked before it was written.
use mathlib.Core.Path.{◌≡◌, refl, sym}
use mathlib.Core.Bool.{Bool, true, false, cond}
use mathlib.Core.List.{List, []}
use Prim.Native.Nat.{ℕ, ◌*◌, ◌<◌, ◌≤◌}
use native.Mathlib.Omega.{arith}
use lib.IntN.{ℤ}
use lib.ListN.{length}
use borrow.Author.Tests.{lt-ltb}
use Rattle.theory.specs.Lists.{nth}
use Rattle.theory.specs.Sum.{sum}
use Rattle.theory.proofs.Lists.{list_length}
use Rattle.theory.proofs.Range.{not_both}
use Rattle.refusals.specs.declared.Refusal.TheVariants.{Tries}
use Rattle.tables.specs.Block.{max_trains, max_choices}
use Rattle.tables.specs.Numbers.{Numbers, InRange}
use Rattle.dearest.specs.Dearest.{SizesRight, tries_within, dearest_cost, dearest}
use Rattle.dearest.proofs.Costs.{choices_most}
use Rattle.dearest.proofs.Loaded.{dearest_in_range}
use Rattle.lines.specs.Text.{load_digits, line_bytes, load_bytes}
use Rattle.decoding.proofs.Size.{load_length}
use Rattle.replies.specs.Shown.{accepted}
use Rattle.replies.proofs.Accepted.{refusal_refused}
use Rattle.requests.specs.Answer.{Answer, answered, declined, dearest_given, fitted}

module _ (sizes : List ℕ) (b : List ℤ) where
  -- whatever holds of the line and of the refusal holds of the answer
  pub dearest_cases : (P : Answer → Type 0)
      → (tries_within sizes ≡ true → P (answered b (load_digits (dearest sizes))))
      → (tries_within sizes ≡ false → P (declined b Tries))
      → P (dearest_given sizes b)
  dearest_cases P few many = go (tries_within sizes) refl
    where
      go : (t : Bool) → tries_within sizes ≡ t → P (cond t (answered b (load_digits (dearest sizes))) (declined b Tries))
      go true e = few e
      go false e = many e

  pub few_given : tries_within sizes ≡ true → dearest_given sizes b ≡ answered b (load_digits (dearest sizes))
  few_given e = rw e

  pub many_declined : tries_within sizes ≡ false → dearest_given sizes b ≡ declined b Tries
  many_declined e = rw e

  -- sizes whose line is accepted give no more tries than may be
  pub accepted_few : accepted (dearest_given sizes b).reply ≡ true → tries_within sizes ≡ true
  accepted_few = dearest_cases (λ a. accepted a.reply ≡ true → tries_within sizes ≡ true) (λ e y. e) (λ e y. absurd (not_both y (refusal_refused Tries)))

  -- 17: a line for which there is no room is not given
  pub late_given : (room : ℕ) → tries_within sizes ≡ true → room < length (load_digits (dearest sizes)) → (fitted room b (dearest_given sizes b)).reply ≡ []
  late_given room e h = rw (few_given e, lt-ltb room (length (load_digits (dearest sizes))) h) refl

-- ---- the numbers of the dearest study of sizes that are right

module _ {sizes : List ℕ} {x : Numbers} (e : x ≡ dearest sizes) (r : SizesRight sizes) where
  -- they are in range
  pub dearest_written : InRange x
  dearest_written = rw e (dearest_in_range r)

  -- no more costs than choices there may be
  pub dearest_costs_most : length x.choices ≤ max_choices * max_trains
  unfolding dearest
  dearest_costs_most = rw e (omega (arith, list_length (dearest_cost sizes) (sum (length sizes) (nth sizes)), choices_most r (length sizes) (omega arith)))

  -- and so many characters in their line
  pub dearest_length : length (load_digits (dearest sizes)) ≡ 2 * line_bytes (length sizes) (length x.choices) 0 0
  unfolding dearest
  dearest_length = rw e (load_length (dearest_in_range r))

  pub dearest_fits : 2 * load_bytes x ≡ length (load_digits (dearest sizes))
  dearest_fits = rw e (sym (load_length (dearest_in_range r)))
