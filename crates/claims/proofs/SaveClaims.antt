-- What is claimed of a save: every block takes its reply as a load line, and the numbers of that line, which are those of the block, are the ledger's.
use mathlib.Core.Path.{◌≡◌, ◌∙◌}
use mathlib.Core.List.{List}
use Prim.Native.Nat.{ℕ, ◌<◌}
use native.Mathlib.Omega.{arith}
use lib.IntN.{ℤ}
use Rattle.tables.specs.Block.{trains, pairs, size, first, second}
use Rattle.tables.specs.Numbers.{Numbers, numbers_shape, numbers_costs, InRange}
use Rattle.tables.proofs.Plans.{Shaped, study_shaped, alike_shaped, alike_then}
use Rattle.tables.proofs.Study.{first-below-trains, second-below-trains}
use Rattle.operations.specs.Saved.{saved_numbers}
use Rattle.operations.proofs.Loaded.{load_study, load_alike}
use Rattle.numbers.proofs.Saved.{saved-scale, saved_alike, saved_choice, saved_entry, saved_range}
use Rattle.lines.specs.Text.{load_digits}
use Rattle.saving.proofs.Together.{save_numbers}
use Rattle.saving.proofs.SavedLines.{save_read}
use Rattle.service.specs.Calls.{exchange}
use Rattle.claims.specs.Ledger.{Ledger, numbers_ledger}
use Rattle.claims.specs.Claims.{SameLedger, SaveClaim}
use Rattle.claims.proofs.Keeps.{Keeps}

-- the shape of numbers in range, by the block that they load
numbers_shaped : {l : Numbers} → InRange l → Shaped (numbers_shape l)
numbers_shaped r = alike_shaped (load_alike r) (study_shaped (load_study r))

module _ {g : Ledger} {b : List ℤ} (k : Keeps g b) where
  same_choice : (i a : ℕ) → i < trains b → a < size b i → (numbers_costs (saved_numbers b)).choice i a ≡ g.costs.choice i a
  same_choice i a h q = saved_choice k.study i a h q ∙ k.same.choices_same i a h q

  same_entry : (m a c : ℕ) → m < pairs b → a < size b (first b m) → c < size b (second b m) → (numbers_costs (saved_numbers b)).pair m a c ≡ g.costs.pair m a c
  same_entry m a c h p q = saved_entry k.study m a c h p q ∙ k.same.entries_same m a c h p q

  -- the numbers of the block are the ledger's
  saved_same : SameLedger (numbers_ledger (saved_numbers b)) g
  saved_same =
      let e = saved_alike k.study in
      record {
        shape_same = alike_then e (numbers_shaped (saved_range k.study)) k.same.shape_same;
        scale_same = saved-scale b ∙ k.same.scale_same;
        choices_same = λ i a h q. same_choice i a (omega (arith, e.trains_same)) (omega (arith, e.sizes_same i h));
        entries_same = λ m a c h p q.
            let there : m < pairs b = omega (arith, e.pairs_same) in
            let rows = e.sizes_same (first b m) (omega (arith, e.trains_same, first-below-trains k.study m there)) in
            let columns = e.sizes_same (second b m) (omega (arith, e.trains_same, second-below-trains k.study m there)) in
            same_entry m a c there (omega (arith, rw (e.firsts_same m h) at p, rows)) (omega (arith, rw (e.seconds_same m h) at q, columns));
      }

  pub save_claim : (l : List ℕ) → SaveClaim g (exchange l (load_digits (saved_numbers b)))
  save_claim l = record { taken = save_read k.study; gives = rw (save_numbers k.study) saved_same }
