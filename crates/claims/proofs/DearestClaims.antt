-- What is claimed of a line of kind 0F: every block takes its reply as a load line, whose numbers are those of the dearest study of the line's sizes. Neither block nor ledger has a part in it.
use mathlib.Core.Path.{◌≡◌}
use mathlib.Core.Bool.{true}
use mathlib.Core.List.{List}
use Prim.Native.Nat.{ℕ}
use borrow.Author.Tests.{leb-true}
use Rattle.refusals.specs.Verdicts.{Fine}
use Rattle.dearest.specs.Dearest.{SizesRight, max_tries, dearest_tries, tries_within, dearest}
use Rattle.dearest.proofs.Loaded.{dearest_in_range}
use Rattle.lines.specs.Text.{load_digits}
use Rattle.kinds.specs.Dearest.{dearest_verdict}
use Rattle.kinds.proofs.DearestAccepted.{dearest_fine, sizes_count, sizes_each}
use Rattle.decoding.proofs.Written.{numbers_back}
use Rattle.saving.proofs.SavedLines.{load_read}
use Rattle.service.specs.Calls.{exchange}
use Rattle.claims.specs.Claims.{sizes_of, DearestClaim}

module _ (l : List ℕ) (v : dearest_verdict l ≡ Fine) where
  -- sizes that were judged fine are right
  sizes_right : SizesRight (sizes_of l)
  sizes_right = let f = dearest_fine l v in record { trains = sizes_count f; each = sizes_each f }

  pub dearest_claim : tries_within (sizes_of l) ≡ true → DearestClaim (exchange l (load_digits (dearest (sizes_of l))))
  dearest_claim e =
      let r = dearest_in_range sizes_right in
      record { taken = load_read r; gives = numbers_back r; few = leb-true (dearest_tries (sizes_of l)) max_tries e }
