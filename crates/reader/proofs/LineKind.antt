-- The kind of an accepted line is its request's.
use mathlib.Core.Path.{◌≡◌, sym, ap, ◌∙◌}
use mathlib.Core.List.{List}
use Prim.Native.Nat.{ℕ}
use lib.IntN.{ℤ}
use Rattle.std.specs.Prelude.{Ok}
use Rattle.lines.specs.declared.request.Request.{Request}
use Rattle.lines.specs.declared.request.Line.TheVariants.{Asked}
use Rattle.lines.specs.Kinds.{kind_number, new_kind, request_kind}
use Rattle.lines.specs.Layout.{kind_of}
use Rattle.lines.proofs.KindNumbers.{kind_number_lem}
use Rattle.reader.specs.Reading.{line_of}
use Rattle.reader.proofs.LineAccepted.{line_accepted, request_kind_lem}

module _ (l : List ℕ) (b : List ℤ) (q : Request) (e : line_of l b ≡ Asked q) where
  pub line_known : new_kind (kind_of l) ≡ Ok (request_kind q)
  line_known =
      let a = line_accepted l b q e in
      let f : a.kind ≡ request_kind q = sym (request_kind_lem a.kind l b) ∙ ap request_kind a.made in
      rw (← f) a.known

  -- an accepted line's first byte is its request's kind
  pub line_kind : kind_of l ≡ kind_number (request_kind q)
  line_kind = kind_number_lem (kind_of l) (request_kind q) line_known
