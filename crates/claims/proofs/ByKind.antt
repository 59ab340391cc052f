-- What demand 3 claims of an accepted line, by the kind of its line or of its reply: a line has one kind at most, and a kind that is answered under its own byte is known by its reply.
use Rattle.std.specs.Prelude.{Ok}
use mathlib.Core.Path.{◌≡◌, refl, sym, ap, subst, ◌∙◌}
use mathlib.Core.Bool.{true}
use mathlib.Core.List.{List}
use mathlib.Core.Logic.{◌⊎◌, inl, inr}
use Prim.Native.Nat.{ℕ, ◌<◌}
use native.Mathlib.Omega.{arith}
use lib.IntN.{ℤ}
use Rattle.lines.specs.declared.kind.Kind.{Kind}
use Rattle.lines.specs.declared.kind.Kind.TheVariants.{Save, Dearest}
use Rattle.lines.specs.Kinds.{kind_number, new_kind}
use Rattle.lines.specs.Layout.{kind_of}
use Rattle.lines.proofs.KindNumbers.{number_kind, number_low}
use Rattle.replies.specs.Replies.{refusal_byte, reply_byte, reply_kind}
use Rattle.replies.specs.Shown.{kind_shown, accepted}
use Rattle.replies.proofs.Accepted.{accepted_as}
use Rattle.service.specs.Calls.{Exchange}
use Rattle.claims.specs.Ledger.{Ledger, by_kind}
use Rattle.claims.specs.Claims.{Claim, shown_kind, AtLine}

-- what goes by kinds, of a line of kind k
pub by_kind_lem : {A : Type 0} (f : Kind → A) (other : A) (l : List ℕ) {k : Kind} → new_kind (kind_of l) ≡ Ok k → by_kind f other l ≡ f k
by_kind_lem f other l known = rw known

-- ---- the first byte of a reply

-- a kind is answered under its own byte, or under one that is no reply's own: that of a line
shown_own : (k : Kind) → (shown_kind k ≡ reply_kind k) ⊎ (shown_kind k < reply_byte 0)
shown_own Save = inr (omega arith)
shown_own Dearest = inr (omega arith)
shown_own k = inl refl

-- which is not FF
pub reply_low : (k : Kind) → shown_kind k < refusal_byte
reply_low k = go (shown_own k)
  where
    go : (shown_kind k ≡ reply_kind k) ⊎ (shown_kind k < reply_byte 0) → shown_kind k < refusal_byte
    go (inl own) = omega (arith, own, number_low k)
    go (inr low) = omega arith

-- so that a reply under it is accepted
pub kind_accepted : (k : Kind) (reply : List ℕ) → kind_shown reply ≡ shown_kind k → accepted reply ≡ true
kind_accepted k reply e = accepted_as reply (omega (arith, e, reply_low k))

-- no other kind is answered under a kind's own byte
same_reply : (j k : Kind) → shown_kind k ≡ reply_kind k → shown_kind j ≡ shown_kind k → j ≡ k
same_reply j k own e = go (shown_own j)
  where
    go : (shown_kind j ≡ reply_kind j) ⊎ (shown_kind j < reply_byte 0) → j ≡ k
    go (inl other) =
        let number : kind_number j ≡ kind_number k = omega (arith, own, e, other) in
        let known : Ok j ≡ Ok k = sym (number_kind j) ∙ ap new_kind number ∙ number_kind k in
        cc
    go (inr low) = absurd (omega (arith, own, e))

-- ---- what is claimed

module _ {g : Ledger} {b : List ℤ} {e : Exchange} (a : AtLine g b e) where
  same_kind : (k : Kind) → new_kind (kind_of e.line) ≡ Ok k → a.kind ≡ k
  same_kind k known = let own = a.known in cc

  -- what the reply to a line of kind k shows, and what is claimed of it
  pub line_answered : (k : Kind) → new_kind (kind_of e.line) ≡ Ok k → kind_shown e.reply ≡ shown_kind k
  line_answered k known = a.answered ∙ ap shown_kind (same_kind k known)

  pub line_claim : (k : Kind) → new_kind (kind_of e.line) ≡ Ok k → Claim k g b e
  line_claim k known = subst (λ (j : Kind). Claim j g b e) (same_kind k known) a.claim

  -- what is claimed of a reply that shows kind k, where k is answered under its own byte; under a line's byte more kinds than one may be answered, and the line decides
  pub own_claim : (k : Kind) → shown_kind k ≡ reply_kind k → kind_shown e.reply ≡ shown_kind k → Claim k g b e
  own_claim k own shown = subst (λ (j : Kind). Claim j g b e) (same_reply a.kind k own (sym a.answered ∙ shown)) a.claim
