-- What an accepted line is: its frame, its kind's verdict, and its request. And back: a frame with a kind whose fields are fine asks its request.
use mathlib.Core.Path.{◌≡◌, refl, sym, subst}
use mathlib.Core.Bool.{Bool, true, false, cond, ◌&&◌}
use mathlib.Core.List.{List}
use Prim.Native.Nat.{ℕ, ◌-◌, ◌<◌, ◌≤◌, ◌^◌}
use native.Mathlib.Omega.{arith}
use lib.IntN.{ℤ}
use lib.ListN.{length}
use borrow.Author.Tests.{le-ltb}
use Rattle.std.specs.Prelude.{Result, Ok, Err}
use Rattle.theory.proofs.Sum.{part_inside}
use Rattle.refusals.specs.declared.Refusal.{Refusal}
use Rattle.refusals.specs.Verdicts.{Verdict, Fine}
use Rattle.tables.specs.Block.{trains, size}
use Rattle.tables.specs.WellFormed.{is_fresh, Study}
use Rattle.tables.proofs.Study.{trains_range, size_range}
use Rattle.frames.specs.Digits.{bytes}
use Rattle.frames.specs.Frames.{max_characters, new_frame, Framed}
use Rattle.frames.proofs.Bytes.{Whole, framed_whole, new_framed}
use Rattle.frames.proofs.Widths.{field_below}
use Rattle.lines.specs.declared.kind.Kind.{Kind}
use Rattle.lines.specs.declared.kind.Kind.TheVariants.{Load}
use Rattle.lines.specs.declared.request.Request.{Request}
use Rattle.lines.specs.declared.request.Line.{Line}
use Rattle.lines.specs.declared.request.Line.TheVariants.{Asked, Refused}
use Rattle.lines.specs.Kinds.{kind_number, new_kind, needs_study, request_kind}
use Rattle.lines.specs.Layout.{kind_of, number_in, further, weight_width, weight_field, add_train, add_choice, explain_train, explain_choice, limit_width, limit_field, explain_limit}
use Rattle.lines.proofs.KindNumbers.{number_kind}
use Rattle.kinds.specs.Lines.{concluded, kind_verdict, kind_request, study_line}
use Rattle.kinds.proofs.Accepted.{FineAdd, FineCertify, FineExplain}
use Rattle.reader.specs.Reading.{new_kind_line, kind_line, framed_line, line_of}

-- a line that concludes with a request made it
concluded_asked : (v : Verdict) (r q : Request) → concluded v r ≡ Asked q → (v ≡ Fine) × (r ≡ q)
concluded_asked (Ok tt) r q e = (refl, cc)
concluded_asked (Err d) r q e = let z : ◌≡◌ {A = ℕ} 0 1 = cc in absurd (omega arith)

refused_asked : {r : Refusal} {q : Request} → Refused r ≡ Asked q → ⊥
refused_asked e = let z : ◌≡◌ {A = ℕ} 0 1 = cc in omega arith

-- a test and its two ways
module _ {P : Type 0} (z : Line) where
  ways : (t : Bool) (x y : Line) → cond t x y ≡ z → (x ≡ z → P) → (t ≡ false → y ≡ z → P) → P
  ways true x y e f g = f e
  ways false x y e f g = g refl e

-- what an accepted line is: a frame of a kind, whose fields were judged fine and make the request; a kind that needs a study found one
pub record Accepted (l : List ℕ) (b : List ℤ) (q : Request) : Type 0 where
  pub framed : Framed l (bytes l)
  pub kind : Kind
  pub known : new_kind (kind_of l) ≡ Ok kind
  pub fine : kind_verdict kind l b ≡ Fine
  pub made : kind_request kind l b ≡ q
  pub loaded : needs_study kind && is_fresh b ≡ false

module _ (l : List ℕ) (b : List ℤ) (q : Request) where
  study_accepted : Framed l (bytes l) → (k : Kind) → new_kind (kind_of l) ≡ Ok k → study_line k l b ≡ Asked q → Accepted l b q
  unfolding study_line
  study_accepted w k p e =
      ways (Asked q) (needs_study k && is_fresh b) _ _ e (λ f. absurd (refused_asked f))
      (λ h. λ f. let c = concluded_asked (kind_verdict k l b) (kind_request k l b) q f in record { framed = w; kind = k; known = p; fine = c.0; made = c.1; loaded = h })

  kind_accepted : Framed l (bytes l) → kind_line l b ≡ Asked q → Accepted l b q
  unfolding kind_line
  kind_accepted w e = go (new_kind (kind_of l)) refl e
    where
      go : (n : Result Kind Refusal) → new_kind (kind_of l) ≡ n → new_kind_line n l b ≡ Asked q → Accepted l b q
      go (Ok k) p e = study_accepted w k p e
      go (Err r) p e = absurd (refused_asked e)

  pub line_accepted : line_of l b ≡ Asked q → Accepted l b q
  unfolding line_of
  line_accepted e = go (new_frame l) refl e
    where
      go : (v : Verdict) → new_frame l ≡ v → framed_line v l b ≡ Asked q → Accepted l b q
      go (Ok tt) p e = kind_accepted (new_framed l p) e
      go (Err r) p e = absurd (refused_asked e)

-- the request of each kind is of that kind
pub request_kind_lem : (k : Kind) (l : List ℕ) (b : List ℤ) → request_kind (kind_request k l b) ≡ k
request_kind_lem Load l b = refl
request_kind_lem k l b = refl

-- a request that a line makes of a block, by the request's kind: its fields are the line's, they were judged fine, and a kind that needs a study found one
abbrev pub Makes : List ℕ → List ℤ → Request → Type 0
Makes l b q = (q ≡ kind_request (request_kind q) l b) × (kind_verdict (request_kind q) l b ≡ Fine) × (needs_study (request_kind q) && is_fresh b ≡ false)

module _ (l : List ℕ) (b : List ℤ) (q : Request) where
  -- an accepted line is a frame, of at most 19,836 characters, and makes its request
  pub line_makes : line_of l b ≡ Asked q → Framed l (bytes l) × Makes l b q
  line_makes e =
      let a = line_accepted l b q e in (
        a.framed,
        subst (λ (r : Request). Makes l b r) a.made
            (subst (λ (j : Kind). (kind_request a.kind l b ≡ kind_request j l b) × (kind_verdict j l b ≡ Fine) × (needs_study j && is_fresh b ≡ false))
            (sym (request_kind_lem a.kind l b)) (refl, a.fine, a.loaded)),
      )

-- ---- what the kinds' fields are then

-- how many characters: two for each byte
pub frame_length : {l : List ℕ} → Framed l (bytes l) → Whole l
frame_length {l} f = framed_whole l f.digits

-- 9 excludes a train or a choice that is not there
there : {b : List ℤ} (i a : ℕ) → Study b → i ≤ trains b - 1 → a ≤ size b i - 1 → (i < trains b) × (a < size b i)
there {b} i a s train choice =
    let t : i < trains b = omega (arith, train, trains_range s) in
    (t, omega (arith, choice, size_range s i t))

pub add_there : {l : List ℕ} {b : List ℤ} → Study b → FineAdd l b → (add_train l < trains b) × (add_choice l < size b (add_train l))
add_there {l} {b} s f = there (add_train l) (add_choice l) s f.train f.choice

pub explain_there : {l : List ℕ} {b : List ℤ} → Study b → FineExplain l b → (explain_train l < trains b) × (explain_choice l < size b (explain_train l))
explain_there {l} {b} s f = there (explain_train l) (explain_choice l) s f.train f.choice

-- a weight is any number of 3 bytes
pub weight_below : {l : List ℕ} {weights : ℕ} → Whole l → FineCertify l weights → (k : ℕ) → k < weights → number_in l (further weight_field k) < 2 ^ 24
weight_below {l} {weights} w f k h = field_below w (further weight_field k).at weight_width (omega (arith, part_inside weight_width k weights h, f.ends))

-- a limit is any number of 4 bytes
pub limit_below : {l : List ℕ} {b : List ℤ} → Whole l → FineExplain l b → explain_limit l < 2 ^ 32
limit_below {l} {b} w f = field_below w limit_field.at limit_width (omega (arith, f.ends))

-- ---- the other way

-- a frame of a kind whose fields are judged fine asks what they say
pub line_asks : (k : Kind) (l : List ℕ) (b : List ℤ) (n : ℕ) → Framed l n → kind_of l ≡ kind_number k → needs_study k && is_fresh b ≡ false → kind_verdict k l b ≡ Fine
    → line_of l b ≡ Asked (kind_request k l b)
unfolding line_of kind_line study_line
line_asks k l b n f known loaded fine = rw (le-ltb max_characters (length l) f.short, f.digits, known, number_kind k, loaded, fine)
