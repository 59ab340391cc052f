-- What a function that writes a reply leaves in a lent buffer.
use Rattle.std.specs.Prelude.{◌≡◌, List, ◌++◌, ℕ, length, drop}

-- 'the written front of the reply buffer; what lies behind it stays'
abbrev pub written : List ℕ → List ℕ → List ℕ
written reply buffer = reply ++ drop (length reply) buffer

-- the reply stands in front of a buffer, and n is how many characters it has
pub record Wrote (buffer reply after : List ℕ) (n : ℕ) : Type 0 where
  pub count : n ≡ length reply
  pub front : after ≡ written reply buffer
