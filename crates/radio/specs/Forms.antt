-- Document 02, change 14: the second form of lines and of replies, and what they are without its two additions, 40 in the kind and a last byte.
use Rattle.std.specs.Prelude.{Bool, cond, ◌&&◌, List, [], ◌++◌, ℕ, ◌+◌, ◌*◌, ◌-◌, ◌%◌, eqb, length, take, drop, is_ok}
use Rattle.refusals.specs.Verdicts.{is_fine}
use Rattle.frames.specs.ByteSum.{byte_sum}
use Rattle.frames.specs.Fields.{field_digits}
use Rattle.frames.specs.Frames.{new_frame}
use Rattle.lines.specs.Kinds.{new_kind}
use Rattle.lines.specs.Layout.{kind_width, kind_of}
use Rattle.replies.specs.Replies.{refusal_byte}
use Rattle.replies.specs.Shown.{kind_shown}

-- ---- the two additions

-- '40 hexadecimal'
abbrev pub radio_added : ℕ
radio_added = 64

-- 'a further byte'
abbrev pub sum_width : ℕ
sum_width = 1

-- this first byte, and what stands behind the one that is there
abbrev pub with_kind : ℕ → List ℕ → List ℕ
with_kind kind l = field_digits kind_width kind (drop (2 * kind_width) l)

-- the byte that takes the sum of all bytes to 0, 'carried round at 256'
abbrev pub missing : List ℕ → ℕ
missing l = (256 - byte_sum l) % 256

-- 'ends in a further byte such that the sum of all its bytes, carried round at 256, is 0'
abbrev pub with_sum : List ℕ → List ℕ
with_sum l = l ++ field_digits sum_width (missing l) []

abbrev pub without_sum : List ℕ → List ℕ
without_sum l = take (length l - 2 * sum_width) l

-- ---- lines

-- the second form of a line
unfoldable pub radio_line : List ℕ → List ℕ
radio_line l = with_sum (with_kind (kind_of l + radio_added) l)

-- a line 'with the two additions removed'
unfoldable pub plain_line : List ℕ → List ℕ
plain_line l = with_kind (kind_of l - radio_added) (without_sum l)

-- 'A line whose kind has 40 hexadecimal added': 'Every kind so far has this second form', and '1, 2, 3 and 16 come before the kind is known'. Whether its sum is right is another question: 25
unfoldable pub is_radio : List ℕ → Bool
is_radio l = is_ok (new_kind (kind_of l - radio_added)) && is_fine (new_frame l)

-- a line in either form, in its plain one
abbrev pub as_plain : List ℕ → List ℕ
as_plain l = cond (is_radio l) (plain_line l) l

-- ---- replies

-- 'the reply's kind gains the same 40, and FF stays FF'
abbrev pub raised : List ℕ → List ℕ
raised r = cond (eqb (kind_shown r) refusal_byte) r (with_kind (kind_shown r + radio_added) r)

abbrev pub lowered : List ℕ → List ℕ
lowered r = cond (eqb (kind_shown r) refusal_byte) r (with_kind (kind_shown r - radio_added) r)

-- the second form of a reply: 'Every reply to such a line then ends so too', and '17 stays empty'
unfoldable pub radio_reply : List ℕ → List ℕ
radio_reply r = cond (eqb (length r) 0) [] (with_sum (raised r))

-- a reply 'with the two additions removed'
unfoldable pub plain_reply : List ℕ → List ℕ
plain_reply r = cond (eqb (length r) 0) [] (lowered (without_sum r))
