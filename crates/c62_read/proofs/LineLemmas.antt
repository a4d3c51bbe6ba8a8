-- The first line of a text.
use Rattle.c62_read.proofs.Common.{◌≡◌, ◌<◌, ℕ, ◌+◌, false, eqb, List, [], ◌∷◌, ◌++◌, length, take, drop, Some, None}
use Rattle.c62_read.proofs.Common.{nat_tests, arith, if◌then◌else◌}
use Rattle.c62_read.proofs.Common.{list_any, is_line_feed, lines_of}
use Rattle.memchr.specs.Find.{IsFirstByte, is_byte}
use Rattle.c62_read.specs.Text.{without_return}
use Rattle.c62_read.proofs.FirstByte.{fed_at, not_fed}

-- a line is without the carriage return that stands last
pub without_last : (rest : List ℕ) (b : ℕ)
    → without_return (rest ++ b ∷ []) ≡ (if eqb b 13 then rest else (rest ++ b ∷ []))
without_last (a ∷ c ∷ rest) b = grind (arith, nat_tests, without_last (c ∷ rest) b)
without_last rest b = grind (arith, nat_tests)

-- ---- bytes without a line feed

-- in front of a line feed they are a line
before_feed : (line rest : List ℕ) → list_any is_line_feed line ≡ false
    → lines_of (line ++ 10 ∷ rest) ≡ without_return line ∷ lines_of rest
before_feed (b ∷ c ∷ line) rest none = grind (arith, nat_tests, before_feed (c ∷ line) rest)
before_feed line rest none = grind (arith, nat_tests)

-- at the end of the text they are the last line
at_end : (b : ℕ) (line : List ℕ) → list_any is_line_feed (b ∷ line) ≡ false → lines_of (b ∷ line) ≡ (b ∷ line) ∷ []
at_end b [] none = grind (arith, nat_tests)
at_end b (c ∷ line) none = grind (arith, nat_tests, at_end c line)

-- ---- the first line of a text

pub first_is : (text : List ℕ) (k : ℕ) → IsFirstByte (is_byte 10) text (Some k)
    → lines_of text ≡ without_return (take k text) ∷ lines_of (drop (k + 1) text)
first_is text k found = let fed = fed_at text k found in cc
    (before_feed (take k text) (drop (k + 1) text) fed.none, fed.split)

pub only_is : (text : List ℕ) → 0 < length text → IsFirstByte (is_byte 10) text None → lines_of text ≡ text ∷ []
only_is [] some none = absurd (omega (arith, some))
only_is (b ∷ text) some none = at_end b text (not_fed (b ∷ text) none)
