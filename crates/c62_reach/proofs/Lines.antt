-- The first line of a text with its end.
use Rattle.std.proofs.Common.{◌≡◌, ◌<◌, ◌+◌, ◌∙◌, ℕ, false, List, [], ◌∷◌, ◌++◌, length, take, drop, get_or, Some, None}
use Rattle.std.proofs.Common.{refl, arith}
use Rattle.std.specs.List.{list_any}
use Rattle.std.proofs.lemmas.Bool.{eqb-true}
use Rattle.std.proofs.lemmas.Bool.Decides.{nat_tests}
use Rattle.std.proofs.lemmas.List.{take_more}
use Rattle.memchr.specs.Find.{IsFirstByte, is_byte}
use Rattle.c62_read.specs.Text.{is_line_feed}
use Rattle.c62_read.proofs.FirstByte.{fed_at, not_fed}
use Rattle.c62_reach.specs.Ended.{ended_lines}

-- bytes without a line feed in front of one are a line with it
pub before_feed : (line rest : List ℕ) → list_any is_line_feed line ≡ false
    → ended_lines (line ++ 10 ∷ rest) ≡ (line ++ 10 ∷ []) ∷ ended_lines rest
before_feed [] rest none = refl
before_feed (b ∷ line) rest none = grind (arith, nat_tests, before_feed line rest)

-- and at the end of the text they are the last line
pub at_end : (b : ℕ) (line : List ℕ) → list_any is_line_feed (b ∷ line) ≡ false
    → ended_lines (b ∷ line) ≡ (b ∷ line) ∷ []
at_end b [] none = grind (arith, nat_tests)
at_end b (c ∷ line) none = grind (arith, nat_tests, at_end c line)

-- ---- the first line of a text

pub first_is : (text : List ℕ) (k : ℕ) → IsFirstByte (is_byte 10) text (Some k)
    → ended_lines text ≡ take (k + 1) text ∷ ended_lines (drop (k + 1) text)
first_is text k found =
    let fed = fed_at text k found in
    let front : take (k + 1) text ≡ take k text ++ 10 ∷ [] = grind
    (arith, take_more text k 0, eqb-true (get_or text k 0) 10) in
    cc (before_feed (take k text) (drop (k + 1) text) fed.none, fed.split, front)

pub only_is : (text : List ℕ) → 0 < length text → IsFirstByte (is_byte 10) text None → ended_lines text ≡ text ∷ []
only_is [] some none = absurd (omega (arith, some))
only_is (b ∷ text) some none = at_end b text (not_fed (b ∷ text) none)
