-- The first line of a text.
use Rattle.c62_listing_reader.proofs.Common.{nat_tests, ◌≡◌, ◌<◌, ℕ, ◌+◌, true, false, not, List, [], ◌∷◌, ◌++◌, length}
use Rattle.c62_listing_reader.proofs.Common.{take, Some, None, refl, ap}
use Rattle.c62_listing_reader.proofs.Common.{◌∙◌, arith, ◌&&◌, ◌||◌, list_any, is_line_feed, Line, lines_in}
use Rattle.c62_listing_reader.proofs.Common.{ends_in_return, begin_filled}
use Rattle.std.proofs.Common.{eqb, drop}
use Rattle.memchr.specs.Find.{IsFirstByte, is_byte}
use Rattle.c62_read.proofs.FirstByte.{fed_at, not_fed}

pub last_return : (rest : List ℕ) (b : ℕ) → ends_in_return (rest ++ b ∷ []) ≡ eqb b 13
last_return [] b = refl
last_return (a ∷ []) b = refl
last_return (a ∷ c ∷ rest) b = last_return (c ∷ rest) b

-- a line that a line feed ends
abbrev pub fed : List ℕ → Line
fed bytes = record { bytes = bytes; fed = true }

-- ---- bytes without a line feed

-- in front of a line feed they are a line
pub before_feed : (line rest : List ℕ) → list_any is_line_feed line ≡ false
    → lines_in (line ++ 10 ∷ rest) ≡ record { bytes = line; fed = true } ∷ lines_in rest
before_feed [] rest none = refl
before_feed (b ∷ line) rest none = grind (arith, nat_tests, before_feed line rest)

-- at the end of the text they are the last line
at_end : (b : ℕ) (line : List ℕ) → list_any is_line_feed (b ∷ line) ≡ false
    → lines_in (b ∷ line) ≡ record { bytes = b ∷ line; fed = false } ∷ []
at_end b [] none = grind (arith, nat_tests)
at_end b (c ∷ line) none = grind (arith, nat_tests, at_end c line)

-- ---- the first line of a text

pub first_is : (text : List ℕ) (k : ℕ) → IsFirstByte (is_byte 10) text (Some k)
    → lines_in text ≡ record { bytes = take k text; fed = true } ∷ lines_in (drop (k + 1) text)
first_is text k found =
    let fed = fed_at text k found in
    ap lines_in fed.split ∙ before_feed (take k text) (drop (k + 1) text) fed.none

pub only_is : (text : List ℕ) → 0 < length text → IsFirstByte (is_byte 10) text None
    → lines_in text ≡ record { bytes = text; fed = false } ∷ []
only_is [] some none = absurd (omega (arith, some))
only_is (b ∷ text) some none = at_end b text (not_fed (b ∷ text) none)

-- ---- whether a text begins with a line that has bytes

pub begin_one : (b : ℕ) → begin_filled (lines_in (b ∷ [])) ≡ not (eqb b 10)
begin_one b = grind (arith, nat_tests)

pub begin_two : (b c : ℕ) (rest : List ℕ)
    → begin_filled (lines_in (b ∷ c ∷ rest)) ≡ (not (eqb b 10) && (not (eqb b 13) || not (eqb c 10)))
begin_two b c rest = grind (arith, nat_tests)
