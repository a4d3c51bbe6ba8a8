-- Local labels, as GNU's assembler has them (docs/ADOPT.md, "Local labels").
use Rattle.std.specs.Prelude.{ℕ, ◌+◌, ◌-◌, ◌*◌, max, Bool, true, false, not, ◌==◌, ◌&&◌, ◌||◌, nat_le, nat_lt, if◌then◌else◌, List, [], ◌∷◌, ◌++◌, length, take, replicate, get_or, codes, decimal, slice_index_or, slice_set, Option, Some, None, is_some}
use Rattle.std.specs.Char.{is_ascii_digit}
use Rattle.c62_line.specs.Line.{label_field}
use Rattle.c62_line.specs.Unit.{is_dot}
use Rattle.c62_line.specs.declared.limits.TheConstants.{MOST_LINE}
use Rattle.c62_token.specs.Kind.{Word}
use Rattle.c62_token.specs.Number.{spells}
use Rattle.c62_token.specs.Token.{begins, is_word_byte, tokens}
use Rattle.c62_adopt_line.specs.Line.{behind_colon}
use Rattle.c62_adopt_line.specs.Plain.{undotted}
use Rattle.c62_adopt_spell.specs.Statement.{is_branch}

-- ---- a local label

-- a number from 0 to 999, without zeros in front
abbrev pub leads : ℕ → Bool
leads b = nat_le 49 b && nat_le b 57

abbrev pub small_number : Word → Option ℕ
small_number (d ∷ []) = if is_ascii_digit d then Some (d - 48) else None
small_number (c ∷ d ∷ []) = if leads c && is_ascii_digit d then Some (10 * (c - 48) + (d - 48)) else None
small_number (b ∷ c ∷ d ∷ []) =
    if leads b && is_ascii_digit c && is_ascii_digit d then Some (100 * (b - 48) + 10 * (c - 48) + (d - 48)) else None
small_number _ = None

-- the number that is a line's label: it stands first, and a colon behind it
abbrev pub local_of : List Word → Option ℕ
local_of (word ∷ colon ∷ words) = if spells (codes ":") colon then small_number word else None
local_of words = None

-- what stands behind the local label of a line that has one
abbrev pub behind_if : Option ℕ → List ℕ → Option (List ℕ)
behind_if (Some n) line = Some (behind_colon line)
behind_if None line = None

abbrev pub behind_local : List ℕ → Option (List ℕ)
behind_local line = behind_if (local_of (tokens line)) line

-- ---- how many there are

-- so many labels of a number are enough for each text that is not too long
abbrev pub one_more : ℕ → ℕ
one_more count = if count == 4294967295 then count else count + 1

-- how many labels of each number stand above, below a line that has this one
abbrev pub counted : List ℕ → Option ℕ → List ℕ
counted counts None = counts
counted counts (Some n) = if nat_lt n (length counts) then slice_set counts n (one_more (slice_index_or counts n 0)) else counts

abbrev pub none_above : List ℕ
none_above = replicate 1000 0

-- ---- names

-- how many `$` stand next to one another, to 32
abbrev pub run_with : ℕ → ℕ → ℕ
run_with run b = if b == 36 then (if nat_lt run 32 then run + 1 else 32) else 0

-- at most in what stands behind so many, where the most so far are these
abbrev pub longest : ℕ → ℕ → List ℕ → ℕ
longest most run [] = most
longest most run (b ∷ text) = longest (max most (run_with run b)) (run_with run b) text

-- names of local labels begin with one `$` more than stand next to one another in the text
abbrev pub mark_of : List ℕ → List ℕ
mark_of text = replicate (longest 0 0 text + 1) 36

-- the label of this number at which the count of them is this
abbrev pub local_name : List ℕ → ℕ → ℕ → Word
local_name mark n count = mark ++ decimal n ++ codes "$" ++ decimal count

-- ---- what refers to them

-- `b` is the last one above, and `f` the next one below: whether it is below
abbrev pub way_of : ℕ → Option Bool
way_of b = if b == 98 then Some false else (if b == 102 then Some true else None)

abbrev pub numbered : Option Bool → Option ℕ → Option (ℕ × Bool)
numbered None found = None
numbered (Some below) None = None
numbered (Some below) (Some n) = Some (n, below)

abbrev pub reference_of : Word → Option (ℕ × Bool)
reference_of word = numbered (way_of (get_or word (length word - 1) 0)) (small_number (take (length word - 1) word))

-- the count of the label of this number that is meant
abbrev pub count_at : List ℕ → ℕ → Bool → ℕ
count_at counts n below = if below then slice_index_or counts n 0 + 1 else slice_index_or counts n 0

abbrev pub name_or : List ℕ → List ℕ → Word → Option (ℕ × Bool) → Word
name_or mark counts word None = word
name_or mark counts word (Some (n, below)) = local_name mark n (count_at counts n below)

abbrev pub renamed : List ℕ → List ℕ → Word → Word
renamed mark counts word = name_or mark counts word (reference_of word)

-- letters, digits, `_`, `$` and dots
abbrev pub is_name_byte : ℕ → Bool
is_name_byte b = is_word_byte b || b == 46

-- bytes with the names of what they refer to, behind this part of a word
abbrev pub referring : List ℕ → List ℕ → Word → List ℕ → List ℕ
referring mark counts word [] = renamed mark counts word
referring mark counts word (b ∷ bytes) =
    if is_name_byte b then referring mark counts (word ++ b ∷ []) bytes
    else renamed mark counts word ++ b ∷ referring mark counts [] bytes

-- branches take labels, and so do MVKL and MVKH
abbrev pub names_goal : Word → Bool
names_goal word = is_branch word || spells (codes "MVKL") word || spells (codes "MVKH") word

-- the name of one stands before any unit or directive
abbrev pub takes_goal : List Word → Bool
takes_goal [] = false
takes_goal (word ∷ words) = names_goal word || not (begins is_dot word) && takes_goal words

abbrev pub if_goes : Bool → List ℕ → List ℕ → List ℕ → List ℕ
if_goes goes mark counts bytes = if goes then referring mark counts [] bytes else bytes

-- ---- a line

-- what stands behind the label of a line that has one
abbrev pub behind_label : List ℕ → List ℕ
behind_label line = if is_some (label_field (undotted true line)) then behind_colon line else line

abbrev pub localized_by : List ℕ → List ℕ → List ℕ → Option ℕ → List ℕ
localized_by mark counts line (Some n) =
    local_name mark n (count_at counts n false) ++ codes ":" ++ if_goes (takes_goal (tokens (behind_colon line))) mark counts (behind_colon line)
localized_by mark counts line None = if_goes (takes_goal (tokens (behind_label line))) mark counts line

-- the line with names in place of its local label and of those that it refers to, where so many labels of each number stand above or in it
unfoldable pub localized : List ℕ → List ℕ → List ℕ → List ℕ
localized mark counts line = localized_by mark counts line (local_of (tokens line))

-- where that is too long for a line, the line as it stands
abbrev pub or_short : List ℕ → List ℕ → List ℕ
or_short line other = if nat_le (length other) MOST_LINE then other else line

abbrev pub named_locals : List ℕ → List ℕ → List ℕ → List ℕ
named_locals mark counts line = or_short line (localized mark counts line)
