-- Labels that begin with a dot, and what stands in their place (docs/SERIAL_TEXT.md, "Labels of GNU's compilers").
use Rattle.std.specs.Prelude.{ℕ, Bool, true, false, not, ◌==◌, ◌&&◌, ◌||◌, List, [], ◌∷◌, find, Option, Some, None, if◌then◌else◌}
use Rattle.std.specs.Option.{option_map_or}
use Rattle.c62_token.specs.Token.{begins, is_blank, is_word_byte}
use Rattle.c62_gnu_labels.specs.declared.text.Place.{Place}
use Rattle.c62_gnu_labels.specs.declared.text.Place.TheVariants.{Begin, Front, Colon, Beside, Gap, Aside}
use Rattle.c62_gnu_labels.specs.declared.text.TheConstants.{FRONTS}

-- ---- which dots are of labels

-- the first byte behind blanks
abbrev pub behind_blanks : List ℕ → Option ℕ
behind_blanks [] = None
behind_blanks (b ∷ text) = if is_blank b then behind_blanks text else Some b

-- the first byte behind a word and blanks
abbrev pub behind_word : List ℕ → Option ℕ
behind_word [] = None
behind_word (b ∷ text) = if is_word_byte b then behind_word text else behind_blanks (b ∷ text)

-- a line ends there, with a carriage return or without, or its comment begins
abbrev pub is_end : Option ℕ → Bool
is_end None = true
is_end (Some b) = b == 10 || b == 13 || b == 59

abbrev pub is_colon : Option ℕ → Bool
is_colon None = false
is_colon (Some b) = b == 58

-- The first word of a line is a label where a colon stands behind it. The last one is where blanks part it from something else, be it
-- a mnemonic or a unit, and a label's colon isn't all that stands before it.
abbrev pub fits_behind : Place → Option ℕ → Bool
fits_behind Begin next = is_colon next
fits_behind Front next = is_colon next
fits_behind Gap next = is_end next
fits_behind place next = false

-- the dot of a label, by where it stands and by the text behind it
abbrev pub is_label_dot : Place → ℕ → List ℕ → Bool
is_label_dot place b behind = b == 46 && begins is_word_byte behind && fits_behind place (behind_word behind)

-- ---- where a byte stands in its line

abbrev pub behind_blank : Place → Place
behind_blank Begin = Front
behind_blank Front = Front
behind_blank Colon = Colon
behind_blank place = Gap

abbrev pub place_beside : Place → ℕ → Place
place_beside place b = if is_blank b then behind_blank place else (if b == 58 then Colon else Beside)

-- A comment begins with a `;`, or with a `*` that is the first of its line. A directive begins with a dot that is the first of its line, or
-- behind a label, and isn't a label's own.
abbrev pub begins_aside : Place → ℕ → (dot : Bool) → Bool
begins_aside Begin b dot = b == 59 || b == 42 || b == 46 && not dot
begins_aside Front b dot = b == 59 || b == 46 && not dot
begins_aside Colon b dot = b == 59 || b == 46 && not dot
begins_aside Aside b dot = true
begins_aside place b dot = b == 59

-- where the byte behind this one stands, which is the dot of a label or not
abbrev pub place_by : Place → ℕ → (dot : Bool) → Place
place_by place b dot =
    if b == 10 then Begin
    else (if begins_aside place b dot then Aside
    else place_beside place b)

-- ---- what stands in their place

abbrev pub byte_of : (front b : ℕ) → (dot : Bool) → ℕ
byte_of front b dot = if dot then front else b

-- a text with a front in the place of each label's dot
abbrev pub renamed : (front : ℕ) → Place → List ℕ → List ℕ
renamed front place [] = []
renamed front place (b ∷ text) =
    byte_of front b (is_label_dot place b text) ∷ renamed front (place_by place b (is_label_dot place b text)) text

-- a word of the text begins with this byte, behind a byte of a word or not
abbrev pub is_led : (front : ℕ) → (within : Bool) → List ℕ → Bool
is_led front within [] = false
is_led front within (b ∷ text) = if b == front && not within then true else is_led front (is_word_byte b) text

-- the first of the fronts with which no word of the text begins
unfoldable pub spare_in : List ℕ → Option ℕ
spare_in text = find (λ front. not (is_led front false text)) FRONTS

-- where each front is taken, the text stays as it is
abbrev pub relabelled : List ℕ → List ℕ
relabelled text = option_map_or (λ front. renamed front Begin text) (spare_in text) text
