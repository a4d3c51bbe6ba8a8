-- Laws of texts whose labels have another byte in the place of their dot.
use Rattle.std.specs.Prelude.{◌≡◌, ◌⊎◌, ℕ, Bool, true, false, not, ◌==◌, ◌&&◌, ◌||◌, List, [], ◌∷◌, IfSome, if◌then◌else◌}
use Rattle.c62_token.specs.Token.{is_word_byte}
use Rattle.c62_gnu_labels.specs.declared.text.Place.{Place}
use Rattle.c62_gnu_labels.specs.declared.text.Place.TheVariants.{Begin}
use Rattle.c62_gnu_labels.specs.Labels.{is_label_dot, place_by, relabelled, spare_in}

-- ---- names

-- a text with a dot in the place of each front that begins a word
abbrev pub dotted : (front : ℕ) → (within : Bool) → List ℕ → List ℕ
dotted front within [] = []
dotted front within (b ∷ text) = (if b == front && not within then 46 else b) ∷ dotted front (is_word_byte b) text

-- Where each word that begins with the front has its dot again, the text is what it was. So two labels have become one name only where they
-- were the same, and no other word of the text has such a name.
abbrev pub NamesComeBack : List ℕ → Type 0
NamesComeBack text = IfSome (spare_in text) (λ front. dotted front false (relabelled text) ≡ text)

-- ---- lines

-- each byte is what it was, or stands in the place of a dot and is the byte of a word
abbrev pub IsByteKept : (old new : ℕ) → Type 0
IsByteKept old new = (new ≡ old) ⊎ ((old ≡ 46) × (is_word_byte new ≡ true))

abbrev pub AreBytesKept : (old new : List ℕ) → Type 0
AreBytesKept [] [] = Unit {0}
AreBytesKept (b ∷ old) (d ∷ new) = IsByteKept b d × AreBytesKept old new
AreBytesKept _ _ = ⊥

-- ---- texts without such labels

abbrev pub has_label_dot : Place → List ℕ → Bool
has_label_dot place [] = false
has_label_dot place (b ∷ text) =
    is_label_dot place b text || has_label_dot (place_by place b (is_label_dot place b text)) text

abbrev pub StaysWithout : List ℕ → Type 0
StaysWithout text = has_label_dot Begin text ≡ false → relabelled text ≡ text
