-- What becomes of words and lines where labels have another byte in the place of their dot.
use Rattle.std.proofs.Common.{◌≡◌, ◌∙◌, ◌⊎◌, ℕ, Bool, true, false, not, ◌&&◌, cond, List, [], ◌∷◌, Option, Some, None, inl, inr, refl, sym, ap}
use Rattle.std.proofs.Common.{arith}
use Rattle.std.proofs.lemmas.Bool.{and_parts, false≢true, or_parts}
use Rattle.std.proofs.lemmas.Bool.Decides.{nat_tests}
use Rattle.std.specs.Prelude.{IfSome, find, is_some, ◌==◌, if◌then◌else◌}
use Rattle.std.specs.List.{list_all}
use Rattle.std.specs.Option.{option_map_or}
use Rattle.c62_token.specs.Token.{begins, is_word_byte}
use Rattle.c62_gnu_labels.specs.declared.text.Place.{Place}
use Rattle.c62_gnu_labels.specs.declared.text.Place.TheVariants.{Begin, Front, Colon, Beside, Gap, Aside}
use Rattle.c62_gnu_labels.specs.declared.text.TheConstants.{FRONTS}
use Rattle.c62_gnu_labels.specs.Labels.{behind_word, byte_of, fits_behind, is_label_dot, is_led, place_by, relabelled, renamed, spare_in}
use Rattle.c62_gnu_labels.specs.Laws.{AreBytesKept, IsByteKept, NamesComeBack, StaysWithout, dotted, has_label_dot}

-- ---- one byte

-- where a label may begin
abbrev is_open : Place → Bool
is_open Begin = true
is_open Front = true
is_open Gap = true
is_open place = false

-- a label begins behind no byte of a word
open_behind : (place : Place) (b : ℕ) (dot : Bool) → is_open (place_by place b dot) ≡ true → is_word_byte b ≡ false
open_behind Begin b true here = grind (arith, nat_tests)
open_behind Begin b false here = grind (arith, nat_tests)
open_behind Front b true here = grind (arith, nat_tests)
open_behind Front b false here = grind (arith, nat_tests)
open_behind Colon b true here = grind (arith, nat_tests)
open_behind Colon b false here = grind (arith, nat_tests)
open_behind Beside b true here = grind (arith, nat_tests)
open_behind Beside b false here = grind (arith, nat_tests)
open_behind Gap b true here = grind (arith, nat_tests)
open_behind Gap b false here = grind (arith, nat_tests)
open_behind Aside b true here = grind (arith, nat_tests)
open_behind Aside b false here = grind (arith, nat_tests)

-- nor behind its own dot
shut_behind : (place : Place) (dot : Bool) → is_open (place_by place 46 dot) ≡ false
shut_behind Begin true = refl
shut_behind Begin false = refl
shut_behind Front true = refl
shut_behind Front false = refl
shut_behind Colon true = refl
shut_behind Colon false = refl
shut_behind Beside true = refl
shut_behind Beside false = refl
shut_behind Gap true = refl
shut_behind Gap false = refl
shut_behind Aside true = refl
shut_behind Aside false = refl

fits_open : (place : Place) (next : Option ℕ) → fits_behind place next ≡ true → is_open place ≡ true
fits_open Begin next fits = refl
fits_open Front next fits = refl
fits_open Colon next fits = absurd (false≢true fits)
fits_open Beside next fits = absurd (false≢true fits)
fits_open Gap next fits = refl
fits_open Aside next fits = absurd (false≢true fits)

dot_parts : (place : Place) (b : ℕ) (text : List ℕ) → is_label_dot place b text ≡ true
    → (b ≡ 46) × (is_open place ≡ true)
dot_parts place b text is =
    let first : ((b == 46 && begins is_word_byte text) ≡ true) × (fits_behind place (behind_word text) ≡ true) =
    and_parts (b == 46 && begins is_word_byte text) (fits_behind place (behind_word text)) is in
    let second : ((b == 46) ≡ true) × (begins is_word_byte text ≡ true) =
    and_parts (b == 46) (begins is_word_byte text) first.0 in
    (same b second.0, fits_open place (behind_word text) first.1)
  where
    same : (b : ℕ) → (b == 46) ≡ true → b ≡ 46
    same b is = grind (arith, nat_tests)

-- ---- names

join : (h b : ℕ) (t text : List ℕ) → h ≡ b → t ≡ text → h ∷ t ≡ b ∷ text
join h b t text head tail = ap (λ x. x ∷ t) head ∙ ap (λ xs. b ∷ xs) tail

first_false : (test rest : Bool) → (if test then true else rest) ≡ false → (test ≡ false) × (rest ≡ false)
first_false true rest none = absurd (false≢true (sym none))
first_false false rest none = (refl, none)

head_dot : (x front b : ℕ) (are : Bool) → x ≡ front → are ≡ false → b ≡ 46
    → (if x == front && not are then 46 else x) ≡ b
head_dot x front b are given first dot = grind (arith, nat_tests)

head_by : (test were are : Bool) (b : ℕ) → (test && not were) ≡ false → (were ≡ true → are ≡ true)
    → (if test && not are then 46 else b) ≡ b
head_by false were are b led more = refl
head_by true true true b led more = refl
head_by true true false b led more = absurd (false≢true (more refl))
head_by true false are b led more = absurd (false≢true (sym led))

head_kept : (x front b : ℕ) (were are : Bool) → x ≡ b → (b == front && not were) ≡ false → (were ≡ true → are ≡ true)
    → (if x == front && not are then 46 else x) ≡ b
head_kept x front b were are same led more =
    ap (λ (y : ℕ). if y == front && not are then 46 else y) same ∙ head_by (b == front) were are b led more

-- the front of a word is a dot again, and what stands behind it is what it was, if that is so of all that may stand there
back_one : (front : ℕ) (place : Place) (were are : Bool) (b : ℕ) (text : List ℕ) (dots dot : Bool)
    → is_word_byte front ≡ true
    → (is_open place ≡ true → are ≡ false) → (were ≡ true → are ≡ true) → is_led front were (b ∷ text) ≡ false
    → ((now : Bool) → (is_open (place_by place b dots) ≡ true → now ≡ false) → (is_word_byte b ≡ true → now ≡ true)
    → is_led front (is_word_byte b) text ≡ false
    → dotted front now (renamed front (place_by place b dots) text) ≡ text)
    → dots ≡ is_label_dot place b text → dots ≡ dot
    → dotted front are (byte_of front b dots ∷ renamed front (place_by place b dots) text) ≡ b ∷ text
back_one front place were are b text dots true word opens more none rest given is =
    let new : byte_of front b dots ≡ front = ap (byte_of front b) is in
    let dot = dot_parts place b text (sym given ∙ is) in
    let parts : ((b == front && not were) ≡ false) × (is_led front (is_word_byte b) text ≡ false) =
    first_false (b == front && not were) (is_led front (is_word_byte b) text) none in
    let shut : is_open (place_by place b dots) ≡ false =
    ap (λ d. is_open (place_by place d dots)) dot.0 ∙ shut_behind place dots in
    join _ b _ text (head_dot (byte_of front b dots) front b are new (opens dot.1) dot.0)
    (rest (is_word_byte (byte_of front b dots))
    (λ here. absurd (false≢true (sym shut ∙ here)))
    (λ within. ap is_word_byte new ∙ word) parts.1)
back_one front place were are b text dots false word opens more none rest given is =
    let new : byte_of front b dots ≡ b = ap (byte_of front b) is in
    let parts : ((b == front && not were) ≡ false) × (is_led front (is_word_byte b) text ≡ false) =
    first_false (b == front && not were) (is_led front (is_word_byte b) text) none in
    join _ b _ text (head_kept (byte_of front b dots) front b were are new parts.0 more)
    (rest (is_word_byte (byte_of front b dots))
    (λ here. ap is_word_byte new ∙ open_behind place b dots here)
    (λ within. ap is_word_byte new ∙ within) parts.1)

-- each front that begins a word is in the place of a dot, where no word began with it
back : (front : ℕ) (place : Place) (were are : Bool) (text : List ℕ) → is_word_byte front ≡ true
    → (is_open place ≡ true → are ≡ false) → (were ≡ true → are ≡ true) → is_led front were text ≡ false
    → dotted front are (renamed front place text) ≡ text
back front place were are [] word opens more none = refl
back front place were are (b ∷ text) word opens more none =
    back_one front place were are b text (is_label_dot place b text) (is_label_dot place b text) word opens more none
    (λ now shut within led.
    back front (place_by place b (is_label_dot place b text)) (is_word_byte b) now text word shut within led) refl refl

-- ---- fronts

spare_or : (led : Bool) (f front : ℕ) (rest : Option ℕ) → cond (not led) (Some f) rest ≡ Some front
    → ((led ≡ false) × (f ≡ front)) ⊎ (rest ≡ Some front)
spare_or true f front rest is = inr is
spare_or false f front rest is = inl (refl, ap (λ (o : Option ℕ). option_map_or (λ x. x) o 0) is)

spare_one : (text : List ℕ) (f front : ℕ) (rest : Option ℕ) → is_word_byte f ≡ true
    → (rest ≡ Some front → (is_led front false text ≡ false) × (is_word_byte front ≡ true))
    → ((is_led f false text ≡ false) × (f ≡ front)) ⊎ (rest ≡ Some front)
    → (is_led front false text ≡ false) × (is_word_byte front ≡ true)
spare_one text f front rest word others (inl first) =
    (ap (λ g. is_led g false text) (sym first.1) ∙ first.0, ap is_word_byte (sym first.1) ∙ word)
spare_one text f front rest word others (inr other) = others other

spare_among : (text fronts : List ℕ) (front : ℕ) → find (λ f. not (is_led f false text)) fronts ≡ Some front
    → list_all is_word_byte fronts ≡ true → (is_led front false text ≡ false) × (is_word_byte front ≡ true)
spare_among text [] front is words = absurd (false≢true (ap is_some is))
spare_among text (f ∷ fronts) front is words =
    let both : (is_word_byte f ≡ true) × (list_all is_word_byte fronts ≡ true) =
    and_parts (is_word_byte f) (list_all is_word_byte fronts) words in
    let rest = find (λ g. not (is_led g false text)) fronts in
    spare_one text f front rest both.0 (λ other. spare_among text fronts front other both.1)
    (spare_or (is_led f false text) f front rest is)

spare_known : (text : List ℕ) (front : ℕ) → spare_in text ≡ Some front
    → (is_led front false text ≡ false) × (is_word_byte front ≡ true)
unfolding spare_in
spare_known text front is = spare_among text FRONTS front is refl

-- ---- the laws

pub names_back : (text : List ℕ) → NamesComeBack text
names_back text = by (spare_in text) refl
  where
    by : (spare : Option ℕ) → spare_in text ≡ spare
        → IfSome spare (λ front. dotted front false (option_map_or (λ f. renamed f Begin text) spare text) ≡ text)
    by None is = tt
    by (Some front) is =
        let known = spare_known text front is in
        back front Begin false false text known.1 (λ here. refl) (λ within. within) known.0

same_bytes : (text : List ℕ) → AreBytesKept text text
same_bytes [] = tt
same_bytes (b ∷ text) = (inl refl, same_bytes text)

bytes_renamed : (front : ℕ) (place : Place) (text : List ℕ) → is_word_byte front ≡ true
    → AreBytesKept text (renamed front place text)
bytes_renamed front place [] word = tt
bytes_renamed front place (b ∷ text) word =
    (by (is_label_dot place b text) refl, bytes_renamed front (place_by place b (is_label_dot place b text)) text word)
  where
    by : (dot : Bool) → is_label_dot place b text ≡ dot → IsByteKept b (byte_of front b (is_label_dot place b text))
    by true is =
        let given : byte_of front b (is_label_dot place b text) ≡ front = ap (byte_of front b) is in
        inr ((dot_parts place b text is).0, ap is_word_byte given ∙ word)
    by false is =
        let same : byte_of front b (is_label_dot place b text) ≡ b = ap (byte_of front b) is in
        inl same

pub bytes_kept : (text : List ℕ) → AreBytesKept text (relabelled text)
bytes_kept text = by (spare_in text) refl
  where
    by : (spare : Option ℕ) → spare_in text ≡ spare
        → AreBytesKept text (option_map_or (λ f. renamed f Begin text) spare text)
    by None is = same_bytes text
    by (Some front) is = bytes_renamed front Begin text (spare_known text front is).1

renamed_stays : (front : ℕ) (place : Place) (text : List ℕ) → has_label_dot place text ≡ false
    → renamed front place text ≡ text
renamed_stays front place [] none = refl
renamed_stays front place (b ∷ text) none =
    let dots = is_label_dot place b text in
    let parts : (dots ≡ false) × (has_label_dot (place_by place b dots) text ≡ false) =
    or_parts dots (has_label_dot (place_by place b dots) text) none in
    let same : byte_of front b dots ≡ b = ap (byte_of front b) parts.0 in
    join _ b _ text same (renamed_stays front (place_by place b dots) text parts.1)

pub stays : (text : List ℕ) → StaysWithout text
stays text none = by (spare_in text)
  where
    by : (spare : Option ℕ) → option_map_or (λ f. renamed f Begin text) spare text ≡ text
    by None = refl
    by (Some front) = renamed_stays front Begin text none
