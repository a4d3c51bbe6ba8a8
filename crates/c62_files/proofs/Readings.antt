-- The words of a file of settings, one byte more.
use Rattle.std.proofs.Common.{◌≡◌, ◌∙◌, ℕ, ◌+◌, ◌<◌, ◌≤◌, true, false, List, [], ◌∷◌, ◌++◌, length, drop, take, map}
use Rattle.std.proofs.Common.{get_or, Option, Some, None, IfSome, refl, sym, ap, append_assoc, arith}
use Rattle.std.proofs.lemmas.List.{drop_more, length-take, take_all}
use Rattle.c62_files.specs.declared.settings.Place.{Place}
use Rattle.c62_files.specs.declared.settings.Reading.{Reading}
use Rattle.c62_files.specs.Settings.{after, ended, is_part, told, words_from}

pub part_more : (place : Place) (word : List ℕ) (byte : ℕ) (rest : List ℕ) → is_part place byte ≡ true
    → words_from place word (byte ∷ rest) ≡ words_from (after place byte) (word ++ byte ∷ []) rest
unfolding words_from
part_more place word byte rest e = rw e refl

pub end_more : (place : Place) (word : List ℕ) (byte : ℕ) (rest : List ℕ) → is_part place byte ≡ false
    → words_from place word (byte ∷ rest) ≡ ended word ++ words_from (after place byte) [] rest
unfolding words_from
end_more place word byte rest e = rw e refl

pub at_end : (place : Place) (word : List ℕ) → words_from place word [] ≡ ended word
unfolding words_from
at_end place word = refl

-- a word that ends stands behind the others
pub end_told : (words new : List (List ℕ)) (place : Place) (word : List ℕ) (byte : ℕ) (rest : List ℕ)
    → is_part place byte ≡ false
    → new ≡ words ++ ended word
    → new ++ words_from (after place byte) [] rest ≡ words ++ words_from place word (byte ∷ rest)
end_told words new place word byte rest e added =
    ap (λ xs. xs ++ words_from (after place byte) [] rest) added
    ∙ append_assoc words (ended word) (words_from (after place byte) [] rest)
    ∙ ap (λ xs. words ++ xs) (sym (end_more place word byte rest e))

pub one_byte_more : (old new : Reading) (bytes : List ℕ) (i byte : ℕ) (all : List (List ℕ)) → i < length bytes
    → byte ≡ get_or bytes i byte
    → ((rest : List ℕ) → told new rest ≡ told old (byte ∷ rest)) → told old (drop i bytes) ≡ all
    → told new (drop (i + 1) bytes) ≡ all
one_byte_more old new bytes i byte all within is read so_far =
    let here : drop i bytes ≡ byte ∷ drop (i + 1) bytes =
    drop_more bytes i byte within ∙ ap (λ b. b ∷ drop (i + 1) bytes) (sym is) in
    read (drop (i + 1) bytes) ∙ ap (told old) (sym here) ∙ so_far

-- behind the last byte
pub all_read : (reading : Reading) (rest : List ℕ) (all : List (List ℕ)) → rest ≡ [] → told reading rest ≡ all
    → map (λ word. word.items) reading.words.items ++ ended reading.word.items ≡ all
all_read reading rest all none whole =
    ap (λ xs. map (λ word. word.items) reading.words.items ++ xs) (sym (at_end reading.place reading.word.items))
    ∙ ap (told reading) (sym none) ∙ whole

-- what is no longer than the limit of a read was read whole
short_is_whole : (bytes all : List ℕ) (most : ℕ) → length bytes ≤ most → bytes ≡ take (most + 1) all → bytes ≡ all
short_is_whole bytes all most short front =
    let within : length all ≤ most + 1 = omega (arith, length-take (most + 1) all, ap length front, short) in
    front ∙ take_all (most + 1) all within

pub whole_if_short : (known : Option (List ℕ)) (bytes : List ℕ) (most : ℕ) → length bytes ≤ most
    → IfSome known (λ all. bytes ≡ take (most + 1) all)
    → IfSome known (λ all. bytes ≡ all)
whole_if_short None bytes most short front = front
whole_if_short (Some all) bytes most short front = short_is_whole bytes all most short front
