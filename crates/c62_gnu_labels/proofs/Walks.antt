-- What words say, one word more.
use Rattle.std.proofs.Common.{◌≡◌, ◌∙◌, ℕ, ◌+◌, ◌<◌, List, [], ◌∷◌, ◌++◌, length, drop, map, get_or, fold, refl, sym, ap, append_assoc}
use Rattle.std.proofs.lemmas.List.{append-nil, drop_more}
use Rattle.c62_gnu_labels.specs.declared.words.Found.{Found}
use Rattle.c62_gnu_labels.specs.Words.{Text, found_after, left_behind, other_in}

-- the words from i on are the word at i and those behind it
from_here : {W : Type 0} (text : W → Text) (words : List W) (i : ℕ) (d : W) (word : Text) → i < length words
    → word ≡ text (get_or words i d)
    → map text (drop i words) ≡ word ∷ map text (drop (i + 1) words)
from_here text words i d word within is = ap (map text) (drop_more words i d within)
    ∙ ap (λ w. w ∷ map text (drop (i + 1) words)) (sym is)

pub one_found_more : {W : Type 0} (text : W → Text) (words : List W) (i : ℕ) (d : W) (word : Text) (old new all : Found)
    → i < length words
    → word ≡ text (get_or words i d) → new ≡ found_after old word
    → fold found_after old (map text (drop i words)) ≡ all
    → fold found_after new (map text (drop (i + 1) words)) ≡ all
one_found_more text words i d word old new all within is found so_far =
    ap (λ f. fold found_after f (map text (drop (i + 1) words))) found
    ∙ ap (fold found_after old) (sym (from_here text words i d word within is)) ∙ so_far

pub no_more_found : (found all : Found) (words : List Text) → words ≡ [] → fold found_after found words ≡ all
    → found ≡ all
no_more_found found all words none so_far = ap (fold found_after found) (sym none) ∙ so_far

left_by_one : (found : Found) (word : Text) (words : List Text)
    → left_behind found (word ∷ words) ≡ other_in found word ++ left_behind (found_after found word) words
unfolding left_behind
left_by_one found word words = refl

pub one_word_more : {W : Type 0} (text : W → Text) (words : List W) (i : ℕ) (d : W) (word : Text) (found : Found)
    (old new all : List Text) → i < length words → word ≡ text (get_or words i d)
    → new ≡ old ++ other_in found word
    → old ++ left_behind found (map text (drop i words)) ≡ all
    → new ++ left_behind (found_after found word) (map text (drop (i + 1) words)) ≡ all
one_word_more text words i d word found old new all within is added so_far =
    let rest = left_behind (found_after found word) (map text (drop (i + 1) words)) in
    let here : left_behind found (map text (drop i words)) ≡ other_in found word ++ rest =
    ap (left_behind found) (from_here text words i d word within is)
    ∙ left_by_one found word (map text (drop (i + 1) words)) in
    ap (λ xs. xs ++ rest) added ∙ append_assoc old (other_in found word) rest
    ∙ ap (λ xs. old ++ xs) (sym here) ∙ so_far

pub no_word_more : (found : Found) (words : List Text) (old all : List Text) → words ≡ []
    → old ++ left_behind found words ≡ all → old ≡ all
unfolding left_behind
no_word_more found words old all none whole = sym (append-nil old) ∙ ap (λ ws. old ++ left_behind found ws) (sym none)
    ∙ whole
