-- What words are, one word more.
use Rattle.std.proofs.Common.{◌≡◌, ◌∙◌, ℕ, ◌+◌, ◌<◌, List, [], ◌∷◌, ◌++◌, length, drop, map, get_or, Option, Some, None}
use Rattle.std.proofs.Common.{refl, sym, ap, append_assoc}
use Rattle.std.specs.Option.{option_map, option_to_list}
use Rattle.std.proofs.lemmas.List.{append-nil, drop_more, map-append}
use Rattle.c62_files.specs.declared.piece.Piece.{Piece}
use Rattle.c62_files.specs.declared.wanted.Wanted.{Wanted}
use Rattle.c62_files.specs.Words.{Text, Word, piece_at, pieces, text_piece, wanted_after, wanted_at_end}

pub one_by_one : (wanted : Wanted) (word : Text) (words : List Text)
    → pieces wanted (word ∷ words) ≡ option_to_list (piece_at wanted word) ++ pieces (wanted_after wanted word) words
unfolding pieces
one_by_one wanted word words = refl

pub wants_one_by_one : (wanted : Wanted) (word : Text) (words : List Text)
    → wanted_at_end wanted (word ∷ words) ≡ wanted_at_end (wanted_after wanted word) words
unfolding wanted_at_end
wants_one_by_one wanted word words = refl

as_list : (piece : Option Piece) → map text_piece (option_to_list piece) ≡ option_to_list (option_map text_piece piece)
as_list (Some piece) = refl
as_list None = refl

-- the words from i on are the word at i and those behind it
from_here : {W : Type 0} (text : W → Text) (words : List W) (i : ℕ) (d : W) (word : Text) → i < length words
    → word ≡ text (get_or words i d)
    → map text (drop i words) ≡ word ∷ map text (drop (i + 1) words)
from_here text words i d word within is = ap (map text) (drop_more words i d within)
    ∙ ap (λ w. w ∷ map text (drop (i + 1) words)) (sym is)

pub one_piece_more : {W : Type 0} (text : W
    → Text) (words : List W) (i : ℕ) (d : W) (word : Text) (wanted : Wanted) (old new : List Piece)
    (piece : Option Piece)
    (all : List Word) → i < length words → word ≡ text (get_or words i d)
    → option_map text_piece piece ≡ piece_at wanted word → new ≡ old ++ option_to_list piece
    → map text_piece old ++ pieces wanted (map text (drop i words)) ≡ all
    → map text_piece new ++ pieces (wanted_after wanted word) (map text (drop (i + 1) words)) ≡ all
one_piece_more text words i d word wanted old new piece all within is found added so_far =
    let rest = pieces (wanted_after wanted word) (map text (drop (i + 1) words)) in
    let listed : map text_piece new ≡ map text_piece old ++ option_to_list (piece_at wanted word) =
    ap (map text_piece) added ∙ map-append text_piece old (option_to_list piece)
    ∙ ap (λ xs. map text_piece old ++ xs) (as_list piece ∙ ap option_to_list found) in
    let here : pieces wanted (map text (drop i words)) ≡ option_to_list (piece_at wanted word) ++ rest =
    ap (pieces wanted) (from_here text words i d word within is)
    ∙ one_by_one wanted word (map text (drop (i + 1) words)) in
    ap (λ xs. xs ++ rest) listed ∙ append_assoc (map text_piece old) (option_to_list (piece_at wanted word)) rest
    ∙ ap (λ xs. map text_piece old ++ xs) (sym here) ∙ so_far

pub one_wanted_more : {W : Type 0} (text : W
    → Text) (words : List W) (i : ℕ) (d : W) (word : Text) (wanted last : Wanted) → i < length words
    → word ≡ text (get_or words i d) → wanted_at_end wanted (map text (drop i words)) ≡ last
    → wanted_at_end (wanted_after wanted word) (map text (drop (i + 1) words)) ≡ last
one_wanted_more text words i d word wanted last within is so_far =
    sym (wants_one_by_one wanted word (map text (drop (i + 1) words)))
    ∙ ap (wanted_at_end wanted) (sym (from_here text words i d word within is)) ∙ so_far

-- behind the last word
pub no_piece_more : (wanted : Wanted) (words : List Text) (old all : List Word) → words ≡ []
    → old ++ pieces wanted words ≡ all → old ≡ all
unfolding pieces
no_piece_more wanted words old all none whole = sym (append-nil old) ∙ ap (λ ws. old ++ pieces wanted ws) (sym none)
    ∙ whole

pub no_wanted_more : (wanted last : Wanted) (words : List Text) → words ≡ [] → wanted_at_end wanted words ≡ last
    → wanted ≡ last
unfolding wanted_at_end
no_wanted_more wanted last words none whole = ap (wanted_at_end wanted) (sym none) ∙ whole
