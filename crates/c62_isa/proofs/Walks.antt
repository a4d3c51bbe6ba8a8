-- What words say, one word more.
use Rattle.std.proofs.Common.{◌≡◌, ◌∙◌, ℕ, ◌+◌, ◌<◌, List, [], ◌∷◌, ◌++◌, length, drop, map, get_or, Option, Some, None}
use Rattle.std.proofs.Common.{Bool, true, false, fold, refl, sym, ap, append_assoc}
use Rattle.std.specs.Option.{option_map, option_to_list}
use Rattle.std.proofs.lemmas.List.{append-nil, drop_more, map-append}
use Rattle.c62_isa.specs.declared.word.Word.{Word as Written}
use Rattle.c62_isa.specs.declared.word.Wants.{Wants}
use Rattle.c62_files.specs.Words.{Text}
use Rattle.c62_op.specs.declared.set.InstructionSet.{InstructionSet}
use Rattle.c62_isa.specs.Words.{Word, and_word, asks, asks_at, said, text_word, wanted_at_end, wants_after}
use Rattle.c62_isa.specs.Words.{word_at}

pub one_by_one : (wants : Wants) (word : Text) (words : List Text)
    → said wants (word ∷ words) ≡ option_to_list (word_at wants word) ++ said (wants_after wants word) words
unfolding said
one_by_one wants word words = refl

pub wants_one_by_one : (wants : Wants) (word : Text) (words : List Text)
    → wanted_at_end wants (word ∷ words) ≡ wanted_at_end (wants_after wants word) words
unfolding wanted_at_end
wants_one_by_one wants word words = refl

as_list : (entry : Option Written) → map text_word (option_to_list entry) ≡ option_to_list (option_map text_word entry)
as_list (Some entry) = refl
as_list None = refl

-- the words from i on are the word at i and those behind it
from_here : {W : Type 0} (text : W → Text) (words : List W) (i : ℕ) (d : W) (word : Text) → i < length words
    → word ≡ text (get_or words i d)
    → map text (drop i words) ≡ word ∷ map text (drop (i + 1) words)
from_here text words i d word within is = ap (map text) (drop_more words i d within)
    ∙ ap (λ w. w ∷ map text (drop (i + 1) words)) (sym is)

pub one_word_more : {W : Type 0} (text : W
    → Text) (words : List W) (i : ℕ) (d : W) (word : Text) (wants : Wants) (old new : List Written)
    (entry : Option Written)
    (all : List Word) → i < length words → word ≡ text (get_or words i d)
    → option_map text_word entry ≡ word_at wants word → new ≡ old ++ option_to_list entry
    → map text_word old ++ said wants (map text (drop i words)) ≡ all
    → map text_word new ++ said (wants_after wants word) (map text (drop (i + 1) words)) ≡ all
one_word_more text words i d word wants old new entry all within is found added so_far =
    let rest = said (wants_after wants word) (map text (drop (i + 1) words)) in
    let listed : map text_word new ≡ map text_word old ++ option_to_list (word_at wants word) =
    ap (map text_word) added ∙ map-append text_word old (option_to_list entry)
    ∙ ap (λ xs. map text_word old ++ xs) (as_list entry ∙ ap option_to_list found) in
    let here : said wants (map text (drop i words)) ≡ option_to_list (word_at wants word) ++ rest =
    ap (said wants) (from_here text words i d word within is)
    ∙ one_by_one wants word (map text (drop (i + 1) words)) in
    ap (λ xs. xs ++ rest) listed ∙ append_assoc (map text_word old) (option_to_list (word_at wants word)) rest
    ∙ ap (λ xs. map text_word old ++ xs) (sym here) ∙ so_far

pub one_want_more : {W : Type 0} (text : W
    → Text) (words : List W) (i : ℕ) (d : W) (word : Text) (wants last : Wants) → i < length words
    → word ≡ text (get_or words i d) → wanted_at_end wants (map text (drop i words)) ≡ last
    → wanted_at_end (wants_after wants word) (map text (drop (i + 1) words)) ≡ last
one_want_more text words i d word wants last within is so_far =
    sym (wants_one_by_one wants word (map text (drop (i + 1) words)))
    ∙ ap (wanted_at_end wants) (sym (from_here text words i d word within is)) ∙ so_far

-- behind the last word
pub no_word_more : (wants : Wants) (words : List Text) (old all : List Word) → words ≡ []
    → old ++ said wants words ≡ all → old ≡ all
unfolding said
no_word_more wants words old all none whole = sym (append-nil old) ∙ ap (λ ws. old ++ said wants ws) (sym none)
    ∙ whole

pub no_want_more : (wants last : Wants) (words : List Text) → words ≡ [] → wanted_at_end wants words ≡ last
    → wants ≡ last
unfolding wanted_at_end
no_want_more wants last words none whole = ap (wanted_at_end wants) (sym none) ∙ whole

-- ---- whether a trace is asked for

asks_here : (wants : Wants) (word : Text) (words : List Text) → asks_at wants word ≡ true
    → asks wants (word ∷ words) ≡ true
unfolding asks
asks_here wants word words here_is = rw here_is refl

asks_behind : (wants : Wants) (word : Text) (words : List Text) → asks_at wants word ≡ false
    → asks wants (word ∷ words) ≡ asks (wants_after wants word) words
unfolding asks
asks_behind wants word words none_is = rw none_is refl

pub one_asks : {W : Type 0} (text : W
    → Text) (words : List W) (i : ℕ) (d : W) (word : Text) (wants : Wants) (all : Bool) → i < length words
    → word ≡ text (get_or words i d) → asks_at wants word ≡ true → asks wants (map text (drop i words)) ≡ all
    → true ≡ all
one_asks text words i d word wants all within is here_is so_far =
    sym (asks_here wants word (map text (drop (i + 1) words)) here_is)
    ∙ ap (asks wants) (sym (from_here text words i d word within is)) ∙ so_far

pub one_asks_not : {W : Type 0} (text : W
    → Text) (words : List W) (i : ℕ) (d : W) (word : Text) (wants : Wants) (all : Bool) → i < length words
    → word ≡ text (get_or words i d) → asks_at wants word ≡ false → asks wants (map text (drop i words)) ≡ all
    → asks (wants_after wants word) (map text (drop (i + 1) words)) ≡ all
one_asks_not text words i d word wants all within is none_is so_far =
    sym (asks_behind wants word (map text (drop (i + 1) words)) none_is)
    ∙ ap (asks wants) (sym (from_here text words i d word within is)) ∙ so_far

pub none_asks : (wants : Wants) (words : List Text) (all : Bool) → words ≡ [] → asks wants words ≡ all → false ≡ all
unfolding asks
none_asks wants words all none so_far = ap (asks wants) (sym none) ∙ so_far

-- ---- what is asked for, by one word more

pub one_found_more : (words : List Written) (i : ℕ) (d word : Written) (old new all : Option (Option InstructionSet))
    → i < length words
    → word ≡ get_or words i d → new ≡ and_word old (text_word word)
    → fold and_word old (map text_word (drop i words)) ≡ all
    → fold and_word new (map text_word (drop (i + 1) words)) ≡ all
one_found_more words i d word old new all within is found so_far =
    let here : map text_word (drop i words) ≡ text_word word ∷ map text_word (drop (i + 1) words) =
    ap (map text_word) (drop_more words i d within)
    ∙ ap (λ w. text_word w ∷ map text_word (drop (i + 1) words)) (sym is) in
    ap (λ a. fold and_word a (map text_word (drop (i + 1) words))) found
    ∙ ap (fold and_word old) (sym here) ∙ so_far
