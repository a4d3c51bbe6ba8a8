-- The tokens of what is spelled.
use Rattle.c62_token.proofs.Common.{◌≡◌, ℕ, ◌+◌, ◌<◌, ◌≤◌, Bool, true, false, not, eqb, ◌&&◌, List, [], ◌∷◌, ◌++◌}
use Rattle.c62_token.proofs.Common.{length, refl, sym, ap, ◌∙◌}
use Rattle.c62_token.proofs.Common.{append-nil, append_assoc, arith, length-append, codes, list_all, and_from}
use Rattle.c62_token.proofs.Common.{and_parts, nat_tests, map-append}
use Rattle.c62_token.proofs.Common.{list_all-append, grow, begins, is_allowed, is_blank, is_solid, is_sign}
use Rattle.c62_token.proofs.Common.{is_word_byte, joins, tokens, Kind, Comma}
use Rattle.c62_token.proofs.Common.{Word, kinds_of}
use Rattle.c62_token.specs.Kind.{kind_of, mark_of, single_mark}
use Rattle.c62_token.proofs.TokenLemmas.{tokens_alone, tokens_joined, tokens_last, tokens_blank, tokens_word}

-- a byte that may stand in a line with neither a comment nor a label
abbrev pub is_text : ℕ → Bool
is_text b = is_allowed b && not (eqb b 58) && not (eqb b 59)

pub all_weaker : (p q : ℕ → Bool) (bytes : List ℕ) → ((b : ℕ) → p b ≡ true → q b ≡ true) → list_all p bytes ≡ true
    → list_all q bytes ≡ true
all_weaker p q [] weaker all = refl
all_weaker p q (b ∷ bytes) weaker all = grind (arith, weaker, all_weaker p q bytes)

pub allowed_text : (bytes : List ℕ) → list_all is_text bytes ≡ true → list_all is_allowed bytes ≡ true
allowed_text bytes text = all_weaker is_text is_allowed bytes (λ b text. grind (arith, nat_tests)) text

-- a word that is one token wherever no byte of a word follows
pub record IsToken (w : List ℕ) : Type 0 where
  pub splits : (rest : List ℕ) → begins is_word_byte rest ≡ false → tokens (w ++ rest) ≡ w ∷ tokens rest
  pub plain : list_all is_text w ≡ true

text_word : (w : List ℕ) → list_all is_word_byte w ≡ true → list_all is_text w ≡ true
text_word [] words = refl
text_word (b ∷ w) words = grind (arith, nat_tests, text_word w)

-- a mnemonic, a register, a label or a number without a sign
pub word_token : (w : List ℕ) → 0 < length w → list_all is_word_byte w ≡ true → IsToken w
word_token [] some words = absurd (omega arith)
word_token (b ∷ w) some words = record
    { splits = λ rest ends. tokens_word (b ∷ w) rest words ends; plain = text_word (b ∷ w) words }

-- a number with its sign, or a unit
pub led_token : (b c : ℕ) (w : List ℕ) → is_solid b ≡ true → joins b c ≡ true → is_text b ≡ true
    → list_all is_word_byte (c ∷ w) ≡ true
    → IsToken (b ∷ c ∷ w)
led_token b c w solid joined text words =
    record {
      splits = λ rest ends. tokens_joined b c (w ++ rest) solid joined
          ∙ ap (grow b) (tokens_word (c ∷ w) rest words ends);
      plain = and_from (is_text b) (list_all is_text (c ∷ w)) text (text_word (c ∷ w) words);
    }

-- a byte that is a token by itself
abbrev pub is_mark : ℕ → Bool
is_mark b = is_solid b && not (is_word_byte b) && not (is_sign b) && not (eqb b 46) && not (eqb b 124)

pub mark_alone : (b : ℕ) (rest : List ℕ) → is_mark b ≡ true → tokens (b ∷ rest) ≡ (b ∷ []) ∷ tokens rest
mark_alone b [] mark = tokens_last b (grind (arith, nat_tests))
mark_alone b (c ∷ rest) mark = tokens_alone b c rest (grind (arith, nat_tests)) (grind (arith, nat_tests))
    (grind (arith, nat_tests))

-- blanks in front
pub tokens_behind : (blanks line : List ℕ) → list_all is_blank blanks ≡ true → tokens (blanks ++ line) ≡ tokens line
tokens_behind [] line blank = refl
tokens_behind (b ∷ blanks) line blank =
    let parts = and_parts (is_blank b) (list_all is_blank blanks) blank in
    tokens_blank b (blanks ++ line) (grind (arith, nat_tests)) parts.0 ∙ tokens_behind blanks line parts.1

-- ---- pieces of a line

-- A text with its tokens, with their kinds, and with the most bytes that it has. What follows it may be asked to end
-- it.
pub record IsPiece (Ends : List ℕ
    → Type 0) (text : List ℕ) (words : List Word) (kinds : List Kind) (most : ℕ) : Type 0 where
  pub splits : (rest : List ℕ) → Ends rest → tokens (text ++ rest) ≡ words ++ tokens rest
  pub plain : list_all is_text text ≡ true
  pub told : kinds_of words ≡ kinds
  pub short : length text ≤ most

abbrev pub any_end : List ℕ → Type 0
any_end rest = Unit {0}

abbrev pub word_end : List ℕ → Type 0
word_end rest = begins is_word_byte rest ≡ false

pub word_piece : (w : Word) (kind : Kind) (most : ℕ) → IsToken w → kind_of w ≡ kind → length w ≤ most
    → IsPiece word_end w (w ∷ []) (kind ∷ []) most
word_piece w kind most token is short =
    record { splits = token.splits; plain = token.plain; told = ap (λ (k : Kind). k ∷ []) is; short = short }

pub mark_piece : (b : ℕ) (kind : Kind) → is_mark b ≡ true → is_text b ≡ true → kind_of (b ∷ []) ≡ kind
    → IsPiece any_end (b ∷ []) ((b ∷ []) ∷ []) (kind ∷ []) 1
mark_piece b kind mark text is =
    record {
      splits = λ rest end. mark_alone b rest mark;
      plain = rw text refl;
      told = ap (λ (k : Kind). k ∷ []) is;
      short = omega arith;
    }

pub blank_piece : IsPiece any_end (codes " ") [] [] 1
blank_piece = record {
  splits = λ rest end. tokens_blank 32 rest refl refl;
  plain = refl;
  told = refl;
  short = omega
      arith;
}

pub no_piece : (Ends : List ℕ → Type 0) (most : ℕ) → IsPiece Ends [] [] [] most
no_piece Ends most = record { splits = λ rest end. refl; plain = refl; told = refl; short = omega arith }

pub weaker : {E F : List ℕ → Type 0} {a : List ℕ} {ws : List Word} {ks : List Kind} {m : ℕ} (n : ℕ)
    → IsPiece E a ws ks m
    → ((rest : List ℕ) → F rest → E rest) → m ≤ n → IsPiece F a ws ks n
weaker n piece ends few =
    record {
      splits = λ rest end. piece.splits rest (ends rest end);
      plain = piece.plain;
      told = piece.told;
      short =
          omega (arith, piece.short);
    }

-- two pieces, where the second ends the first
pub both : {E F : List ℕ → Type 0} {a b : List ℕ} {ws vs : List Word} {ks ls : List Kind} {m n : ℕ}
    → IsPiece E a ws ks m
    → IsPiece F b vs ls n → ((rest : List ℕ) → F rest → E (b ++ rest))
    → IsPiece F (a ++ b) (ws ++ vs) (ks ++ ls) (m + n)
both {a = a} {b = b} {ws = ws} {vs = vs} {ks = ks} first second ends =
    record {
      splits = λ rest end. ap tokens (append_assoc a b rest) ∙ first.splits (b ++ rest) (ends rest end)
          ∙ ap (λ (words : List Word). ws ++ words) (second.splits rest end) ∙ sym (append_assoc ws vs (tokens rest));
      plain = list_all-append is_text a b ∙ and_from (list_all is_text a) (list_all is_text b) first.plain second.plain;
      told = map-append kind_of ws vs ∙ ap (λ (kinds : List Kind). kinds ++ kinds_of vs) first.told
          ∙ ap (λ (kinds : List Kind). ks ++ kinds) second.told;
      short = omega (arith, length-append a b, first.short, second.short);
    }

-- two operands with a comma between
pub more : {a b : List ℕ} {ws vs : List Word} {ks ls : List Kind} {m n : ℕ} → IsPiece word_end a ws ks m
    → IsPiece word_end b vs ls n
    → IsPiece word_end (a ++ codes "," ++ b) (ws ++ (codes "," ∷ []) ++ vs) (ks ++ (Comma ∷ []) ++ ls) (m + 1 + n)
unfolding kind_of mark_of single_mark
more first others = both (both first (mark_piece 44 Comma refl refl refl) (λ rest end. refl)) others (λ rest end. tt)

-- the tokens of a piece that nothing follows
pub tokens_are : {a : List ℕ} {ws : List Word} {ks : List Kind} {m : ℕ} → IsPiece word_end a ws ks m → tokens a ≡ ws
tokens_are {a = a} {ws = ws} piece = ap tokens (sym (append-nil a)) ∙ piece.splits [] refl ∙ append-nil ws
