-- The words of a spelled instruction up to its unit.
use Rattle.c62_adopt_line.proofs.Common.{◌≡◌, ℕ, ◌<◌, true, false, Bool, cond, ◌||◌, List, [], ◌∷◌, ◌++◌, Option, Some}
use Rattle.c62_adopt_line.proofs.Common.{None, refl, sym, ap, ◌∙◌, arith, nat_tests, Word, tokens, begins, grow, length}
use Rattle.c62_adopt_line.proofs.Common.{codes, append_assoc}
use Rattle.std.specs.Fmt.{decimal, digits}
use Rattle.std.specs.List.{list_any}
use Rattle.std.proofs.lemmas.Bool.{agree_below_at}
use Rattle.std.proofs.lemmas.List.Folds.{list_any-append}
use Rattle.c62_op.specs.declared.register.Side.{Side}
use Rattle.c62_op.specs.declared.register.Side.TheVariants.{A, B}
use Rattle.c62_op.specs.declared.register.Reg.{Reg}
use Rattle.c62_op.specs.declared.register.Cond.{Cond as Condition}
use Rattle.c62_op.specs.declared.operands.Op.{Op}
use Rattle.c62_op.specs.declared.operands.Op.TheVariants.{Add}
use Rattle.c62_op.specs.Name.{register_name, file_letter}
use Rattle.c62_op.specs.Table.{mnemonic_of}
use Rattle.c62_insn.specs.declared.insn.Insn.{Insn}
use Rattle.c62_insn.specs.Insn.{op_of, cond_of}
use Rattle.c62_insn.specs.Spelling.{condition_spelling}
use Rattle.c62_token.proofs.SpelledTokens.{mark_alone, word_token}
use Rattle.c62_token.proofs.TokenLemmas.{tokens_blank}
use Rattle.c62_line.specs.Unit.{is_dot}
use Rattle.c62_adopt_line.specs.Laws.{has_return}
use Rattle.c62_adopt_line.specs.Plain.{names_branch}
use Rattle.c62_adopt_line.proofs.PlainOperands.{file_words}
use Rattle.c62_adopt_line.proofs.PlainInsns.{mnemonic_words, front_of}

-- ---- words up to the unit

abbrev stops : Word → Bool
stops word = names_branch word || begins is_dot word

pub return_behind : (words rest : List Word) → list_any stops words ≡ false
    → has_return (words ++ rest) ≡ has_return rest
return_behind [] rest none = refl
return_behind (word ∷ words) rest none =
    let ret : names_branch word ≡ false = grind (arith, nat_tests) in
    let dot : begins is_dot word ≡ false = grind (arith, nat_tests) in
    rw (ret, dot) (return_behind words rest (grind (arith, nat_tests)))

pub dotted_no_return : (words : List Word) → has_return (grow 46 words) ≡ false
dotted_no_return [] = refl
dotted_no_return (word ∷ words) = refl

file_stops : (side : Side) (n : ℕ) → n < 16 → stops (file_letter side ++ decimal n) ≡ false
unfolding digits
file_stops A n small = agree_below_at (λ (k : ℕ). stops (file_letter A ++ decimal k)) (λ (k : ℕ). false) 16 n refl small
file_stops B n small = agree_below_at (λ (k : ℕ). stops (file_letter B ++ decimal k)) (λ (k : ℕ). false) 16 n refl small

mnemonic_stops : (op : Op) → stops (mnemonic_of op) ≡ false
mnemonic_stops Add = refl
mnemonic_stops _ = refl

mnemonic_some : (op : Op) → 0 < length (mnemonic_of op)
mnemonic_some Add = omega arith
mnemonic_some _ = omega arith

some_letter : (side : Side) (ds : List ℕ) → 0 < length (file_letter side ++ ds)
some_letter A ds = omega arith
some_letter B ds = omega arith

register_some : (reg : Reg) → 0 < length (register_name reg)
register_some reg = some_letter reg.side (decimal reg.number)

-- a text with its words, none of which is a return's name or a unit
pub record IsFront (text : List ℕ) : Type 0 where
  pub words : List Word
  pub splits : (rest : List ℕ) → tokens (text ++ rest) ≡ words ++ tokens rest
  pub none : list_any stops words ≡ false

bang_tokens : (negated : Bool) (rest : List ℕ)
    → tokens (cond negated (codes "!") [] ++ rest) ≡ cond negated (codes "!" ∷ []) [] ++ tokens rest
bang_tokens true rest = mark_alone 33 rest refl
bang_tokens false rest = refl

spread : (bang reg rest : List ℕ)
    → (codes "[" ++ bang ++ reg ++ codes "] ") ++ rest ≡ 91 ∷ (bang ++ (reg ++ (codes "] " ++ rest)))
spread bang reg rest = simp append_assoc refl

condition_none : (negated : Bool) (w : Word) → stops w ≡ false
    → list_any stops ((codes "[" ∷ cond negated (codes "!" ∷ []) []) ++ (w ∷ codes "]" ∷ [])) ≡ false
condition_none true w none = rw none refl
condition_none false w none = rw none refl

condition_tokens : (negated : Bool) (reg : Reg) (rest : List ℕ)
    → tokens (condition_spelling (Some (record { reg = reg; negated = negated })) ++ rest)
    ≡ (codes "[" ∷ cond negated (codes "!" ∷ []) []) ++ ((register_name reg ∷ codes "]" ∷ []) ++ tokens rest)
condition_tokens negated reg rest =
    let register = (word_token (register_name reg) (register_some reg)
    (file_words reg.side reg.number reg.in_range)).splits (codes "] " ++ rest) refl in
    let closing = mark_alone 93 (codes " " ++ rest) refl
    ∙ ap (λ (words : List Word). codes "]" ∷ words) (tokens_blank 32 rest refl refl) in
    ap tokens (spread (cond negated (codes "!") []) (register_name reg) rest)
    ∙ mark_alone 91 (cond negated (codes "!") [] ++ (register_name reg ++ (codes "] " ++ rest))) refl
    ∙ ap (λ (words : List Word). codes "[" ∷ words) (bang_tokens negated (register_name reg ++ (codes "] " ++ rest))
    ∙ ap (λ (words : List Word). cond negated (codes "!" ∷ []) [] ++ words)
    (register ∙ ap (λ (words : List Word). register_name reg ∷ words) closing))

condition_front : (cond : Option Condition) → IsFront (condition_spelling cond)
condition_front None = record { words = []; splits = λ rest. refl; none = refl }
condition_front (Some c) =
    record {
      words = (codes "[" ∷ cond c.negated (codes "!" ∷ []) []) ++ (register_name c.reg ∷ codes "]" ∷ []);
      splits = λ rest. condition_tokens c.negated c.reg rest
          ∙ sym (append_assoc (codes "[" ∷ cond c.negated (codes "!" ∷ []) [])
          (register_name c.reg ∷ codes "]" ∷ []) (tokens rest));
      none = condition_none c.negated (register_name c.reg) (file_stops c.reg.side c.reg.number c.reg.in_range);
    }

pub insn_front : (insn : Insn) → IsFront (front_of insn)
insn_front insn =
    let before = condition_front (cond_of insn) in
    let name = mnemonic_of (op_of insn) in
    let token = word_token name (mnemonic_some (op_of insn)) (mnemonic_words (op_of insn)) in
    record {
      words = before.words ++ name ∷ [];
      splits = λ rest.
          ap tokens (append_assoc (condition_spelling (cond_of insn) ++ name) (codes " ") rest
          ∙ append_assoc (condition_spelling (cond_of insn)) name (codes " " ++ rest))
          ∙ before.splits (name ++ (codes " " ++ rest))
          ∙ ap (λ (words : List Word). before.words ++ words) (token.splits (codes " " ++ rest) refl
          ∙ ap (λ (words : List Word). name ∷ words) (tokens_blank 32 rest refl refl))
          ∙ sym (append_assoc before.words (name ∷ []) (tokens rest));
      none = list_any-append stops before.words (name ∷ []) ∙ rw (before.none, mnemonic_stops (op_of insn)) refl;
    }
