-- The bytes of spelled operands are neither a dot nor a colon nor a round bracket.
use Rattle.c62_adopt_line.proofs.Common.{◌≡◌, ℕ, ◌≤◌, ◌<◌, true, Bool, not, eqb, ◌&&◌, List, ◌∷◌, ◌++◌, refl, ◌∙◌}
use Rattle.c62_adopt_line.proofs.Common.{arith, nat_tests, Word, is_word_byte, codes, ℤ, pos, negsuc}
use Rattle.std.proofs.Common.{◌^◌, suc}
use Rattle.std.specs.Char.{is_ascii_digit}
use Rattle.std.specs.Fmt.{decimal, digits, signed_decimal}
use Rattle.std.specs.List.{list_all}
use Rattle.std.proofs.lemmas.Bool.{agree_below_at, and_from, and_parts, cond_both}
use Rattle.std.proofs.lemmas.Fmt.{digits_decimal}
use Rattle.std.proofs.lemmas.List.Folds.{list_all-append}
use Rattle.c62_op.specs.declared.register.Side.{Side}
use Rattle.c62_op.specs.declared.register.Side.TheVariants.{A, B}
use Rattle.c62_op.specs.declared.register.Letter.{Letter}
use Rattle.c62_op.specs.declared.register.Letter.TheVariants.{D}
use Rattle.c62_op.specs.declared.register.Reg.{Reg}
use Rattle.c62_op.specs.declared.operands.Op.{Op}
use Rattle.c62_op.specs.declared.operands.AddressForm.{AddressForm}
use Rattle.c62_op.specs.declared.operands.AddressForm.TheVariants.{Plus}
use Rattle.c62_op.specs.declared.operands.Offset.{Offset}
use Rattle.c62_op.specs.declared.operands.Offset.TheVariants.{Constant as ByConstant, Register as ByRegister}
use Rattle.c62_op.specs.declared.operands.Operands.{Operands}
use Rattle.c62_op.specs.declared.operands.Operands.TheVariants.{Three, ConstantFirst, ConstantSecond, Two, Field}
use Rattle.c62_op.specs.declared.operands.Operands.TheVariants.{Constant, Access, Block, Register}
use Rattle.c62_op.specs.Name.{register_name, file_letter}
use Rattle.c62_op.specs.Takes.{same_letter}
use Rattle.c62_op.specs.Shape.{is_store}
use Rattle.c62_op.proofs.FormLemmas.{constants_of, is_narrow}
use Rattle.c62_insn.specs.Spelling.{offset_spelling, sign_of, step_of, is_base_alone, address_spelling}
use Rattle.c62_insn.specs.Spelling.{operands_spelling}
use Rattle.c62_token.proofs.SpelledTokens.{all_weaker}
use Rattle.c62_line.specs.Laws.{NamesTarget}
use Rattle.c62_line.proofs.SpelledOperands.{label_parts}
use Rattle.c62_token.proofs.SpelledNumbers.{own}

-- ---- bytes that are neither a dot nor a colon nor a round bracket

abbrev pub is_plain : ℕ → Bool
is_plain b = not (eqb b 46) && not (eqb b 58) && not (eqb b 40)

pub record ArePlain (text : List ℕ) : Type 0 where
  pub all : list_all is_plain text ≡ true

pub are_plain : (text : List ℕ) → list_all is_plain text ≡ true → ArePlain text
are_plain text all = record { all = all }

pub joined : {a b : List ℕ} → ArePlain a → ArePlain b → ArePlain (a ++ b)
joined {a = a} {b = b} one other =
    record {
      all = list_all-append is_plain a b
          ∙ and_from (list_all is_plain a) (list_all is_plain b) one.all other.all;
    }

pub word_plain : (w : Word) → list_all is_word_byte w ≡ true → ArePlain w
word_plain w words = are_plain w (all_weaker is_word_byte is_plain w (λ b word. grind (arith, nat_tests)) words)

pub file_words : (side : Side) (n : ℕ) → n < 16 → list_all is_word_byte (file_letter side ++ decimal n) ≡ true
unfolding digits
file_words A n small = agree_below_at (λ (k : ℕ). list_all is_word_byte (file_letter A ++ decimal k)) (λ (k : ℕ). true)
    16 n refl small
file_words B n small = agree_below_at (λ (k : ℕ). list_all is_word_byte (file_letter B ++ decimal k)) (λ (k : ℕ). true)
    16 n refl small

pub register_plain : (reg : Reg) → ArePlain (register_name reg)
register_plain reg = word_plain (register_name reg) (file_words reg.side reg.number reg.in_range)

digits_plain : (n : ℕ) → n < 2 ^ 64 → ArePlain (decimal n)
digits_plain n small =
    are_plain (decimal n)
    (all_weaker is_ascii_digit is_plain (decimal n) (λ b digit. grind (arith, nat_tests))
    (digits_decimal own n small))

number_plain : (k : ℤ) (rest : Bool) → (is_narrow k && rest) ≡ true → ArePlain (signed_decimal k)
number_plain (pos n) rest narrow = let low : n ≤ 65535 = grind (arith, nat_tests) in digits_plain n (omega arith)
number_plain (negsuc n) rest narrow = let low : n ≤ 32767 = grind (arith, nat_tests) in are_plain (45 ∷ decimal (suc n))
    (digits_plain (suc n) (omega arith)).all

-- ---- operands

offset_plain : (reg base : Reg) (form : AddressForm) (offset : Offset)
    → list_all is_narrow (constants_of (Access reg base form offset)) ≡ true
    → ArePlain (offset_spelling offset)
offset_plain reg base form (ByConstant k) narrow = number_plain k _ narrow
offset_plain reg base form (ByRegister offset) narrow = register_plain offset

sign_plain : (form : AddressForm) → ArePlain (sign_of form)
sign_plain Plus = record { all = refl }
sign_plain _ = record { all = refl }

step_plain : (form : AddressForm) → ArePlain (step_of form)
step_plain Plus = record { all = refl }
step_plain _ = record { all = refl }

pub bracket_plain : ArePlain (codes "[")
bracket_plain = record { all = refl }

closing_plain : ArePlain (codes "]")
closing_plain = record { all = refl }

star_plain : ArePlain (codes "*")
star_plain = record { all = refl }

address_plain : (base : Reg) (form : AddressForm) (offset : Offset) → ArePlain (offset_spelling offset)
    → ArePlain (address_spelling base form offset)
address_plain base form offset plain =
    let register = register_plain base in
    cond_both (is_base_alone form offset) (codes "*" ++ register_name base)
    (codes "*" ++ sign_of form ++ register_name base ++ step_of form ++ codes "[" ++ offset_spelling offset ++ codes
    "]") ArePlain
    (λ alone. joined star_plain register)
    (λ more. joined (joined
    (joined (joined (joined (joined star_plain (sign_plain form)) register) (step_plain form)) bracket_plain)
    plain) closing_plain)

comma_plain : ArePlain (codes ",")
comma_plain = record { all = refl }

more : {a b : List ℕ} → ArePlain a → ArePlain b → ArePlain (a ++ codes "," ++ b)
more one other = joined (joined one comma_plain) other

pub operands_plain : (name : ℕ → Word) (op : Op) (letter : Letter) (operands : Operands)
    → list_all is_narrow (constants_of operands) ≡ true
    → NamesTarget name operands → ArePlain (operands_spelling name op letter operands)
operands_plain name op letter (Three a b d) narrow names = more (register_plain a)
    (more (register_plain b) (register_plain d))
operands_plain name op letter (ConstantFirst k a d) narrow names =
    let number = number_plain k _ narrow in
    cond_both (same_letter letter D) _ _ ArePlain (λ e. more (register_plain a) (more number (register_plain d)))
    (λ e. more number (more (register_plain a) (register_plain d)))
operands_plain name op letter (ConstantSecond a k d) narrow names = more (register_plain a)
    (more (number_plain k _ narrow) (register_plain d))
operands_plain name op letter (Two a d) narrow names = more (register_plain a) (register_plain d)
operands_plain name op letter (Field a k m d) narrow names =
    let second = number_plain m _ (and_parts (is_narrow k) (is_narrow m && true) narrow).1 in
    more (register_plain a) (more (number_plain k _ narrow) (more second (register_plain d)))
operands_plain name op letter (Constant k d) narrow names = more (number_plain k _ narrow) (register_plain d)
operands_plain name op letter (Access reg base form offset) narrow names =
    let address = address_plain base form offset (offset_plain reg base form offset narrow) in
    cond_both (is_store op) _ _ ArePlain (λ e. more (register_plain reg) address)
    (λ e. more address (register_plain reg))
operands_plain name op letter (Block number) narrow names = word_plain (name number)
    (label_parts (name number) (names number refl)).1
operands_plain name op letter (Register target) narrow names = register_plain target
