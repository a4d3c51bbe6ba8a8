-- What is read of the tokens of a spelled address.
use Rattle.c62_line.proofs.Common.{◌≡◌, ℕ, Bool, true, false, cond, ◌&&◌, List, [], ◌∷◌, ◌++◌, Some, refl, sym, ap}
use Rattle.c62_line.proofs.Common.{arith, ℤ, pos, negsuc, codes, decimal, list_all, Side, A, B, Reg, AddressForm}
use Rattle.c62_line.proofs.Common.{Access, file_letter, register_name, Kind, Comma, Star, Open, Close, Number, put_back}
use Rattle.c62_line.proofs.Common.{tokens, Word, kinds_of, nat_tests}
use Rattle.std.specs.Fmt.{signed_decimal}
use Rattle.std.specs.Ordering.{int_eq}
use Rattle.std.proofs.lemmas.Bool.Decides.{Decides-int_eq}
use Rattle.c62_op.specs.declared.operands.AddressForm.TheVariants.{Plus}
use Rattle.c62_op.specs.declared.operands.Offset.{Offset}
use Rattle.c62_op.specs.declared.operands.Offset.TheVariants.{Constant as ByConstant, Register as ByRegister}
use Rattle.c62_insn.specs.Spelling.{is_base_alone, offset_spelling, sign_of, step_of, with_commas}
use Rattle.c62_op.proofs.FormLemmas.{is_narrow, constants_of}
use Rattle.c62_token.specs.declared.kind.Kind.TheVariants.{Register}
use Rattle.c62_token.specs.Kind.{kind_of, mark_of, single_mark, read_in}
use Rattle.std.specs.Prelude.{map}
use Rattle.std.proofs.lemmas.List.{map-append}
use Rattle.c62_line.specs.Operand.{address_front, operands_of, with_offset}
use Rattle.c62_token.proofs.SpelledTokens.{IsPiece, both, mark_piece, more, weaker, word_end}
use Rattle.c62_token.proofs.SpelledNumbers.{number_piece, register_piece}
use Rattle.c62_op.specs.declared.set.InstructionSet.{InstructionSet}
use Rattle.c62_op.specs.declared.set.InstructionSet.TheVariants.{Core, Full}

-- ---- addresses

abbrev offset_kind : Offset → Kind
offset_kind (ByConstant k) = Number k
offset_kind (ByRegister reg) = Register reg

-- a constant that a form takes
pub narrow_piece : (k : ℤ) (rest : Bool) → (is_narrow k && rest) ≡ true
    → IsPiece word_end (signed_decimal k) (signed_decimal k ∷ []) (Number k ∷ []) 11
narrow_piece (pos n) rest narrow = number_piece (pos n) (grind (arith, nat_tests))
narrow_piece (negsuc n) rest narrow = number_piece (negsuc n) (grind (arith, nat_tests))

pub offset_piece : (reg base : Reg) (form : AddressForm) (offset : Offset)
    → list_all is_narrow (constants_of (Access reg base form offset)) ≡ true
    → IsPiece word_end (offset_spelling offset) (offset_spelling offset ∷ []) (offset_kind offset ∷ []) 11
offset_piece reg base form (ByConstant k) narrow = narrow_piece k _ narrow
offset_piece reg base form (ByRegister offset) narrow = register_piece offset

-- a sign or a step is a word, where there is one
abbrev words_of : List ℕ → List Word
words_of text = put_back text []

sign_tokens : (form : AddressForm) (side : Side) (ds rest : List ℕ)
    → tokens (sign_of form ++ ((file_letter side ++ ds) ++ rest)) ≡ words_of (sign_of form) ++ tokens
    ((file_letter side ++ ds) ++ rest)
sign_tokens Plus A ds rest = refl
sign_tokens Plus B ds rest = refl
sign_tokens _ A ds rest = refl
sign_tokens _ B ds rest = refl

sign_piece : (form : AddressForm)
    → IsPiece (λ rest. tokens (sign_of form ++ rest) ≡ words_of (sign_of form) ++ tokens rest) (sign_of form)
    (words_of (sign_of form))
    (kinds_of (words_of (sign_of form))) 2
sign_piece Plus = record { splits = λ rest end. end; plain = refl; told = refl; short = omega arith }
sign_piece _ = record { splits = λ rest end. end; plain = refl; told = refl; short = omega arith }

step_piece : (form : AddressForm)
    → IsPiece word_end (step_of form) (words_of (step_of form)) (kinds_of (words_of (step_of form))) 2
step_piece Plus = record { splits = λ rest end. refl; plain = refl; told = refl; short = omega arith }
step_piece _ = record { splits = λ rest end. refl; plain = refl; told = refl; short = omega arith }

step_ends : (form : AddressForm) (rest : List ℕ) → word_end rest → word_end (step_of form ++ rest)
step_ends Plus rest end = end
step_ends _ rest end = cc

abbrev pub address_kinds : Bool → Reg → AddressForm → Offset → List Kind
address_kinds alone base form offset =
    cond alone (Star ∷ Register base ∷ [])
    ((Star ∷ []) ++ kinds_of (words_of (sign_of form)) ++ (Register base ∷ []) ++ kinds_of (words_of (step_of form)) ++
    (Open ∷ [])
    ++ (offset_kind offset ∷ []) ++ (Close ∷ []))

pub address_piece : (base : Reg) (form : AddressForm) (offset : Offset) (alone : Bool)
    → IsPiece word_end (offset_spelling offset) (offset_spelling offset ∷ []) (offset_kind offset ∷ []) 11
    → (words : List Word)
    × IsPiece word_end (cond alone (codes "*" ++ register_name base)
    (codes "*" ++ sign_of form ++ register_name base ++ step_of form ++ codes "[" ++ offset_spelling offset ++ codes
    "]"))
    words (address_kinds alone base form offset) 29
unfolding kind_of mark_of single_mark
address_piece base form offset true inside = (
  _,
  weaker 29 (both (mark_piece 42 Star refl refl refl) (register_piece base) (λ rest end. tt)) (λ rest end. end)
      (omega arith),
)
address_piece base form offset false inside =
    let signed = both (both (mark_piece 42 Star refl refl refl) (sign_piece form) (λ rest end. tt))
    (register_piece base)
    (λ rest end. sign_tokens form base.side (decimal base.number) rest) in
    let bracket = both (both signed (step_piece form) (step_ends form)) (mark_piece 91 Open refl refl refl)
    (λ rest end. refl) in (
      _,
      weaker 29 (both (both bracket inside (λ rest end. tt)) (mark_piece 93 Close refl refl refl) (λ _ _. refl))
          (λ _ _. tt) (omega arith),
    )

-- ---- loads and stores

abbrev access_kinds : Bool → Reg → List Kind → List Kind
access_kinds store reg address = cond store (Register reg ∷ Comma ∷ address)
    (address ++ (Comma ∷ []) ++ (Register reg ∷ []))

pub access_piece : (store : Bool) (reg : Reg) (text : List ℕ) (words : List Word) (kinds : List Kind)
    → IsPiece word_end text words kinds 29
    → (whole : List Word)
    × IsPiece word_end (cond store (with_commas (register_name reg ∷ text ∷ []))
    (with_commas (text ∷ register_name reg ∷ []))) whole
    (access_kinds store reg kinds) 41
access_piece true reg text words kinds piece = (_, more (register_piece reg) piece)
access_piece false reg text words kinds piece = (_, more piece (register_piece reg))

plus_back : (isa : InstructionSet) (store : Bool) (reg base : Reg) (k : ℤ) (alone : Bool) → int_eq k (pos 0) ≡ alone
    → operands_of isa store (access_kinds store reg (address_kinds alone base Plus (ByConstant k))) ≡ Some
    (Access reg base Plus (ByConstant k))
unfolding operands_of address_front with_offset kind_of mark_of single_mark
plus_back Core true reg base k true e = ap (λ (z : ℤ). Some (Access reg base Plus (ByConstant z)))
    (sym ((Decides-int_eq k (pos 0)).0 e))
plus_back Core false reg base k true e = ap (λ (z : ℤ). Some (Access reg base Plus (ByConstant z)))
    (sym ((Decides-int_eq k (pos 0)).0 e))
plus_back Full true reg base k true e = ap (λ (z : ℤ). Some (Access reg base Plus (ByConstant z)))
    (sym ((Decides-int_eq k (pos 0)).0 e))
plus_back Full false reg base k true e = ap (λ (z : ℤ). Some (Access reg base Plus (ByConstant z)))
    (sym ((Decides-int_eq k (pos 0)).0 e))
plus_back isa true reg base k false e = refl
plus_back isa false reg base k false e = refl

-- the operands of a load or store read as they are
pub access_back : (isa : InstructionSet) (store : Bool) (reg base : Reg) (form : AddressForm) (offset : Offset)
    → operands_of isa store (access_kinds store reg (address_kinds (is_base_alone form offset) base form offset)) ≡ Some
    (Access reg base form offset)
unfolding operands_of address_front with_offset kind_of mark_of single_mark
access_back isa true reg base Plus (ByConstant k) = plus_back isa true reg base k (int_eq k (pos 0)) refl
access_back isa false reg base Plus (ByConstant k) = plus_back isa false reg base k (int_eq k (pos 0)) refl
access_back isa true reg base Plus (ByRegister offset) = refl
access_back isa false reg base Plus (ByRegister offset) = refl
access_back isa _ reg base _ (ByConstant k) = refl
access_back isa _ reg base _ (ByRegister offset) = refl

-- and have no other spelling
offset_plain : (isa : InstructionSet) (offset : Offset) → read_in isa (offset_kind offset) ≡ offset_kind offset
offset_plain isa (ByConstant k) = refl
offset_plain isa (ByRegister reg) = refl

address_plain : (isa : InstructionSet) (alone : Bool) (base : Reg) (form : AddressForm) (offset : Offset)
    → map (read_in isa) (address_kinds alone base form offset) ≡ address_kinds alone base form offset
unfolding kind_of mark_of single_mark
address_plain isa true base form offset = refl
address_plain isa false base Plus offset = rw (offset_plain isa offset) refl
address_plain isa false base _ offset = rw (offset_plain isa offset) refl

pub access_plain : (isa : InstructionSet) (store : Bool) (reg base : Reg) (form : AddressForm) (offset : Offset)
    → map (read_in isa) (access_kinds store reg (address_kinds (is_base_alone form offset) base form offset))
    ≡ access_kinds store
    reg (address_kinds (is_base_alone form offset) base form offset)
access_plain isa true reg base form offset = rw (address_plain isa (is_base_alone form offset) base form offset) refl
access_plain isa false reg base form offset =
    simp (map-append, address_plain isa (is_base_alone form offset) base form offset) refl
