-- A spelled instruction has one dot, no colon and no round bracket.
use Rattle.c62_adopt_line.proofs.Common.{◌≡◌, ℕ, true, false, Bool, cond, eqb, List, [], ◌∷◌, ◌++◌, Option, Some, None}
use Rattle.c62_adopt_line.proofs.Common.{refl, ◌∙◌, arith, nat_tests, cases_Bool, inl, inr, Word, is_word_byte, codes}
use Rattle.c62_adopt_line.proofs.Common.{append_assoc}
use Rattle.std.specs.List.{list_all, list_any}
use Rattle.std.proofs.lemmas.Bool.{and_parts, both_ways, eqb-true}
use Rattle.std.proofs.lemmas.List.Folds.{list_any-append}
use Rattle.c62_op.specs.declared.register.Side.{Side}
use Rattle.c62_op.specs.declared.register.Side.TheVariants.{A, B}
use Rattle.c62_op.specs.declared.register.Letter.{Letter}
use Rattle.c62_op.specs.declared.register.Letter.TheVariants.{L}
use Rattle.c62_op.specs.declared.register.Cond.{Cond as Condition}
use Rattle.c62_op.specs.declared.register.Unit.{Unit as FunctionalUnit}
use Rattle.c62_op.specs.declared.operands.Op.{Op}
use Rattle.c62_op.specs.declared.operands.Op.TheVariants.{Add}
use Rattle.c62_op.specs.Table.{mnemonic_of}
use Rattle.c62_op.specs.Takes.{takes}
use Rattle.c62_op.specs.Shape.{crosses_to, data_path_of}
use Rattle.c62_op.proofs.FormLemmas.{narrow_constants}
use Rattle.c62_insn.specs.declared.insn.Insn.{Insn}
use Rattle.c62_insn.specs.Insn.{op_of, operands_of, cond_of}
use Rattle.c62_insn.specs.Spelling.{condition_spelling, unit_letter, side_digit, data_path_spelling, path_spelling}
use Rattle.c62_insn.specs.Spelling.{operands_spelling, spelling}
use Rattle.c62_adopt_line.specs.Laws.{has_one_dot}
use Rattle.c62_line.specs.Laws.{NamesTarget}
use Rattle.c62_adopt_line.proofs.PlainOperands.{is_plain, ArePlain, joined, word_plain, register_plain, bracket_plain}
use Rattle.c62_adopt_line.proofs.PlainOperands.{operands_plain}

-- ---- what stands round the dot of the unit

pub mnemonic_words : (op : Op) → list_all is_word_byte (mnemonic_of op) ≡ true
mnemonic_words Add = refl
mnemonic_words _ = refl

bang_plain : (negated : Bool) → ArePlain (cond negated (codes "!") [])
bang_plain true = record { all = refl }
bang_plain false = record { all = refl }

end_plain : ArePlain (codes "] ")
end_plain = record { all = refl }

condition_plain : (cond : Option Condition) → ArePlain (condition_spelling cond)
condition_plain None = record { all = refl }
condition_plain (Some c) = joined (joined (joined bracket_plain (bang_plain c.negated)) (register_plain c.reg))
    end_plain

blank_plain : ArePlain (codes " ")
blank_plain = record { all = refl }

letter_plain : (letter : Letter) → ArePlain (unit_letter letter)
letter_plain L = record { all = refl }
letter_plain _ = record { all = refl }

digit_plain : (side : Side) → ArePlain (side_digit side)
digit_plain A = record { all = refl }
digit_plain B = record { all = refl }

data_plain : (path : Option Side) → ArePlain (data_path_spelling path)
data_plain None = record { all = refl }
data_plain (Some A) = record { all = refl }
data_plain (Some B) = record { all = refl }

cross_plain : (crosses : Bool) → ArePlain (cond crosses (codes "X") [])
cross_plain true = record { all = refl }
cross_plain false = record { all = refl }

-- a line before the dot, and behind it
abbrev pub front_of : Insn → List ℕ
front_of insn = condition_spelling (cond_of insn) ++ mnemonic_of (op_of insn) ++ codes " "

abbrev pub back_of : (ℕ → Word) → Insn → FunctionalUnit → List ℕ
back_of name insn unit =
    unit_letter unit.letter ++ side_digit unit.side ++ path_spelling unit.side (operands_of insn) ++ codes " "
    ++ operands_spelling name (op_of insn) unit.letter (operands_of insn)

regrouped : (c m l s p o : List ℕ)
    → c ++ m ++ codes " " ++ (codes "." ++ l ++ s ++ p) ++ codes " " ++ o ≡ (c ++ m ++ codes " ") ++ 46 ∷
    (l ++ s ++ p ++ codes " " ++ o)
regrouped c m l s p o = simp append_assoc refl

pub spelled_parts : (name : ℕ → Word) (insn : Insn) (unit : FunctionalUnit)
    → spelling name insn unit ≡ front_of insn ++ 46 ∷ back_of name insn unit
spelled_parts name insn unit = regrouped (condition_spelling (cond_of insn)) (mnemonic_of (op_of insn))
    (unit_letter unit.letter) (side_digit unit.side)
    (path_spelling unit.side (operands_of insn)) (operands_spelling name (op_of insn) unit.letter (operands_of insn))

pub front_plain : (insn : Insn) → ArePlain (front_of insn)
front_plain insn = joined
    (joined (condition_plain (cond_of insn)) (word_plain (mnemonic_of (op_of insn)) (mnemonic_words (op_of insn))))
    blank_plain

pub back_plain : (name : ℕ → Word) (insn : Insn) (unit : FunctionalUnit)
    → takes (op_of insn) (operands_of insn) unit ≡ true
    → NamesTarget name (operands_of insn) → ArePlain (back_of name insn unit)
back_plain name insn unit taking names =
    let path = joined (cross_plain (crosses_to unit.side (operands_of insn)))
    (data_plain (data_path_of (operands_of insn))) in
    let operands = operands_plain name (op_of insn) unit.letter (operands_of insn)
    (narrow_constants (op_of insn) (operands_of insn) unit taking) names in
    joined (joined (joined (joined (letter_plain unit.letter) (digit_plain unit.side)) path) blank_plain) operands

-- ---- one dot, no colon and no round bracket

pub no_dot : (text : List ℕ) → list_all is_plain text ≡ true → list_any (λ b. eqb b 46) text ≡ false
no_dot [] plain = refl
no_dot (b ∷ text) plain = grind (arith, nat_tests, no_dot text)

pub one_between : (front back : List ℕ) → list_all is_plain front ≡ true → list_all is_plain back ≡ true
    → has_one_dot (front ++ 46 ∷ back) ≡ true
one_between [] back first second = rw (no_dot back second) refl
one_between (b ∷ front) back first second =
    let other : eqb b 46 ≡ false = grind (arith, nat_tests) in rw other
    (one_between front back (grind (arith, nat_tests)) second)

differs : (b c : ℕ) → is_plain b ≡ true → is_plain c ≡ false → eqb b c ≡ false
differs b c plain odd = elim (cases_Bool (eqb b c)) [
  | inl same ↦ let is = eqb-true b c same in absurd (both_ways (is_plain c) odd (rw is at plain))
  | inr other ↦ other
]

-- a byte that no plain text has
pub lacks : (c : ℕ) → is_plain c ≡ false → (text : List ℕ) → list_all is_plain text ≡ true
    → list_any (λ b. eqb b c) text ≡ false
lacks c odd [] plain = refl
lacks c odd (b ∷ text) plain =
    let first = and_parts (is_plain b) (list_all is_plain text) plain in
    let other : eqb b c ≡ false = differs b c first.0 odd in
    rw (other, lacks c odd text first.1) refl

pub lacks_between : (c : ℕ) → is_plain c ≡ false → eqb 46 c ≡ false → (front back : List ℕ) → ArePlain front
    → ArePlain back
    → list_any (λ b. eqb b c) (front ++ 46 ∷ back) ≡ false
lacks_between c odd other front back first second =
    list_any-append (λ b. eqb b c) front (46 ∷ back)
    ∙ rw (lacks c odd front first.all, other, lacks c odd back second.all) refl
