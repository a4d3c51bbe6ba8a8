-- At which token of a line a fault of serial text is found, and where that token stands (docs/FAULTS.md, "Where a fault is found";
-- docs/SERIAL_TEXT.md, "Faults of a line").
use Rattle.std.specs.Prelude.{◌≡◌, ℕ, pos, ◌+◌, ◌-◌, ◌≤◌, ◌<◌, nat_lt, int_le, Bool, true, false, not, ◌&&◌, List, [], ◌∷◌, length, take, drop, Option, Some, None, position, unwrap_or, if◌then◌else◌}
use Rattle.c62_op.specs.declared.register.Cond.{Cond as Condition}
use Rattle.c62_insn.specs.declared.fault.FormFault.TheVariants.{BadCondition, ConstantRange}
use Rattle.c62_token.specs.Token.{tokens, is_allowed}
use Rattle.c62_token.specs.Kind.{Word, kinds_in}
use Rattle.c62_token.specs.declared.kind.Kind.{Kind}
use Rattle.c62_token.specs.declared.kind.Kind.TheVariants as kind
use Rattle.c62_line.specs.declared.limits.TheConstants.{MOST_LINE}
use Rattle.c62_line.specs.declared.fault.Cause.{Cause}
use Rattle.c62_line.specs.declared.fault.Cause.TheVariants as cause
use Rattle.c62_line.specs.declared.mnemonic.Mnemonic.{Mnemonic}
use Rattle.c62_line.specs.declared.mnemonic.Mnemonic.TheVariants.{Nop}
use Rattle.c62_line.specs.declared.unit.Mark.{Mark}
use Rattle.c62_line.specs.declared.unit.Mark.TheVariants.{Plain, Cross, Path}
use Rattle.c62_line.specs.declared.unit.WrittenUnit.{WrittenUnit}
use Rattle.c62_line.specs.Line.{label_front, condition_front, mnemonic_front, unit_behind}
use Rattle.c62_place.specs.declared.sort.Sort.{Sort}
use Rattle.c62_place.specs.declared.sort.Sort.TheVariants.{Number, Colon}
use Rattle.c62_place.specs.declared.place.Place.{Place}
use Rattle.c62_place.specs.Sort.{same_sort, sorts_of}
use Rattle.c62_place.specs.Shape.{all_forms, conditions, furthest, furthest_by, pauses}
use Rattle.c62_op.specs.declared.set.InstructionSet.{InstructionSet}
use Rattle.c62_op.specs.declared.set.InstructionSet.TheVariants.{Core}

-- ---- how many tokens the parts of a line have

abbrev pub label_tokens : Option Word → ℕ
label_tokens None = 0
label_tokens (Some label) = 2

-- `[R]` or `[!R]`
abbrev pub condition_tokens : Option Condition → ℕ
condition_tokens None = 0
condition_tokens (Some cond) = if cond.negated then 4 else 3

abbrev pub mark_length : Mark → ℕ
mark_length Plain = 0
mark_length Cross = 1
mark_length (Path side) = 2

-- whether the unit's token goes on behind the unit, as in `.S15`
abbrev pub has_more : WrittenUnit → List Word → Bool
has_more written [] = false
has_more written (word ∷ words) = nat_lt (3 + mark_length written.mark) (length word)

-- a unit has a token of its own, unless that goes on behind it
abbrev pub unit_tokens : Option WrittenUnit → List Word → ℕ
unit_tokens None words = 0
unit_tokens (Some written) words = if has_more written words then 0 else 1

-- ---- the token among the operands

abbrev pub is_number : Kind → Bool
is_number (kind.Number k) = true
is_number kind = false

-- a constant that no five bits hold
abbrev pub is_far : Kind → Bool
is_far (kind.Number k) = not (int_le (pos 0) k && int_le k (pos 31))
is_far kind = false

abbrev pub first_far : List Kind → Option ℕ
first_far kinds = position is_far kinds

abbrev pub first_number : List Kind → Option ℕ
first_number kinds = position is_number kinds

-- the first constant outside 0 to 31, or else the first
abbrev pub constant_token : List Kind → ℕ
constant_token kinds = unwrap_or (first_far kinds) (unwrap_or (first_number kinds) 0)

abbrev pub first_colon : List Sort → Option ℕ
first_colon sorts = position (same_sort Colon) sorts

abbrev pub is_number_alone : List Sort → Bool
is_number_alone (Number ∷ []) = true
is_number_alone _ = false

-- The first token with which no operands of the mnemonic go on, and behind a NOP a number that it doesn't take.
abbrev pub operand_token : InstructionSet → Mnemonic → List Sort → ℕ
operand_token isa Nop sorts = if is_number_alone sorts then 0 else furthest sorts pauses
operand_token isa mnemonic sorts = furthest_by isa mnemonic sorts all_forms

abbrev pub is_pause : Mnemonic → Bool
is_pause Nop = true
is_pause mnemonic = false

abbrev pub is_conditional_pause : Mnemonic → Option Condition → Bool
is_conditional_pause mnemonic None = false
is_conditional_pause mnemonic (Some cond) = is_pause mnemonic

-- ---- the token of an instruction

-- Where all up to the operands is right: a fault of the form is found at the condition's register, at the constant, or of the
-- instruction as a whole, which is told at its unit, or at its mnemonic where no unit is written. `front` is how many tokens
-- stand before the operands, and `unit` how many of them are the unit.
abbrev pub whole_token : InstructionSet → Cause → Option Condition → Mnemonic → ℕ → List Word → ℕ
whole_token isa (cause.Form BadCondition) cond mnemonic unit words = condition_tokens cond - 2
whole_token isa (cause.Form ConstantRange) cond mnemonic unit words = condition_tokens cond + 1 + unit + constant_token (kinds_in isa words)
whole_token isa (cause.Form fault) cond mnemonic unit words = condition_tokens cond + unit
whole_token isa cause.BadOperand cond mnemonic unit words =
    if is_conditional_pause mnemonic cond then 0 else condition_tokens cond + 1 + unit + operand_token isa mnemonic (sorts_of isa words)
whole_token isa other cond mnemonic unit words = condition_tokens cond + 1 + unit

abbrev pub by_unit : InstructionSet → Cause → Option Condition → Mnemonic → List Word → Option (Option WrittenUnit × List Word) → ℕ
by_unit isa fault cond mnemonic words None = condition_tokens cond + 1
by_unit isa fault cond mnemonic words (Some (written, rest)) = whole_token isa fault cond mnemonic (unit_tokens written words) rest

abbrev pub by_mnemonic : InstructionSet → Cause → Option Condition → Option (Mnemonic × List Word) → ℕ
by_mnemonic isa fault cond None = condition_tokens cond
by_mnemonic isa fault cond (Some (mnemonic, words)) = by_unit isa fault cond mnemonic words (unit_behind mnemonic words)

-- a condition has registers by their own names alone, in each set
abbrev pub by_condition : InstructionSet → Cause → List Word → Option (Option Condition × List Word) → ℕ
by_condition isa fault words None = furthest (sorts_of Core words) conditions
by_condition isa fault words (Some (cond, rest)) = by_mnemonic isa fault cond (mnemonic_front isa rest)

-- how many of these tokens, which stand behind the label, stand before the fault
unfoldable pub instruction_token : InstructionSet → Cause → List Word → ℕ
instruction_token isa fault words = by_condition isa fault words (condition_front words)

-- ---- the token of a line

abbrev pub behind_label : InstructionSet → Cause → List Word → ℕ
behind_label isa cause.BadLabel words = unwrap_or (first_colon (sorts_of isa words)) 0
behind_label isa cause.Directive words = 0
behind_label isa cause.TooManyInstructions words = 0
behind_label isa fault words = instruction_token isa fault words

-- how many of a line's tokens stand before the one at which this fault of it is found
unfoldable pub faulty_token : InstructionSet → Cause → List Word → ℕ
faulty_token isa cause.ParallelBar words = 0
faulty_token isa cause.DuplicateLabel words = 0
faulty_token isa cause.TooManyBlocks words = 0
faulty_token isa fault words = label_tokens (label_front words).0 + behind_label isa fault (label_front words).1

-- ---- where it stands

-- these bytes of the line are its token behind so many others; where it has no more, a place from which on none stands
pub record IsToken (line : List ℕ) (before : ℕ) (place : Place) : Type 0 where
  pub within : place.start + place.len ≤ length line
  pub there : before < length (tokens line) → take place.len (drop place.start line) ∷ [] ≡ take 1 (drop before (tokens line))
  pub left : tokens (drop place.start line) ≡ drop before (tokens line)
  pub none : length (tokens line) ≤ before → place.len ≡ 0

-- the first token of a line, where it has one
abbrev pub IsFirstToken : List ℕ → Option Place → Type 0
IsFirstToken line None = tokens line ≡ []
IsFirstToken line (Some place) =
    (place.start + place.len ≤ length line)
    × (tokens line ≡ take place.len (drop place.start line) ∷ tokens (drop (place.start + place.len) line))
    × (tokens (drop place.start line) ≡ tokens line) × (0 < place.len)

-- the first byte that isn't allowed
abbrev pub first_refused : List ℕ → Option ℕ
first_refused line = position (λ b. not (is_allowed b)) line

-- where a fault of this line is found: a byte that isn't allowed, the first byte past the longest line, no place for a fault of
-- no line, and else a token
unfoldable pub IsPlace : InstructionSet → Cause → List ℕ → Place → Type 0
IsPlace isa cause.NotAscii line place = (place.start ≡ unwrap_or (first_refused line) 0) × (place.len ≡ 1)
IsPlace isa cause.LineTooLong line place = (place.start ≡ MOST_LINE) × (place.len ≡ 1)
IsPlace isa cause.TextTooLong line place = (place.start ≡ 0) × (place.len ≡ 0)
IsPlace isa cause.Memory line place = (place.start ≡ 0) × (place.len ≡ 0)
IsPlace isa fault line place = IsToken line (faulty_token isa fault (tokens line)) place
