-- Names that stand for a number or a register (docs/ADOPT.md, "Set names").
use Rattle.std.specs.Prelude.{ℤ, Bool, true, false, not, ◌&&◌, ◌||◌, nat_le, if◌then◌else◌, List, [], ◌∷◌, length, codes, Option, Some, None, option_map}
use Rattle.std.specs.Option.{option_or}
use Rattle.std.specs.Str.{bytes_eq}
use Rattle.c62_op.specs.declared.register.Reg.{Reg}
use Rattle.c62_token.specs.Kind.{Word}
use Rattle.c62_token.specs.Number.{is_label, register_of, spells}
use Rattle.c62_adopt_spell.specs.declared.names.Setting.{Setting}
use Rattle.c62_adopt_spell.specs.declared.names.Value.{Value}
use Rattle.c62_adopt_spell.specs.declared.names.Value.TheVariants.{Constant, Register}
use Rattle.c62_adopt_spell.specs.declared.names.TheConstants.{MOST_NAMES}
use Rattle.c62_adopt_spell.specs.Number.{plain_name, value_of}
use Rattle.c62_adopt_spell.specs.Operation.{is_instruction}
use Rattle.c62_op.specs.declared.set.InstructionSet.{InstructionSet}

-- ---- what a name stands for

abbrev pub value_set : Setting → Word → Option Value
value_set setting word = if bytes_eq setting.name word then Some setting.value else None

-- what a word stands for below these settings, of which the last one of its name counts
abbrev pub value_named : List Setting → Word → Option Value
value_named [] word = None
value_named (setting ∷ names) word = option_or (value_named names word) (value_set setting word)

-- ---- what may be set

abbrev pub as_constant : ℤ → Value
as_constant k = Constant k

abbrev pub as_register : Reg → Value
as_register reg = Register reg

-- the number or the register that a word is, or that it stands for
abbrev pub value_said : List Setting → Word → Option Value
value_said names word =
    option_or (option_map as_constant (value_of word)) (option_or (option_map as_register (register_of (plain_name word))) (value_named names word))

-- A label that is no instruction may be a name. SP, DP and FP stand for no other register than they do without a setting.
abbrev pub may_stand : InstructionSet → Word → Word → Bool
may_stand isa name value = is_label name && not (is_instruction isa name) && (bytes_eq (plain_name name) name || spells (plain_name name) (plain_name value))

abbrev pub setting_for : Word → Option Value → Option Setting
setting_for name None = None
setting_for name (Some value) = Some (record { name = name; value = value })

-- the first of these words as the name of what another word says
abbrev pub setting_to : InstructionSet → List Setting → List Word → Word → Option Setting
setting_to isa names [] value = None
setting_to isa names (name ∷ words) value = if may_stand isa name value then setting_for name (value_said names value) else None

-- ---- lines that set a name

abbrev pub sets : Word → Bool
sets directive = spells (codes ".set") directive || spells (codes ".equ") directive

-- the name stands before the value for `.set` and `.equ`, and behind it for `.asg`
abbrev pub set_as : InstructionSet → List Setting → Word → List Word → Word → Word → Option Setting
set_as isa names directive words one other =
    if sets directive then setting_to isa names words other
    else (if spells (codes ".asg") directive then setting_to isa names (other ∷ []) one else None)

-- the directive stands first, with a comma between name and value
abbrev pub set_behind : InstructionSet → List Setting → List Word → Option Setting
set_behind isa names (directive ∷ one ∷ comma ∷ other ∷ []) =
    if spells (codes ",") comma then set_as isa names directive (one ∷ comma ∷ other ∷ []) one other else None
set_behind isa names words = None

-- the name stands first, without a comma
abbrev pub set_before : InstructionSet → List Setting → List Word → Option Setting
set_before isa names (name ∷ directive ∷ value ∷ []) = if sets directive then setting_to isa names (name ∷ directive ∷ value ∷ []) value else None
set_before isa names words = None

-- what a line's words set, whose first stands in the first column or doesn't
abbrev pub setting_of : InstructionSet → List Setting → Bool → List Word → Option Setting
setting_of isa names column words =
    if nat_le MOST_NAMES (length names) then None
    else option_or (set_behind isa names words) (if column then set_before isa names words else None)
