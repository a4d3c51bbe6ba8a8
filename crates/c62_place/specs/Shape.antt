-- How operands may be written behind a mnemonic and its unit, as sorts of tokens (docs/SERIAL_TEXT.md, "Grammar", "Operands and
-- address forms"; docs/MACHINE.md, "Instruction table"), and how far a line goes on as one of them.
use Rattle.std.specs.Prelude.{refl, ℕ, pos, ◌+◌, Bool, true, false, ◌&&◌, List, [], ◌∷◌, ◌++◌, Some, None, is_some, map, max, if◌then◌else◌}
use Rattle.std.specs.List.{flat_map}
use Rattle.std.proofs.lemmas.Bool.{ltb-true}
use Rattle.c62_op.specs.declared.register.Side.TheVariants.{A}
use Rattle.c62_op.specs.declared.register.Reg.{Reg}
use Rattle.c62_op.specs.declared.operands.AddressForm.TheVariants as form
use Rattle.c62_op.specs.declared.operands.Offset.TheVariants as by
use Rattle.c62_op.specs.declared.operands.Operands.{Operands}
use Rattle.c62_op.specs.declared.operands.Operands.TheVariants as operands
use Rattle.c62_op.specs.declared.set.InstructionSet.{InstructionSet}
use Rattle.c62_op.specs.declared.set.InstructionSet.TheVariants.{Core, Full}
use Rattle.c62_op.specs.Shape.{is_branch}
use Rattle.c62_line.specs.declared.mnemonic.Mnemonic.{Mnemonic}
use Rattle.c62_line.specs.declared.mnemonic.Mnemonic.TheVariants as name
use Rattle.c62_line.specs.Line.{is_storing, operands_written}
use Rattle.c62_place.specs.declared.sort.Sort.{Sort}
use Rattle.c62_place.specs.declared.sort.Sort.TheVariants.{Comma, Star, Open, Close, Not, Plus, Minus, Increment, Decrement, Register, Number, Label}
use Rattle.c62_place.specs.declared.shape.Form.{Form}
use Rattle.c62_place.specs.declared.shape.Form.TheVariants as by_form
use Rattle.c62_place.specs.Sort.{same_sort}

-- what tokens stand for these operands

abbrev pub bases : List (List Sort)
bases =
    (Plus ∷ Register ∷ []) ∷ (Minus ∷ Register ∷ []) ∷ (Increment ∷ Register ∷ []) ∷ (Decrement ∷ Register ∷ [])
    ∷ (Register ∷ Increment ∷ []) ∷ (Register ∷ Decrement ∷ []) ∷ []

abbrev pub offsets : List (List Sort)
offsets = [] ∷ (Open ∷ Number ∷ Close ∷ []) ∷ (Open ∷ Register ∷ Close ∷ []) ∷ []

-- behind a `*`
abbrev pub addresses : List (List Sort)
addresses = (Register ∷ []) ∷ flat_map (λ base. map (λ offset. base ++ offset) offsets) bases

abbrev pub shapes_of : Form → List (List Sort)
shapes_of by_form.Three = (Register ∷ Comma ∷ Register ∷ Comma ∷ Register ∷ []) ∷ []
shapes_of by_form.ConstantFirst = (Number ∷ Comma ∷ Register ∷ Comma ∷ Register ∷ []) ∷ []
shapes_of by_form.ConstantSecond = (Register ∷ Comma ∷ Number ∷ Comma ∷ Register ∷ []) ∷ []
shapes_of by_form.Two = (Register ∷ Comma ∷ Register ∷ []) ∷ []
shapes_of by_form.Field = (Register ∷ Comma ∷ Number ∷ Comma ∷ Number ∷ Comma ∷ Register ∷ []) ∷ []
shapes_of by_form.Constant = (Number ∷ Comma ∷ Register ∷ []) ∷ []
shapes_of by_form.Load = map (λ address. Star ∷ address ++ Comma ∷ Register ∷ []) addresses
shapes_of by_form.Store = map (λ address. Register ∷ Comma ∷ Star ∷ address) addresses
shapes_of by_form.Register = (Register ∷ []) ∷ []
shapes_of by_form.Label = (Label ∷ []) ∷ []

-- what only the full set has: an offset behind a base without a sign
abbrev pub unsigned_addresses : List (List Sort)
unsigned_addresses = (Register ∷ Open ∷ Number ∷ Close ∷ []) ∷ (Register ∷ Open ∷ Register ∷ Close ∷ []) ∷ []

abbrev pub full_shapes : Form → List (List Sort)
full_shapes by_form.Load = map (λ address. Star ∷ address ++ Comma ∷ Register ∷ []) unsigned_addresses
full_shapes by_form.Store = map (λ address. Register ∷ Comma ∷ Star ∷ address) unsigned_addresses
full_shapes _ = []

abbrev pub further_shapes : InstructionSet → Form → List (List Sort)
further_shapes Core form = []
further_shapes Full form = full_shapes form

-- ---- which of them a mnemonic has

abbrev pub some_register : Reg
some_register = record { side = A; number = 0; in_range = ltb-true 0 16 refl }

-- operands of this form
abbrev pub sample : Form → Operands
sample by_form.Three = operands.Three some_register some_register some_register
sample by_form.ConstantFirst = operands.ConstantFirst (pos 0) some_register some_register
sample by_form.ConstantSecond = operands.ConstantSecond some_register (pos 0) some_register
sample by_form.Two = operands.Two some_register some_register
sample by_form.Field = operands.Field some_register (pos 0) (pos 0) some_register
sample by_form.Constant = operands.Constant (pos 0) some_register
sample by_form.Load = operands.Access some_register some_register form.Plus (by.Constant (pos 0))
sample by_form.Store = operands.Access some_register some_register form.Plus (by.Constant (pos 0))
sample by_form.Register = operands.Register some_register
sample by_form.Label = operands.Block 0

-- whether a store has operands of this form, or whether another instruction has
abbrev pub is_stored : Form → Bool
is_stored by_form.Store = true
is_stored _ = false

abbrev pub same_way : Bool → Bool → Bool
same_way true true = true
same_way false false = true
same_way _ _ = false

abbrev pub branches : Mnemonic → Bool
branches (name.Operation op) = is_branch op
branches mnemonic = false

-- whether the mnemonic takes operands of this form, whatever its registers and constants are
unfoldable pub takes_form : InstructionSet → Mnemonic → Form → Bool
takes_form isa mnemonic by_form.Label = branches mnemonic
takes_form isa mnemonic form =
    same_way (is_storing mnemonic) (is_stored form) && is_some (operands_written isa mnemonic None (Some (sample form)))

abbrev pub all_forms : List Form
all_forms =
    by_form.Three ∷ by_form.ConstantFirst ∷ by_form.ConstantSecond ∷ by_form.Two ∷ by_form.Field ∷ by_form.Constant ∷ by_form.Load
    ∷ by_form.Store ∷ by_form.Register ∷ by_form.Label ∷ []

-- ---- how far a line goes on as one of them

-- how many first tokens are of the same sort
abbrev pub agreeing : List Sort → List Sort → ℕ
agreeing (sort ∷ sorts) (other ∷ shape) = if same_sort sort other then agreeing sorts shape + 1 else 0
agreeing _ _ = 0

-- the same of the shape that agrees longest
abbrev pub furthest : List Sort → List (List Sort) → ℕ
furthest sorts [] = 0
furthest sorts (shape ∷ shapes) = max (agreeing sorts shape) (furthest sorts shapes)

abbrev pub furthest_by : InstructionSet → Mnemonic → List Sort → List Form → ℕ
furthest_by isa mnemonic sorts [] = 0
furthest_by isa mnemonic sorts (form ∷ forms) =
    max (if takes_form isa mnemonic form then max (furthest sorts (shapes_of form)) (furthest sorts (further_shapes isa form)) else 0) (furthest_by isa mnemonic sorts forms)

-- the tokens of a condition
abbrev pub conditions : List (List Sort)
conditions = (Open ∷ Register ∷ Close ∷ []) ∷ (Open ∷ Not ∷ Register ∷ Close ∷ []) ∷ []

-- what stands behind a NOP
abbrev pub pauses : List (List Sort)
pauses = (Number ∷ []) ∷ []
