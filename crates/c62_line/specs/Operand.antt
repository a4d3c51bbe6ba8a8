-- What the tokens behind a mnemonic and its unit say as operands (docs/SERIAL_TEXT.md, "Operands and address forms").
use Rattle.std.specs.Prelude.{◌≡◌, ℕ, pos, Bool, true, false, List, [], ◌∷◌, Option, Some, None}
use Rattle.std.specs.Borrow.{Bor}
use Rattle.c62_op.specs.declared.register.Reg.{Reg}
use Rattle.c62_op.specs.declared.operands.AddressForm.{AddressForm}
use Rattle.c62_op.specs.declared.operands.AddressForm.TheVariants as form
use Rattle.c62_op.specs.declared.operands.Offset.{Offset}
use Rattle.c62_op.specs.declared.operands.Offset.TheVariants as by
use Rattle.c62_op.specs.declared.operands.Operands.{Operands}
use Rattle.c62_op.specs.declared.operands.Operands.TheVariants as operands
use Rattle.c62_token.specs.declared.kind.Kind.{Kind}
use Rattle.c62_token.specs.declared.kind.Kind.TheVariants.{Comma, Star, Open, Close, Plus, Minus, Increment, Decrement, Register, Number}
use Rattle.c62_line.specs.declared.operand.Address.{Address}
use Rattle.c62_op.specs.declared.set.InstructionSet.{InstructionSet}
use Rattle.c62_op.specs.declared.set.InstructionSet.TheVariants.{Core, Full}
use Rattle.c62_token.specs.declared.token.Tokens.{Tokens}
use Rattle.c62_token.specs.Token.{words_left}

-- what a function found at the front of a line: a thing, and the tokens behind it
abbrev pub Finds : {T : Type 0} → Option (T × Tokens) → Option (T × List (List ℕ)) → Type 0
Finds None said = said ≡ None
Finds (Some found) said = said ≡ Some (found.0, words_left found.1)

-- a thing at the front of a list, and the list behind it
abbrev pub FindsBefore : {T E : Type 0} → Option (T × Bor (List E)) → Option (T × List E) → Type 0
FindsBefore None said = said ≡ None
FindsBefore (Some found) said = said ≡ Some (found.0, found.1.now)

-- ---- addresses

abbrev pub address_with : Reg → AddressForm → Offset → Address
address_with base form offset = record { base = base; form = form; offset = offset }

-- the offset where none is written
abbrev pub usual_offset : AddressForm → Offset
usual_offset form.Plus = by.Constant (pos 0)
usual_offset form.Minus = by.Constant (pos 0)
usual_offset _ = by.Constant (pos 1)

-- an address with the offset that stands behind its base in brackets, if one does, and what stands behind that
unfoldable pub with_offset : Reg → AddressForm → List Kind → Option (Address × List Kind)
with_offset base form (Open ∷ Number k ∷ Close ∷ rest) = Some (address_with base form (by.Constant k), rest)
with_offset base form (Open ∷ Register reg ∷ Close ∷ rest) = Some (address_with base form (by.Register reg), rest)
with_offset base form (Open ∷ rest) = None
with_offset base form rest = Some (address_with base form (usual_offset form), rest)

-- an address without a sign, which has an offset in the full set alone
abbrev pub unsigned_front : InstructionSet → Reg → List Kind → Option (Address × List Kind)
unsigned_front Core base rest = Some (address_with base form.Plus (usual_offset form.Plus), rest)
unsigned_front Full base rest = with_offset base form.Plus rest

-- the address behind a `*`, and what stands behind it
unfoldable pub address_front : InstructionSet → List Kind → Option (Address × List Kind)
address_front isa (Plus ∷ Register base ∷ rest) = with_offset base form.Plus rest
address_front isa (Minus ∷ Register base ∷ rest) = with_offset base form.Minus rest
address_front isa (Increment ∷ Register base ∷ rest) = with_offset base form.PreIncrement rest
address_front isa (Decrement ∷ Register base ∷ rest) = with_offset base form.PreDecrement rest
address_front isa (Register base ∷ Increment ∷ rest) = with_offset base form.PostIncrement rest
address_front isa (Register base ∷ Decrement ∷ rest) = with_offset base form.PostDecrement rest
address_front isa (Register base ∷ rest) = unsigned_front isa base rest
address_front isa _ = None

abbrev pub access : Reg → Address → Operands
access reg address = operands.Access reg address.base address.form address.offset

-- a load's register stands behind its address and a comma, a store's before it
abbrev pub loaded : Option (Address × List Kind) → Option Operands
loaded (Some (address, Comma ∷ Register reg ∷ [])) = Some (access reg address)
loaded _ = None

abbrev pub stored : Reg → Option (Address × List Kind) → Option Operands
stored reg (Some (address, [])) = Some (access reg address)
stored reg _ = None

-- ---- all operands but labels; those of a store begin with its register

unfoldable pub operands_of : InstructionSet → Bool → List Kind → Option Operands
operands_of isa true (Register reg ∷ Comma ∷ Star ∷ address) = stored reg (address_front isa address)
operands_of isa false (Star ∷ address) = loaded (address_front isa address)
operands_of isa false (Register a ∷ []) = Some (operands.Register a)
operands_of isa false (Register a ∷ Comma ∷ Register d ∷ []) = Some (operands.Two a d)
operands_of isa false (Number k ∷ Comma ∷ Register d ∷ []) = Some (operands.Constant k d)
operands_of isa false (Register a ∷ Comma ∷ Register b ∷ Comma ∷ Register d ∷ []) = Some (operands.Three a b d)
operands_of isa false (Number k ∷ Comma ∷ Register a ∷ Comma ∷ Register d ∷ []) = Some (operands.ConstantFirst k a d)
operands_of isa false (Register a ∷ Comma ∷ Number k ∷ Comma ∷ Register d ∷ []) = Some (operands.ConstantSecond a k d)
operands_of isa false (Register a ∷ Comma ∷ Number k ∷ Comma ∷ Number m ∷ Comma ∷ Register d ∷ []) = Some (operands.Field a k m d)
operands_of isa _ _ = None
