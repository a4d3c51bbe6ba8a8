-- The instruction table: a row for each operation, which says all of it but its result (Effect). A form is a unit's letter
-- and what the operands are (docs/MACHINE.md, "Instruction table" and "Form faults"; SPRU189, "Delay Slots", "Mapping Between
-- Instructions and Functional Units" and "Individual Instruction Descriptions").
use Rattle.std.specs.Prelude.{ℕ, Bool, true, false, List, [], ◌∷◌, ◌++◌, pos, negsuc, codes}
use Rattle.c62_op.specs.declared.register.Letter.{Letter}
use Rattle.c62_op.specs.declared.register.Letter.TheVariants.{L, S, M, D}
use Rattle.c62_op.specs.declared.operands.Op.{Op}
use Rattle.c62_op.specs.declared.operands.Op.TheVariants.{Add, Sub, And, Or, Xor, Abs, Add2, Sub2, Cmpeq, Cmpgt, Cmplt, Cmpgtu, Cmpltu, Shl, Shr, Shru, Ext, Extu, Mvk, Mvklh, Addk, Mpy, Mpyu, Mpyus, Mpysu, Mpyh, Mpyhu, Mpyhl, Mpylh, Addab, Addah, Addaw, Ldb, Ldbu, Ldh, Ldhu, Ldw, Stb, Sth, Stw, B}
use Rattle.c62_op.specs.declared.operands.Op.TheVariants.{Lmbd, Norm, Subc, Sadd, Ssub, Set, Clr, Sshl, Smpy, Smpyh, Smpyhl, Smpylh, Mpylhu, Mpyhlu, Mpyhus, Mpyhsu, Mpyhuls, Mpyhslu, Mpyluhs, Mpylshu, Subab, Subah, Subaw}
use Rattle.c62_op.specs.declared.form.Reach.TheVariants.{Own, Crossing}
use Rattle.c62_op.specs.declared.form.Range.{Range}
use Rattle.c62_op.specs.declared.form.Pattern.{Pattern}
use Rattle.c62_op.specs.declared.form.Pattern.TheVariants.{TwoSources, ConstantSource, SourceConstant, OneSource, SourceField, ConstantAlone, Address, FarAddress, ToBlock, ToRegister}
use Rattle.c62_op.specs.declared.form.Form.{Form}
use Rattle.c62_op.specs.declared.set.InstructionSet.{InstructionSet}
use Rattle.c62_op.specs.declared.set.InstructionSet.TheVariants.{Core, Full}
use Rattle.c62_op.specs.declared.table.Memory.{Memory}
use Rattle.c62_op.specs.declared.table.Memory.TheVariants.{Unused, Loads, Stores}
use Rattle.c62_op.specs.declared.table.Row.{Row as WrittenRow}

-- the ranges of constants: -16..15, -15..16, 0..15, 0..31, 0..32767, -32768..32767 and 0..65535
abbrev pub scst5 : Range
scst5 = record { low = negsuc 15; high = pos 15 }

abbrev pub negated : Range
negated = record { low = negsuc 14; high = pos 16 }

abbrev pub ucst4 : Range
ucst4 = record { low = pos 0; high = pos 15 }

abbrev pub ucst5 : Range
ucst5 = record { low = pos 0; high = pos 31 }

abbrev pub ucst15 : Range
ucst15 = record { low = pos 0; high = pos 32767 }

abbrev pub scst16 : Range
scst16 = record { low = negsuc 32767; high = pos 32767 }

abbrev pub ucst16 : Range
ucst16 = record { low = pos 0; high = pos 65535 }

-- the same operands on one unit, or on .L and .S, in the set that has them
abbrev pub on : InstructionSet → Letter → Pattern → List Form
on set unit operands = record { set = set; letter = unit; pattern = operands } ∷ []

abbrev pub on_ls : InstructionSet → Pattern → List Form
on_ls set operands = on set L operands ++ on set S operands

-- What the table says of an operation. Where a source is fixed it is BadSide that it lies across.
pub record Row : Type 0 where
  pub name : List ℕ
  pub delay : ℕ
  pub memory : Memory
  pub destination_is_source : Bool
  pub first_is_fixed : Bool
  pub second_is_fixed : Bool
  pub forms : List Form

-- whether an operation loads, and whether it stores
abbrev pub loads : Memory → Bool
loads (Loads _) = true
loads _ = false

abbrev pub stores : Memory → Bool
stores (Stores _) = true
stores _ = false

-- the bytes of an access
abbrev pub bytes_of : Memory → ℕ
bytes_of (Loads bytes) = bytes
bytes_of (Stores bytes) = bytes
bytes_of _ = 4

-- what a row of the code says
abbrev pub said_by : WrittenRow → Row
said_by row = record {
  name = row.name.now;
  delay = row.delay;
  memory = row.memory;
  destination_is_source = row.destination_is_source;
  first_is_fixed = row.first_is_fixed;
  second_is_fixed = row.second_is_fixed;
  forms = row.forms.now;
}

-- a row of an operation whose destination is no source, and whose sources are not fixed
abbrev pub usual : List ℕ → ℕ → Memory → List Form → Row
usual name delay memory forms = record {
  name = name;
  delay = delay;
  memory = memory;
  destination_is_source = false;
  first_is_fixed = false;
  second_is_fixed = false;
  forms = forms;
}

-- operations whose result comes at once, and multiplies, whose result comes a cycle later
abbrev pub single_cycle : List ℕ → List Form → Row
single_cycle name forms = usual name 0 Unused forms

abbrev pub multiply : List ℕ → List Form → Row
multiply name forms = usual name 1 Unused forms

-- one whose destination is a source too
abbrev pub updating : List ℕ → List Form → Row
updating name forms = record (single_cycle name forms) { destination_is_source = true }

-- bitwise logic, what takes a signed constant, and comparisons of unsigned numbers, whose constant the full set alone has
abbrev pub logic : List ℕ → Row
logic name = single_cycle name (on_ls Core (TwoSources Own Crossing) ++ on_ls Core (ConstantSource scst5 Crossing))

abbrev pub with_constant : InstructionSet → List ℕ → Row
with_constant set name = single_cycle name (on set L (TwoSources Own Crossing) ++ on set L (ConstantSource scst5 Crossing))

abbrev pub unsigned_comparison : List ℕ → Row
unsigned_comparison name = single_cycle name (on Core L (TwoSources Own Crossing) ++ on Full L (ConstantSource ucst4 Crossing))

-- products of two registers, shifts, and sums for addresses
abbrev pub product : InstructionSet → List ℕ → Row
product set name = multiply name (on set M (TwoSources Own Crossing))

abbrev pub shift : InstructionSet → List ℕ → Row
shift set name =
    record (single_cycle name (on set S (TwoSources Crossing Own) ++ on set S (SourceConstant Crossing ucst5))) { second_is_fixed = true }

abbrev pub address_sum : InstructionSet → List ℕ → Row
address_sum set name =
    record (single_cycle name (on set D (TwoSources Own Own) ++ on set D (SourceConstant Own ucst5)))
    { first_is_fixed = true; second_is_fixed = true }

-- fields of bits, which two constants tell or, in the full set alone, a register
abbrev pub bit_field : InstructionSet → List ℕ → Row
bit_field set name =
    record (single_cycle name (on set S (SourceField ucst5) ++ on Full S (TwoSources Crossing Own))) { second_is_fixed = true }

-- a load and a store of so many bytes
abbrev pub accesses : List Form
accesses = on Core D (Address ucst5) ++ on Full D (FarAddress ucst15)

abbrev pub load : List ℕ → ℕ → Row
load name bytes = usual name 4 (Loads bytes) accesses

abbrev pub store : List ℕ → ℕ → Row
store name bytes = usual name 0 (Stores bytes) accesses

-- the rows
abbrev pub row_of : Op → Row
row_of Add =
    single_cycle (codes "ADD")
    (on_ls Core (TwoSources Own Crossing) ++ on_ls Core (ConstantSource scst5 Crossing) ++ on Core D (TwoSources Own Own) ++ on Core D (ConstantSource ucst5 Own))
row_of Sub =
    single_cycle (codes "SUB")
    (on Core L (TwoSources Own Crossing) ++ on Core L (TwoSources Crossing Own) ++ on Core S (TwoSources Own Crossing) ++ on Core D (TwoSources Own Own)
    ++ on_ls Core (ConstantSource scst5 Crossing) ++ on Core D (SourceConstant Own ucst5) ++ on_ls Core (SourceConstant Crossing negated))
row_of And = logic (codes "AND")
row_of Or = logic (codes "OR")
row_of Xor = logic (codes "XOR")
row_of Abs = single_cycle (codes "ABS") (on Core L (OneSource Crossing))
row_of Add2 = single_cycle (codes "ADD2") (on Core S (TwoSources Own Crossing))
row_of Sub2 = record (single_cycle (codes "SUB2") (on Core S (TwoSources Own Crossing))) { first_is_fixed = true }
row_of Cmpeq = with_constant Core (codes "CMPEQ")
row_of Cmpgt = with_constant Core (codes "CMPGT")
row_of Cmplt = with_constant Core (codes "CMPLT")
row_of Cmpgtu = unsigned_comparison (codes "CMPGTU")
row_of Cmpltu = unsigned_comparison (codes "CMPLTU")
row_of Shl = shift Core (codes "SHL")
row_of Shr = shift Core (codes "SHR")
row_of Shru = shift Core (codes "SHRU")
row_of Ext = bit_field Core (codes "EXT")
row_of Extu = bit_field Core (codes "EXTU")
row_of Mvk = single_cycle (codes "MVK") (on Core S (ConstantAlone scst16))
row_of Mvklh = updating (codes "MVKLH") (on Core S (ConstantAlone ucst16))
row_of Addk = updating (codes "ADDK") (on Core S (ConstantAlone scst16))
row_of Mpy = multiply (codes "MPY") (on Core M (TwoSources Own Crossing) ++ on Core M (ConstantSource scst5 Crossing))
row_of Mpyu = product Core (codes "MPYU")
row_of Mpyus = product Core (codes "MPYUS")
row_of Mpysu = multiply (codes "MPYSU") (on Core M (TwoSources Own Crossing) ++ on Full M (ConstantSource scst5 Crossing))
row_of Mpyh = product Core (codes "MPYH")
row_of Mpyhu = product Core (codes "MPYHU")
row_of Mpyhl = product Core (codes "MPYHL")
row_of Mpylh = product Core (codes "MPYLH")
row_of Addab = address_sum Core (codes "ADDAB")
row_of Addah = address_sum Core (codes "ADDAH")
row_of Addaw = address_sum Core (codes "ADDAW")
row_of Ldb = load (codes "LDB") 1
row_of Ldbu = load (codes "LDBU") 1
row_of Ldh = load (codes "LDH") 2
row_of Ldhu = load (codes "LDHU") 2
row_of Ldw = load (codes "LDW") 4
row_of Stb = store (codes "STB") 1
row_of Sth = store (codes "STH") 2
row_of Stw = store (codes "STW") 4
row_of B = usual (codes "B") 5 Unused (on Core S ToBlock ++ on Core S (ToRegister Own) ++ on Full S (ToRegister Crossing))
row_of Lmbd = record (with_constant Full (codes "LMBD")) { first_is_fixed = true }
row_of Norm = single_cycle (codes "NORM") (on Full L (OneSource Crossing))
row_of Subc = record (single_cycle (codes "SUBC") (on Full L (TwoSources Own Crossing))) { first_is_fixed = true }
row_of Sadd = with_constant Full (codes "SADD")
row_of Ssub =
    single_cycle (codes "SSUB")
    (on Full L (TwoSources Own Crossing) ++ on Full L (TwoSources Crossing Own) ++ on Full L (ConstantSource scst5 Crossing))
row_of Set = bit_field Full (codes "SET")
row_of Clr = bit_field Full (codes "CLR")
row_of Sshl = shift Full (codes "SSHL")
row_of Smpy = product Full (codes "SMPY")
row_of Smpyh = product Full (codes "SMPYH")
row_of Smpyhl = product Full (codes "SMPYHL")
row_of Smpylh = product Full (codes "SMPYLH")
row_of Mpylhu = product Full (codes "MPYLHU")
row_of Mpyhlu = product Full (codes "MPYHLU")
row_of Mpyhus = product Full (codes "MPYHUS")
row_of Mpyhsu = product Full (codes "MPYHSU")
row_of Mpyhuls = product Full (codes "MPYHULS")
row_of Mpyhslu = product Full (codes "MPYHSLU")
row_of Mpyluhs = product Full (codes "MPYLUHS")
row_of Mpylshu = product Full (codes "MPYLSHU")
row_of Subab = address_sum Full (codes "SUBAB")
row_of Subah = address_sum Full (codes "SUBAH")
row_of Subaw = address_sum Full (codes "SUBAW")

-- the operations in the order of the table
abbrev pub all_operations : List Op
all_operations =
    Add ∷ Sub ∷ And ∷ Or ∷ Xor ∷ Abs ∷ Add2 ∷ Sub2 ∷ Cmpeq ∷ Cmpgt ∷ Cmplt ∷ Cmpgtu ∷ Cmpltu ∷ Shl ∷ Shr ∷ Shru ∷ Ext ∷ Extu
    ∷ Mvk ∷ Mvklh ∷ Addk ∷ Mpy ∷ Mpyu ∷ Mpyus ∷ Mpysu ∷ Mpyh ∷ Mpyhu ∷ Mpyhl ∷ Mpylh ∷ Addab ∷ Addah ∷ Addaw
    ∷ Ldb ∷ Ldbu ∷ Ldh ∷ Ldhu ∷ Ldw ∷ Stb ∷ Sth ∷ Stw ∷ B
    ∷ Lmbd ∷ Norm ∷ Subc ∷ Sadd ∷ Ssub ∷ Set ∷ Clr ∷ Sshl
    ∷ Smpy ∷ Smpyh ∷ Smpyhl ∷ Smpylh ∷ Mpylhu ∷ Mpyhlu ∷ Mpyhus ∷ Mpyhsu ∷ Mpyhuls ∷ Mpyhslu ∷ Mpyluhs ∷ Mpylshu ∷ Subab ∷ Subah ∷ Subaw ∷ []

-- the forms of each operation
abbrev pub forms_of : Op → List Form
forms_of op = (row_of op).forms

-- the name of an operation
abbrev pub mnemonic_of : Op → List ℕ
mnemonic_of op = (row_of op).name
