-- What is said of an access that faulted (docs/REPORT.md, "Accesses that fault").
use Rattle.std.specs.Prelude.{ℕ, Bool, true, false, ◌==◌, List, ◌++◌, codes, decimal, if◌then◌else◌}
use Rattle.std.specs.Fmt.{digits}
use Rattle.c62_op.specs.Word.{sum}
use Rattle.c62_op.specs.Shape.{is_store}
use Rattle.c62_op.specs.Table.{mnemonic_of}
use Rattle.c62_faulted.specs.declared.fault.Cause.{Cause}
use Rattle.c62_faulted.specs.declared.fault.Cause.TheVariants.{Misaligned, PastEnd}
use Rattle.c62_faulted.specs.declared.fault.Fault.{Fault}

-- what a store does, or a load
abbrev pub verb : Bool → List ℕ
verb true = codes " writes "
verb false = codes " reads "

abbrev pub bytes_text : ℕ → List ℕ
bytes_text size = decimal size ++ (if size == 1 then codes " byte" else codes " bytes")

-- `line L: STW writes 4 bytes`
abbrev pub access_text : Fault → List ℕ
access_text fault =
    codes "line " ++ decimal fault.line ++ codes ": " ++ mnemonic_of fault.op ++ verb (is_store fault.op) ++ bytes_text fault.size

-- why an access of so many bytes faults
abbrev pub cause_text : Cause → (size : ℕ) → List ℕ
cause_text Misaligned size = codes ", no multiple of " ++ decimal size
cause_text PastEnd size = codes ", past the end of memory"

-- `line L: STW writes 4 bytes at 0x10000, past the end of memory`, where memory begins at a base
abbrev pub fault_text : (base : ℕ) → Fault → List ℕ
fault_text base fault =
    access_text fault ++ codes " at 0x" ++ digits 16 false (sum base fault.place) ++ cause_text fault.cause fault.size ++ codes "\n"
