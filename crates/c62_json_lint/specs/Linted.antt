-- The documents of `lint` (docs/JSON.md, "lint").
use Rattle.std.specs.Prelude.{◌≡◌, ℕ, nat_lt, Bool, List, length, codes}
use Rattle.c62_json.specs.Document.{document}
use Rattle.c62_explain.specs.Placed.{ArePlaced}
use Rattle.c62_explain.specs.declared.placed.PlacedFault.{PlacedFault}
use Rattle.c62_explain_packets.specs.Remarks.{AreListingRemarks, AreRemarks}
use Rattle.c62_explain_packets.specs.declared.remarks.Remarks.{Remarks}
use Rattle.c62_json_lint.specs.Faults.{faults_members, remarks_members}
use Rattle.c62_op.specs.declared.set.InstructionSet.{InstructionSet}

-- a serial text's first faults, at most so many, and whether it has one
pub record IsSerialDocument (isa : InstructionSet) (most : ℕ) (file text told : List ℕ) (faulty : Bool) : Type 0 where
  pub faults : List PlacedFault
  pub are : ArePlaced isa text most faults
  pub says : told ≡ document (codes "lint") (faults_members file faults)
  pub some : faulty ≡ nat_lt 0 (length faults)

-- what is found in packets
pub record IsPacketsDocument (isa : InstructionSet) (most : ℕ) (file text told : List ℕ) (faulty : Bool) : Type 0 where
  pub remarks : Remarks
  pub are : AreRemarks isa most text remarks
  pub says : told ≡ document (codes "lint") (remarks_members file remarks)
  pub some : faulty ≡ remarks.faulty

-- and in a listing
pub record IsListingDocument (isa : InstructionSet) (file text told : List ℕ) (faulty : Bool) : Type 0 where
  pub remarks : Remarks
  pub are : AreListingRemarks isa text remarks
  pub says : told ≡ document (codes "lint") (remarks_members file remarks)
  pub some : faulty ≡ remarks.faulty
