-- What is told of a fault of a line (docs/ADOPT.md, "Faults of a line").
use Rattle.std.specs.Prelude.{ℕ, List, codes}
use Rattle.c62_line.specs.Fault.{cause_name}
use Rattle.c62_adopt_line.specs.declared.fault.LineFault.{LineFault}
use Rattle.c62_adopt_line.specs.declared.fault.LineFault.TheVariants.{Read, UnitWanted, Memory}

abbrev pub line_fault_name : LineFault → List ℕ
line_fault_name (Read cause) = cause_name cause
line_fault_name UnitWanted = codes "UnitWanted"
line_fault_name Memory = codes "Memory"
