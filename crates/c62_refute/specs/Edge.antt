-- A dependence of a block (docs/SCHEDULING.md, "Search").
use Rattle.std.specs.Prelude.{◌≡◌, List, Some}
use Rattle.c62_insn.specs.declared.insn.Insn.{Insn}
use Rattle.c62_depend.specs.Latency.{latency}
use Rattle.c62_refute.specs.declared.edge.Edge.{Edge as Distance}

-- the latency of a dependence
abbrev pub IsEdge : List Insn → Distance → Type 0
IsEdge block edge = latency block edge.from edge.link.number ≡ Some edge.link.latency
