-- Which lines of a block share what breaks a packet rule (docs/MACHINE.md, "Packet rules").
use Rattle.std.specs.Prelude.{ℕ, Bool, false, not, ◌==◌, ◌&&◌, List, Option, Some, None, map}
use Rattle.std.specs.List.{filter, list_any}
use Rattle.c62_op.specs.declared.register.Unit.{Unit as FunctionalUnit}
use Rattle.c62_insn.specs.declared.insn.Insn.{Insn}
use Rattle.c62_insn.specs.Insn.{unit_of}
use Rattle.c62_rules.specs.declared.resource.Resource.{Resource}
use Rattle.c62_rules.specs.Resource.{place_of, taken_by}
use Rattle.c62_adopt_cut.specs.declared.draft.Issue.{Issue}

-- whether an instruction on this unit takes the resource
abbrev pub takes_on : Resource → Insn → Option FunctionalUnit → Bool
takes_on resource insn None = false
takes_on resource insn (Some unit) = list_any (λ taken. place_of taken == place_of resource) (taken_by insn unit)

-- whether another line takes the resource in this one's cycle
abbrev pub shares : Resource → Issue → Issue → Bool
shares resource issue other = (other.cycle == issue.cycle && not (other.line == issue.line)) && takes_on resource other.insn (unit_of other.insn)

-- the lines that share a resource with this one
unfoldable pub lines_sharing : Resource → Issue → List Issue → List ℕ
lines_sharing resource issue issues = map (λ other. other.line) (filter (shares resource issue) issues)
