-- What a cycle is loaded with by issued instructions.
use Rattle.std.specs.Prelude.{◌≡◌, ℕ, ◌+◌, ◌<◌, ◌==◌, min, if◌then◌else◌, Option, Some, None, MatchOption, sum_by, length, slice_set, slice_index_or}
use Rattle.c62_rules.specs.declared.resource.CycleRule.{CycleRule}
use Rattle.c62_rules.specs.PacketRules.{Issue, Issues, IsIssued}
use Rattle.c62_rules.specs.Resource.{taken_by}
use Rattle.c62_rules.specs.Capacity.{AreEnough, IsFirstBroken}
use Rattle.c62_row.specs.declared.row.Uses.{Uses}
use Rattle.c62_row.specs.declared.row.Row.{Row}
use Rattle.c62_row.specs.Fields.{EachPlace, times_at}
use Rattle.c62_row.specs.Row.{row_at, start_at, AreUses, Tells, IsUnused, IsWith, IsWithout, IsWithin}

-- number i can be issued: it is one of these, and not issued
abbrev pub IsFree : Issues → ℕ → Type 0
IsFree issues i = (i < length issues) × (slice_index_or issues i None ≡ None)

-- how much of the resource of a place what is issued takes of a cycle
abbrev pub taken_at : ℕ → ℕ → Option Issue → ℕ
taken_at cycle place None = 0
taken_at cycle place (Some p) = if p.cycle == cycle then times_at place (taken_by p.insn p.unit) else 0

-- the row of a cycle: what its instructions take, of each resource
abbrev pub IsRowOf : Row → ℕ → Issues → Type 0
IsRowOf row cycle issues = EachPlace (λ place. row_at row place ≡ min 8 (start_at place + sum_by (taken_at cycle place) issues))

-- With one instruction more, all rules are kept in its cycle exactly where nothing is told, and else the first that is broken
-- is told. That the rules were kept before isn't asked.
abbrev pub RowDecides : Row → Uses → Option CycleRule → Issues → ℕ → Issue → Type 0
RowDecides row uses told issues i p =
    IsFree issues i → IsRowOf row p.cycle issues → AreUses uses p.insn p.unit → Tells row uses told
    → MatchOption told (AreEnough p.cycle (slice_set issues i (Some p))) (λ rule. IsFirstBroken rule p.cycle (slice_set issues i (Some p)))

-- the row of its cycle follows it
abbrev pub RowFollows : Row → Row → Uses → Issues → ℕ → Issue → Type 0
RowFollows old new uses issues i p =
    IsFree issues i → IsRowOf old p.cycle issues → AreUses uses p.insn p.unit → IsWith old new uses → IsRowOf new p.cycle (slice_set issues i (Some p))

-- and so where it is taken out of a cycle that keeps the rules, of which it is a part
pub record RowIsLeft (old new : Row) (uses : Uses) (issues : Issues) (i : ℕ) (p : Issue) : Type 0 where
  pub within : IsIssued issues i p → AreEnough p.cycle issues → IsRowOf old p.cycle issues → AreUses uses p.insn p.unit → IsWithin old uses
  pub left : IsIssued issues i p → AreEnough p.cycle issues → IsRowOf old p.cycle issues → AreUses uses p.insn p.unit → IsWithout old new uses
      → IsRowOf new p.cycle (slice_set issues i None)

-- the row of another cycle stays
pub record RowStays (row : Row) (cycle : ℕ) (issues : Issues) (i : ℕ) (p : Issue) : Type 0 where
  pub placed : IsFree issues i → (p.cycle ≡ cycle → ⊥) → IsRowOf row cycle issues → IsRowOf row cycle (slice_set issues i (Some p))
  pub taken_out : IsIssued issues i p → (p.cycle ≡ cycle → ⊥) → IsRowOf row cycle issues → IsRowOf row cycle (slice_set issues i None)

-- what no instruction takes is the row of a cycle in which none is issued
abbrev pub RowIsEmpty : Row → ℕ → Issues → Type 0
RowIsEmpty row cycle issues = IsUnused row → ((i : ℕ) (p : Issue) → IsIssued issues i p → p.cycle ≡ cycle → ⊥) → IsRowOf row cycle issues
