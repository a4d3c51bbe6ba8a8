-- What instructions take that are issued in a cycle or later.
use Rattle.std.specs.Prelude.{◌≡◌, ℕ, ◌+◌, ◌<◌, ◌≤◌, List, ◌∷◌, All}
use Rattle.std.specs.List.{list_any}
use Rattle.c62_op.specs.declared.register.Reg.{Reg}
use Rattle.c62_row.specs.Issued.{IsRowOf}
use Rattle.c62_packet.specs.declared.placed.Placed.{Placed}
use Rattle.c62_packet.specs.declared.taken.Taken.{Taken}
use Rattle.c62_packet.specs.Packed.{issued}
use Rattle.c62_packet.specs.Clash.{lands}
use Rattle.c62_packet.specs.Landed.{landed}

-- None of these is issued before the cycle. The row is that of the cycle, and the landings are exactly theirs.
pub record IsTakenBy (taken : Taken) (placed : List Placed) : Type 0 where
  pub later : All (λ q. taken.cycle ≤ q.cycle) placed
  pub row : IsRowOf taken.row taken.cycle (issued placed)
  pub landings : (k : ℕ) (reg : Reg) → k < 5 → landed taken.landings.cycles k reg ≡ list_any (lands reg (taken.cycle + k)) placed

-- it is taken by whatever takes the other
abbrev pub TakesTheSame : Taken → Taken → Type 0
TakesTheSame old new = (rest : List Placed) → IsTakenBy old rest → IsTakenBy new rest

-- it is taken by this instruction before whatever takes the other
abbrev pub TakesMore : Taken → Taken → Placed → Type 0
TakesMore old new p = (rest : List Placed) → IsTakenBy old rest → IsTakenBy new (p ∷ rest)
