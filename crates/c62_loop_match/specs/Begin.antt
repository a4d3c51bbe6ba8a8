-- Which step or branch comes too early behind an instruction above the label (docs/CHECK.md, "Pipelined loops").
use Rattle.std.specs.Prelude.{ℕ, pos, ◌≤◌, List, Contains, Some}
use Rattle.c62_op.specs.declared.register.Reg.{Reg}
use Rattle.c62_packet.specs.declared.placed.Placed.{Placed}
use Rattle.c62_loop.specs.Whole.{IsAsked}
use Rattle.c62_loop_match.specs.declared.early.Early.{Early}
use Rattle.c62_loop_match.specs.Path.{instance}
use Rattle.c62_loop_match.specs.Early.{IsEarlyBy}

-- so many cycles are asked, and none more
pub record IsMost (counter : Reg) (p q : Placed) (needs : ℕ) : Type 0 where
  pub asked : IsAsked counter p q needs
  pub most : (other : ℕ) → IsAsked counter p q other → other ≤ needs

-- the second needs them behind the first, and comes earlier; the loop counts as an iteration behind what stands above it
pub record IsEarlyStart (counter : Reg) (p q : Placed) (early : Early) : Type 0 where
  pub needs : ℕ
  pub is_most : IsMost counter p q needs
  pub by : IsEarlyBy (Some (pos needs)) (instance p) (instance q) 1 early

-- so does one of these, behind one of those
pub record HoldEarlyStart (counter : Reg) (ps qs : List Placed) (early : Early) : Type 0 where
  pub first : Placed
  pub second : Placed
  pub is_first : Contains ps first
  pub is_second : Contains qs second
  pub starts : IsEarlyStart counter first second early
