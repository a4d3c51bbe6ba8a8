-- What it means to be live.
use Rattle.std.specs.Prelude.{◌≡◌, ◌↔◌, ℕ, ◌<◌, ◌≤◌, false, List, IsTrue}
use Rattle.c62_op.specs.declared.register.Reg.{Reg}
use Rattle.c62_packet.specs.declared.placed.Placed.{Placed}
use Rattle.c62_live.specs.Live.{is_read, is_ended, is_live}

-- What the register holds in this cycle is read in it or in a later one of the block, and until then it isn't gone.
pub record IsStillRead (placed : List Placed) (reg : Reg) (cycles cycle : ℕ) : Type 0 where
  pub at : ℕ
  pub from : cycle ≤ at
  pub within : at < cycles
  pub read : IsTrue (is_read placed reg at)
  pub kept : (k : ℕ) → cycle ≤ k → k < at → is_ended placed reg k ≡ false

abbrev pub LiveIsStillRead : List Placed → Reg → (cycles cycle : ℕ) → Type 0
LiveIsStillRead placed reg cycles cycle = cycle ≤ cycles → IsTrue (is_live placed reg cycles cycle) ↔ IsStillRead placed reg cycles cycle
