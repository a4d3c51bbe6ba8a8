-- Which registers of a side are live in each cycle of a schedule (docs/SHOW.md, "Registers").
use Rattle.std.specs.Prelude.{◌≡◌, ℕ, suc, ◌-◌, if◌then◌else◌, List, [], ◌∷◌, length, Option, Some, None, slice_get}
use Rattle.std.specs.List.{filter, flat_map, range_with_len}
use Rattle.c62_op.specs.declared.register.Side.{Side}
use Rattle.c62_op.specs.declared.register.Reg.{Reg}
use Rattle.c62_token.specs.Number.{numbered}
use Rattle.c62_packet.specs.declared.placed.Placed.{Placed}
use Rattle.c62_live.specs.declared.live.Tracked.{Tracked}
use Rattle.c62_live.specs.declared.rows.LiveRow.{LiveRow}
use Rattle.c62_live.specs.Live.{is_live}

abbrev pub listed : Option Reg → List Reg
listed None = []
listed (Some reg) = reg ∷ []

-- the register of this number on a side
abbrev pub register_at : Side → ℕ → List Reg
register_at side number = listed (numbered side number)

-- the registers of a side, by their numbers
abbrev pub registers : Side → List Reg
registers side = flat_map (register_at side) (range_with_len 0 16)

-- those that are live in a cycle
abbrev pub live_in : List Placed → Side → (cycles cycle : ℕ) → List Reg
live_in placed side cycles cycle = filter (λ reg. is_live placed reg cycles cycle) (registers side)

-- a register, where it is live
abbrev pub live_reg : Tracked → List Reg
live_reg tracked = if tracked.live then tracked.reg ∷ [] else []

-- of each cycle those that are live, the last cycle first
pub record AreLiveRows (placed : List Placed) (side : Side) (cycles : ℕ) (rows : List LiveRow) : Type 0 where
  pub count : length rows ≡ cycles
  pub each : (left : ℕ) (row : LiveRow) → slice_get rows left ≡ Some row → row.regs.items ≡ live_in placed side cycles (cycles - suc left)
