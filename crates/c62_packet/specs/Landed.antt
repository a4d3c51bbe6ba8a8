-- The registers in which something lands, in a cycle and those next to it.
use Rattle.std.specs.Prelude.{◌≡◌, ℕ, ◌-◌, ◌<◌, Bool, ◌==◌, ◌||◌, nat_lt, if◌then◌else◌, List, slice_index}
use Rattle.std.specs.List.{list_any}
use Rattle.std.specs.Int.{bit_at}
use Rattle.c62_op.specs.declared.register.Reg.{Reg}
use Rattle.c62_op.specs.Register.{register_index}
use Rattle.c62_packet.specs.Clash.{is_landing}

-- of a set with a bit for each register
abbrev pub has_register : ℕ → Reg → Bool
has_register regs reg = bit_at regs (register_index reg) == 1

-- something lands in this register so many cycles behind the first
abbrev pub landed : List ℕ → ℕ → Reg → Bool
landed cycles k reg = has_register (slice_index cycles k) reg

-- what is issued in the first cycle lands too
abbrev pub AreLandingsMore : List ℕ → List ℕ → List (Reg × ℕ) → Type 0
AreLandingsMore old new writes = (k : ℕ) (reg : Reg) → k < 5 → landed new k reg ≡ (landed old k reg || list_any (is_landing 0 reg k) writes)

-- the registers of a cycle, counted from an earlier first
abbrev pub shifted : List ℕ → ℕ → ℕ → ℕ
shifted cycles gap k = if nat_lt k gap then 0 else slice_index cycles (k - gap)

-- the registers that are landed in, from an earlier first cycle on
abbrev pub AreShifted : List ℕ → ℕ → List ℕ → Type 0
AreShifted old gap new = (k : ℕ) (reg : Reg) → k < 5 → landed new k reg ≡ has_register (shifted old gap k) reg
