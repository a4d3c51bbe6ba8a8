-- What takes effect, when a row is over, what clashes and where words lead, said once more as relations: an instruction that
-- branched, the least cycle, two landings, addresses.
use Rattle.std.specs.Prelude.{◌≡◌, ◌⊎◌, ◌↔◌, ℕ, ◌+◌, ◌<◌, ◌≤◌, List, length, Contains, Some, None}
use Rattle.c62_insn.specs.declared.effect.Target.{Target}
use Rattle.c62_insn.specs.declared.effect.Target.TheVariants.{Register as ToRegister}
use Rattle.c62_packet.specs.declared.placed.Placed.{Placed}
use Rattle.c62_meaning.specs.Packet.{Did}
use Rattle.c62_meaning.specs.Landed.{LandOneByOne}
use Rattle.c62_flight.specs.Text.{Text, At, Outside, address_of, leads_to}
use Rattle.c62_flight.specs.Issued.{Issued, turn, over}
use Rattle.c62_flight.specs.Broken.{clash}

-- an instruction that branched takes effect in this cycle, and goes there
pub record Turns (issued : Issued) (cycle : ℕ) (target : Target) : Type 0 where
  pub placed : Placed
  pub inside : Contains issued.placed placed
  pub ran : (issued.did placed).target ≡ Some target
  pub when : placed.cycle + 6 ≡ cycle

-- what turns is told where something does
pub record TurnIsTold (issued : Issued) (cycle : ℕ) : Type 0 where
  pub some : (target : Target) → turn issued cycle ≡ Some target → Turns issued cycle target
  pub none : turn issued cycle ≡ None → (target : Target) → Turns issued cycle target → ⊥

-- a row begun in a cycle, with so many behind it, is over in this one: when these are over, or sooner where a branch takes effect
pub record IsOverIn (issued : Issued) (start idle end : ℕ) : Type 0 where
  pub later : start < end
  pub within : end ≤ start + idle + 1
  pub straight : (cycle : ℕ) (target : Target) → start < cycle → cycle < end → Turns issued cycle target → ⊥
  pub reached : (end ≡ start + idle + 1) ⊎ ((target : Target) × Turns issued end target)

abbrev pub OverIsTold : Issued → ℕ → ℕ → Type 0
OverIsTold issued start idle = (end : ℕ) → IsOverIn issued start idle end ↔ (end ≡ over issued start idle)

-- nothing clashes where of each register and cycle the writes of at most one instruction land
abbrev pub ClashIsTold : List Placed → Did → Type 0
ClashIsTold placed did = ((cycle : ℕ) → clash did cycle placed ≡ None) ↔ LandOneByOne placed did

-- A branch to a register goes to the row whose address it held, be it the one behind the last; with any other word it goes out of
-- the text.
pub record WordsAreTold (text : Text) : Type 0 where
  pub rows : (row : ℕ) → row ≤ length text.rows → leads_to text (ToRegister (address_of row)) ≡ At row
  pub others : (word : ℕ) → ((row : ℕ) → row ≤ length text.rows → address_of row ≡ word → ⊥) → leads_to text (ToRegister word) ≡ Outside word
