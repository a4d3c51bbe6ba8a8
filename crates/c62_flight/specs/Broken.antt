-- Cycles for which the machine says nothing (docs/MACHINE.md, "Branches" and "Packet rules"; SPRU189, "Resource Constraints"):
-- two branches of a packet run, or two instructions write one register.
use Rattle.std.specs.Prelude.{◌≡◌, ◌<◌, ℕ, ◌+◌, Bool, ◌==◌, ◌&&◌, if◌then◌else◌, List, [], ◌∷◌, filter, find, Option, Some, None, is_some, option_map}
use Rattle.std.specs.List.{list_any}
use Rattle.std.specs.Option.{option_or}
use Rattle.c62_op.specs.declared.register.Reg.{Reg}
use Rattle.c62_packet.specs.declared.placed.Placed.{Placed}
use Rattle.c62_packet.specs.Clash.{is_landing}
use Rattle.c62_meaning.specs.Packet.{Did}
use Rattle.c62_flight.specs.declared.stop.Stop.{Stop}
use Rattle.c62_flight.specs.declared.stop.Stop.TheVariants.{Clash, Branches}
use Rattle.c62_flight.specs.Issued.{Issued, first_of}

-- a branch that was issued in this cycle ran
abbrev pub has_branched : Did → ℕ → Placed → Bool
has_branched did cycle p = (p.cycle == cycle) && is_some (did p).target

-- the first two of these
abbrev pub two_branches : List Placed → Option Stop
two_branches (p ∷ q ∷ others) = Some (Branches p.line q.line)
two_branches _ = None

-- a write of the register that the instruction made lands in this cycle
abbrev pub lands_in : Did → Reg → ℕ → Placed → Bool
lands_in did reg cycle p = list_any (λ write. is_landing p.cycle reg cycle write.0) (did p).writes

-- the first of others that writes what this write of the instruction does, where it lands in this cycle
abbrev pub met_by : Did → ℕ → Placed → List Placed → (Reg × ℕ) × ℕ → Option Stop
met_by did cycle p others write =
    if p.cycle + write.0.1 == cycle then option_map (λ q. Clash write.0.0 p.line q.line) (find (lands_in did write.0.0 cycle) others) else None

-- the first instruction of whose writes one is met by an instruction behind it
abbrev pub clash : Did → ℕ → List Placed → Option Stop
clash did cycle [] = None
clash did cycle (p ∷ others) = option_or (first_of (met_by did cycle p others) (did p).writes) (clash did cycle others)

-- what breaks a run in a cycle: of both, the branches
abbrev pub broken : Issued → ℕ → Option Stop
broken issued cycle = option_or (two_branches (filter (has_branched issued.did cycle) issued.placed)) (clash issued.did cycle issued.placed)

-- before this cycle nothing does
abbrev pub IsWholeBefore : Issued → ℕ → Type 0
IsWholeBefore issued cycle = (earlier : ℕ) → earlier < cycle → broken issued earlier ≡ None
