-- The first fault of a block.
use Rattle.std.proofs.Common.{arith, ℕ, List, [], ◌∷◌, Option, Some, None, refl}
use Rattle.std.proofs.lemmas.Option.{none-some}
use Rattle.c62_rules.specs.PacketRules.{Issues, KeepsPacketRules}
use Rattle.c62_rules.specs.Resource.{rule_of}
use Rattle.c62_row.specs.declared.row.Row.{Row}
use Rattle.c62_row.specs.declared.row.Uses.{Uses}
use Rattle.c62_row.specs.Row.{AreUses}
use Rattle.c62_row.specs.Issued.{IsRowOf}
use Rattle.c62_packet.specs.declared.placed.Placed.{Placed}
use Rattle.c62_packet.specs.declared.fault.PacketRule.{PacketRule}
use Rattle.c62_packet.specs.declared.fault.PacketRule.TheVariants.{InCycle, P5}
use Rattle.c62_packet.specs.Packed.{issued}
use Rattle.c62_packet.specs.Rules.{IsKeptAmong, IsKept, AreKeptInEach}
use Rattle.c62_packet.specs.Fault.{FindsBroken}
use Rattle.c62_packet.specs.Clash.{IsBrokenBeside, earlier}
use Rattle.c62_packet.proofs.FirstFaults.{Suits, kept-cons, kept-rest, kept-own, first-same, first-both}
unfoldable use Rattle.c62_packet.proofs.FirstFaults.{FirstOf}
use Rattle.c62_packet.proofs.OwnFaults.{first_beside}

-- ---- rules cycle by cycle

pub kept-each : (issues : Issues) → AreKeptInEach issues
kept-each issues = record {
  whole = λ kept. record {
    enough = λ cycle r. kept (InCycle (rule_of r)) cycle r refl;
    landing = λ i j p q reg cycle at_i at_j land_p land_q. kept P5 cycle i j p q reg at_i at_j land_p land_q;
  };
  each = each;
}
  where
    each : KeepsPacketRules issues → (rule : PacketRule) (cycle : ℕ) → IsKept rule cycle issues
    each rules (InCycle rule) cycle = λ r is. rules.enough cycle r
    each rules P5 cycle = λ i j p q reg at_i at_j land_p land_q. rules.landing i j p q reg cycle at_i at_j land_p land_q

-- ---- all instructions

none_kept : (whole : List Placed) (rule : PacketRule) (c : ℕ) → IsKeptAmong (issued whole) rule c (issued [])
none_kept whole (InCycle rule) c = λ r is. omega arith
none_kept whole P5 c = λ i j p q reg at. absurd (none-some p at)

-- the first cycle and rule that some of a block break
pub FirstAmong : List Placed → List Placed → Option (ℕ × PacketRule) → Type 0
FirstAmong whole xs found = FirstOf (λ rule c. IsKeptAmong (issued whole) rule c (issued xs)) found

pub first-none : (whole : List Placed) → FirstAmong whole [] None
unfolding FirstAmong FirstOf
first-none whole = none_kept whole

pub first-cons : (row : Row) (own : Uses) (whole : List Placed) (p : Placed) (xs : List Placed)
    (found beside : Option (ℕ × PacketRule)) → IsRowOf row p.cycle (issued xs)
    → AreUses own p.insn p.unit → IsBrokenBeside row own whole p xs beside → FirstAmong whole xs found
    → FirstAmong whole (p ∷ xs) (earlier found beside)
unfolding FirstAmong
first-cons row own whole p xs found beside is are broken h =
    first-same (λ rule c. IsKeptAmong (issued whole) rule c (issued xs)
    × Suits whole rule c p xs) (λ rule c. IsKeptAmong (issued whole) rule c (issued (p ∷ xs)))
    (earlier found beside)
    (λ rule c k. kept-cons whole rule c p xs k.0 k.1)
    (λ rule c k. (kept-rest whole rule c p xs k, kept-own whole rule c p xs k))
    (first-both (λ rule c. IsKeptAmong (issued whole) rule c (issued xs)) (λ rule c. Suits whole rule c p xs) found
    beside h
    (first_beside row own whole p xs beside is are broken))

pub first-all : (xs : List Placed) (found : Option (ℕ × PacketRule)) → FirstAmong xs xs found → FindsBroken xs found
unfolding FirstAmong FirstOf
first-all xs None h = (kept-each (issued xs)).whole h
first-all xs (Some found) h = record { broken = h.0; first = λ earlier other before. h.1 earlier other before }
