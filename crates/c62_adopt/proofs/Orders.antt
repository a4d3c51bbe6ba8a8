-- The packet rules ask nothing of the order in which instructions stand.
use Rattle.std.proofs.Common.{arith, ℕ, List, Some, inl, inr}
use Rattle.std.specs.Prelude.{IsPermutation}
use Rattle.std.proofs.lemmas.List.Sorted.{IsPermutation-map, IsPermutation-sym, sum_by-IsPermutation}
use Rattle.c62_rules.specs.PacketRules.{KeepsPacketRules}
use Rattle.c62_rules.specs.Capacity.{uses_in}
use Rattle.c62_rules.specs.Part.{IsPart}
use Rattle.c62_rules.proofs.Parts.{part-permuted, part-keeps, part-excused}
use Rattle.c62_packet.specs.declared.placed.Placed.{Placed}
use Rattle.c62_packet.specs.declared.fault.PacketRule.{PacketRule}
use Rattle.c62_packet.specs.declared.fault.PacketRule.TheVariants.{InCycle, P5}
use Rattle.c62_packet.specs.Packed.{issue_of, issued}
use Rattle.c62_packet.specs.Rules.{IsKept}
use Rattle.c62_packet.specs.Fault.{IsFirstBroken}

issued_same : (placed others : List Placed) → IsPermutation placed others
    → IsPermutation (issued placed) (issued others)
issued_same placed others same = IsPermutation-map (λ (p : Placed). Some (issue_of p)) placed others same

part_of_same : (placed others : List Placed) → IsPermutation placed others → IsPart (issued others) (issued placed)
part_of_same placed others same = part-permuted (issued placed) (issued others) (issued_same placed others same)

pub rules_same : (placed others : List Placed) → IsPermutation placed others → KeepsPacketRules (issued placed)
    → KeepsPacketRules (issued others)
rules_same placed others same = part-keeps (issued others) (issued placed) (part_of_same placed others same)

-- a rule that is kept in a cycle is kept in any other order
kept_same : (placed others : List Placed) → IsPermutation placed others → (rule : PacketRule) (cycle : ℕ)
    → IsKept rule cycle (issued placed)
    → IsKept rule cycle (issued others)
kept_same placed others same (InCycle rule) cycle kept = λ r is.
    omega (
      arith,
      kept r is,
      sum_by-IsPermutation (uses_in cycle r) (issued placed) (issued others)
          (issued_same placed others same),
    )
kept_same placed others same P5 cycle kept = λ i j p q reg at_i at_j land_p land_q.
    let part = part_of_same placed others same in
    elim (kept (part.number i) (part.number j) p q reg (part.issued i p at_i) (part.issued j q at_j) land_p land_q) [
      | inl one ↦ inl (part.apart i j p q at_i at_j one)
      | inr may ↦ inr (part-excused (issued others) (issued placed) part p q may)
    ]

-- so is the first that is broken
pub broken_same : (placed others : List Placed) → IsPermutation placed others → (cycle : ℕ) (rule : PacketRule)
    → IsFirstBroken cycle rule placed
    → IsFirstBroken cycle rule others
broken_same placed others same cycle rule is = record {
  broken = λ kept. is.broken (kept_same others placed (IsPermutation-sym placed others same) rule cycle kept);
  first = λ earlier other before. kept_same placed others same other earlier (is.first earlier other before);
}
