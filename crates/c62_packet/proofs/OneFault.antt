-- A block has one fault at most, and a packet block has none.
use Rattle.std.proofs.Common.{arith, ◌≡◌, ℕ, zero, suc, List, refl, sym, ap, ◌∙◌, inl, inr}
use Rattle.std.proofs.lemmas.Bool.{cases_lt}
use Rattle.c62_rules.proofs.Places.{rank-few, same-rank}
use Rattle.c62_packet.specs.declared.placed.Placed.{Placed}
use Rattle.c62_packet.specs.declared.fault.PacketRule.{PacketRule}
use Rattle.c62_packet.specs.declared.fault.PacketRule.TheVariants.{InCycle, P5}
use Rattle.c62_packet.specs.declared.fault.BlockFault.TheVariants.{TwoBranches, NotDrained, Unlawful}
use Rattle.c62_packet.specs.Packed.{Packed, issued}
use Rattle.c62_packet.specs.Fault.{rank_of, IsFirstBroken, HasNoFault, HasOneFault}
use Rattle.c62_packet.proofs.Broken.{kept-each}

pub no-fault : (block : Packed) → HasNoFault block
no-fault block packed TwoBranches fault = fault packed.one_branch
no-fault block packed NotDrained fault = fault.1 (record { own_length = packed.own_length; drained = packed.drained })
no-fault block packed (Unlawful cycle rule) fault = fault.2.broken
    ((kept-each (issued block.placed)).each packed.rules rule cycle)

same_rule : (rule other : PacketRule) → rank_of rule ≡ rank_of other → rule ≡ other
same_rule (InCycle rule) (InCycle other) e = ap InCycle (same-rank rule other e)
same_rule (InCycle rule) P5 e = absurd (omega (arith, e, rank-few rule))
same_rule P5 (InCycle other) e = absurd (omega (arith, e, rank-few other))
same_rule P5 P5 e = refl

pub same_break : (placed : List Placed) (cycle other : ℕ) (rule next : PacketRule) → IsFirstBroken cycle rule placed
    → IsFirstBroken other next placed
    → (cycle ≡ other) × (rule ≡ next)
same_break placed cycle other rule next one two = elim (cases_lt cycle other) [
  | inl lower ↦ absurd (one.broken (two.first cycle rule (inl lower)))
  | inr above ↦ elim (cases_lt other cycle) [
    | inl lower ↦ absurd (two.broken (one.first other next (inl lower)))
    | inr below ↦
        let same : cycle ≡ other = omega (arith, above, below) in
        elim (cases_lt (rank_of rule) (rank_of next)) [
          | inl lower ↦ absurd (one.broken (two.first cycle rule (inr (same, lower))))
          | inr higher ↦ elim (cases_lt (rank_of next) (rank_of rule)) [
            | inl lower ↦ absurd (two.broken (one.first other next (inr (sym same, lower))))
            | inr least ↦ (
              same,
              same_rule rule next
                  (let e : rank_of rule ≡ rank_of next = omega (arith, higher, least) in e),
            )
          ]
        ]
  ]
]

pub one-fault : (cycles : ℕ) (placed : List Placed) → HasOneFault cycles placed
one-fault cycles placed TwoBranches TwoBranches f g = refl
one-fault cycles placed TwoBranches NotDrained f g = absurd (f g.0)
one-fault cycles placed TwoBranches (Unlawful cycle rule) f g = absurd (f g.0)
one-fault cycles placed NotDrained TwoBranches f g = absurd (g f.0)
one-fault cycles placed NotDrained NotDrained f g = refl
one-fault cycles placed NotDrained (Unlawful cycle rule) f g = absurd (f.1 g.1)
one-fault cycles placed (Unlawful cycle rule) TwoBranches f g = absurd (g f.0)
one-fault cycles placed (Unlawful cycle rule) NotDrained f g = absurd (g.1 f.1)
one-fault cycles placed (Unlawful cycle rule) (Unlawful other next) f g =
    let same = same_break placed cycle other rule next f.2 g.2 in
    ap (λ (c : ℕ). Unlawful c rule) same.0 ∙ ap (λ (r : PacketRule). Unlawful other r) same.1
