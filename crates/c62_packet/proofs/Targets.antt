-- The branches of packets have targets exactly where the test of all finds that they have.
use Rattle.std.proofs.Common.{◌≡◌, ℕ, List, Option, None, Some, true, refl}
use Rattle.std.specs.Prelude.{◌↔◌}
use Rattle.std.specs.List.{slice_get}
use Rattle.std.proofs.lemmas.List.Sums.{AllPass-from_list_all, list_all-from_AllPass}
use Rattle.c62_op.specs.declared.operands.Operands.{Operands}
use Rattle.c62_op.specs.declared.operands.Operands.TheVariants.{Block as BlockNumber}
use Rattle.c62_read.specs.Block.{target_stands, is_labelled}
use Rattle.c62_packet.specs.Packed.{Packed}
use Rattle.c62_packet.specs.Packets.{labels_of, is_closed, HaveTargets}

module _ (labels : List (Option (List ℕ))) where
  abbrev Has : ℕ → Type 0
  Has number = (label : List ℕ) × (slice_get labels number ≡ Some (Some label))

  found : (entry : Option (Option (List ℕ))) → is_labelled entry ≡ true
      → (label : List ℕ) × (entry ≡ Some (Some label))
  found None told = absurd cc
  found (Some None) told = absurd cc
  found (Some (Some label)) told = (label, refl)

  stands : (operands : Operands) → target_stands labels operands ≡ true
      → (number : ℕ) → operands ≡ BlockNumber number → Has number
  stands operands told number is = found (slice_get labels number) (rw is at told)

  named : (operands : Operands) → ((number : ℕ) → operands ≡ BlockNumber number → Has number)
      → target_stands labels operands ≡ true
  named (BlockNumber number) has = rw (has number refl).1 refl
  named _ has = refl

pub closed_has : (packets : List Packed) → (is_closed packets ≡ true) ↔ HaveTargets packets
closed_has packets = (
  λ closed k d less j e within.
      stands (labels_of packets) _
      (AllPass-from_list_all _ _ (AllPass-from_list_all _ packets closed k d less) j e within),
  λ has. list_all-from_AllPass _ packets
      (λ k d less. list_all-from_AllPass _ _ (λ j e within. named (labels_of packets) _ (has k d less j e within))),
)
