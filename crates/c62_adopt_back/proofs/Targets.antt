-- What the branches of a listing go to.
use Rattle.c62_adopt_back.proofs.Common.{nat_tests, arith, ◌≡◌, ℕ, zero, suc, ◌+◌, ◌<◌, List, [], ◌∷◌, length, map}
use Rattle.c62_adopt_back.proofs.Common.{true, false, Option, Some, None}
use Rattle.c62_adopt_back.proofs.Common.{refl, sym, ap, ◌∙◌, list_any, slice_get, Name, label_is, Operands, Packed}
use Rattle.c62_adopt_back.proofs.Common.{Draft}
use Rattle.std.specs.List.{IsDistinct, position_or_len}
use Rattle.std.specs.Str.{bytes_eq}
use Rattle.std.proofs.lemmas.Bool.{lt-ltb}
use Rattle.std.proofs.lemmas.List.{length-map}
use Rattle.std.proofs.lemmas.Option.{none-some, slice_get_within}
use Rattle.std.proofs.lemmas.Slice.Eq.{bytes_eq-Decides}
use Rattle.c62_op.specs.declared.operands.Operands.TheVariants.{Block}
use Rattle.c62_insn.specs.Insn.{aimed_operands}
use Rattle.c62_read.specs.Block.{target_stands}
use Rattle.c62_read.proofs.BlockLemmas.{position_map}
use Rattle.c62_packet.specs.Packets.{labels_of}
use Rattle.c62_listing.specs.Listing.{label_text, name_in}
use Rattle.c62_listing_reader.proofs.LinesLemmas.{given, member_at}
use Rattle.c62_listing_reader.proofs.ReadBackLemmas.{HasTarget, has_target}
use Rattle.c62_adopt_cut.specs.Flight.{is_lost}
use Rattle.c62_adopt.specs.Blocks.{target_number}
use Rattle.c62_adopt_back.proofs.Said.{target_with, unaimed}
use Rattle.c62_adopt_back.proofs.Walk.{AreRead}

-- ---- the number of a label

-- of labels that differ, one has its own number
number_at : (labels : List (Option Name)) (k : ℕ) (label : Name) → IsDistinct bytes_eq (given labels)
    → slice_get labels k ≡ Some (Some label)
    → position_or_len (label_is label) labels ≡ k
unfolding IsDistinct
number_at [] k label distinct at = absurd (none-some (Some label) at)
number_at (None ∷ labels) zero label distinct at = absurd cc
number_at (Some other ∷ labels) zero label distinct at =
    let same : other ≡ label = cc in
    let equal : bytes_eq other label ≡ true = (bytes_eq-Decides other label).1 same in
    rw equal refl
number_at (None ∷ labels) (suc k) label distinct at = omega (arith, number_at labels k label distinct at)
number_at (Some other ∷ labels) (suc k) label distinct at =
    let apart : bytes_eq other label ≡ false = member_at (λ (y : Name). bytes_eq other y ≡ false) labels k label at
    distinct.0 in
    rw apart (omega (arith, number_at labels k label distinct.1 at))

known_at : (labels : List (Option Name)) (k : ℕ) (label : Name) → slice_get labels k ≡ Some (Some label)
    → list_any (label_is label) labels ≡ true
known_at [] k label at = absurd (none-some (Some label) at)
known_at (None ∷ labels) zero label at = absurd cc
known_at (Some other ∷ labels) zero label at =
    let same : other ≡ label = cc in
    rw ((bytes_eq-Decides other label).1 same) refl
known_at (None ∷ labels) (suc k) label at = known_at labels k label at
known_at (Some other ∷ labels) (suc k) label at = grind (arith, nat_tests, known_at labels k label at)

-- ---- the labels of the blocks that are read

pub labels_so : (name : ℕ → Name) (start end : ℕ) (drafts : List Draft) (blocks : List Packed)
    → AreRead name start end drafts blocks
    → map (λ draft. draft.label) drafts ≡ labels_of blocks
unfolding AreRead
labels_so name start end [] [] are = refl
labels_so name start end [] (block ∷ blocks) are = absurd are
labels_so name start end (draft ∷ drafts) [] are = absurd are
labels_so name start end (draft ∷ drafts) (block ∷ blocks) are =
    grind (arith, are.0.label_is, labels_so name (start + block.cycles) end drafts blocks are.1)

any_label : (label : Name) (drafts : List Draft) → list_any (λ draft. label_is label draft.label) drafts
    ≡ list_any (label_is label) (map (λ draft. draft.label) drafts)
any_label label [] = refl
any_label label (draft ∷ drafts) = grind (arith, any_label label drafts)

-- an instruction's branch goes to a block of these, and aimed there it is the instruction
pub record IsAimed (name : ℕ → Name) (whole : List Draft) (operands : Operands) : Type 0 where
  pub found : is_lost whole (target_with name operands) ≡ false
  pub aimed : aimed_operands (target_number whole (target_with name operands)) (unaimed operands) ≡ operands

aimed_by : (name : ℕ → Name) (whole : List Draft) (operands : Operands)
    → ((k : ℕ) → operands ≡ Block k → (is_lost whole (Some (name k)) ≡ false)
    × (target_number whole (Some (name k)) ≡ k))
    → IsAimed name whole operands
aimed_by name whole operands goes = record { found = grind (arith, goes); aimed = grind (arith, goes) }

module _ (packets : List Packed) (drafts : List Draft) (same : map (λ draft. draft.label) drafts ≡ labels_of packets)
    (distinct : IsDistinct bytes_eq (given (labels_of packets))) where
  goes_to : (k : ℕ) → HasTarget (labels_of packets) k
      → (is_lost drafts (Some (name_in packets k)) ≡ false) × (target_number drafts (Some (name_in packets k)) ≡ k)
  goes_to k target =
      let label : Name = target.label in
      let named : name_in packets k ≡ label = ap label_text target.at in
      let known : list_any (λ draft. label_is label draft.label) drafts ≡ true =
      any_label label drafts ∙ ap (list_any (label_is label)) same ∙ known_at (labels_of packets) k label target.at in
      let number : position_or_len (λ draft. label_is label draft.label) drafts ≡ k =
      sym (position_map (label_is label) (λ (draft : Draft). draft.label) drafts)
      ∙ ap (position_or_len (label_is label)) same ∙ number_at (labels_of packets) k label distinct target.at in
      let within : k < length drafts =
      omega (
        arith,
        slice_get_within (labels_of packets) k (Some label) target.at,
        ap length same,
        length-map drafts (λ (draft : Draft). draft.label),
      ) in
      rw (named, known, number, lt-ltb k (length drafts) within) (refl, refl)

  pub all_aimed : (operands : Operands) → target_stands (labels_of packets) operands ≡ true
      → IsAimed (name_in packets) drafts operands
  all_aimed operands stands =
      aimed_by (name_in packets) drafts operands
      (λ k is. goes_to k (has_target (labels_of packets) operands k stands is))
