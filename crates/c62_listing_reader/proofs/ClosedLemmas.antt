-- The branches of what is read go to blocks that are there and have labels.
use Rattle.c62_listing_reader.proofs.Common.{sym, nat_tests, arith, ◌≡◌, ℕ, ◌+◌, List, [], ◌∷◌, length, map, Option}
use Rattle.c62_listing_reader.proofs.Common.{Bool, true, false, refl, ap}
use Rattle.c62_listing_reader.proofs.Common.{append-nil, nat_lt, Result, Ok, Err, IsTrue, MatchResult, list_all}
use Rattle.c62_listing_reader.proofs.Common.{slice_get, list_all-append, Operands}
use Rattle.c62_listing_reader.proofs.Common.{operands_of, is_labelled, target_stands, Parts, Says, Name, is_among}
use Rattle.c62_listing_reader.proofs.Common.{is_unknown, IsProper, has_no_block}
use Rattle.c62_listing_reader.proofs.Common.{Packed, packet_labels, ListFault, Above, Start, Line, lines_in, is_beside}
use Rattle.c62_listing_reader.proofs.Common.{Said, Part, part_of, Draft}
use Rattle.c62_listing_reader.proofs.Common.{Drafts, no_drafts, all_drafts, opened, with_part, with_label, with_says}
use Rattle.c62_listing_reader.proofs.Common.{with_said, above_next, names_in}
use Rattle.c62_listing_reader.proofs.Common.{labels_of, aim_by, contents, most_bytes, draft_of, read_lines, IsRead}
use Rattle.c62_listing_reader.proofs.Common.{Refuses}
use Rattle.std.specs.Prelude.{IfOk}
use Rattle.std.proofs.lemmas.List.Folds.{list_all-map}
use Rattle.c62_packet.specs.Packets.{is_closed}
use Rattle.c62_listing_reader.proofs.NamedLemmas.{aims, labels_in}
use Rattle.c62_listing_reader.proofs.ToldLemmas.{begun, over, if_err}
use Rattle.c62_listing_reader.proofs.ToldLines.{is_proper}
use Rattle.std.proofs.lemmas.Simd.{map-map}
use Rattle.c62_op.specs.declared.set.InstructionSet.{InstructionSet}

-- ---- branches

abbrev stand_in : List (Option Name) → Draft → Bool
stand_in labels draft = list_all (λ part. target_stands labels part.parts.operands) draft.placed

free_stands : (labels : List (Option Name)) (operands : Operands) → has_no_block operands ≡ true
    → target_stands labels operands ≡ true
free_stands labels operands free = grind (arith, nat_tests)

part_stands : (labels : List (Option Name)) (beside : Bool) (parts : Parts) (line : ℕ) (draft : Draft)
    → target_stands labels parts.operands ≡ true
    → stand_in labels draft ≡ true
    → stand_in labels (with_part beside parts line draft) ≡ true
part_stands labels beside parts line draft here before =
    grind (arith, nat_tests, list_all-append (λ (part : Part). target_stands labels part.parts.operands) draft.placed)

label_stands : (labels : List (Option Name)) (label : Option Name) (draft : Draft) → stand_in labels draft ≡ true
    → stand_in labels (with_label label draft) ≡ true
label_stands labels label draft is = grind (arith, nat_tests)

module _ (isa : InstructionSet) (labels : List (Option Name)) (names : List Name) (aim : Name → ℕ)
    (aims : (target : Name) → is_among target names ≡ true → is_labelled (slice_get labels (aim target)) ≡ true) where
  says_stand : (beside : Bool) (line : ℕ) (says : Says) (draft : Draft) → IsProper says → is_unknown names says ≡ false
      → stand_in labels draft ≡ true
      → stand_in labels (with_says aim beside line says draft) ≡ true
  says_stand beside line says draft proper known is =
      grind (arith, nat_tests, part_stands labels, free_stands labels, aims)

  said_stands : (line : ℕ) (said : Said) (drafts : Drafts) → IsProper said.says → is_unknown names said.says ≡ false
      → list_all (stand_in labels) (all_drafts drafts) ≡ true
      → list_all (stand_in labels) (all_drafts (with_said aim line said drafts)) ≡ true
  said_stands line said drafts proper known all =
      grind (
        arith,
        nat_tests,
        append-nil {A = Draft},
        list_all-append (stand_in labels) drafts.done,
        label_stands labels said.label (opened drafts.current),
        says_stand (is_beside said.front) line said.says (with_label said.label (opened drafts.current)) proper known,
      )

  all_stand : (number : ℕ) (drafts : Drafts) (above : Above) (lines : List Line) (final : Drafts)
      → list_all (stand_in labels) (all_drafts drafts) ≡ true
      → read_lines isa names aim number drafts above lines ≡ Ok final
      → list_all (stand_in labels) (all_drafts final) ≡ true
  all_stand number drafts above [] final all h = rw (← over isa names aim number drafts above final h) all
  all_stand number drafts above (line ∷ below) final all h =
      let start = begun isa names aim number drafts above line below final h in
      let said : Said = start.said in
      all_stand (number + 1) (with_said aim number said drafts) (above_next said.front said.says) below final
      (said_stands number said drafts (is_proper isa names drafts above line below said start.is) start.is.known all)
      start.others

-- ---- the packets

packets_stand : (labels : List (Option Name)) (packets : List Packed)
    → list_all (λ block. list_all (λ p. target_stands labels (operands_of p.insn)) block.placed) packets ≡ list_all
    (stand_in labels)
    (map draft_of packets)
packets_stand labels [] = refl
packets_stand labels (block ∷ packets) =
    rw (
      packets_stand labels packets,
      list_all-map (λ (part : Part). target_stands labels part.parts.operands) part_of
          block.placed,
    ) refl

pub labels_same : (packets : List Packed) → packet_labels packets ≡ labels_in (map draft_of packets)
labels_same packets = sym (map-map (λ (draft : Draft). draft.label) draft_of packets)

-- packets that are read of a text branch to blocks that are there and have labels
pub read_closed : (isa : InstructionSet) (text : List ℕ) (packets : List Packed) → IsRead isa text packets
    → is_closed packets ≡ true
read_closed isa text packets is =
    let final : Drafts = is.drafts in
    let lines : List Line = lines_in text in
    let entries : List (Name × ℕ) = names_in 0 (contents text) in
    let read = (if_err (nat_lt most_bytes (length text)) _ _ final is.said).1 in
    let stand : list_all (stand_in (labels_in (all_drafts final))) (all_drafts final) ≡ true =
    all_stand isa (labels_in (all_drafts final)) (labels_of entries)
    (aim_by entries) (λ target known. ap is_labelled (aims isa lines final read target known))
    1 no_drafts Start lines final refl read in
    rw (packets_stand (packet_labels packets) packets, labels_same packets, is.blocks) stand

pub closed_if : (isa : InstructionSet) (text : List ℕ) (r : Result (List Packed) ListFault)
    → MatchResult r (λ packets. IsRead isa text packets) (λ fault. Refuses isa text fault)
    → IfOk r (λ packets. IsTrue (is_closed packets))
closed_if isa text (Ok packets) is = read_closed isa text packets is
closed_if isa text (Err fault) is = tt
