-- Blocks as they are read, one after the other.
use Rattle.c62_listing_reader.proofs.Common.{arith, ◌≡◌, ℕ, ◌+◌, List, [], ◌∷◌, ◌++◌, length, map, refl, sym, ap, ◌∙◌}
use Rattle.c62_listing_reader.proofs.Common.{subst, append_assoc}
use Rattle.c62_listing_reader.proofs.Common.{append-nil, length-append, All, length-map, map-append, All-nil, All-tail}
use Rattle.c62_listing_reader.proofs.Common.{Packed, IsPacketBlock}
use Rattle.c62_listing_reader.proofs.Common.{OpenBlock, Draft, draft_of, IsFine, draft_open}
use Rattle.std.proofs.Common.{reverse}
use Rattle.std.proofs.Math.Seq.{take-append_seam}
use Rattle.std.proofs.lemmas.List.{reverse-append, reverse-reverse}
use Rattle.c62_packet.specs.declared.fault.BlockFault.{BlockFault}
use Rattle.c62_listing_reader.specs.Faults.{IsFaulted, IsFirstFaulty}
use Rattle.std.proofs.lemmas.List.Elements.{All-push}
use Rattle.c62_listing_reader.proofs.NamedLemmas.{at_seam}

-- what stands last comes first the other way round
pub reversed : (left : List OpenBlock) (block : OpenBlock)
    → map draft_open (reverse (left ++ block ∷ [])) ≡ draft_open block ∷ map draft_open (reverse left)
reversed left block = ap (map draft_open) (reverse-append left (block ∷ []))

-- ---- the walk over the blocks: some are packet blocks, others are left, the first of them last

pub record IsLeft (all : List Draft) (packets : List Packed) (left : List OpenBlock) (number : ℕ) : Type 0 where
  pub whole : map draft_of packets ++ map draft_open (reverse left) ≡ all
  pub fine : All IsFine (map draft_open (reverse left))
  pub count : number ≡ length packets
  pub are : All IsPacketBlock packets

pub left-start : (blocks : List OpenBlock) → All IsFine (map draft_open blocks)
    → IsLeft (map draft_open blocks) [] (reverse blocks) 0
left-start blocks fine = record {
  whole = ap (map draft_open) (reverse-reverse blocks);
  fine = subst (λ (left : List OpenBlock). All IsFine (map draft_open left)) (sym (reverse-reverse blocks)) fine;
  count = refl;
  are = All-nil IsPacketBlock;
}

pub left-fine : (all : List Draft) (packets : List Packed) (left : List OpenBlock) (block : OpenBlock) (number : ℕ)
    → IsLeft all packets (left ++ block ∷ []) number → IsFine (draft_open block)
left-fine all packets left block number is = (rw (reversed left block) at is.fine) 0 (draft_open block) (omega arith)

pub left-faulty : (all : List Draft) (packets : List Packed) (left : List OpenBlock) (block : OpenBlock) (number : ℕ)
    (fault : BlockFault)
    → IsLeft all packets (left ++ block ∷ []) number → IsFaulted (draft_open block) fault
    → IsFirstFaulty all number fault
left-faulty all packets left block number fault is faulted =
    let rest : List Draft = map draft_open (reverse left) in
    let split : map draft_of packets ++ draft_open block ∷ rest ≡ all = rw (reversed left block) at is.whole in
    let before_it : number ≡ length (map draft_of packets) = is.count ∙ sym (length-map packets draft_of) in
    record {
      draft = draft_open block;
      at = rw (← split, before_it) (at_seam (map draft_of packets) (draft_open block) rest);
      faulted = faulted;
      blocks = packets;
      before = rw (← split, before_it) (sym (take-append_seam (map draft_of packets) (draft_open block ∷ rest)));
      are_blocks = is.are;
    }

pub left-next : (all : List Draft) (packets : List Packed) (packed : Packed) (left : List OpenBlock) (block : OpenBlock)
    (number : ℕ)
    → IsLeft all packets (left ++ block ∷ []) number → draft_of packed ≡ draft_open block → IsPacketBlock packed
    → IsLeft all (packets ++ packed ∷ []) left (number + 1)
left-next all packets packed left block number is same packet = record {
  whole = grind (
    arith,
    reversed left block,
    map-append draft_of packets,
    append_assoc (map draft_of packets),
    same,
    is.whole,
  );
  fine = All-tail IsFine (draft_open block) (map draft_open (reverse left)) (rw (reversed left block) at is.fine);
  count = omega (arith, length-append packets (packed ∷ []), is.count);
  are = All-push IsPacketBlock packets packed is.are packet;
}

pub left-done : (all : List Draft) (packets : List Packed) (left : List OpenBlock) (number : ℕ)
    → IsLeft all packets left number → left ≡ []
    → (map draft_of packets ≡ all) × All IsPacketBlock packets
left-done all packets left number is none =
    (sym (append-nil (map draft_of packets)) ∙ (rw none at is.whole), is.are)
