use Rattle.std.proofs.Common.{◌≡◌, ℕ, ◌-◌, ◌++◌, ◌∷◌, [], List, length, map, take, arith, sym, ap, ◌∙◌, length-append}
use Rattle.std.specs.Prelude.{vec_len}
use Rattle.std.proofs.lemmas.List.{length-reverse}
use Rattle.c62_listing_reader.specs.declared.draft.OpenBlock.{OpenBlock}
use Rattle.c62_listing_reader.specs.Reading.{draft_open}
use Rattle.c62_listing_reader.proofs.PacketLemmas.{left-start, left-fine, left-faulty, left-next, left-done}
use Rattle.c62_listing_reader.proofs.reader.packets_of.Goals as goal

pub loop-block-init : goal.loop-block-init
loop-block-init c =
    let items = c.reverse.ensures.items in
    let count = ap length items ∙ length-reverse c.args.blocks.items in
    record {
      walk = rw (c.new-packets.ensures, items) (left-start c.args.blocks.items c.requires.fine);
      count = sym (ap length c.new-packets.ensures);
      few = omega (arith, count, c.requires.few);
    }

pub packet_block-requires : goal.packet_block-requires
packet_block-requires c =
    let here = rw c.in-Some.ensures.items at c.loop-block.invariant.walk in
    left-fine (map draft_open c.args.blocks.items) c.loop-block.packets c.pop.new.self.items c.in-Some.block
    c.loop-block.number here

pub returns-in-Err : goal.returns-in-Err
returns-in-Err c =
    let all = map draft_open c.args.blocks.items in
    let here = rw c.in-Some.ensures.items at c.loop-block.invariant.walk in
    c.fault_of_block.ensures all
    (left-faulty all c.loop-block.packets c.pop.new.self.items c.in-Some.block c.loop-block.number c.in-Err.fault here
    c.in-Err.ensures)

pub loop-block-preserved : goal.loop-block-preserved
loop-block-preserved c =
    let packets = c.loop-block.packets in
    let left = c.pop.new.self.items in
    let packed = c.in-Ok.packed in
    let here = rw c.in-Some.ensures.items at c.loop-block.invariant.walk in
    let more = ap length c.in_ok-put.ensures ∙ length-append packets (packed ∷ []) in
    let less = ap length c.in-Some.ensures.items ∙ length-append left (c.in-Some.block ∷ []) in
    record {
      walk = rw c.in_ok-put.ensures
          (left-next (map draft_open c.args.blocks.items) packets packed left c.in-Some.block c.loop-block.number
          here
          c.in-Ok.ensures.0 c.in-Ok.ensures.1);
      count = omega (arith, more, c.loop-block.invariant.count);
      few = omega (arith, less, c.loop-block.invariant.few);
    }

pub returns : goal.returns
returns c =
    let all = map draft_open c.args.blocks.items in
    let old = c.loop-block.left in
    let none : vec_len old ≡ 0 = c.in_default.ensures.cases.0 in
    let before : vec_len old - 1 ≡ 0 = omega (arith, none) in
    let rest : c.pop.new.self.items ≡ [] = c.in_default.ensures.rest ∙ ap (λ (n : ℕ). take n old.items) before in
    let empty : old.items ≡ [] = c.in_default.ensures.items ∙ ap (λ (blocks : List OpenBlock). blocks ++ []) rest in
    left-done all c.loop-block.packets old.items c.loop-block.number c.loop-block.invariant.walk empty
