-- No packets that pass the check are shorter than the bound.
use Rattle.std.proofs.Common.{arith, ◌≡◌, ℕ, List, length, IsPermutation, Some, refl, sym, ap, subst, ◌∙◌, true}
use Rattle.std.specs.List.{slice_get, Contains}
use Rattle.std.specs.Prelude.{IsTrue, nat_le}
use Rattle.std.proofs.lemmas.Int.{ints}
use Rattle.std.proofs.lemmas.Bool.{and_parts}
use Rattle.std.proofs.lemmas.Option.{slice_get-get_or, same_Some, slice_get_within, get_or_from_slice_get}
use Rattle.std.proofs.lemmas.List.Elements.{All-contains}
use Rattle.std.proofs.lemmas.List.Sorted.{IsPermutation-sym, Contains-permutation}
use Rattle.c62_op.specs.Shape.{delay_of, data_path_of}
use Rattle.c62_op.specs.Takes.{takes}
use Rattle.c62_insn.specs.declared.insn.Insn.{Insn}
use Rattle.c62_insn.specs.Insn.{op_of, operands_of, unit_of}
use Rattle.c62_rules.proofs.Capacities.{the-rules, one-each-unit, one-each-data-path}
use Rattle.c62_read.specs.Block.{Serial, is_block, branch_last, operations}
use Rattle.c62_read.specs.declared.limits.TheConstants.{MOST_INSTRUCTIONS}
use Rattle.c62_packet.specs.declared.placed.Placed.{Placed}
use Rattle.c62_packet.specs.Packed.{Packed, IsPacketBlock, issue_of, issued}
use Rattle.c62_depend.specs.Plan.{insns_of}
use Rattle.c62_depend.proofs.Plans.{many_insns}
use Rattle.c62_sheet.specs.declared.entry.Spot.{Spot}
use Rattle.c62_sheet.specs.Lawful.{IsAt}
use Rattle.c62_bound.specs.Bound.{is_taken}
use Rattle.c62_bound.specs.Laws.{IsSeated}
use Rattle.c62_raised.specs.Room.{CrossTo}
use Rattle.c62_raised.proofs.Bound.{raised_bound_holds}
use Rattle.c62_raised.proofs.Seated.{uses_cross}
use Rattle.c62_check.specs.Schedule.{IsSchedule}
use Rattle.c62_check.specs.Least.{spots_of, PacketsAreSeated, NoPacketsAreShorter, NoCheckedAreShorter}
use Rattle.c62_check.proofs.Lined.{same_length}
use Rattle.c62_check.proofs.Distinct.{are_distinct}
use Rattle.c62_check.proofs.OneNumbering.{StandsIn, is_plan}
use Rattle.c62_check.proofs.Serially.{says_same}
use Rattle.c62_packet.proofs.Placings.{issued_at}
use Rattle.c62_check.proofs.PlacedSpots.{place_of, has_spot, stands_at, written_takes, taken_by, delay_ends}

-- ---- a schedule

-- it stands in the packets
record IsListed (listed : List Placed) (p : Placed) : Type 0 where
  place : ℕ
  at : slice_get listed place ≡ Some p

listed_at : (listed numbered : List Placed) → IsPermutation listed numbered → (i : ℕ) (p : Placed)
    → slice_get numbered i ≡ Some p → IsListed listed p
listed_at listed numbered all i p at =
    let found : Contains listed p = Contains-permutation numbered listed p (IsPermutation-sym listed numbered all)
    (i, slice_get_within numbered i p at, get_or_from_slice_get numbered i p p at) in
    record { place = found.0; at = slice_get-get_or listed found.0 p found.1 ∙ ap (λ (q : Placed). Some q) found.2 }

module _ (block : Serial) (packed : Packed) (is : IsSchedule block packed) (sound : IsTrue (is_block block.insns))
    (lawful : IsPacketBlock packed) where
  listed : (i : ℕ) (p : Placed) → slice_get is.numbered i ≡ Some p → IsListed packed.placed p
  listed i p at = listed_at packed.placed is.numbered is.numbering.all i p at

  stands : (i : ℕ) (p : Placed) → slice_get is.numbered i ≡ Some p → StandsIn block.insns i p
  stands i p at = stands_at block.insns is.numbered is.numbering.same i p at

  -- numbers at one place of the packets are one
  same_number : (i j : ℕ) (p q : Placed) (at_i : slice_get is.numbered i ≡ Some p)
      (at_j : slice_get is.numbered j ≡ Some q)
      → (listed i p at_i).place ≡ (listed j q at_j).place → i ≡ j
  same_number i j p q at_i at_j e =
      let same : p ≡ q = same_Some p q (sym (listed i p at_i).at
      ∙ (ap (λ (k : ℕ). slice_get packed.placed k) e ∙ (listed j q at_j).at)) in
      are_distinct packed.placed lawful.rules is.numbered is.numbering.all i j p (slice_get_within is.numbered i p at_i)
      (slice_get_within is.numbered j q at_j)
      (get_or_from_slice_get is.numbered i p p at_i ∙ (same ∙ sym (get_or_from_slice_get is.numbered j q p at_j)))

  -- its unit, which is written, takes it
  takes_written : (i : ℕ) (p : Placed) → slice_get is.numbered i ≡ Some p
      → takes (op_of p.insn) (operands_of p.insn) p.unit ≡ true
  takes_written i p at =
      let found = listed i p at in
      written_takes p.insn p.unit
      (All-contains (λ (q : Placed). unit_of q.insn ≡ Some q.unit) packed.placed p lawful.as_written (
        found.place,
        slice_get_within packed.placed found.place p found.at,
        get_or_from_slice_get packed.placed found.place p p found.at,
      ))

  taken : (i : ℕ) (s : Spot) → IsAt (spots_of is.numbered) i s → IsTrue (is_taken (insns_of block) i s.unit)
  taken i s at =
      let place = place_of is.numbered i s at in
      let there = stands i place.own place.at in
      taken_by (insns_of block) i there.insn place.own.insn s.unit place.own.unit there.at there.same place.unit
      (takes_written i place.own place.at)

  each_unit : (i j : ℕ) (s t : Spot) → IsAt (spots_of is.numbered) i s → IsAt (spots_of is.numbered) j t
      → s.cycle ≡ t.cycle → s.unit ≡ t.unit → i ≡ j
  each_unit i j s t at_i at_j cycles units =
      let one = place_of is.numbered i s at_i in
      let other = place_of is.numbered j t at_j in
      let first = listed i one.own one.at in
      let second = listed j other.own other.at in
      same_number i j one.own other.own one.at other.at
      (one-each-unit (issued packed.placed) lawful.rules other.own.unit first.place second.place (issue_of one.own)
      (issue_of other.own)
      (issued_at packed.placed first.place one.own first.at) (issued_at packed.placed second.place other.own second.at)
      (one.cycle ∙ (cycles ∙ sym other.cycle)) (one.unit ∙ (units ∙ sym other.unit)) refl)

seated : (block : Serial) (packed : Packed) (is : IsSchedule block packed) → IsTrue (is_block block.insns)
    → IsPacketBlock packed
    → IsSeated (insns_of block) (spots_of is.numbered) packed.cycles
seated block packed is sound lawful = record {
  complete = λ i lt. has_spot is.numbered i
      (let long = same_length block.insns is.numbered is.numbering.same in let many = many_insns block.insns in
      omega (arith, lt, long, many));
  units = taken block packed is sound lawful;
  each_unit = λ i j s t low small at_i at_j cycles units. each_unit block packed is sound lawful i j s t at_i at_j
      cycles units;
  each_path = λ side i j s t low small at_i at_j cycles over_i over_j. (
      let one = place_of is.numbered i s at_i in
      let other = place_of is.numbered j t at_j in
      let first = listed block packed is sound lawful i one.own one.at in
      let second = listed block packed is sound lawful j other.own other.at in
      let here = stands block packed is sound lawful i one.own one.at in
      let there = stands block packed is sound lawful j other.own other.at in
      same_number block packed is sound lawful i j one.own other.own one.at other.at
      (one-each-data-path (issued packed.placed) lawful.rules side first.place second.place (issue_of one.own)
      (issue_of other.own)
      (issued_at packed.placed first.place one.own first.at) (issued_at packed.placed second.place other.own second.at)
      (one.cycle ∙ (cycles ∙ sym other.cycle)) (ap data_path_of (sym here.same.operands) ∙ over_i here.insn here.at)
      (ap data_path_of (sym there.same.operands) ∙ over_j there.insn there.at)));
  delays = λ i j bound s t bounds at_i at_j. (
      let one = place_of is.numbered i s at_i in
      let other = place_of is.numbered j t at_j in
      let kept = is.numbering.keeps i j one.own other.own bound one.at other.at bounds in
      omega (arith, ints, kept, one.cycle, other.cycle));
  ends = λ i insn s at is_at. (
      let place = place_of is.numbered i s is_at in
      let there = stands block packed is sound lawful i place.own place.at in
      let first = listed block packed is sound lawful i place.own place.at in
      let end = delay_ends packed lawful first.place place.own first.at in
      let own : insn ≡ there.insn = same_Some insn there.insn (sym at ∙ there.at) in
      let delay : delay_of (op_of insn) ≡ delay_of (op_of place.own.insn) = ap (λ (p : Insn). delay_of (op_of p)) own
      ∙ ap delay_of there.same.op in
      omega (arith, end, delay, place.cycle));
}

pub packets_seated : (block : Serial) (packed : Packed) → PacketsAreSeated block packed
packets_seated block packed is sound lawful = record {
  seated = seated block packed is sound lawful;
  each_cross = λ side i j s t low small at_i at_j cycles over_i over_j. (
      let one = place_of is.numbered i s at_i in
      let other = place_of is.numbered j t at_j in
      let first = listed block packed is sound lawful i one.own one.at in
      let second = listed block packed is sound lawful j other.own other.at in
      let here = stands block packed is sound lawful i one.own one.at in
      let there = stands block packed is sound lawful j other.own other.at in
      same_number block packed is sound lawful i j one.own other.own one.at other.at
      ((the-rules (issued packed.placed)).cross_paths.0 (λ cycle r is. lawful.rules.enough cycle r) side first.place
      second.place (issue_of one.own)
      (issue_of other.own) (issued_at packed.placed first.place one.own first.at)
      (issued_at packed.placed second.place other.own second.at)
      (one.cycle ∙ (cycles ∙ sym other.cycle))
      (uses_cross one.own.insn one.own.unit side (takes_written block packed is sound lawful i one.own one.at)
      (subst (CrossTo side) here.same.operands (over_i here.insn here.at)))
      (uses_cross other.own.insn other.own.unit side (takes_written block packed is sound lawful j other.own other.at)
      (subst (CrossTo side) there.same.operands (over_j there.insn there.at)))));
}

pub no_packets_shorter : (block : Serial) (packed : Packed) → NoPacketsAreShorter block packed
no_packets_shorter block packed is sound lawful =
    raised_bound_holds (insns_of block) (spots_of is.numbered) packed.cycles (is_plan block.insns sound)
    (packets_seated block packed is sound lawful)

pub no_checked_shorter : (program : List Serial) (packets : List Packed) (text : List ℕ)
    → NoCheckedAreShorter program packets text
no_checked_shorter program packets text blocks lawful checked number block packed at at_packed =
    let sound : IsTrue (is_block block.insns) = subst (λ (b : Serial). IsTrue (is_block b.insns))
    (get_or_from_slice_get program number block block at)
    (blocks number block (slice_get_within program number block at)) in
    let own : IsPacketBlock packed = subst IsPacketBlock (get_or_from_slice_get packets number packed packed at_packed)
    (lawful number packed (slice_get_within packets number packed at_packed)) in
    let found = ((says_same program packets text true blocks lawful checked).0 refl).numbered number block packed at
    at_packed in
    let is : IsSchedule block packed = record {
      branch_last = (and_parts (nat_le (length block.insns) MOST_INSTRUCTIONS) (branch_last (operations block.insns))
          sound).1;
      own_length = own.own_length;
      numbered = found.0;
      numbering = found.1;
    } in
    no_packets_shorter block packed is sound own
