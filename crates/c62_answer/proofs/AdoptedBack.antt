-- What is packed is adopted as itself: each block without a label is the first, or stands behind one with a branch.
use Rattle.std.proofs.Common.{◌≡◌, ◌∙◌, ℕ, ◌+◌, ◌≤◌, Bool, true, false, cond, List, [], ◌∷◌, map, Option, Some, None}
use Rattle.std.proofs.Common.{refl, sym, ap, subst, arith}
use Rattle.std.specs.Prelude.{count_by}
use Rattle.std.proofs.lemmas.Bool.{and_parts}
use Rattle.std.proofs.lemmas.List.Sorted.{sum_by-IsPermutation}
use Rattle.std.proofs.lemmas.List.Sums.{sum_by-cons}
use Rattle.c62_op.specs.Shape.{is_branch}
use Rattle.c62_read.specs.declared.block.SerialInsn.{SerialInsn}
use Rattle.c62_read.specs.Block.{Serial}
use Rattle.c62_read.specs.Laws.{begin_well, ends_in_branch, may_begin}
use Rattle.c62_read.specs.Program.{Name, Numbered, block_parts, numbered_of}
use Rattle.c62_read.proofs.ProgramLaws.{has_cut_blocks}
use Rattle.c62_sheet.specs.declared.entry.Spot.{Spot}
use Rattle.c62_packet.specs.declared.placed.Placed.{Placed}
use Rattle.c62_packet.specs.Packed.{Packed, is_branching}
use Rattle.c62_pack.specs.Packets.{AreNumbered}
use Rattle.c62_adopt.specs.Answer.{IsAdopted}
use Rattle.c62_adopt_back.specs.Laws.{ArePartedBehind, AreParted, HasBranch}
use Rattle.c62_adopt_back.proofs.Listed.{listings_stay}
use Rattle.c62_command.specs.declared.command.Packing.{Packing}
use Rattle.c62_answer.specs.Schedule.{AreScheduled, IsScheduled}
use Rattle.c62_answer.specs.AdoptedBack.{IsAdoptedBack}
use Rattle.c62_answer.proofs.ReadBack.{shown}
use Rattle.c62_op.specs.declared.set.InstructionSet.{InstructionSet}

-- ---- a block that ends in a branch

counted : (p : Placed) (serial : List Placed)
    → count_by is_branching (p ∷ serial) ≡ cond (is_branching p) 1 0 + count_by is_branching serial
counted p serial = sum_by-cons (λ (q : Placed). cond (is_branching q) 1 0) p serial

branch_counted : (entries : List SerialInsn) (spots : List Spot) (serial : List Placed)
    → AreNumbered entries spots serial
    → ends_in_branch (map numbered_of entries) ≡ true → 1 ≤ count_by is_branching serial
branch_counted [] spots serial numbered ends = absurd cc
branch_counted (entry ∷ entries) [] serial numbered ends = absurd numbered
branch_counted (entry ∷ entries) (spot ∷ spots) [] numbered ends = absurd numbered
branch_counted (entry ∷ []) (spot ∷ spots) (p ∷ serial) numbered ends =
    let branch : is_branching p ≡ true = ap is_branch (sym numbered.0.insn.op) ∙ ends in
    rw (counted p serial, branch) (omega arith)
branch_counted (entry ∷ next ∷ entries) (spot ∷ spots) (p ∷ serial) numbered ends =
    let behind = branch_counted (next ∷ entries) spots serial numbered.1 ends in
    rw (counted p serial) (omega (arith, behind))

-- a block without a label stands behind a branch
must_branch : (behind : Bool) (label : Option Name) (insns : List Numbered) → may_begin behind label insns ≡ true
    → label ≡ None → behind ≡ true
must_branch behind (Some name) insns begins none = absurd cc
must_branch true None insns begins none = refl
must_branch false None insns begins none = absurd cc

-- ---- the packets of a program's blocks

module _ (packing : Packing) where
  has_branch : (block : Serial) (packed : Packed) → IsScheduled packing block packed
      → ends_in_branch (map numbered_of block.insns) ≡ true → HasBranch packed
  has_branch block packed is ends =
      let packets = is.packets in
      let serial = branch_counted block.insns packets.spots packets.serial packets.numbered ends in
      let same : count_by is_branching packed.placed ≡ count_by is_branching packets.serial =
      sum_by-IsPermutation (λ (q : Placed). cond (is_branching q) 1 0) packets.serial packed.placed packets.listed in
      omega (arith, serial, same)

  parted_behind : (block : Serial) (packed : Packed) → IsScheduled packing block packed
      → (program : List Serial) (packets : List Packed)
      → AreScheduled packing program packets
      → begin_well (ends_in_branch (map numbered_of block.insns)) (map block_parts program) ≡ true
      → ArePartedBehind packed packets
  parted_behind block packed is [] [] all begins = tt
  parted_behind block packed is [] (q ∷ packets) all begins = absurd all
  parted_behind block packed is (b ∷ program) [] all begins = absurd all
  parted_behind block packed is (b ∷ program) (q ∷ packets) all begins =
      let parts = and_parts _ _ begins in
      let behind = ends_in_branch (map numbered_of block.insns) in (
        λ none. has_branch block packed is
            (must_branch behind b.label (map numbered_of b.insns) parts.0 (sym all.0.packets.label ∙ none)),
        parted_behind b q all.0 program packets all.1 parts.1,
      )

  parted : (program : List Serial) (packets : List Packed) → AreScheduled packing program packets
      → begin_well true (map block_parts program) ≡ true
      → AreParted packets
  parted [] [] all begins = tt
  parted [] (q ∷ packets) all begins = absurd all
  parted (b ∷ program) [] all begins = absurd all
  parted (b ∷ program) (q ∷ packets) all begins = parted_behind b q all.0 program packets all.1 (and_parts _ _ begins).1

pub is_adopted_back : (isa : InstructionSet) (packing : Packing) (drain : Bool) (text answer : List ℕ)
    → IsAdoptedBack isa packing drain text answer
is_adopted_back isa packing drain text answer packed =
    let program = packed.program in
    let packets = packed.packets in
    let whole = shown isa packing text program packets packed.says packed.packed in
    let cut = parted packing program packets packed.packed
    (has_cut_blocks isa text (map block_parts program) packed.says).begins in
    let stays = listings_stay isa drain packets whole cut in
    record {
      packets = stays.others;
      adopted = subst (λ (t : List ℕ). IsAdopted isa drain t stays.others 0) (sym packed.listed) stays.adopted;
      listed = packed.listed ∙ sym stays.same;
    }
