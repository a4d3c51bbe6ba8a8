-- The packets of a program's blocks.
use Rattle.std.proofs.Common.{◌≡◌, ◌∙◌, ℕ, zero, suc, ◌+◌, ◌<◌, ◌≤◌, Bool, true, false, List, [], ◌∷◌, ◌++◌, length}
use Rattle.std.proofs.Common.{map, Option, Some, refl, sym, ap, subst, arith}
use Rattle.std.specs.Prelude.{slice_get, All}
use Rattle.std.specs.List.{list_all}
use Rattle.std.proofs.lemmas.List.{length-append}
use Rattle.std.proofs.lemmas.List.Sums.{list_all-from_AllPass}
use Rattle.std.proofs.lemmas.List.Sorted.{All-permutation}
use Rattle.clap.proofs.WalkLemmas.{both}
use Rattle.c62_op.specs.declared.operands.Operands.{Operands}
use Rattle.c62_op.specs.declared.operands.Op.{Op}
use Rattle.c62_insn.specs.declared.insn.Insn.{Insn}
use Rattle.c62_insn.specs.Insn.{op_of, operands_of}
use Rattle.c62_read.specs.declared.block.SerialInsn.{SerialInsn}
use Rattle.c62_read.specs.Block.{Serial, labels_in, target_stands, targets_stand}
use Rattle.c62_serial.specs.State.{Machine, IsSound}
use Rattle.c62_serial.specs.Chain.{RunsProgram}
use Rattle.c62_serial.specs.declared.chain.Chain.{Chain}
use Rattle.c62_depend.specs.Plan.{insns_of}
use Rattle.c62_sheet.specs.declared.entry.Spot.{Spot}
use Rattle.c62_sheet.specs.Lawful.{Spots}
use Rattle.c62_sheet.specs.Counts.{set_length}
use Rattle.c62_packet.specs.declared.placed.Placed.{Placed}
use Rattle.c62_packet.specs.Packed.{Packed}
use Rattle.c62_packet.specs.Packets.{is_closed, labels_of}
use Rattle.c62_pipe.specs.Chain.{IsBlockPacked, RunsPackets}
use Rattle.c62_pipe.proofs.Chains.{run_alike}
use Rattle.c62_board.specs.State.{BoardState}
use Rattle.c62_meaning.specs.Laws.{AreSerial}
use Rattle.c62_pack.specs.Packets.{AreNumbered, ArePackets, ArePlaced}
use Rattle.c62_command.specs.declared.command.Packing.{Packing}
use Rattle.c62_command.specs.declared.command.Showing.{Showing}
use Rattle.c62_show.specs.declared.limits.Limits.{Limits}
use Rattle.c62_show.specs.declared.shown.Shown.{Shown}
use Rattle.c62_show.specs.Limits.{AreLimits, ArePlainLimits}
use Rattle.c62_show.specs.Registers.{TellsLives}
use Rattle.c62_shortest.specs.declared.searched.Shortest.{Shortest as Found}
use Rattle.c62_shortest.specs.Shortest.{IsShortest}
use Rattle.c62_answer.specs.Schedule.{AddsPackets, ArePacketsFrom, AreScheduled, AreShown, IsMade, IsScheduled, IsShown}
use Rattle.c62_answer.specs.Schedule.{AreTold, IsShownOf, MayStand, TellsLimits}
use Rattle.c62_why.specs.Why.{TellsWhys, critical_from}
use Rattle.c62_read.specs.declared.limits.TheConstants.{MOST_BLOCKS}

-- one block more
pub scheduled_more : (packing : Packing) (blocks : List Serial) (packets : List Packed) (block : Serial)
    (packed : Packed) → AreScheduled packing blocks packets
    → IsScheduled packing block packed → AreScheduled packing (blocks ++ block ∷ []) (packets ++ packed ∷ [])
scheduled_more packing [] [] block packed all one = (one, tt)
scheduled_more packing [] (q ∷ packets) block packed all one = absurd all
scheduled_more packing (b ∷ blocks) [] block packed all one = absurd all
scheduled_more packing (b ∷ blocks) (q ∷ packets) block packed all one =
    (all.0, scheduled_more packing blocks packets block packed all.1 one)

-- the packets of a board that was made for a block
pub scheduled_one : (packing : Packing) (block : Serial) (board : BoardState) (packed : Packed)
    → IsMade packing block board
    → ArePacketsFrom packing board.plan board.spots packed → IsScheduled packing block packed
scheduled_one packing block board packed made from =
    let here : ArePacketsFrom packing block board.spots packed = subst
    (λ (plan : Serial). ArePacketsFrom packing plan board.spots packed) made.plan_is from in
    record {
      board = board;
      made = made;
      spots = here.spots;
      stand = here.stand;
      packets = here.packets;
      serial =
          here.serial;
      keeps = here.keeps;
    }

-- the packets of one block more were appended
pub scheduled_next : (packing : Packing) (blocks : List Serial) (packets new : List Packed) (block : Serial)
    (board : BoardState) → AreScheduled packing blocks packets
    → IsMade packing block board → AddsPackets packing board.plan board.spots packets new
    → AreScheduled packing (blocks ++ block ∷ []) new
scheduled_next packing blocks packets new block board all made pushed =
    let one = scheduled_one packing block board pushed.0 made pushed.1 in
    subst (λ (whole : List Packed). AreScheduled packing (blocks ++ block ∷ []) whole) (sym pushed.2)
    (scheduled_more packing blocks packets block pushed.0 all one)

-- what is shown of one block more
pub shown_more : (showing : Showing) (blocks : List Serial) (shown : List Shown) (block : Serial) (one : Shown)
    → AreShown showing blocks shown
    → IsShown showing block one → AreShown showing (blocks ++ block ∷ []) (shown ++ one ∷ [])
shown_more showing [] [] block one all is = (is, tt)
shown_more showing [] (q ∷ shown) block one all is = absurd all
shown_more showing (b ∷ blocks) [] block one all is = absurd all
shown_more showing (b ∷ blocks) (q ∷ shown) block one all is =
    (all.0, shown_more showing blocks shown block one all.1 is)

-- what is shown of a board that was made for a block
pub shown_one : (showing : Showing) (block : Serial) (board : BoardState) (shown : Shown)
    → IsMade showing.packing block board
    → IsShownOf showing board.plan board.spots shown → IsShown showing block shown
shown_one showing block board shown made is =
    let here : IsShownOf showing block board.spots shown = subst
    (λ (plan : Serial). IsShownOf showing plan board.spots shown) made.plan_is is in
    let from = here.from in
    record {
      scheduled =
          record {
            board = board;
            made = made;
            spots = from.spots;
            stand = from.stand;
            packets = from.packets;
            serial =
                from.serial;
            keeps = from.keeps;
          };
      limits = here.limits;
      told = here.told;
      lives = here.lives;
    }

-- packets of a board's own spots
pub own_packets : (packing : Packing) (block : Serial) (own : Spots) (packed : Packed) → packing.shortest ≡ false
    → ArePackets block own packed
    → AreSerial block.insns packed.placed → IsBlockPacked block packed → ArePacketsFrom packing block own packed
own_packets packing block own packed plain packets serial keeps = record {
  spots = own;
  stand = subst (λ (shortest : Bool). MayStand shortest block own own) (sym plain) refl;
  packets = packets;
  serial = serial;
  keeps = keeps;
}

-- packets of a schedule that is no longer than the board
pub short_packets : (packing : Packing) (block : Serial) (own : Spots) (found : Found) → packing.shortest ≡ true
    → IsShortest block (set_length (insns_of block) own) found → ArePacketsFrom packing block own found.schedule.packets
short_packets packing block own found asked is =
    let cycles = is.is.packets.cycles in
    let short = is.no_longer in
    record {
      spots = map Some found.schedule.spots.items;
      stand =
          subst (λ (shortest : Bool). MayStand shortest block own (map Some found.schedule.spots.items)) (sym asked)
          (is.is.lawful, is.is.complete, omega (arith, cycles, short));
      packets = is.is.packets;
      serial = is.is.serial;
      keeps = is.is.keeps;
    }

-- what is told of instructions that are placed so
pub told_of : (why : Bool) (block : Serial) (spots : Spots) (shown : Shown) (placed first second : List Placed) (cycles : ℕ)
    → ArePlaced block spots placed → first ≡ placed → second ≡ placed → cycles ≡ shown.packets.cycles
    → TellsWhys why (insns_of block) cycles first shown.whys.items
    → shown.critical.items ≡ critical_from (insns_of block) cycles 0 second → AreTold why block spots shown
told_of why block spots shown placed first second cycles are is_first is_second length whys critical = record {
  placed = placed;
  are = are;
  whys =
      subst (λ (n : ℕ). TellsWhys why (insns_of block) n placed shown.whys.items) length
      (subst (λ (all : List Placed). TellsWhys why (insns_of block) cycles all shown.whys.items) is_first whys);
  critical =
      subst (λ (n : ℕ). shown.critical.items ≡ critical_from (insns_of block) n 0 placed) length
      (subst (λ (all : List Placed). shown.critical.items ≡ critical_from (insns_of block) cycles 0 all) is_second critical);
}

-- what is shown of a board's own packets
pub shown_plainly : (showing : Showing) (block : Serial) (own : Spots) (shown : Shown) (limits : Limits)
    → showing.packing.shortest ≡ false
    → ArePackets block own shown.packets → AreSerial block.insns shown.packets.placed
    → IsBlockPacked block shown.packets → shown.limits ≡ Some limits
    → ArePlainLimits block limits → AreTold showing.why block own shown
    → TellsLives showing.registers shown.packets shown.lives
    → IsShownOf showing block own shown
unfolding own_packets
shown_plainly showing block own shown limits plain packets serial keeps some known told lives = record {
  from = own_packets showing.packing block own shown.packets plain packets serial keeps;
  limits = rw some (subst (λ (shortest : Bool). TellsLimits shortest block limits) (sym plain) known);
  told = told;
  lives = lives;
}

-- what is shown of a schedule that is no longer than the board
pub shown_shortest : (showing : Showing) (block : Serial) (own : Spots) (shown : Shown) (found : Found)
    (limits : Limits) → showing.packing.shortest ≡ true
    → IsShortest block (set_length (insns_of block) own) found → shown.packets ≡ found.schedule.packets
    → shown.limits ≡ Some limits → AreLimits block limits
    → AreTold showing.why block (map Some found.schedule.spots.items) shown
    → TellsLives showing.registers shown.packets shown.lives
    → IsShownOf showing block own shown
unfolding short_packets
shown_shortest showing block own shown found limits asked is same some known told lives =
    let short = short_packets showing.packing block own found asked is in
    record {
      from = record {
        spots = short.spots;
        stand = short.stand;
        packets = rw same short.packets;
        serial = rw same short.serial;
        keeps = rw same short.keeps;
      };
      limits = rw some (subst (λ (shortest : Bool). TellsLimits shortest block limits) (sym asked) known);
      told = told;
      lives = lives;
    }

-- as many blocks as before
pub as_many : (packing : Packing) (blocks : List Serial) (packets : List Packed) → AreScheduled packing blocks packets
    → length packets ≡ length blocks
as_many packing [] [] all = refl
as_many packing [] (q ∷ packets) all = absurd all
as_many packing (b ∷ blocks) [] all = absurd all
as_many packing (b ∷ blocks) (q ∷ packets) all = ap (λ (n : ℕ). suc n) (as_many packing blocks packets all.1)

-- a block is left of at most MOST_BLOCKS
pub few_left : (packing : Packing) (all blocks rest : List Serial) (block : Serial) (packets : List Packed)
    → blocks ++ block ∷ rest ≡ all → length all ≤ MOST_BLOCKS
    → AreScheduled packing blocks packets → length packets < MOST_BLOCKS
few_left packing all blocks rest block packets whole few scheduled =
    let count : length blocks + length (block ∷ rest) ≡ length all = sym (length-append blocks (block ∷ rest))
    ∙ ap length whole in
    omega (arith, count, few, as_many packing blocks packets scheduled)

pub nothing_left : {X : Type 0} (xs : List X) → length xs ≡ 0 → xs ≡ []
nothing_left [] none = refl
nothing_left (x ∷ xs) none = absurd (omega arith)

-- ---- what holds of the instructions of blocks holds of those of their packets

stands_more : {X : Type 0} (P : X → Type 0) (x : X) (xs : List X) → P x → All P xs → All P (x ∷ xs)
stands_more P x xs one all zero d less = one
stands_more P x xs one all (suc k) d less = all k d (omega arith)

module _ (test : Op → Operands → Bool) where
  abbrev pub passes : Insn → Bool
  passes insn = test (op_of insn) (operands_of insn)

  each_passes : (insns : List SerialInsn) (spots : List Spot) (serial : List Placed)
      → AreNumbered insns spots serial
      → list_all (λ entry. passes entry.insn) insns ≡ true
      → All (λ p. passes p.insn ≡ true) serial
  each_passes [] [] [] all pass = λ k d less. absurd (omega arith)
  each_passes [] [] (p ∷ serial) all pass = absurd all
  each_passes [] (s ∷ spots) serial all pass = absurd all
  each_passes (e ∷ insns) [] serial all pass = absurd all
  each_passes (e ∷ insns) (s ∷ spots) [] all pass = absurd all
  each_passes (e ∷ insns) (s ∷ spots) (p ∷ serial) all pass =
      let parts = both _ _ pass in
      let same = all.0.insn in
      stands_more (λ q. passes q.insn ≡ true) p serial
      (subst (λ (o : Op). test o (operands_of p.insn) ≡ true) same.op
      (subst (λ (o : Operands). test (op_of e.insn) o ≡ true) same.operands parts.0))
      (each_passes insns spots serial all.1 parts.1)

  block_passes : (packing : Packing) (block : Serial) (packed : Packed)
      → IsScheduled packing block packed
      → list_all (λ entry. passes entry.insn) block.insns ≡ true
      → list_all (λ p. passes p.insn) packed.placed ≡ true
  block_passes packing block packed is pass =
      let packets = is.packets in
      list_all-from_AllPass (λ p. passes p.insn) packed.placed
      (All-permutation (λ p. passes p.insn ≡ true) packets.serial packed.placed packets.listed
      (each_passes block.insns packets.spots packets.serial packets.numbered pass))

  pub all_pass : (packing : Packing) (blocks : List Serial) (packets : List Packed)
      → AreScheduled packing blocks packets
      → list_all (λ block. list_all (λ entry. passes entry.insn) block.insns) blocks ≡ true
      → list_all (λ packed. list_all (λ p. passes p.insn) packed.placed) packets ≡ true
  all_pass packing [] [] all pass = refl
  all_pass packing [] (q ∷ packets) all pass = absurd all
  all_pass packing (b ∷ blocks) [] all pass = absurd all
  all_pass packing (b ∷ blocks) (q ∷ packets) all pass =
      let parts = both _ _ pass in
      rw (block_passes packing b q all.0 parts.0) (all_pass packing blocks packets all.1 parts.1)

-- ---- branches go to blocks that are there

pub same_labels : (packing : Packing) (blocks : List Serial) (packets : List Packed)
    → AreScheduled packing blocks packets → labels_of packets ≡ labels_in blocks
same_labels packing [] [] all = refl
same_labels packing [] (q ∷ packets) all = absurd all
same_labels packing (b ∷ blocks) [] all = absurd all
same_labels packing (b ∷ blocks) (q ∷ packets) all = rw (all.0.packets.label, same_labels packing blocks packets all.1)
    refl

pub closed : (packing : Packing) (blocks : List Serial) (packets : List Packed) → AreScheduled packing blocks packets
    → targets_stand blocks ≡ true → is_closed packets ≡ true
unfolding targets_stand
closed packing blocks packets all stand =
    subst (λ (labels : List (Option (List ℕ))). list_all
    (λ packed. list_all (λ p. target_stands labels (operands_of p.insn)) packed.placed) packets ≡ true)
    (sym (same_labels packing blocks packets all))
    (all_pass (λ op operands. target_stands (labels_in blocks) operands) packing blocks packets all stand)

-- ---- the packets run as the program does

each_packed : (packing : Packing) (blocks : List Serial) (packets : List Packed) → AreScheduled packing blocks packets
    → (number : ℕ) (block : Serial) (packed : Packed)
    → slice_get blocks number ≡ Some block → slice_get packets number ≡ Some packed → IsBlockPacked block packed
each_packed packing [] [] all number block packed e f = absurd cc
each_packed packing [] (q ∷ packets) all number block packed e f = absurd all
each_packed packing (b ∷ blocks) [] all number block packed e f = absurd all
each_packed packing (b ∷ blocks) (q ∷ packets) all zero block packed e f =
    let block_is : b ≡ block = cc in
    let packed_is : q ≡ packed = cc in
    rw (← block_is, ← packed_is) all.0.keeps
each_packed packing (b ∷ blocks) (q ∷ packets) all (suc number) block packed e f = each_packed packing blocks packets
    all.1 number block packed e f

pub runs_serially : (packing : Packing) (program : List Serial) (packets : List Packed) (opening final : Machine)
    (limit cycles : ℕ) (chain : Chain)
    → AreScheduled packing program packets → IsSound opening → RunsPackets packets opening limit chain cycles final
    → RunsProgram program opening limit chain final
runs_serially packing program packets opening final limit cycles chain all sound run =
    (run_alike program packets opening final limit chain
    (record { count = as_many packing program packets all; each = each_packed packing program packets all })
    sound).serial cycles run
