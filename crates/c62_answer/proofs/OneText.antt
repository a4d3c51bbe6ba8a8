-- One board has one listing.
use Rattle.std.proofs.Common.{◌≡◌, ◌∙◌, ◌⊎◌, ℕ, zero, suc, ◌<◌, ◌≤◌, Bool, true, false, List, [], ◌∷◌, length, map}
use Rattle.std.proofs.Common.{get_or, Option, Some, None, refl, sym, ap, subst, arith, inl, inr}
use Rattle.std.specs.Prelude.{Contains, slice_index_or, Result, Ok}
use Rattle.std.specs.List.{AllPairs}
use Rattle.std.specs.List.Sorted.{IsPermutation}
use Rattle.std.proofs.lemmas.Bool.{cases_eq}
use Rattle.std.proofs.lemmas.List.{get_or-map}
use Rattle.std.proofs.lemmas.List.Sorted.{Contains-permutation, IsPermutation-sym}
use Rattle.c62_op.specs.declared.register.Unit.{Unit as FunctionalUnit}
use Rattle.c62_op.specs.Units.{index_of}
use Rattle.c62_op.proofs.UnitOrder.{index_of-below, same_index}
use Rattle.c62_insn.specs.declared.insn.Insn.{Insn}
use Rattle.c62_insn.proofs.SameLemmas.{same_parts}
use Rattle.c62_line.specs.Line.{parts_of}
use Rattle.c62_rules.proofs.Capacities.{one-each-unit}
use Rattle.c62_rules.specs.Manual.{HasOneEachUnit}
use Rattle.c62_read.specs.declared.block.SerialInsn.{SerialInsn}
use Rattle.c62_read.specs.Block.{Serial}
use Rattle.c62_read.specs.Program.{BlockParts, Refusal, block_parts, numbered_of}
use Rattle.c62_sheet.specs.declared.entry.Spot.{Spot}
use Rattle.c62_sheet.specs.Lawful.{Spots}
use Rattle.c62_board.specs.State.{BoardState}
use Rattle.c62_packet.specs.declared.placed.Placed.{Placed}
use Rattle.c62_packet.specs.Packed.{Packed, IsInListingOrder, issue_of, issued, listing_position, packed_of}
use Rattle.c62_pack.specs.Packets.{AreNumbered, ArePackets, StandsAt}
use Rattle.c62_listing.specs.Listing.{listing}
use Rattle.c62_command.specs.declared.command.Packing.{Packing}
use Rattle.c62_answer.specs.Schedule.{AreScheduled, IsScheduled, MayStand}
use Rattle.c62_answer.specs.Texts.{SaysProgram}
use Rattle.c62_answer.specs.OneText.{HasOneText, HaveOnePacking}
use Rattle.c62_answer.proofs.OneBoard.{one_board}
use Rattle.c62_op.specs.declared.set.InstructionSet.{InstructionSet}

-- ---- a text says one program

same_insn : (a b : Insn) → parts_of a ≡ parts_of b → a ≡ b
same_insn a b e = grind (arith, same_parts a b)

same_entry : (a b : SerialInsn) → numbered_of a ≡ numbered_of b → a ≡ b
same_entry a b e = grind (arith, same_insn a.insn b.insn)

same_entries : (insns others : List SerialInsn) → map numbered_of insns ≡ map numbered_of others → insns ≡ others
same_entries [] [] e = refl
same_entries [] (b ∷ others) e = absurd cc
same_entries (a ∷ insns) [] e = absurd cc
same_entries (a ∷ insns) (b ∷ others) e = grind (arith, same_entry a b, same_entries insns others)

same_block : (block other : Serial) → block_parts block ≡ block_parts other → block ≡ other
same_block block other e = grind (arith, same_entries block.insns other.insns)

same_blocks : (program others : List Serial) → map block_parts program ≡ map block_parts others → program ≡ others
same_blocks [] [] e = refl
same_blocks [] (b ∷ others) e = absurd cc
same_blocks (a ∷ program) [] e = absurd cc
same_blocks (a ∷ program) (b ∷ others) e = grind (arith, same_block a b, same_blocks program others)

pub one_program : (isa : InstructionSet) (text : List ℕ) (program others : List Serial) → SaysProgram isa text program
    → SaysProgram isa text others
    → program ≡ others
one_program isa text program others one other =
    let both : ◌≡◌ {A = Result (List BlockParts) Refusal} (Ok (map block_parts program)) (Ok (map block_parts others)) =
    sym one ∙ other in
    let same : map block_parts program ≡ map block_parts others = cc in
    same_blocks program others same

-- ---- a set has one list of spots, and these one list of instructions

one_list : (spots others : List Spot) → map Some spots ≡ map Some others → spots ≡ others
one_list [] [] e = refl
one_list [] (t ∷ others) e = absurd cc
one_list (s ∷ spots) [] e = absurd cc
one_list (s ∷ spots) (t ∷ others) e = grind (arith, one_list spots others)

abbrev placed_of : Insn → ℕ → ℕ → FunctionalUnit → Placed
placed_of insn line cycle unit = record { insn = insn; line = line; cycle = cycle; unit = unit }

one_place : (entry : SerialInsn) (spot : Spot) (p q : Placed) → StandsAt entry spot p → StandsAt entry spot q → p ≡ q
one_place entry spot p q one other =
    let insn : p.insn ≡ q.insn =
    same_parts p.insn q.insn (sym one.insn.op ∙ other.insn.op) (sym one.insn.operands
    ∙ other.insn.operands) (sym one.insn.cond ∙ other.insn.cond)
    (one.written ∙ sym other.written) in
    ap (λ (i : Insn). placed_of i p.line p.cycle p.unit) insn
    ∙ ap (λ (n : ℕ). placed_of q.insn n p.cycle p.unit) (one.line ∙ sym other.line)
    ∙ ap (λ (n : ℕ). placed_of q.insn q.line n p.unit) (one.cycle ∙ sym other.cycle)
    ∙ ap (λ (u : FunctionalUnit). placed_of q.insn q.line q.cycle u) (one.unit ∙ sym other.unit)

one_numbering : (insns : List SerialInsn) (spots : List Spot) (serial others : List Placed)
    → AreNumbered insns spots serial → AreNumbered insns spots others
    → serial ≡ others
one_numbering [] [] [] [] one other = refl
one_numbering [] [] [] (q ∷ others) one other = absurd other
one_numbering [] [] (p ∷ serial) others one other = absurd one
one_numbering [] (s ∷ spots) serial others one other = absurd one
one_numbering (e ∷ insns) [] serial others one other = absurd one
one_numbering (e ∷ insns) (s ∷ spots) [] others one other = absurd one
one_numbering (e ∷ insns) (s ∷ spots) (p ∷ serial) [] one other = absurd other
one_numbering (e ∷ insns) (s ∷ spots) (p ∷ serial) (q ∷ others) one other =
    ap (λ (x : Placed). x ∷ serial) (one_place e s p q one.0 other.0)
    ∙ ap (λ (xs : List Placed). q ∷ xs) (one_numbering insns spots serial others one.1 other.1)

-- ---- lists with the same members whose positions rise are one

abbrev Rise : List Placed → Type 0
Rise placed = AllPairs (λ p q. listing_position p < listing_position q) placed

rises_later : (p : Placed) (placed : List Placed) → Rise (p ∷ placed) → Rise placed
rises_later p placed rise i j d before within = rise (suc i) (suc j) d (omega arith) (omega arith)

is_later : (p q : Placed) (placed : List Placed) → Rise (p ∷ placed) → Contains placed q
    → listing_position p < listing_position q
is_later p q placed rise among =
    subst (λ (x : Placed). listing_position p < listing_position x) among.2
    (rise 0 (suc among.0) q (omega arith) (omega (arith, among.1)))

is_here : (p q : Placed) (placed : List Placed) → Contains (p ∷ placed) q → (p ≡ q) ⊎ Contains placed q
is_here p q placed among = at among.0 among.1 among.2
  where
    at : (k : ℕ) → k < length (p ∷ placed) → slice_index_or (p ∷ placed) k q ≡ q → (p ≡ q) ⊎ Contains placed q
    at zero within same = inl same
    at (suc k) within same = inr (k, omega arith, same)

-- the members of one list are among the other's
abbrev AreAmong : List Placed → List Placed → Type 0
AreAmong placed others = (p : Placed) → Contains placed p → Contains others p

first_among : (p : Placed) (placed : List Placed) → Contains (p ∷ placed) p
first_among p placed = (0, omega arith, refl)

later_among : (p q : Placed) (placed : List Placed) → Contains placed q → Contains (p ∷ placed) q
later_among p q placed among = (suc among.0, omega (arith, among.1), among.2)

one_first : (p q : Placed) (placed others : List Placed) → Rise (p ∷ placed) → Rise (q ∷ others)
    → AreAmong (p ∷ placed) (q ∷ others)
    → AreAmong (q ∷ others) (p ∷ placed) → p ≡ q
one_first p q placed others one other into out =
    elim (is_here q p others (into p (first_among p placed))) [
      | inl same ↦ sym same
      | inr after ↦ elim (is_here p q placed (out q (first_among q others))) [
        | inl same ↦ same
        | inr before ↦
            let less = is_later q p others other after in
            let more = is_later p q placed one before in
            absurd (omega (arith, less, more))
      ]
    ]

rest_among : (p q : Placed) (placed others : List Placed) → Rise (p ∷ placed) → p ≡ q
    → AreAmong (p ∷ placed) (q ∷ others) → AreAmong placed others
rest_among p q placed others rise same into r among =
    elim (is_here q r others (into r (later_among p r placed among))) [
      | inl first ↦
          let after = is_later p r placed rise among in
          let position : listing_position p ≡ listing_position r = ap (λ (x : Placed). listing_position x) (same
          ∙ first) in
          absurd (omega (arith, after, position))
      | inr later ↦ later
    ]

one_order : (placed others : List Placed) → Rise placed → Rise others → AreAmong placed others → AreAmong others placed
    → placed ≡ others
one_order [] [] one other into out = refl
one_order [] (q ∷ others) one other into out = let among : Contains [] q = out q (first_among q others) in absurd
    (omega (arith, among.1))
one_order (p ∷ placed) [] one other into out = let among : Contains [] p = into p (first_among p placed) in absurd
    (omega (arith, among.1))
one_order (p ∷ placed) (q ∷ others) one other into out =
    let first = one_first p q placed others one other into out in
    let rest =
    one_order placed others (rises_later p placed one) (rises_later q others other)
    (rest_among p q placed others one first into)
    (rest_among q p others placed other (sym first) out) in
    ap (λ (x : Placed). x ∷ placed) first ∙ ap (λ (xs : List Placed). q ∷ xs) rest

-- in listing order the positions rise, as a unit has one instruction in a cycle
rises : (placed : List Placed) → IsInListingOrder placed → HasOneEachUnit (issued placed) → Rise placed
rises placed order alone i j d before within =
    let p : Placed = get_or placed i d in
    let q : Placed = get_or placed j d in
    let ordered : listing_position p ≤ listing_position q = order i j d (omega arith) within in
    elim (cases_eq (listing_position p) (listing_position q)) [
      | inl same ↦
          let low = index_of-below p.unit in
          let high = index_of-below q.unit in
          let cycle : p.cycle ≡ q.cycle = omega (arith, same, low, high) in
          let index : index_of p.unit ≡ index_of q.unit = omega (arith, same, low, high) in
          let at_first = get_or-map (λ (r : Placed). Some (issue_of r)) placed i d None (omega arith) in
          let at_last = get_or-map (λ (r : Placed). Some (issue_of r)) placed j d None within in
          let number : i ≡ j = alone q.unit i j (issue_of p) (issue_of q) at_first at_last cycle
          (same_index p.unit q.unit index) refl in
          absurd (omega (arith, number, before))
      | inr differ ↦ omega (arith, ordered, differ)
    ]

-- ---- the packets

among_both : (serial placed others : List Placed) → IsPermutation serial placed → IsPermutation serial others
    → AreAmong placed others
among_both serial placed others one other p among =
    Contains-permutation serial others p other
    (Contains-permutation placed serial p (IsPermutation-sym serial placed one) among)

same_packed : (one other : Packed) → one.label ≡ other.label → one.cycles ≡ other.cycles → one.placed ≡ other.placed
    → one ≡ other
same_packed one other label cycles placed =
    ap (λ (l : Option (List ℕ)). packed_of l one.cycles one.placed) label
    ∙ ap (λ (n : ℕ). packed_of other.label n one.placed) cycles
    ∙ ap (λ (ps : List Placed). packed_of other.label other.cycles ps) placed

packets_once : (block : Serial) (set : Spots) (one other : Packed) → ArePackets block set one
    → ArePackets block set other → one ≡ other
packets_once block set one other first last =
    let spots : last.spots ≡ first.spots = one_list last.spots first.spots (sym last.all_placed ∙ first.all_placed) in
    let numbered : AreNumbered block.insns first.spots last.serial = subst
    (λ (ss : List Spot). AreNumbered block.insns ss last.serial) spots last.numbered in
    let serial : last.serial ≡ first.serial = one_numbering block.insns first.spots last.serial first.serial numbered
    first.numbered in
    let listed : IsPermutation first.serial other.placed = subst (λ (xs : List Placed). IsPermutation xs other.placed)
    serial last.listed in
    let placed : one.placed ≡ other.placed =
    one_order one.placed other.placed
    (rises one.placed first.sound.in_order (one-each-unit (issued one.placed) first.sound.rules))
    (rises other.placed last.sound.in_order (one-each-unit (issued other.placed) last.sound.rules))
    (among_both first.serial one.placed other.placed first.listed listed)
    (among_both first.serial other.placed one.placed listed first.listed) in
    same_packed one other (first.label ∙ sym last.label) (first.cycles ∙ sym last.cycles) placed

-- the spots are those of the board
own_spots : (packing : Packing) (block : Serial) (packed : Packed) (plain : packing.shortest ≡ false)
    (is : IsScheduled packing block packed) → is.spots ≡ is.board.spots
own_spots packing block packed plain is = subst (λ (shortest : Bool). MayStand shortest block is.board.spots is.spots)
    plain is.stand

scheduled_once : (packing : Packing) (block : Serial) (one other : Packed) → packing.turns ≡ true
    → packing.shortest ≡ false → IsScheduled packing block one
    → IsScheduled packing block other → one ≡ other
scheduled_once packing block one other turns plain first last =
    let same = one_board packing block turns first.board last.board first.made last.made in
    let boards : first.board.spots ≡ last.board.spots = ap (λ (board : BoardState). board.spots) same in
    let spots : first.spots ≡ last.spots = own_spots packing block one plain first ∙ boards
    ∙ sym (own_spots packing block other plain last) in
    packets_once block last.spots one other (subst (λ (set : Spots). ArePackets block set one) spots first.packets)
    last.packets

pub one_packing : (packing : Packing) (program : List Serial) → HaveOnePacking packing program
one_packing packing [] turns plain [] [] first last = refl
one_packing packing [] turns plain [] (q ∷ others) first last = absurd last
one_packing packing [] turns plain (p ∷ packets) others first last = absurd first
one_packing packing (b ∷ program) turns plain [] others first last = absurd first
one_packing packing (b ∷ program) turns plain (p ∷ packets) [] first last = absurd last
one_packing packing (b ∷ program) turns plain (p ∷ packets) (q ∷ others) first last =
    ap (λ (x : Packed). x ∷ packets) (scheduled_once packing b p q turns plain first.0 last.0)
    ∙ ap (λ (xs : List Packed). q ∷ xs) (one_packing packing program turns plain packets others first.1 last.1)

pub one_text : (isa : InstructionSet) (packing : Packing) (text : List ℕ) → HasOneText isa packing text
one_text isa packing text turns plain one other first last =
    let program = one_program isa text first.program last.program first.says last.says in
    let packed : AreScheduled packing last.program first.packets = subst
    (λ (blocks : List Serial). AreScheduled packing blocks first.packets) program first.packed in
    first.listed ∙ ap listing
    (one_packing packing last.program turns plain first.packets last.packets packed last.packed)
    ∙ sym last.listed
