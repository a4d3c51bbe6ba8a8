-- What is adopted is shown whole by its listing.
use Rattle.std.proofs.Common.{arith, ◌≡◌, ℕ, ◌<◌, Bool, List, [], ◌∷◌, length, refl, sym, ap, subst, ◌∙◌, None}
use Rattle.std.specs.Prelude.{All, IsTrue}
use Rattle.std.specs.List.{AllByRecursion, AllZip, IsDistinct, flat_map}
use Rattle.std.specs.Option.{option_to_list}
use Rattle.std.specs.Str.{bytes_eq}
use Rattle.std.proofs.lemmas.List.Elements.{All-nil, All-cons, All-head, All-tail}
use Rattle.std.proofs.Common.{true, map}
use Rattle.std.proofs.lemmas.Bool.{and_from}
use Rattle.std.specs.List.{list_all}
use Rattle.c62_op.specs.declared.operands.Op.{Op}
use Rattle.c62_op.specs.declared.operands.Operands.{Operands}
use Rattle.c62_op.specs.Units.{is_taken_in}
use Rattle.c62_insn.specs.Insn.{op_of, operands_of, aimed_operands}
use Rattle.c62_packet.specs.declared.placed.Placed.{Placed}
use Rattle.c62_listing_reader.specs.Said.{Part, part_of}
use Rattle.c62_listing_reader.specs.Laws.{is_within}
use Rattle.c62_listing_reader.proofs.WithinLemmas.{aimed_in}
use Rattle.c62_adopt_cut.specs.Blocks.{Issue}
use Rattle.c62_adopt_cut.specs.Laws.{IsPlaced, IsFine}
use Rattle.c62_adopt.specs.Blocks.{part_in, target_number}
use Rattle.std.proofs.lemmas.List.Sorted.{All-permutation, length_permutation}
use Rattle.std.proofs.lemmas.Slice.Zip.{AllZip-long}
use Rattle.c62_token.specs.Number.{is_label}
use Rattle.c62_read.specs.Program.{Name}
use Rattle.c62_packet.specs.Packed.{Packed, IsPacketBlock}
use Rattle.c62_listing.specs.Listing.{listing}
use Rattle.c62_listing_reader.specs.Laws.{AreShown, labels_given as labels_listed}
use Rattle.c62_listing_reader.proofs.ShownLemmas.{read_exactly}
use Rattle.c62_adopt_cut.specs.Blocks.{Draft}
use Rattle.c62_adopt_cut.specs.Laws.{labels_given}
use Rattle.c62_adopt_cut.proofs.FineLemmas.{blocks_are_fine}
use Rattle.c62_adopt_cut.proofs.NameLemmas.{blocks_are_named}
use Rattle.c62_adopt_cut.proofs.OverLemmas.{blocks_are_over}
use Rattle.c62_adopt.specs.Blocks.{IsBlockOf}
use Rattle.c62_adopt.specs.Answer.{IsAdopted, code_cut, code_in, code_read}
use Rattle.c62_adopt.specs.Laws.{AdoptsListings}
use Rattle.c62_adopt.proofs.Placing.{as_many}
use Rattle.c62_adopt.proofs.AimLemmas.{blocks_are_aimed, packets_closed, same_labels}
use Rattle.c62_op.specs.declared.set.InstructionSet.{InstructionSet}

all_blocks : (whole drafts : List Draft) (packets : List Packed) → AllZip (IsBlockOf whole) drafts packets
    → All IsPacketBlock packets
all_blocks whole [] [] zip = All-nil IsPacketBlock
all_blocks whole [] (block ∷ packets) zip = absurd zip
all_blocks whole (draft ∷ drafts) [] zip = absurd zip
all_blocks whole (draft ∷ drafts) (block ∷ packets) zip = All-cons IsPacketBlock block packets zip.0.is_block
    (all_blocks whole drafts packets zip.1)

abbrev HasBegun : Packed → Type 0
HasBegun block = block.label ≡ None → 0 < length block.placed

block_begun : (whole : List Draft) (draft : Draft) (block : Packed) → IsBlockOf whole draft block
    → (draft.label ≡ None → 0 < length draft.issues)
    → HasBegun block
block_begun whole draft block is begun none =
    let some = begun (sym is.label ∙ none) in
    let many = as_many whole draft.issues is.placed is.stand in
    let same = length_permutation is.placed block.placed is.listed in
    omega (arith, some, many, same)

all_begun : (whole drafts : List Draft) (packets : List Packed) → AllZip (IsBlockOf whole) drafts packets
    → AllByRecursion (λ draft. draft.label ≡ None → 0 < length draft.issues) drafts → AllByRecursion HasBegun packets
all_begun whole [] [] zip begun = tt
all_begun whole [] (block ∷ packets) zip begun = absurd zip
all_begun whole (draft ∷ drafts) [] zip begun = absurd zip
all_begun whole (draft ∷ drafts) (block ∷ packets) zip begun =
    (block_begun whole draft block zip.0 begun.0, all_begun whole drafts packets zip.1 begun.1)

-- ---- instructions of the set

IsIn : InstructionSet → Placed → Type 0
IsIn isa p = is_taken_in isa (op_of p.insn) (operands_of p.insn) ≡ true

taken_as : (isa : InstructionSet) (op op' : Op) (operands operands' : Operands) → op ≡ op' → operands ≡ operands'
    → is_taken_in isa op' operands' ≡ true → is_taken_in isa op operands ≡ true
taken_as isa op op' operands operands' same alike is =
    ap (λ o. is_taken_in isa o operands) same ∙ ap (λ os. is_taken_in isa op' os) alike ∙ is

parts_in : (isa : InstructionSet) (whole : List Draft) (start : ℕ) (issues : List Issue) (placed : List Placed)
    → map part_of placed ≡ map (part_in whole) issues → AllByRecursion (IsPlaced isa start) issues
    → All (IsIn isa) placed
unfolding IsIn
parts_in isa whole start [] [] same fine = All-nil (IsIn isa)
parts_in isa whole start [] (p ∷ placed) same fine = absurd cc
parts_in isa whole start (issue ∷ issues) [] same fine = absurd cc
parts_in isa whole start (issue ∷ issues) (p ∷ placed) same fine =
    let part : part_of p ≡ part_in whole issue = cc in
    let others : map part_of placed ≡ map (part_in whole) issues = cc in
    let number = target_number whole issue.target in
    let op : op_of p.insn ≡ issue.parts.op = ap (λ (q : Part). q.parts.op) part in
    let operands : operands_of p.insn ≡ aimed_operands number issue.parts.operands =
    ap (λ (q : Part). q.parts.operands) part in
    All-cons (IsIn isa) p placed
    (taken_as isa (op_of p.insn) issue.parts.op (operands_of p.insn)
    (aimed_operands number issue.parts.operands) op operands
    (aimed_in isa issue.parts.op number issue.parts.operands ∙ fine.0.of_set))
    (parts_in isa whole start issues placed others fine.1)

all_in : (isa : InstructionSet) (placed : List Placed) → All (IsIn isa) placed
    → list_all (λ p. is_taken_in isa (op_of p.insn) (operands_of p.insn)) placed ≡ true
unfolding IsIn
all_in isa [] are = refl
all_in isa (p ∷ placed) are =
    and_from (is_taken_in isa (op_of p.insn) (operands_of p.insn))
    (list_all (λ (q : Placed). is_taken_in isa (op_of q.insn) (operands_of q.insn)) placed)
    (All-head (IsIn isa) p placed are)
    (all_in isa placed (All-tail (IsIn isa) p placed are))

packets_in : (isa : InstructionSet) (whole drafts : List Draft) (packets : List Packed)
    → AllZip (IsBlockOf whole) drafts packets
    → AllByRecursion (IsFine isa) drafts → list_all (λ block. is_within isa block) packets ≡ true
packets_in isa whole [] [] zip fine = refl
packets_in isa whole [] (block ∷ packets) zip fine = absurd zip
packets_in isa whole (draft ∷ drafts) [] zip fine = absurd zip
packets_in isa whole (draft ∷ drafts) (block ∷ packets) zip fine =
    let own = parts_in isa whole draft.start draft.issues zip.0.placed zip.0.stand.parts fine.0.placed in
    and_from (is_within isa block) (list_all (λ (b : Packed). is_within isa b) packets)
    (all_in isa block.placed (All-permutation (IsIn isa) zip.0.placed block.placed zip.0.listed own))
    (packets_in isa whole drafts packets zip.1 fine.1)

pub adopted_shown : (isa : InstructionSet) (drain : Bool) (text : List ℕ) (packets : List Packed) (added : ℕ)
    → IsAdopted isa drain text packets added → AreShown isa packets
adopted_shown isa drain text packets added is =
    let drafts : List Draft = (code_cut isa text).drafts in
    let zip = is.read.cut.blocks in
    let fine = blocks_are_fine isa (code_in (code_read isa text)) in
    let few = fine.few in
    let named = blocks_are_named isa (code_in (code_read isa text)) in
    let same : labels_listed packets ≡ labels_given drafts = ap (flat_map option_to_list)
    (same_labels drafts drafts packets zip) in
    record {
      few = omega (arith, few, AllZip-long (IsBlockOf drafts) drafts packets zip);
      are_blocks = all_blocks drafts drafts packets zip;
      closed = packets_closed drain drafts (code_cut isa text).cycles packets zip
          (blocks_are_aimed isa (code_in (code_read isa text)))
          (blocks_are_over drain (code_cut isa text) is.read.cut.over);
      within = packets_in isa drafts drafts packets zip fine.fine;
      labels = subst (AllByRecursion (λ (label : Name). IsTrue (is_label label))) (sym same) named.labels;
      distinct = subst (IsDistinct bytes_eq) (sym same) named.distinct;
      begun = all_begun drafts drafts packets zip named.begun;
    }

pub adopts_listings : (isa : InstructionSet) (drain : Bool) (text : List ℕ) → AdoptsListings isa drain text
adopts_listings isa drain text packets added is =
    let shown = adopted_shown isa drain text packets added is in
    let back = (read_exactly isa (listing packets)).listings_are_read packets shown refl in
    record { shown = shown; others = back.0; read = back.1; alike = back.2 }
