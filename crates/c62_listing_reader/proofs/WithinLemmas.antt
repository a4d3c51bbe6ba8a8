-- The instructions of what is read are instructions of the set.
use Rattle.c62_listing_reader.proofs.Common.{nat_tests, arith, ◌≡◌, ℕ, ◌+◌, List, [], ◌∷◌, map, Option}
use Rattle.c62_listing_reader.proofs.Common.{Bool, true, false, refl}
use Rattle.c62_listing_reader.proofs.Common.{append-nil, nat_lt, Ok, list_all}
use Rattle.c62_listing_reader.proofs.Common.{length, list_all-append}
use Rattle.c62_listing_reader.proofs.Common.{operands_of, Parts, Says, Name, Operands, Block}
use Rattle.c62_listing_reader.proofs.Common.{Packed, Above, Start, Line, lines_in, is_beside}
use Rattle.c62_listing_reader.proofs.Common.{Said, Part, part_of, Draft}
use Rattle.c62_listing_reader.proofs.Common.{Drafts, no_drafts, all_drafts, opened, with_part, with_label, with_says}
use Rattle.c62_listing_reader.proofs.Common.{with_said, above_next, names_in}
use Rattle.c62_listing_reader.proofs.Common.{labels_of, aim_by, contents, most_bytes, draft_of, read_lines, IsRead}
use Rattle.std.proofs.lemmas.List.Folds.{list_all-map}
use Rattle.c62_op.specs.declared.operands.Op.{Op}
use Rattle.c62_op.specs.declared.operands.Op.TheVariants.{Add}
use Rattle.c62_op.specs.Units.{is_taken_in}
use Rattle.c62_insn.specs.Insn.{op_of, aimed_operands}
use Rattle.c62_listing_reader.proofs.Common.{◌∙◌, option_to_list, if◌then◌else◌, is_gap, Some, None}
use Rattle.std.proofs.lemmas.Bool.{and_from, and_parts}
use Rattle.c62_line.proofs.SaysLemmas.{AreTaken}
use Rattle.c62_line.specs.Line.{Jumps}
use Rattle.c62_listing_reader.specs.Said.{jump_to}
use Rattle.c62_listing_reader.specs.Laws.{is_within}
use Rattle.c62_listing_reader.proofs.ToldLemmas.{begun, over, if_err}
use Rattle.c62_listing_reader.proofs.ToldLines.{is_taken_said}
use Rattle.c62_op.specs.declared.set.InstructionSet.{InstructionSet}

abbrev all_in : InstructionSet → Draft → Bool
all_in isa draft = list_all (λ part. is_taken_in isa part.parts.op part.parts.operands) draft.placed

-- whichever block a branch goes to
block_alike : (isa : InstructionSet) (op : Op) (k m : ℕ) → is_taken_in isa op (Block k) ≡ is_taken_in isa op (Block m)
block_alike isa Add k m = refl
block_alike isa _ k m = refl

pub aimed_in : (isa : InstructionSet) (op : Op) (number : ℕ) (operands : Operands)
    → is_taken_in isa op (aimed_operands number operands) ≡ is_taken_in isa op operands
aimed_in isa op number (Block old) = block_alike isa op number old
aimed_in isa op number operands = refl

part_in : (isa : InstructionSet) (beside : Bool) (parts : Parts) (line : ℕ) (draft : Draft)
    → is_taken_in isa parts.op parts.operands ≡ true → all_in isa draft ≡ true
    → all_in isa (with_part beside parts line draft) ≡ true
part_in isa beside parts line draft here before =
    grind (
      arith,
      nat_tests,
      list_all-append
          (λ (part : Part). is_taken_in isa part.parts.op part.parts.operands) draft.placed,
    )

label_in : (isa : InstructionSet) (label : Option Name) (draft : Draft) → all_in isa draft ≡ true
    → all_in isa (with_label label draft) ≡ true
label_in isa label draft is = grind (arith, nat_tests)

says_in : (isa : InstructionSet) (aim : Name → ℕ) (beside : Bool) (line : ℕ) (says : Says) (draft : Draft)
    → AreTaken isa says → all_in isa draft ≡ true
    → all_in isa (with_says aim beside line says draft) ≡ true
says_in isa aim beside line (Jumps parts target) draft taken is =
    part_in isa beside (jump_to aim parts target) line draft
    (aimed_in isa parts.op (aim target) parts.operands ∙ taken) is
says_in isa aim beside line says draft taken is = grind (arith, nat_tests, part_in isa)

said_in : (isa : InstructionSet) (aim : Name → ℕ) (line : ℕ) (said : Said) (drafts : Drafts) → AreTaken isa said.says
    → list_all (all_in isa) (all_drafts drafts) ≡ true
    → list_all (all_in isa) (all_drafts (with_said aim line said drafts)) ≡ true
said_in isa aim line said drafts taken all = by_gap (is_gap said.front)
  where
    parts : (list_all (all_in isa) drafts.done ≡ true) × (list_all (all_in isa) (option_to_list drafts.current) ≡ true)
    parts = and_parts _ _ (rw (list_all-append (all_in isa) drafts.done (option_to_list drafts.current)) at all)

    open_in : (current : Option Draft) → list_all (all_in isa) (option_to_list current) ≡ true
        → all_in isa (opened current) ≡ true
    open_in None is = refl
    open_in (Some draft) is = (and_parts (all_in isa draft) true is).0

    next : Draft
    next = with_says aim (is_beside said.front) line said.says (with_label said.label (opened drafts.current))

    next_in : all_in isa next ≡ true
    next_in =
        says_in isa aim (is_beside said.front) line said.says (with_label said.label (opened drafts.current)) taken
        (label_in isa said.label (opened drafts.current) (open_in drafts.current parts.1))

    by_gap : (gap : Bool)
        → list_all (all_in isa)
        (all_drafts (if gap then (record { done = all_drafts drafts; current = None }) else record
        { done = drafts.done; current = Some next })) ≡ true
    by_gap true = rw (append-nil (all_drafts drafts)) all
    by_gap false =
        rw (list_all-append (all_in isa) drafts.done (next ∷ []), parts.0)
        (and_from (all_in isa next) true next_in refl)

lines_in_set : (isa : InstructionSet) (names : List Name) (aim : Name → ℕ) (number : ℕ) (drafts : Drafts)
    (above : Above) (lines : List Line) (final : Drafts)
    → list_all (all_in isa) (all_drafts drafts) ≡ true
    → read_lines isa names aim number drafts above lines ≡ Ok final → list_all (all_in isa) (all_drafts final) ≡ true
lines_in_set isa names aim number drafts above [] final all h =
    rw (← over isa names aim number drafts above final h) all
lines_in_set isa names aim number drafts above (line ∷ below) final all h =
    let start = begun isa names aim number drafts above line below final h in
    let said : Said = start.said in
    lines_in_set isa names aim (number + 1) (with_said aim number said drafts)
    (above_next said.front said.says) below final
    (said_in isa aim number said drafts (is_taken_said isa names drafts above line below said start.is) all)
    start.others

packets_in : (isa : InstructionSet) (packets : List Packed)
    → list_all (λ block. is_within isa block) packets ≡ list_all (all_in isa) (map draft_of packets)
packets_in isa [] = refl
packets_in isa (block ∷ packets) =
    rw (
      packets_in isa packets,
      list_all-map (λ (part : Part). is_taken_in isa part.parts.op part.parts.operands) part_of
          block.placed,
    ) refl

-- packets that are read of a text have instructions of the set alone
pub read_within : (isa : InstructionSet) (text : List ℕ) (packets : List Packed) → IsRead isa text packets
    → list_all (λ block. is_within isa block) packets ≡ true
read_within isa text packets is =
    let final : Drafts = is.drafts in
    let lines : List Line = lines_in text in
    let entries : List (Name × ℕ) = names_in 0 (contents text) in
    let read = (if_err (nat_lt most_bytes (length text)) _ _ final is.said).1 in
    rw (packets_in isa packets, is.blocks)
    (lines_in_set isa (labels_of entries) (aim_by entries) 1 no_drafts Start lines final refl read)
