-- What was packed of a text is read back, and runs as the text says.
use Rattle.std.proofs.Common.{◌≡◌, ◌∙◌, ℕ, ◌<◌, ◌≤◌, Bool, true, false, List, [], ◌∷◌, ◌++◌, length, map, Option, Some}
use Rattle.std.proofs.Common.{None, refl, sym, ap, subst, arith}
use Rattle.std.specs.Prelude.{IsTrue}
use Rattle.std.specs.List.{AllByRecursion, IsDistinct, flat_map}
use Rattle.std.specs.Option.{option_to_list}
use Rattle.std.specs.Str.{bytes_eq}
use Rattle.std.proofs.lemmas.Bool.{and_parts}
use Rattle.std.proofs.lemmas.List.{length-map}
use Rattle.std.proofs.lemmas.List.Elements.{All-from_recursion}
use Rattle.std.proofs.lemmas.List.Folds.{flat_map-map}
use Rattle.std.proofs.lemmas.List.Sorted.{length_permutation}
use Rattle.c62_token.specs.Number.{is_label}
use Rattle.c62_line.specs.Line.{label_field}
use Rattle.c62_read.specs.Block.{Serial}
use Rattle.c62_read.specs.Laws.{begin_well, ends_in_branch, may_begin}
use Rattle.c62_read.specs.Program.{BlockParts, Name, Numbered, block_in, block_parts, labels_of, numbered_of}
use Rattle.c62_read.specs.Text.{lines_of}
use Rattle.c62_read.specs.Walk.{all_drafts}
use Rattle.c62_read.proofs.ProgramLaws.{has_cut_blocks, has_its_labels, targets_read}
use Rattle.c62_read.proofs.WalkLemmas.{read_back as program_back, walk_text}
use Rattle.c62_packet.specs.Packed.{Packed, IsPacketBlock}
use Rattle.c62_packet.specs.Alike.{AreAlike, unlined}
use Rattle.c62_pipe.proofs.AlikeChains.{chain_alike}
use Rattle.c62_pack.proofs.SpotIssues.{as_many as numbered_many}
use Rattle.c62_listing_reader.specs.Faults.{IsRead}
use Rattle.c62_listing_reader.specs.Laws.{AreShown, labels_given}
use Rattle.c62_listing_reader.proofs.ReadBackLemmas.{read_back}
use Rattle.c62_listing_reader.proofs.SameLemmas.{one_reading}
use Rattle.c62_listing_reader.proofs.ShownLemmas.{field_good}
use Rattle.c62_command.specs.declared.setting.Setting.{Setting}
use Rattle.c62_command.specs.declared.command.Course.{Course}
use Rattle.c62_command.specs.declared.command.Packing.{Packing}
use Rattle.c62_command.specs.declared.command.Form.TheVariants.{Listed}
use Rattle.c62_answer.specs.declared.outcome.Outcome.{Outcome}
use Rattle.c62_answer.specs.Schedule.{AreScheduled, IsScheduled}
use Rattle.c62_answer.specs.Run.{IsStandingReport}
use Rattle.c62_answer.specs.Texts.{SaysProgram}
use Rattle.c62_answer.specs.ReadBack.{IsReadBack, IsReportOf}
use Rattle.c62_op.specs.Units.{is_taken_in}
use Rattle.c62_answer.proofs.Within.{program_is_of}
use Rattle.c62_answer.proofs.Schedules.{all_pass, as_many, closed, runs_serially, same_labels}
use Rattle.c62_read.specs.declared.limits.TheConstants.{MOST_BLOCKS}
use Rattle.c62_op.specs.declared.set.InstructionSet.{InstructionSet}

-- ---- what a text says

few_said : (isa : InstructionSet) (text : List ℕ) (program : List Serial) → SaysProgram isa text program
    → length program ≤ MOST_BLOCKS
few_said isa text program says =
    let read = program_back isa text (map block_parts program) says in
    let stands = (walk_text isa (lines_of text)).1 read.0 read.1 in
    let drafts = all_drafts read.0 in
    let count : length (map block_parts program) ≡ length (map (block_in drafts) drafts) = ap
    (λ (blocks : List BlockParts). length blocks) read.2 in
    omega (arith, stands.few, count, length-map program block_parts, length-map drafts (block_in drafts))

lines_good : (lines : List (List ℕ)) → AllByRecursion (λ label. IsTrue (is_label label)) (labels_of lines)
lines_good [] = tt
lines_good (line ∷ lines) = by_field (label_field line) refl (lines_good lines)
  where
    by_field : (field : Option Name) → label_field line ≡ field
        → AllByRecursion (λ label. IsTrue (is_label label)) (labels_of lines)
        → AllByRecursion (λ label. IsTrue (is_label label)) (option_to_list field ++ labels_of lines)
    by_field None e rest = rest
    by_field (Some label) e rest = (field_good line label e, rest)

-- a block without a label begins with an instruction
has_some : (behind : Bool) (label : Option Name) (insns : List Numbered) → may_begin behind label insns ≡ true
    → label ≡ None → 0 < length insns
has_some behind (Some name) insns begins none = absurd cc
has_some true None [] begins none = absurd cc
has_some false None [] begins none = absurd cc
has_some behind None (entry ∷ insns) begins none = omega arith

-- ---- the packets of its blocks

module _ (packing : Packing) where
  all_sound : (program : List Serial) (packets : List Packed) → AreScheduled packing program packets
      → AllByRecursion IsPacketBlock packets
  all_sound [] [] all = tt
  all_sound [] (q ∷ packets) all = absurd all
  all_sound (b ∷ program) [] all = absurd all
  all_sound (b ∷ program) (q ∷ packets) all = (all.0.packets.sound, all_sound program packets all.1)

  begun : (behind : Bool) (block : Serial) (packed : Packed) → IsScheduled packing block packed
      → may_begin behind block.label (map numbered_of block.insns) ≡ true → packed.label ≡ None
      → 0 < length packed.placed
  begun behind block packed is begins none =
      let packets = is.packets in
      let some = has_some behind block.label (map numbered_of block.insns) begins (sym packets.label ∙ none) in
      let listed = length_permutation packets.serial packed.placed packets.listed in
      let numbered = numbered_many block.insns packets.spots packets.serial packets.numbered in
      omega (arith, some, listed, numbered, length-map block.insns numbered_of)

  all_begun : (behind : Bool) (program : List Serial) (packets : List Packed) → AreScheduled packing program packets
      → begin_well behind (map block_parts program) ≡ true
      → AllByRecursion (λ packed. packed.label ≡ None → 0 < length packed.placed) packets
  all_begun behind [] [] all begins = tt
  all_begun behind [] (q ∷ packets) all begins = absurd all
  all_begun behind (b ∷ program) [] all begins = absurd all
  all_begun behind (b ∷ program) (q ∷ packets) all begins =
      let parts = and_parts _ _ begins in (
        begun behind b q all.0 parts.0,
        all_begun (ends_in_branch (map numbered_of b.insns)) program packets all.1
            parts.1,
      )

module _ (isa : InstructionSet) (packing : Packing) (text : List ℕ) (program : List Serial) (packets : List Packed)
    (says : SaysProgram isa text program)
    (all : AreScheduled packing program packets) where
  given : labels_given packets ≡ labels_of (lines_of text)
  given =
      ap (flat_map option_to_list) (same_labels packing program packets all)
      ∙ flat_map-map option_to_list (λ (block : Serial). block.label) program
      ∙ sym (flat_map-map (λ (block : BlockParts). option_to_list block.label) block_parts program)
      ∙ (has_its_labels isa text (map block_parts program) says).0

  pub shown : AreShown isa packets
  shown = record {
    few = omega (arith, few_said isa text program says, as_many packing program packets all);
    are_blocks = All-from_recursion IsPacketBlock packets (all_sound packing program packets all);
    closed = closed packing program packets all (targets_read isa text program says);
    within = all_pass (is_taken_in isa) packing program packets all (program_is_of isa text program says);
    labels = subst (AllByRecursion (λ label. IsTrue (is_label label))) (sym given) (lines_good (lines_of text));
    distinct = subst (IsDistinct bytes_eq) (sym given) (has_its_labels isa text (map block_parts program) says).1;
    begun = all_begun packing true program packets all (has_cut_blocks isa text (map block_parts program) says).begins;
  }

-- ---- what is read back

module _ (isa : InstructionSet) (packing : Packing) (program : List Serial) (packets others : List Packed)
    (answer : List ℕ)
    (all : AreScheduled packing program packets)
    (read : IsRead isa answer others) (alike : AreAlike packets others) where
  report_of : (settings : List Setting) (course : Course) (outcome : Outcome) (report : List ℕ)
      (sim : IsStandingReport isa Listed settings course outcome answer report)
      → IsReportOf isa program packets settings course outcome answer report sim
  report_of settings course outcome report sim =
      let same : sim.packets ≡ others = one_reading isa answer sim.packets others sim.read read in
      let back : AreAlike sim.packets packets = ap (map unlined) same ∙ sym alike in
      let run = sim.reported in
      let sound = run.begin.sound in
      let runs = chain_alike sim.packets packets run.opening run.opening course.blocks back refl sound run.chain
      run.cycles run.final run.run in
      record {
        same = runs;
        serial = runs_serially packing program packets run.opening runs.left course.blocks run.cycles run.chain all
            sound runs.runs;
      }

abbrev IsReadAs : InstructionSet → List Packed → List ℕ → Type 0
IsReadAs isa packets answer = (others : List Packed) × IsRead isa answer others × AreAlike packets others

pub is_read_back : (isa : InstructionSet) (packing : Packing) (text answer : List ℕ)
    → IsReadBack isa packing text answer
is_read_back isa packing text answer packed =
    let whole = shown isa packing text packed.program packed.packets packed.says packed.packed in
    let back : IsReadAs isa packed.packets answer = subst (IsReadAs isa packed.packets) (sym packed.listed)
    (read_back isa packed.packets whole) in
    record {
      shown = whole;
      others = back.0;
      read = back.1;
      alike = back.2;
      reports = report_of isa packing packed.program packed.packets back.0 answer packed.packed back.1 back.2;
    }
