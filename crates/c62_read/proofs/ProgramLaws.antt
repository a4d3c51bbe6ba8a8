-- Laws of programs: their instructions, their blocks, their labels and their targets are those of their lines.
use Rattle.c62_read.proofs.Common.{◌≡◌, ℕ, suc, ◌+◌, ◌≤◌, ◌<◌, Bool, true, List, [], ◌∷◌, ◌++◌, Option, Some, None}
use Rattle.c62_read.proofs.Common.{Result, Ok, refl, sym}
use Rattle.c62_read.proofs.Common.{ap, subst, ◌∙◌, arith, inl, inr, map, slice_get, All, flat_map, list_all}
use Rattle.c62_read.proofs.Common.{position_or_len, option_to_list}
use Rattle.c62_read.proofs.Common.{nat_tests, length-map, map-append, flat_map-append, list_all-append, map-map}
use Rattle.c62_read.proofs.Common.{Operands, Cause, lines_of, Says}
use Rattle.c62_read.proofs.Common.{Does, Jumps, Begins, BlockParts, Draft, Item, Numbered, Runs, block_in, block_parts}
use Rattle.c62_read.proofs.Common.{blocks_from, is_among}
use Rattle.c62_read.proofs.Common.{items_from, label_is, label_items, bytes_eq, labels_of, line_items, settled}
use Rattle.c62_read.proofs.Common.{own_labels}
use mathlib.Core.Path.{fun_ext}
use Rattle.c62_read.specs.Block.{Serial, is_labelled, labels_in, target_stands, targets_stand}
use Rattle.std.specs.Prelude.{position, Contains}
use Rattle.std.specs.List.{AllByRecursion, AllPairs, IsDistinct}
use Rattle.std.proofs.lemmas.Bool.{not-false}
use Rattle.std.proofs.lemmas.List.Elements.{All-from_recursion, All-contains, All-cons, All-weaker}
use Rattle.std.proofs.lemmas.List.Elements.{Contains-append_cases}
use Rattle.std.proofs.lemmas.List.Kept.{AllPairs-cons}
use Rattle.std.proofs.lemmas.List.Folds.{flat_map-map, list_all-map}
use Rattle.std.proofs.lemmas.Option.{slice_get_past}
use Rattle.c62_line.specs.Line.{line_of}
use Rattle.c62_read.specs.Program.{Name, program_in}
use Rattle.c62_read.specs.Laws.{HasCutBlocks, HasItsLabels, HasRisingLines, HasTargets, IsItsLines, ReadsAsItsLine}
use Rattle.c62_read.specs.Laws.{block_named}
use Rattle.c62_read.specs.Laws.{instruction_at, instructions_in, instructions_of, items_of}
use Rattle.c62_read.proofs.BlockLemmas.{position_map}
use Rattle.c62_read.proofs.CutLemmas.{AllProper, aim_in, all_more, cut_is}
use Rattle.c62_line.proofs.SaysLemmas.{has_no_block}
use Rattle.c62_read.proofs.WalkLemmas.{OkFits, blocks_are, read_back, walk_text}
use Rattle.c62_op.specs.declared.set.InstructionSet.{InstructionSet}

-- what a text says that has no fault: these blocks, made of the cut of its lines
record IsProgram (isa : InstructionSet) (text : List ℕ) (blocks : List BlockParts) : Type 0 where
  pub own : own_labels (blocks_from isa (lines_of text)) ≡ labels_of (lines_of text)
  pub distinct : IsDistinct bytes_eq (labels_of (lines_of text))
  pub fits : AllByRecursion (λ line. OkFits (labels_of (lines_of text)) (line_of isa line)) (lines_of text)
  pub is : blocks ≡ map (block_in (blocks_from isa (lines_of text))) (blocks_from isa (lines_of text))

program_is_cut : (isa : InstructionSet) (text : List ℕ) (blocks : List BlockParts) → program_in isa text ≡ Ok blocks
    → IsProgram isa text blocks
program_is_cut isa text blocks e =
    let read = read_back isa text blocks e in
    let there = (walk_text isa (lines_of text)).1 read.0 read.1 in
    let all = blocks_are isa (lines_of text) read.0 there.cuts in
    record { own = rw all there.own; distinct = there.distinct; fits = there.fits; is = rw all read.2 }

-- ---- labels

pub has_its_labels : (isa : InstructionSet) (text : List ℕ) → HasItsLabels isa text
has_its_labels isa text blocks e =
    let program = program_is_cut isa text blocks e in
    let drafts = blocks_from isa (lines_of text) in (
      rw program.is (flat_map-map (λ (block : BlockParts). option_to_list block.label) (block_in drafts) drafts
          ∙ program.own),
      program.distinct,
    )

-- the first block with a label
module _ (label : Name) where
  abbrev found_at : List BlockParts → ℕ
  found_at blocks = position_or_len (λ block. label_is label block.label) blocks

  labelled : (labels : List (Option Name)) → is_among label (flat_map option_to_list labels) ≡ true
      → is_labelled (slice_get labels (position_or_len (label_is label) labels)) ≡ true
  labelled [] has = absurd cc
  labelled (first ∷ labels) has = grind (arith, nat_tests, labelled labels)

  found : (blocks : List BlockParts) → is_among label (flat_map (λ block. option_to_list block.label) blocks) ≡ true
      → (is_labelled (slice_get (map (λ block. block.label) blocks) (found_at blocks)) ≡ true)
      × (position (λ block. label_is label block.label) blocks ≡ Some (found_at blocks))
  found blocks has =
      let labels : List (Option Name) = map (λ (block : BlockParts). block.label) blocks in
      let first = position_map (label_is label) (λ (block : BlockParts). block.label) blocks in
      let there = ap (λ (k : ℕ). is_labelled (slice_get labels k)) (sym first)
      ∙ labelled labels (rw flat_map-map has) in (
        there,
        grind (
          arith,
          nat_tests,
          slice_get_past labels (found_at blocks),
          length-map blocks
              (λ (block : BlockParts). block.label),
        ),
      )

pub has_targets : (isa : InstructionSet) (text : List ℕ) → HasTargets isa text
has_targets isa text blocks line label parts target e among jumps =
    let labels = labels_of (lines_of text) in
    let fits = All-from_recursion (λ line. OkFits labels (line_of isa line)) (lines_of text)
    (program_is_cut isa text blocks e).fits in
    let fit = rw jumps at (All-contains (λ line. OkFits labels (line_of isa line)) (lines_of text) line fits among) in
    let known = ap (is_among target) (has_its_labels isa text blocks e).0 ∙ not-false (is_among target labels) fit.1 in
    (found_at target blocks, (found target blocks known).1)

-- ---- the blocks one after the other are the labels and instructions of the lines, with their targets' numbers

named : (drafts : List Draft) → aim_in drafts ≡ block_named (map (block_in drafts) drafts)
named drafts =
    fun_ext (λ label.
    rw (
      position_map (λ (block : BlockParts). label_is label block.label) (block_in drafts) drafts,
      length-map drafts
          (block_in drafts),
    ) refl)

items_proper : (isa : InstructionSet) (labels : List Name) (number : ℕ) (lines : List (List ℕ))
    → AllByRecursion (λ line. OkFits labels (line_of isa line)) lines
    → AllProper (items_from isa number lines)
items_proper isa labels number [] fits = tt
items_proper isa labels number (line ∷ lines) fits =
    all_more _ (line_items number (line_of isa line)) _ (go (line_of isa line) fits.0)
    (items_proper isa labels (number + 1) lines fits.1)
  where
    go : (found : Result (Option Name × Says) Cause) → OkFits labels found → AllProper (line_items number found)
    go found fit = grind arith

program_items : (isa : InstructionSet) (text : List ℕ) (blocks : List BlockParts) → IsProgram isa text blocks
    → flat_map items_of blocks ≡ map (settled (block_named blocks)) (items_from isa 1 (lines_of text))
program_items isa text blocks program =
    rw (program.is, ← named (blocks_from isa (lines_of text)))
    ((cut_is _ (items_from isa 1 (lines_of text))).0
    (items_proper isa (labels_of (lines_of text)) 1 (lines_of text) program.fits))

-- ---- instructions

-- the instructions among items
abbrev run_in : Item → List Numbered
run_in (Begins label) = []
run_in (Runs entry target) = entry ∷ []

runs_block : (label : Option Name) (insns : List Numbered)
    → flat_map run_in (label_items label ++ map (λ (entry : Numbered). Runs entry None) insns) ≡ insns
runs_block label [] = grind arith
runs_block label (entry ∷ insns) = grind (arith, runs_block label insns)

runs_blocks : (blocks : List BlockParts) → flat_map run_in (flat_map items_of blocks) ≡ instructions_of blocks
runs_blocks [] = refl
runs_blocks (block ∷ blocks) =
    flat_map-append run_in (items_of block) (flat_map items_of blocks)
    ∙ rw (runs_block block.label block.insns, runs_blocks blocks) refl

module _ (isa : InstructionSet) (aim : Name → ℕ) where
  runs_line : (number : ℕ) (said : Result (Option Name × Says) Cause)
      → flat_map run_in (map (settled aim) (line_items number said)) ≡ instruction_at aim number said
  runs_line number said = grind arith

  runs_lines : (number : ℕ) (lines : List (List ℕ))
      → flat_map run_in (map (settled aim) (items_from isa number lines)) ≡ instructions_in isa aim number lines
  runs_lines number [] = refl
  runs_lines number (line ∷ lines) = simp
      (map-append, flat_map-append, runs_line number (line_of isa line), runs_lines (number + 1) lines)

pub is_its_lines : (isa : InstructionSet) (text : List ℕ) → IsItsLines isa text
is_its_lines isa text blocks e =
    sym (runs_blocks blocks) ∙ ap (flat_map run_in) (program_items isa text blocks (program_is_cut isa text blocks e))
    ∙ runs_lines isa (block_named blocks) 1 (lines_of text)

-- ---- the lines rise

-- these rise, and none is below n
abbrev Rise : ℕ → List ℕ → Type 0
Rise n xs = All (λ x. n ≤ x) xs × AllPairs (λ x y. x < y) xs

abbrev numbers : List Numbered → List ℕ
numbers entries = map (λ (entry : Numbered). entry.line) entries

rise_before : (n : ℕ) (xs : List ℕ) → Rise (n + 1) xs → Rise n xs
rise_before n xs rise = (All-weaker (λ x. n + 1 ≤ x) (λ x. n ≤ x) (λ x after. omega arith) xs rise.0, rise.1)

rise_from : (n : ℕ) (xs : List ℕ) → Rise (n + 1) xs → Rise n (n ∷ xs)
rise_from n xs rise = (
  All-cons (λ x. n ≤ x) n xs (omega arith) (rise_before n xs rise).0,
  AllPairs-cons (λ x y. x < y) n xs (All-weaker (λ x. n + 1 ≤ x) (λ x. n < x) (λ x after. omega arith) xs rise.0)
      rise.1,
)

first_rises : (aim : Name → ℕ) (n : ℕ) (said : Result (Option Name × Says) Cause) (others : List Numbered)
    → Rise (n + 1) (numbers others)
    → Rise n (numbers (instruction_at aim n said ++ others))
first_rises aim n (Ok (label, Does parts)) others rise = rise_from n (numbers others) rise
first_rises aim n (Ok (label, Jumps parts target)) others rise = rise_from n (numbers others) rise
first_rises aim n said others rise = rise_before n (numbers others) rise

all_rise : (isa : InstructionSet) (aim : Name → ℕ) (n : ℕ) (lines : List (List ℕ))
    → Rise n (numbers (instructions_in isa aim n lines))
all_rise isa aim n [] = (λ k d inside. absurd (omega arith), λ i j d below inside. absurd (omega arith))
all_rise isa aim n (line ∷ lines) = first_rises aim n (line_of isa line) (instructions_in isa aim (n + 1) lines)
    (all_rise isa aim (n + 1) lines)

pub has_rising_lines : (isa : InstructionSet) (text : List ℕ) → HasRisingLines isa text
has_rising_lines isa text blocks e =
    rw (is_its_lines isa text blocks e)
    (λ k inside. (all_rise isa (block_named blocks) 1 (lines_of text)).1 k (k + 1) 0 (omega arith) inside)

-- ---- each reads as its line

said_here : (aim : Name → ℕ) (n : ℕ) (said : Result (Option Name × Says) Cause) (entry : Numbered)
    → Contains (instruction_at aim n said) entry
    → (entry.line ≡ n) × (instruction_at aim n said ≡ entry ∷ [])
said_here aim n said entry among = grind arith

read_at : (isa : InstructionSet) (aim : Name → ℕ) (n : ℕ) (lines : List (List ℕ)) (entry : Numbered)
    → Contains (instructions_in isa aim n lines) entry
    → (index : ℕ) × (line : List ℕ) × (entry.line ≡ index + n) × (slice_get lines index ≡ Some line)
    × (instruction_at aim entry.line (line_of isa line) ≡ entry ∷ [])
read_at isa aim n [] entry among = absurd (omega (arith, among.1))
read_at isa aim n (line ∷ lines) entry among =
    elim (Contains-append_cases (instruction_at aim n (line_of isa line))
    (instructions_in isa aim (n + 1) lines) entry among) [
      | inl here ↦
          let only = said_here aim n (line_of isa line) entry here in (
            0,
            line,
            omega (arith, only.0),
            refl,
            ap (λ (m : ℕ). instruction_at aim m (line_of isa line)) only.0
                ∙ only.1,
          )
      | inr later ↦
          let there = read_at isa aim (n + 1) lines entry later in
          (suc there.0, there.1, omega (arith, there.2), there.3, there.4)
    ]

pub reads_as_its_line : (isa : InstructionSet) (text : List ℕ) → ReadsAsItsLine isa text
reads_as_its_line isa text blocks entry e among =
    read_at isa (block_named blocks) 1 (lines_of text) entry
    (subst (λ (entries : List Numbered). Contains entries entry) (is_its_lines isa text blocks e) among)

-- ---- where blocks begin and end

pub has_cut_blocks : (isa : InstructionSet) (text : List ℕ) → HasCutBlocks isa text
has_cut_blocks isa text blocks e =
    let program = program_is_cut isa text blocks e in
    let well = cut_is (blocks_from isa (lines_of text)) (items_from isa 1 (lines_of text)) in
    record {
      items = program_items isa text blocks program;
      begins = rw program.is well.1;
      ends = rw program.is (simp (list_all-map, map-map) well.2);
    }

-- ---- every branch to a label goes to a block that is there and has a label

module _ (isa : InstructionSet) (labels : List (Option Name)) where
  abbrev stands : Numbered → Bool
  stands entry = target_stands labels entry.parts.operands

  free_stands : (operands : Operands) → has_no_block operands ≡ true → target_stands labels operands ≡ true
  free_stands operands free = grind arith

  -- what fits stands, where the number of each label is that of a block with a label
  module _ (names : List Name) (aim : Name → ℕ)
      (aims : (name : Name) → is_among name names ≡ true → is_labelled (slice_get labels (aim name)) ≡ true) where
    said_stands : (number : ℕ) (said : Result (Option Name × Says) Cause) → OkFits names said
        → list_all stands (instruction_at aim number said) ≡ true
    said_stands number said fit = grind (arith, nat_tests, free_stands, aims)

    lines_stand : (number : ℕ) (lines : List (List ℕ)) → AllByRecursion (λ line. OkFits names (line_of isa line)) lines
        → list_all stands (instructions_in isa aim number lines) ≡ true
    lines_stand number [] fits = refl
    lines_stand number (line ∷ lines) fits =
        rw (list_all-append, said_stands number (line_of isa line) fits.0, lines_stand (number + 1) lines fits.1) refl

  blocks_stand : (blocks : List BlockParts)
      → list_all (λ (part : BlockParts). list_all stands part.insns) blocks ≡ list_all stands (instructions_of blocks)
  blocks_stand [] = refl
  blocks_stand (block ∷ blocks) = rw (list_all-append, blocks_stand blocks) refl

pub targets_read : (isa : InstructionSet) (text : List ℕ) (blocks : List Serial)
    → program_in isa text ≡ Ok (map block_parts blocks)
    → targets_stand blocks ≡ true
unfolding targets_stand
targets_read isa text blocks e =
    let parts : List BlockParts = map block_parts blocks in
    let labels : List (Option Name) = labels_in blocks in
    let all = blocks_stand isa labels parts ∙ ap (list_all (stands isa labels)) (is_its_lines isa text parts e)
    ∙ lines_stand isa labels (labels_of (lines_of text)) (block_named parts) (λ name known.
    let there = found name parts (ap (is_among name) (has_its_labels isa text parts e).0 ∙ known) in
    rw there.1 (rw map-map at there.0)) 1 (lines_of text) (program_is_cut isa text parts e).fits in
    simp list_all-map at all
