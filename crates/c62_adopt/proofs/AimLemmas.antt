-- The branches of what is adopted go to blocks that are there and have labels.
use Rattle.std.proofs.Common.{arith, ◌≡◌, ℕ, ◌<◌, Bool, true, false, List, [], ◌∷◌, ◌++◌, length, map, refl, ap, ◌∙◌}
use Rattle.std.proofs.Common.{inl, inr, Option, Some, None}
use Rattle.std.specs.Prelude.{All, slice_get}
use Rattle.std.specs.List.{AllByRecursion, AllZip, list_any, list_all, position_or_len}
use Rattle.std.specs.Option.{option_to_list}
use Rattle.std.proofs.lemmas.Bool.{cases_Bool}
use Rattle.std.proofs.lemmas.Bool.Decides.{nat_tests}
use Rattle.std.proofs.lemmas.List.Elements.{All-nil, All-cons, All-head, All-tail}
use Rattle.std.proofs.lemmas.List.Sorted.{All-permutation}
use Rattle.c62_op.specs.declared.operands.Operands.{Operands}
use Rattle.c62_op.specs.declared.operands.Operands.TheVariants.{Three, ConstantFirst, ConstantSecond, Two, Field}
use Rattle.c62_op.specs.declared.operands.Operands.TheVariants.{Constant, Access, Block, Register}
use Rattle.c62_insn.specs.Insn.{operands_of, aimed_operands}
use Rattle.c62_line.specs.Line.{Says, Nothing, Pause, Does, Jumps}
use Rattle.c62_read.specs.Program.{Name, label_is}
use Rattle.c62_read.specs.Block.{is_labelled, target_stands}
use Rattle.c62_packet.specs.declared.placed.Placed.{Placed}
use Rattle.c62_packet.specs.Packed.{Packed}
use Rattle.c62_packet.specs.Packets.{labels_of, is_closed}
use Rattle.c62_listing_reader.specs.Said.{Part, part_of}
use Rattle.c62_adopt_line.specs.Line.{Line}
use Rattle.c62_adopt_line.specs.Laws.{HasTarget, IsWhole, names_block}
use Rattle.c62_adopt_cut.specs.declared.clock.Stand.{Stand}
use Rattle.c62_adopt_cut.specs.Cut.{stand_of}
use Rattle.c62_adopt_cut.specs.Blocks.{Issue, Draft, Drafts, add_issue, all_drafts, begins_at, issue_at, new_draft}
use Rattle.c62_adopt_cut.specs.Blocks.{opened, with_issue, with_label, with_line, with_says}
use Rattle.c62_adopt_cut.specs.Text.{text_cut}
use Rattle.c62_adopt_cut.specs.Flight.{is_lost}
use Rattle.c62_adopt_cut.specs.Laws.{AreOver}
use Rattle.c62_adopt_cut.proofs.KeptLemmas.{IsFree, text_kept}
use Rattle.c62_adopt.specs.Blocks.{target_number, part_in, IsBlockOf}
use Rattle.c62_read.proofs.CutLemmas.{all_more}
use Rattle.c62_op.specs.declared.set.InstructionSet.{InstructionSet}

-- ---- only branches to labels go to blocks

abbrev IsAimed : Issue → Type 0
IsAimed issue = issue.target ≡ None → names_block issue.parts.operands ≡ false

abbrev IsAimedIn : Draft → Type 0
IsAimedIn draft = AllByRecursion IsAimed draft.issues

abbrev pub AreAimed : List Draft → Type 0
AreAimed drafts = AllByRecursion IsAimedIn drafts

all_front : (xs ys : List Draft) → AreAimed (xs ++ ys) → AreAimed xs
all_front [] ys all = tt
all_front (x ∷ xs) ys all = (all.0, all_front xs ys all.1)

all_behind : (xs ys : List Draft) → AreAimed (xs ++ ys) → AreAimed ys
all_behind [] ys all = all
all_behind (x ∷ xs) ys all = all_behind xs ys all.1

add_aimed : (issue : Issue) (done : List Draft) (current : Option Draft) → AreAimed (done ++ option_to_list current)
    → IsAimed issue
    → AreAimed (all_drafts (add_issue issue (record { done = done; current = current })))
add_aimed issue done None aimed is = aimed
add_aimed issue done (Some draft) aimed is =
    let last = all_behind done (draft ∷ []) aimed in
    all_more IsAimedIn done (with_issue issue draft ∷ []) (all_front done (draft ∷ []) aimed)
    (all_more IsAimed draft.issues (issue ∷ []) last.0 (is, tt), tt)

new_aimed : (drafts : List Draft) (label : Option Name) (start : ℕ) → AreAimed drafts
    → AreAimed (drafts ++ new_draft label start ∷ [])
new_aimed drafts label start aimed = all_more IsAimedIn drafts (new_draft label start ∷ []) aimed (tt, tt)

opened_aimed : (issue : Issue) (start : ℕ) (drafts : Drafts) → AreAimed (all_drafts drafts) → IsAimed issue
    → AreAimed (all_drafts (add_issue issue (opened start drafts)))
opened_aimed issue start drafts aimed is = elim (cases_Bool (begins_at start drafts.current)) [
  | inl begins ↦ rw begins (add_aimed issue drafts.done drafts.current aimed is)
  | inr other ↦ rw other
      (add_aimed issue (all_drafts drafts) (Some (new_draft None start))
      (new_aimed (all_drafts drafts) None start aimed) is)
]

says_aimed : (number : ℕ) (stand : Stand) (says : Says) (drafts : Drafts) → AreAimed (all_drafts drafts)
    → HasTarget says
    → AreAimed (all_drafts (with_says number stand says drafts))
says_aimed number stand Nothing drafts aimed target = aimed
says_aimed number stand (Pause n) drafts aimed target = aimed
says_aimed number stand (Does parts) drafts aimed target = opened_aimed (issue_at stand number parts None) stand.start
    drafts aimed (λ none. target)
says_aimed number stand (Jumps parts label) drafts aimed target = opened_aimed
    (issue_at stand number parts (Some label)) stand.start drafts aimed (λ none. absurd cc)

label_aimed : (label : Option Name) (start : ℕ) (drafts : Drafts) → AreAimed (all_drafts drafts)
    → AreAimed (all_drafts (with_label label start drafts))
label_aimed None start drafts aimed = aimed
label_aimed (Some label) start drafts aimed = new_aimed (all_drafts drafts) (Some label) start aimed

line_aimed : (isa : InstructionSet) (above : List Line) (number : ℕ) (drafts : Drafts) (line : Line) → IsWhole isa line
    → IsFree above drafts line
    → AreAimed (all_drafts drafts) → AreAimed (all_drafts (with_line number (stand_of above line) line drafts))
line_aimed isa above number drafts line whole free aimed =
    let stand = stand_of above line in
    says_aimed number stand line.says (with_label line.label stand.cycle drafts)
    (label_aimed line.label stand.cycle drafts aimed) whole.target

pub blocks_are_aimed : (isa : InstructionSet) (text : List ℕ) → AreAimed (text_cut isa text).drafts
blocks_are_aimed isa = text_kept isa (λ above number drafts. AreAimed (all_drafts drafts)) AreAimed (record {
  first = tt;
  next = line_aimed isa;
  last = λ above number drafts aimed. aimed;
})

-- ---- the block of a label that is there has it

abbrev labels_in : List Draft → List (Option Name)
labels_in drafts = map (λ draft. draft.label) drafts

module _ (label : Name) where
  abbrev first_with : List Draft → ℕ
  first_with drafts = position_or_len (λ draft. label_is label draft.label) drafts

  first_there : (drafts : List Draft) → list_any (λ draft. label_is label draft.label) drafts ≡ true
      → first_with drafts < length drafts
  first_there [] has = absurd cc
  first_there (draft ∷ drafts) has = grind (arith, nat_tests, first_there drafts)

  first_labelled : (drafts : List Draft) → list_any (λ draft. label_is label draft.label) drafts ≡ true
      → is_labelled (slice_get (labels_in drafts) (first_with drafts)) ≡ true
  first_labelled [] has = absurd cc
  first_labelled (draft ∷ drafts) has = grind (arith, nat_tests, first_labelled drafts)

  number_labelled : (drafts : List Draft) → list_any (λ draft. label_is label draft.label) drafts ≡ true
      → is_labelled (slice_get (labels_in drafts) (target_number drafts (Some label))) ≡ true
  number_labelled drafts has =
      let there = first_there drafts has in
      let labelled = first_labelled drafts has in
      grind (arith, nat_tests)

aimed_stands : (drafts : List Draft) (target : Option Name) (operands : Operands)
    → (target ≡ None → names_block operands ≡ false)
    → is_lost drafts target ≡ false
    → target_stands (labels_in drafts) (aimed_operands (target_number drafts target) operands) ≡ true
aimed_stands drafts target (Three a b d) aimed found = refl
aimed_stands drafts target (ConstantFirst k a d) aimed found = refl
aimed_stands drafts target (ConstantSecond a k d) aimed found = refl
aimed_stands drafts target (Two a d) aimed found = refl
aimed_stands drafts target (Field source left right destination) aimed found = refl
aimed_stands drafts target (Constant k d) aimed found = refl
aimed_stands drafts target (Access register base form offset) aimed found = refl
aimed_stands drafts target (Register a) aimed found = refl
aimed_stands drafts None (Block old) aimed found = let free = aimed refl in absurd cc
aimed_stands drafts (Some label) (Block old) aimed found = number_labelled label drafts (grind (arith, nat_tests))

-- ---- the packets

abbrev Stands : List (Option Name) → Placed → Type 0
Stands labels p = target_stands labels (operands_of p.insn) ≡ true

placed_stand : (drafts : List Draft) (issues : List Issue) (placed : List Placed)
    → map part_of placed ≡ map (part_in drafts) issues
    → AllByRecursion IsAimed issues → AllByRecursion (λ issue. is_lost drafts issue.target ≡ false) issues
    → All (Stands (labels_in drafts)) placed
placed_stand drafts issues [] is aimed found = All-nil (Stands (labels_in drafts))
placed_stand drafts [] (p ∷ placed) is aimed found = absurd cc
placed_stand drafts (issue ∷ issues) (p ∷ placed) is aimed found =
    let part : part_of p ≡ part_in drafts issue = cc in
    let others : map part_of placed ≡ map (part_in drafts) issues = cc in
    let operands : operands_of p.insn ≡ aimed_operands (target_number drafts issue.target) issue.parts.operands = ap
    (λ (q : Part). q.parts.operands) part in
    All-cons (Stands (labels_in drafts)) p placed
    (ap (target_stands (labels_in drafts)) operands
    ∙ aimed_stands drafts issue.target issue.parts.operands aimed.0 found.0)
    (placed_stand drafts issues placed others aimed.1 found.1)

all_pass : (test : Placed → Bool) (placed : List Placed) → All (λ p. test p ≡ true) placed → list_all test placed ≡ true
all_pass test [] all = refl
all_pass test (p ∷ placed) all =
    let first = All-head (λ (q : Placed). test q ≡ true) p placed all in
    let rest = all_pass test placed (All-tail (λ (q : Placed). test q ≡ true) p placed all) in
    grind (arith, nat_tests)

block_stands : (drafts : List Draft) (draft : Draft) (block : Packed) → IsBlockOf drafts draft block → IsAimedIn draft
    → AllByRecursion (λ issue. is_lost drafts issue.target ≡ false) draft.issues
    → list_all (λ p. target_stands (labels_in drafts) (operands_of p.insn)) block.placed ≡ true
block_stands drafts draft block is aimed found =
    let own = placed_stand drafts draft.issues is.placed is.stand.parts aimed found in
    all_pass (λ (p : Placed). target_stands (labels_in drafts) (operands_of p.insn)) block.placed
    (All-permutation (Stands (labels_in drafts)) is.placed block.placed is.listed own)

pub same_labels : (whole drafts : List Draft) (packets : List Packed) → AllZip (IsBlockOf whole) drafts packets
    → labels_of packets ≡ labels_in drafts
same_labels whole [] [] zip = refl
same_labels whole [] (block ∷ packets) zip = absurd zip
same_labels whole (draft ∷ drafts) [] zip = absurd zip
same_labels whole (draft ∷ drafts) (block ∷ packets) zip =
    let first = zip.0.label in
    let rest = same_labels whole drafts packets zip.1 in
    cc

all_stand : (drain : Bool) (whole : List Draft) (end : ℕ) (drafts : List Draft) (packets : List Packed)
    → AllZip (IsBlockOf whole) drafts packets
    → AreAimed drafts → AreOver drain whole end drafts
    → list_all (λ block. list_all (λ p. target_stands (labels_in whole) (operands_of p.insn)) block.placed) packets ≡
    true
all_stand drain whole end [] [] zip aimed over = refl
all_stand drain whole end [] (block ∷ packets) zip aimed over = absurd zip
all_stand drain whole end (draft ∷ drafts) [] zip aimed over = absurd zip
all_stand drain whole end (draft ∷ drafts) (block ∷ packets) zip aimed over =
    let first = block_stands whole draft block zip.0 aimed.0 over.0.found in
    let rest = all_stand drain whole end drafts packets zip.1 aimed.1 over.1 in
    grind (arith, nat_tests)

pub packets_closed : (drain : Bool) (drafts : List Draft) (end : ℕ) (packets : List Packed)
    → AllZip (IsBlockOf drafts) drafts packets → AreAimed drafts
    → AreOver drain drafts end drafts → is_closed packets ≡ true
packets_closed drain drafts end packets zip aimed over =
    rw (same_labels drafts drafts packets zip) (all_stand drain drafts end drafts packets zip aimed over)
