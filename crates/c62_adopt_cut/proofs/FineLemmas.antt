-- Blocks of a text keep the limits as lines are added.
use Rattle.std.proofs.Common.{◌≡◌, ◌≤◌, ◌<◌, ◌+◌, ◌-◌, refl, true, false, ltb, ℕ, Bool, List, ◌∷◌, [], length, Option}
use Rattle.std.proofs.Common.{Some, None}
use Rattle.std.proofs.Common.{arith, inl, inr, length-append}
use Rattle.std.specs.Prelude.{is_some, IfSome}
use Rattle.std.specs.List.{AllByRecursion}
use Rattle.std.specs.Option.{option_to_list}
use Rattle.std.proofs.lemmas.Bool.{cases_Bool, eqb-true}
use Rattle.std.proofs.lemmas.Bool.Decides.{nat_tests}
use Rattle.c62_line.specs.Line.{Parts, Says, Nothing, Pause, Does, Jumps}
use Rattle.c62_read.specs.Program.{Name}
use Rattle.c62_read.specs.Walk.{is_instruction}
use Rattle.c62_adopt_line.specs.Line.{Line, line_said}
use Rattle.c62_adopt_line.specs.Laws.{HasUnit, IsOfSet, IsWhole}
use Rattle.c62_op.specs.Units.{is_taken_in}
use Rattle.std.specs.Prelude.{IsTrue}
use Rattle.c62_adopt_cut.specs.declared.clock.Stand.{Stand}
use Rattle.c62_adopt_cut.specs.Cut.{stand_of}
use Rattle.c62_adopt_cut.specs.Blocks.{Issue, Draft, Drafts, add_issue, all_drafts, begins_at, issue_at, new_draft}
use Rattle.c62_adopt_cut.specs.Blocks.{no_drafts, opened, with_block, with_issue, with_line, with_says}
use Rattle.c62_adopt_cut.specs.Text.{begins_one_more, end_of, is_full, is_one_more, is_too_late}
use Rattle.c62_adopt_cut.specs.Laws.{IsPlaced, IsFine, AreFine, BlocksAreFine}
use Rattle.c62_adopt_cut.proofs.KeptLemmas.{IsFree, text_kept}
use Rattle.c62_adopt_cut.proofs.StandLemmas.{alone, labelled_stand, stand_low}
use Rattle.c62_read.proofs.CutLemmas.{all_more}
use Rattle.c62_read.specs.declared.limits.TheConstants.{MOST_BLOCKS, MOST_INSTRUCTIONS}
use Rattle.c62_packet.specs.declared.limits.TheConstants.{MOST_CYCLES}
use Rattle.c62_op.specs.declared.set.InstructionSet.{InstructionSet}

-- ---- blocks

pub record AreFineSoFar (isa : InstructionSet) (drafts : Drafts) : Type 0 where
  pub done : AllByRecursion (IsFine isa) drafts.done
  pub current : IfSome drafts.current (IsFine isa)
  pub few : length (all_drafts drafts) ≤ MOST_BLOCKS

current_listed : (isa : InstructionSet) (current : Option Draft) → IfSome current (IsFine isa)
    → AllByRecursion (IsFine isa) (option_to_list current)
current_listed isa None fine = tt
current_listed isa (Some draft) fine = (fine, tt)

pub all_fine : (isa : InstructionSet) (drafts : Drafts) → AreFineSoFar isa drafts
    → AllByRecursion (IsFine isa) (all_drafts drafts)
all_fine isa drafts fine = all_more (IsFine isa) drafts.done (option_to_list drafts.current) fine.done
    (current_listed isa drafts.current fine.current)

pub none_fine : (isa : InstructionSet) → AreFineSoFar isa no_drafts
none_fine isa = record { done = tt; current = tt; few = omega arith }

new_fine : (isa : InstructionSet) (label : Option Name) (start : ℕ) → IsFine isa (new_draft label start)
new_fine isa label start = record { few = omega arith; placed = tt }

block_fine : (isa : InstructionSet) (label : Option Name) (start : ℕ) (drafts : Drafts) → AreFineSoFar isa drafts
    → length (all_drafts drafts) < MOST_BLOCKS
    → AreFineSoFar isa (with_block label start drafts)
block_fine isa label start drafts fine less =
    record {
      done = all_fine isa drafts fine;
      current = new_fine isa label start;
      few = omega (arith, length-append (all_drafts drafts) (new_draft label start ∷ []));
    }

-- an instruction goes into a block that has room
issue_fine : (isa : InstructionSet) (issue : Issue) (draft : Draft) → IsFine isa draft
    → length draft.issues < MOST_INSTRUCTIONS
    → IsPlaced isa draft.start issue → IsFine isa (with_issue issue draft)
issue_fine isa issue draft fine less placed =
    record {
      few = omega (arith, length-append draft.issues (issue ∷ []));
      placed = all_more (IsPlaced isa draft.start) draft.issues (issue ∷ []) fine.placed (placed, tt);
    }

add_fine : (isa : InstructionSet) (issue : Issue) (start : ℕ) (done : List Draft) (current : Option Draft)
    → AreFineSoFar isa (record { done = done; current = current })
    → begins_at start current ≡ true → is_full current ≡ false → IsPlaced isa start issue
    → AreFineSoFar isa (add_issue issue (record { done = done; current = current }))
add_fine isa issue start done None fine begins room placed = absurd cc
add_fine isa issue start done (Some draft) fine begins room placed =
    let here : draft.start ≡ start = eqb-true draft.start start begins in
    let less : length draft.issues < MOST_INSTRUCTIONS = grind (arith, nat_tests) in
    record {
      done = fine.done;
      current = issue_fine isa issue draft fine.current less (rw here placed);
      few = omega (arith, fine.few, length-append done (draft ∷ []), length-append done (with_issue issue draft ∷ []));
    }

-- ---- a line

placed_at : (isa : InstructionSet) (stand : Stand) (number : ℕ) (parts : Parts) (target : Option Name)
    → stand.start ≤ stand.cycle
    → is_some parts.unit ≡ true → IsTrue (is_taken_in isa parts.op parts.operands)
    → ltb (stand.start + MOST_CYCLES) (end_of parts stand.cycle) ≡ false
    → IsPlaced isa stand.start (issue_at stand number parts target)
placed_at isa stand number parts target low unit of_set late =
    let same : stand.start + (stand.cycle - stand.start) ≡ stand.cycle = omega arith in
    record { unit = unit; of_set = of_set; in_time = rw same (grind (arith, nat_tests)) }

-- an instruction, where blocks may be begun or the open one has room
opened_fine : (isa : InstructionSet) (issue : Issue) (start : ℕ) (drafts : Drafts) → AreFineSoFar isa drafts
    → IsPlaced isa start issue
    → (begins_at start drafts.current ≡ true → is_full drafts.current ≡ false)
    → (begins_at start drafts.current ≡ false → length (all_drafts drafts) < MOST_BLOCKS)
    → AreFineSoFar isa (add_issue issue (opened start drafts))
opened_fine isa issue start drafts fine placed room less = elim (cases_Bool (begins_at start drafts.current)) [
  | inl begins ↦ rw begins (add_fine isa issue start drafts.done drafts.current fine begins (room begins) placed)
  | inr other ↦
      rw other (add_fine isa issue start (all_drafts drafts) (Some (new_draft None start))
      (block_fine isa None start drafts fine (less other))
      (grind (arith, nat_tests)) refl placed)
]

-- its unit is written, and it is an instruction of the set
abbrev Fits : InstructionSet → Says → Type 0
Fits isa says = HasUnit says × IsOfSet isa says

says_fine : (isa : InstructionSet) (number : ℕ) (stand : Stand) (says : Says) (drafts : Drafts)
    → AreFineSoFar isa drafts
    → stand.start ≤ stand.cycle → Fits isa says
    → is_too_late stand says ≡ false
    → (is_instruction says ≡ true → begins_at stand.start drafts.current ≡ true → is_full drafts.current ≡ false)
    → (is_instruction says ≡ true → begins_at stand.start drafts.current ≡ false
    → length (all_drafts drafts) < MOST_BLOCKS)
    → AreFineSoFar isa (with_says number stand says drafts)
says_fine isa number stand Nothing drafts fine low unit late room less = fine
says_fine isa number stand (Pause n) drafts fine low unit late room less = fine
says_fine isa number stand (Does parts) drafts fine low unit late room less =
    opened_fine isa (issue_at stand number parts None) stand.start drafts fine
    (placed_at isa stand number parts None low unit.0 unit.1 late) (room refl) (less refl)
says_fine isa number stand (Jumps parts target) drafts fine low unit late room less =
    opened_fine isa (issue_at stand number parts (Some target)) stand.start drafts fine
    (placed_at isa stand number parts (Some target) low unit.0 unit.1 late) (room refl) (less refl)

labelled_fine : (isa : InstructionSet) (number : ℕ) (stand : Stand) (beside : Bool) (label : Option Name) (says : Says)
    (drafts : Drafts)
    → AreFineSoFar isa drafts
    → stand.start ≤ stand.cycle → Fits isa says → is_too_late stand says ≡ false
    → is_one_more stand (line_said beside label says) drafts ≡ false
    → begins_one_more stand (line_said beside label says) drafts ≡ false
    → (is_some label ≡ true → stand.start ≡ stand.cycle)
    → AreFineSoFar isa (with_line number stand (line_said beside label says) drafts)
labelled_fine isa number stand beside None says drafts fine low unit late more blocks labelled =
    says_fine isa number stand says drafts fine low unit late (λ instruction begins. grind (arith, nat_tests))
    (λ instruction begins. grind (arith, nat_tests))
labelled_fine isa number stand beside (Some label) says drafts fine low unit late more blocks labelled =
    let same = labelled refl in
    let less : length (all_drafts drafts) < MOST_BLOCKS = grind (arith, nat_tests) in
    says_fine isa number stand says (with_block (Some label) stand.cycle drafts)
    (block_fine isa (Some label) stand.cycle drafts fine less) low unit late
    (λ instruction begins. grind (arith, nat_tests)) (λ instruction begins. absurd (grind (arith, nat_tests)))

-- ---- a text

line_fine : (isa : InstructionSet) (above : List Line) (number : ℕ) (drafts : Drafts) (line : Line) → IsWhole isa line
    → IsFree above drafts line
    → AreFineSoFar isa drafts → AreFineSoFar isa (with_line number (stand_of above line) line drafts)
line_fine isa above number drafts line whole free fine =
    labelled_fine isa number (stand_of above line) line.beside line.label line.says drafts fine (stand_low above line)
    (whole.unit, whole.of_set) free.late free.more
    free.blocks (λ labelled. labelled_stand above line labelled (alone line.beside line.label labelled whole.beside))

pub blocks_are_fine : (isa : InstructionSet) (text : List ℕ) → BlocksAreFine isa text
blocks_are_fine isa = text_kept isa (λ above number drafts. AreFineSoFar isa drafts) (AreFine isa) (record {
  first = none_fine isa;
  next = line_fine isa;
  last = λ above number drafts fine. record { few = fine.few; fine = all_fine isa drafts fine };
})
