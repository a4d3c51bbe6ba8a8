-- What holds of what is read of every text (docs/ADOPT.md, "Limits", "Names", "Faults of a text" and "Cycles that lack").
use Rattle.std.specs.Prelude.{◌≡◌, ◌↔◌, ℕ, ◌+◌, ◌<◌, ◌≤◌, Bool, true, false, List, [], ◌∷◌, length, map, count_by, None, is_some, IsTrue}
use Rattle.std.specs.List.{AllByRecursion, IsDistinct, flat_map, list_any}
use Rattle.std.specs.List.Sorted.{IsNonDecreasingBy}
use Rattle.std.specs.Option.{option_to_list}
use Rattle.std.specs.Str.{bytes_eq}
use Rattle.c62_op.specs.Units.{is_taken_in}
use Rattle.c62_token.specs.Number.{is_label}
use Rattle.c62_read.specs.Program.{Name}
use Rattle.c62_read.specs.declared.limits.TheConstants.{MOST_BLOCKS, MOST_INSTRUCTIONS}
use Rattle.c62_packet.specs.declared.limits.TheConstants.{MOST_CYCLES}
use Rattle.c62_adopt_cut.specs.Blocks.{Issue, Draft}
use Rattle.c62_adopt_cut.specs.Text.{Cut, end_of, text_cut}
use Rattle.c62_adopt_cut.specs.Flight.{branches, is_lost, lacking, next_start, next_drained, over_in, first_in_flight, cycles_lacking}
use Rattle.c62_op.specs.declared.set.InstructionSet.{InstructionSet}

-- ---- limits

-- the instruction is one of the set, has its unit written, and is not in flight behind the last cycle that its block may have
pub record IsPlaced (isa : InstructionSet) (start : ℕ) (issue : Issue) : Type 0 where
  pub unit : is_some issue.parts.unit ≡ true
  pub of_set : IsTrue (is_taken_in isa issue.parts.op issue.parts.operands)
  pub in_time : end_of issue.parts (start + issue.cycle) ≤ start + MOST_CYCLES

-- few instructions, all of them placed
pub record IsFine (isa : InstructionSet) (draft : Draft) : Type 0 where
  pub few : length draft.issues ≤ MOST_INSTRUCTIONS
  pub placed : AllByRecursion (IsPlaced isa draft.start) draft.issues

-- few blocks, all of them fine
pub record AreFine (isa : InstructionSet) (drafts : List Draft) : Type 0 where
  pub few : length drafts ≤ MOST_BLOCKS
  pub fine : AllByRecursion (IsFine isa) drafts

abbrev pub BlocksAreFine : InstructionSet → List ℕ → Type 0
BlocksAreFine isa text = AreFine isa (text_cut isa text).drafts

-- ---- names

-- the labels that blocks have
abbrev pub labels_given : List Draft → List Name
labels_given drafts = flat_map option_to_list (map (λ draft. draft.label) drafts)

-- labels of which no two are the same, and instructions in each block without one
pub record AreNamed (drafts : List Draft) : Type 0 where
  pub labels : AllByRecursion (λ label. IsTrue (is_label label)) (labels_given drafts)
  pub distinct : IsDistinct bytes_eq (labels_given drafts)
  pub begun : AllByRecursion (λ draft. draft.label ≡ None → 0 < length draft.issues) drafts

abbrev pub BlocksAreNamed : InstructionSet → List ℕ → Type 0
BlocksAreNamed isa text = AreNamed (text_cut isa text).drafts

-- ---- order

-- further down stand later instructions: of no lower line, and in no earlier cycle
pub record IsInOrder (draft : Draft) : Type 0 where
  pub lines : IsNonDecreasingBy (λ issue. issue.line) draft.issues
  pub cycles : IsNonDecreasingBy (λ issue. issue.cycle) draft.issues

abbrev pub BlocksAreInOrder : InstructionSet → List ℕ → Type 0
BlocksAreInOrder isa text = AllByRecursion IsInOrder (text_cut isa text).drafts

-- ---- nothing is in flight where a block is over

-- Of a block, where the next one or the text's end is in this cycle: all lands before it is over, it has one branch at most, and
-- each branch to a label goes to one of the blocks.
pub record IsOver (whole : List Draft) (next : ℕ) (draft : Draft) : Type 0 where
  pub drained : AllByRecursion (λ issue. end_of issue.parts (draft.start + issue.cycle) ≤ over_in next draft) draft.issues
  pub one_branch : count_by branches draft.issues ≤ 1
  pub found : AllByRecursion (λ issue. is_lost whole issue.target ≡ false) draft.issues

-- so it is of all blocks of a text that ends in this cycle, with the cycles added that lack or without them
abbrev pub AreOver : Bool → List Draft → ℕ → List Draft → Type 0
AreOver drain whole end [] = Unit {0}
AreOver drain whole end (draft ∷ drafts) = IsOver whole (next_drained drain (next_start end drafts) draft) draft × AreOver drain whole end drafts

abbrev pub CutIsOver : Bool → Cut → Type 0
CutIsOver drain cut = AreOver drain cut.drafts cut.cycles cut.drafts

-- where no instruction has a fault because of the lines below it, all blocks are over
abbrev pub BlocksAreOver : Bool → Cut → Type 0
BlocksAreOver drain cut = first_in_flight drain cut ≡ None → CutIsOver drain cut

-- nothing is in flight as the text stands exactly where nothing is in flight once it is drained, and no cycles lack for that
abbrev pub LacksNoneWhereOver : Cut → Type 0
LacksNoneWhereOver cut = (first_in_flight false cut ≡ None) ↔ ((first_in_flight true cut ≡ None) × (cycles_lacking cut ≡ 0))

-- ---- the cycles that lack are enough, and no fewer are

-- With the cycles added that lack, all has landed before a block without a branch is over; with fewer, something is in flight.
pub record IsJustDrained (next : ℕ) (draft : Draft) : Type 0 where
  pub enough : list_any branches draft.issues ≡ false
      → AllByRecursion (λ issue. end_of issue.parts (draft.start + issue.cycle) ≤ over_in (next_drained true next draft) draft) draft.issues
  pub least : (fewer : ℕ) → fewer < lacking next draft
      → AllByRecursion (λ issue. end_of issue.parts (draft.start + issue.cycle) ≤ next + fewer) draft.issues → ⊥
