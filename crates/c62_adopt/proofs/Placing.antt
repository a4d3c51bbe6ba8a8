-- Instructions of a text where they are placed.
use Rattle.std.proofs.Common.{arith, ◌≡◌, ℕ, ◌<◌, ◌≤◌, List, [], ◌∷◌, length, map, refl, sym, ap, ◌∙◌}
use Rattle.std.specs.List.{position}
use Rattle.std.proofs.lemmas.Bool.Decides.{nat_tests}
use Rattle.std.proofs.lemmas.List.{length-map}
use Rattle.c62_read.specs.Program.{Name, label_is}
use Rattle.c62_read.proofs.BlockLemmas.{position_map}
use Rattle.c62_adopt_cut.specs.declared.draft.Draft.{Draft as DraftRead}
use Rattle.c62_adopt_cut.specs.Blocks.{Draft, Issue}
use Rattle.std.specs.Prelude.{All}
use Rattle.std.proofs.lemmas.List.Elements.{All-nil, All-cons, All-tail}
use Rattle.std.proofs.lemmas.List.Sorted.{IsPermutation-sym, length_permutation, All-permutation}
use Rattle.c62_rules.specs.PacketRules.{KeepsPacketRules}
use Rattle.c62_packet.specs.declared.placed.Placed.{Placed}
use Rattle.c62_packet.specs.declared.fault.PacketRule.{PacketRule}
use Rattle.c62_packet.specs.Packed.{issued}
use Rattle.c62_packet.specs.Fault.{IsFirstBroken}
use Rattle.c62_listing_reader.specs.Said.{Part, part_of}
use Rattle.c62_adopt.specs.Blocks.{part_in, AreOf}
use Rattle.c62_adopt.proofs.Orders.{rules_same, broken_same}
use Rattle.c62_adopt.specs.Judged.{MayStand, AreListed, AreLawful, KeepRules, BreakFirst}
use Rattle.c62_adopt_cut.specs.declared.draft.Issue.{Issue as IssueRead}
use Rattle.std.specs.List.{AllByRecursion}
use Rattle.c62_adopt_cut.specs.Laws.{IsPlaced, IsFine}
use Rattle.c62_adopt_cut.specs.Drafted.{issue_of, draft_of}
use Rattle.c62_packet.specs.declared.limits.TheConstants.{MOST_CYCLES}
use Rattle.c62_read.specs.declared.limits.TheConstants.{MOST_INSTRUCTIONS}
use Rattle.c62_op.specs.declared.set.InstructionSet.{InstructionSet}

-- ---- the number of a label

-- the number of the first block with this label, of the blocks as they are read
pub number_in : (label : Name) (drafts : List DraftRead)
    → position (λ (draft : Draft). label_is label draft.label) (map draft_of drafts) ≡ position
    (λ (draft : DraftRead). label_is label draft.label) drafts
number_in label drafts =
    rw (position_map (λ (draft : Draft). label_is label draft.label) draft_of drafts, length-map drafts draft_of) refl

-- ---- each instruction is placed

pub as_many : (drafts : List Draft) (issues : List Issue) (placed : List Placed) → AreOf drafts issues placed
    → length placed ≡ length issues
as_many drafts issues placed are =
    sym (length-map placed part_of) ∙ ap length are.parts ∙ length-map issues (part_in drafts)

short_by : (drafts : List Draft) (issues : List Issue) (placed : List Placed)
    → map part_of placed ≡ map (part_in drafts) issues → All MayStand issues
    → All (λ p. p.cycle < MOST_CYCLES) placed
short_by drafts issues [] same stand = All-nil (λ (p : Placed). p.cycle < MOST_CYCLES)
short_by drafts [] (p ∷ placed) same stand = absurd cc
short_by drafts (issue ∷ issues) (p ∷ placed) same stand =
    let part : part_of p ≡ part_in drafts issue = cc in
    let here : p.cycle ≡ issue.cycle = ap (λ (q : Part). q.cycle) part in
    let others : map part_of placed ≡ map (part_in drafts) issues = cc in
    let first = stand 0 issue (omega arith) in
    All-cons (λ (q : Placed). q.cycle < MOST_CYCLES) p placed (omega (arith, here, first.short))
    (short_by drafts issues placed others (All-tail MayStand issue issues stand))

-- in a cycle that a block may have
pub all_short : (drafts : List Draft) (issues : List Issue) (placed : List Placed) → AreOf drafts issues placed
    → All MayStand issues
    → All (λ p. p.cycle < MOST_CYCLES) placed
all_short drafts issues placed are stand = short_by drafts issues placed are.parts stand

-- ---- and listed

pub as_many_listed : (drafts : List Draft) (issues : List Issue) (listed : List Placed) → AreListed drafts issues listed
    → length listed ≡ length issues
as_many_listed drafts issues listed are =
    length_permutation are.placed listed are.same ∙ as_many drafts issues are.placed are.stand

pub listed_short : (drafts : List Draft) (issues : List Issue) (listed : List Placed) → AreListed drafts issues listed
    → All MayStand issues
    → All (λ p. p.cycle < MOST_CYCLES) listed
listed_short drafts issues listed are stand =
    All-permutation (λ (p : Placed). p.cycle < MOST_CYCLES) are.placed listed are.same
    (all_short drafts issues are.placed are.stand stand)

pub found_rule : (drafts : List Draft) (issues : List Issue) (listed : List Placed) → AreListed drafts issues listed
    → (cycle : ℕ) (rule : PacketRule)
    → IsFirstBroken cycle rule listed → BreakFirst drafts issues rule
found_rule drafts issues listed are cycle rule is = record {
  placed = are.placed;
  stand = are.stand;
  cycle = cycle;
  broken = broken_same listed are.placed (IsPermutation-sym are.placed listed are.same) cycle rule is;
}

pub kept_as_written : (drafts : List Draft) (issues : List Issue) (listed : List Placed)
    (lawful : AreLawful drafts issues listed) → KeepsPacketRules (issued lawful.are.placed)
kept_as_written drafts issues listed lawful =
    let are = lawful.are in rules_same listed are.placed (IsPermutation-sym are.placed listed are.same) lawful.kept

pub lawful_keep : (drafts : List Draft) (issues : List Issue) (listed : List Placed) → AreLawful drafts issues listed
    → KeepRules drafts issues
lawful_keep drafts issues listed lawful = record {
  placed = lawful.are.placed;
  stand = lawful.are.stand;
  kept = kept_as_written drafts issues listed lawful;
}

-- ---- what is fine may stand

issue_stands : (isa : InstructionSet) (start : ℕ) (issue : Issue) → IsPlaced isa start issue → MayStand issue
issue_stands isa start issue placed =
    let in_time = placed.in_time in record { unit = placed.unit; short = grind (arith, nat_tests) }

stand_by : (isa : InstructionSet) (start : ℕ) (issues : List IssueRead)
    → AllByRecursion (IsPlaced isa start) (map issue_of issues)
    → All (λ issue. MayStand (issue_of issue)) issues
stand_by isa start [] fine = All-nil (λ (issue : IssueRead). MayStand (issue_of issue))
stand_by isa start (issue ∷ issues) fine =
    All-cons (λ (other : IssueRead). MayStand (issue_of other)) issue issues
    (issue_stands isa start (issue_of issue) fine.0) (stand_by isa start issues fine.1)

pub fine_stand : (isa : InstructionSet) (draft : DraftRead) → IsFine isa (draft_of draft)
    → All (λ issue. MayStand (issue_of issue)) draft.issues.items
fine_stand isa draft fine = stand_by isa draft.start draft.issues.items fine.placed

pub fine_few : (isa : InstructionSet) (draft : DraftRead) → IsFine isa (draft_of draft)
    → length draft.issues.items ≤ MOST_INSTRUCTIONS
fine_few isa draft fine = let few = fine.few in omega (arith, few, length-map draft.issues.items issue_of)
