-- The blocks that a listing shows whole are good to read.
use Rattle.c62_adopt_back.proofs.Common.{nat_tests, arith, ◌≡◌, ℕ, ◌+◌, ◌≤◌, List, [], ◌∷◌, ◌++◌, Bool, true, false}
use Rattle.c62_adopt_back.proofs.Common.{None, refl, sym, ◌∙◌, subst}
use Rattle.c62_adopt_back.proofs.Common.{append_assoc, ◌||◌, if◌then◌else◌, All, All-tail, AllByRecursion, Name, op_of}
use Rattle.c62_adopt_back.proofs.Common.{Placed, Packed, IsPacketBlock}
use Rattle.c62_adopt_back.proofs.Common.{is_branch, is_branching_placed, issue_of, name_in, IsWritable}
use Rattle.std.specs.Prelude.{count_by}
use Rattle.std.specs.List.{IsDistinct, find}
use Rattle.std.specs.Option.{option_map_or}
use Rattle.std.specs.Str.{bytes_eq}
use Rattle.std.proofs.lemmas.Bool.{true≢false}
use Rattle.std.proofs.lemmas.List.Sums.{sum_by-cons}
use Rattle.c62_rules.specs.Length.{landing_end, last_landing_end}
use Rattle.c62_rules.specs.PacketRules.{Issue}
use Rattle.c62_packet.specs.Packed.{AreDrained, issues_of}
use Rattle.c62_packet.specs.Packets.{labels_of}
use Rattle.c62_listing_reader.specs.Laws.{AreShown}
use Rattle.c62_listing_reader.proofs.LinesLemmas.{given}
use Rattle.c62_listing_reader.proofs.ReadBackLemmas.{IsFit, all_writable, free_by, order_by}
use Rattle.c62_adopt_back.specs.Laws.{AreParted, ArePartedBehind}
use Rattle.c62_adopt_back.proofs.Cycles.{BranchOnce, IsListed, branched_behind}
use Rattle.c62_adopt_back.proofs.Walk.{AllGood}
use Rattle.c62_op.specs.declared.set.InstructionSet.{InstructionSet}

-- ---- the branch of a block

abbrev counted : Bool → ℕ
counted b = if b then 1 else 0

once_by : (branched : Bool) (placed : List Placed) → counted branched + count_by is_branching_placed placed ≤ 1
    → BranchOnce branched placed
unfolding BranchOnce
once_by branched [] few = tt
once_by branched (p ∷ placed) few =
    let more = sum_by-cons (λ (q : Placed). if is_branching_placed q then 1 else 0) p placed in (
      λ here. grind (arith, nat_tests, more),
      once_by (branched || is_branching_placed p) placed (grind (arith, nat_tests, more)),
    )

branched_by : (branched : Bool) (placed : List Placed) → 1 ≤ counted branched + count_by is_branching_placed placed
    → branched_behind branched placed ≡ true
unfolding branched_behind
branched_by branched [] some = grind (arith, nat_tests)
branched_by branched (p ∷ placed) some =
    let more = sum_by-cons (λ (q : Placed). if is_branching_placed q then 1 else 0) p placed in
    branched_by (branched || is_branching_placed p) placed (grind (arith, nat_tests, more))

-- where a block is over, whose branch is the first of these, if one is, or else in this cycle
abbrev over_behind : ℕ → List Placed → ℕ
over_behind end placed = option_map_or (λ branch. branch.cycle + 6)
    (find (λ (p : Issue). is_branch (op_of p.insn)) (issues_of placed)) end

no_more : (cycles : ℕ) (placed : List Placed) → BranchOnce true placed
    → AllByRecursion (λ p. is_branching_placed p ≡ true → cycles ≡ p.cycle + 6) placed
unfolding BranchOnce
no_more cycles [] once = tt
no_more cycles (p ∷ placed) once = (λ here. absurd (true≢false (once.0 here)), no_more cycles placed once.1)

last_or : (b : Bool) (cycles end : ℕ) (p : Placed) (placed : List Placed) → is_branching_placed p ≡ b
    → cycles ≡ over_behind end (p ∷ placed)
    → BranchOnce b placed
    → (cycles ≡ over_behind end placed → BranchOnce false placed
    → AllByRecursion (λ q. is_branching_placed q ≡ true → cycles ≡ q.cycle + 6) placed)
    → AllByRecursion (λ q. is_branching_placed q ≡ true → cycles ≡ q.cycle + 6) (p ∷ placed)
last_or true cycles end p placed here is once others = (λ _. rw here at is, no_more cycles placed once)
last_or false cycles end p placed here is once others =
    (λ other. absurd (true≢false (sym other ∙ here)), others (rw here at is) once)

lasts : (cycles end : ℕ) (placed : List Placed) → cycles ≡ over_behind end placed → BranchOnce false placed
    → AllByRecursion (λ p. is_branching_placed p ≡ true → cycles ≡ p.cycle + 6) placed
unfolding BranchOnce
lasts cycles end [] is once = tt
lasts cycles end (p ∷ placed) is once =
    last_or (is_branching_placed p) cycles end p placed refl is once.1 (λ at none. lasts cycles end placed at none)

-- ---- a block

listed_by : (isa : InstructionSet) (name : ℕ → Name) (cycles : ℕ) (placed : List Placed)
    → All (IsWritable isa name) placed
    → AreDrained cycles placed
    → AllByRecursion (λ p. is_branching_placed p ≡ true → cycles ≡ p.cycle + 6) placed
    → AllByRecursion (IsListed isa name cycles) placed
listed_by isa name cycles [] writable drained last = tt
listed_by isa name cycles (p ∷ placed) writable drained last = (
  record { writable = writable 0 p (omega arith); fits = record { ends = drained 0 p (omega arith); last = last.0 } },
  listed_by isa name cycles placed (All-tail (IsWritable isa name) p placed writable)
      (All-tail (λ (q : Placed). landing_end (issue_of q) ≤ cycles) p placed drained) last.1,
)

pub branch_once : (block : Packed) → IsPacketBlock block → BranchOnce false block.placed
branch_once block is = once_by false block.placed (omega (arith, is.one_branch))

pub all_listed : (isa : InstructionSet) (name : ℕ → Name) (block : Packed) → IsPacketBlock block
    → All (IsWritable isa name) block.placed
    → AllByRecursion (IsListed isa name block.cycles) block.placed
all_listed isa name block is writable =
    listed_by isa name block.cycles block.placed writable is.drained
    (lasts block.cycles (last_landing_end (issues_of block.placed)) block.placed is.own_length (branch_once block is))

-- ---- all blocks

-- the first of these begins at a cut or has a label, and the others do behind it
AreCutBehind : Bool → List Packed → Type 0
AreCutBehind cut [] = Unit {0}
AreCutBehind cut (block ∷ blocks) = (block.label ≡ None → cut ≡ true) × ArePartedBehind block blocks

cut_behind : (block : Packed) (blocks : List Packed) → ArePartedBehind block blocks
    → AreCutBehind (branched_behind false block.placed) blocks
unfolding AreCutBehind
cut_behind block [] parted = tt
cut_behind block (next ∷ blocks) parted =
    (λ none. branched_by false block.placed (omega (arith, parted.0 none)), parted.1)

module _ (isa : InstructionSet) (packets : List Packed) (shown : AreShown isa packets) where
  good : (passed blocks : List Packed) (cut : Bool) → IsDistinct bytes_eq (given (labels_of (passed ++ blocks)))
      → AllByRecursion (IsFit isa packets shown) blocks → AreCutBehind cut blocks
      → AllGood isa (name_in packets) passed cut blocks
  unfolding AllGood AreCutBehind
  good passed [] cut distinct fits parted = tt
  good passed (block ∷ blocks) cut distinct fits parted =
      let fit = fits.0 in (
        record {
          label = fit.label;
          free = λ label is. free_by isa packets shown passed blocks block label distinct is;
          begun = fit.begun;
          parted = parted.0;
          listed = all_listed isa (name_in packets) block fit.is (all_writable isa packets shown block fit);
          order = order_by isa packets shown block.placed fit.is.in_order;
          once = branch_once block fit.is;
          few = fit.is.few;
          short = fit.is.short;
        },
        good (passed ++ block ∷ []) blocks (branched_behind false block.placed)
            (subst (λ (bs : List Packed). IsDistinct bytes_eq (given (labels_of bs)))
            (sym (append_assoc passed (block ∷ []) blocks)) distinct)
            fits.1 (cut_behind block blocks parted.1),
      )

  start_cut : (blocks : List Packed) → AreParted blocks → AreCutBehind true blocks
  unfolding AreCutBehind
  start_cut [] parted = tt
  start_cut (block ∷ blocks) parted = (λ none. refl, parted)

  pub all_good : AllByRecursion (IsFit isa packets shown) packets → AreParted packets
      → AllGood isa (name_in packets) [] true packets
  all_good fits parted = good [] packets true shown.distinct fits (start_cut packets parted)
