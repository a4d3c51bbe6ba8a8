-- The instructions of a sound block make a packet block.
use Rattle.std.proofs.Common.{arith, ◌≡◌, ℕ, ◌≤◌, ◌+◌, min, cond, List, [], ◌∷◌, map, refl, sym, ap, subst, ◌∙◌, inl}
use Rattle.std.proofs.Common.{inr, Option, Some, None}
use Rattle.std.specs.Prelude.{All, count_by, find, option_map}
use Rattle.std.specs.List.{AllByRecursion}
use Rattle.std.specs.Option.{option_map_or}
use Rattle.std.proofs.lemmas.Bool.{cases_Bool}
use Rattle.std.proofs.lemmas.List.Elements.{All-nil, All-cons, All-head, All-tail, All-weaker}
use Rattle.std.proofs.lemmas.List.Sorted.{IsPermutation-map, All-permutation, sum_by-IsPermutation}
use Rattle.std.proofs.lemmas.List.Sums.{sum_by-cons}
use Rattle.c62_op.specs.declared.operands.Op.{Op}
use Rattle.c62_op.specs.declared.operands.Operands.{Operands}
use Rattle.c62_op.specs.declared.operands.Operands.TheVariants.{Three, ConstantFirst, ConstantSecond, Two, Field}
use Rattle.c62_op.specs.declared.operands.Operands.TheVariants.{Constant, Access, Block, Register}
use Rattle.c62_op.specs.Shape.{is_branch, writes_of}
use Rattle.c62_insn.specs.Insn.{op_of, unit_of, aimed_operands}
use Rattle.c62_insn.proofs.InsnLemmas.{delay_short}
use Rattle.c62_line.specs.Line.{Parts, parts_of}
use Rattle.c62_rules.specs.PacketRules.{Issue as RuleIssue}
use Rattle.c62_rules.specs.Length.{landing_end, last_landing_end, length_of}
use Rattle.c62_rules.proofs.Lengths.{any-order-length}
use Rattle.c62_packet.specs.declared.placed.Placed.{Placed}
use Rattle.c62_packet.specs.Packed.{Packed, packed_of, issue_of, issues_of, is_branching, HaveOneBranch}
use Rattle.c62_packet.specs.Packed.{AreDrained, IsPacketBlock}
use Rattle.c62_listing_reader.specs.Said.{Part, part_of, aimed_parts}
use Rattle.c62_adopt_cut.specs.Blocks.{Draft, Issue}
use Rattle.c62_adopt_cut.specs.Text.{end_of}
use Rattle.c62_adopt_cut.specs.Flight.{branches, over_in}
use Rattle.c62_adopt_cut.specs.Laws.{IsPlaced, IsOver}
use Rattle.c62_read.specs.Program.{Name}
use Rattle.c62_adopt.specs.Blocks.{target_number, part_in, AreOf, IsBlockOf}
use Rattle.c62_adopt.specs.Judged.{AreListed, AreLawful}
use Rattle.c62_adopt.specs.Packing.{IsSound}
use Rattle.c62_adopt.proofs.Placing.{as_many_listed}
use Rattle.c62_packet.specs.declared.limits.TheConstants.{MOST_CYCLES}
use Rattle.c62_op.specs.declared.set.InstructionSet.{InstructionSet}

-- ---- when an instruction ends

aimed_writes : (op : Op) (operands : Operands) (number : ℕ)
    → writes_of op (aimed_operands number operands) ≡ writes_of op operands
aimed_writes op (Three a b d) number = refl
aimed_writes op (ConstantFirst k a d) number = refl
aimed_writes op (ConstantSecond a k d) number = refl
aimed_writes op (Two a d) number = refl
aimed_writes op (Field source left right destination) number = refl
aimed_writes op (Constant k d) number = refl
aimed_writes op (Access register base form offset) number = refl
aimed_writes op (Block old) number = refl
aimed_writes op (Register a) number = refl

aimed_end : (parts : Parts) (number cycle : ℕ) → end_of (aimed_parts number parts) cycle ≡ end_of parts cycle
aimed_end parts number cycle = rw (aimed_writes parts.op parts.operands number) refl

-- cycles that are counted from an earlier one
end_moved : (parts : Parts) (start cycle : ℕ) → end_of parts (start + cycle) ≡ start + end_of parts cycle
end_moved parts start cycle = elim (cases_Bool (is_branch parts.op)) [
  | inl branch ↦ rw branch (omega arith)
  | inr other ↦ rw other (omega arith)
]

abbrev pub end_at : Placed → ℕ
end_at p = end_of (parts_of p.insn) p.cycle

placed_end : (drafts : List Draft) (issue : Issue) (p : Placed) → part_of p ≡ part_in drafts issue
    → end_at p ≡ end_of issue.parts issue.cycle
placed_end drafts issue p is =
    ap (λ (part : Part). end_of part.parts part.cycle) is
    ∙ aimed_end issue.parts (target_number drafts issue.target) issue.cycle

-- where all of a block's instructions end in these cycles of the text, so do they where they are placed
pub ends_by : (drafts : List Draft) (start limit most : ℕ) (issues : List Issue) (placed : List Placed)
    → map part_of placed ≡ map (part_in drafts) issues
    → limit ≤ start + most → AllByRecursion (λ issue. end_of issue.parts (start + issue.cycle) ≤ limit) issues
    → All (λ p. end_at p ≤ most) placed
ends_by drafts start limit most issues [] is within ends = All-nil (λ (p : Placed). end_at p ≤ most)
ends_by drafts start limit most [] (p ∷ placed) is within ends = absurd cc
ends_by drafts start limit most (issue ∷ issues) (p ∷ placed) is within ends =
    let part : part_of p ≡ part_in drafts issue = cc in
    let others : map part_of placed ≡ map (part_in drafts) issues = cc in
    let here = placed_end drafts issue p part in
    let moved = end_moved issue.parts start issue.cycle in
    let first = ends.0 in
    All-cons (λ (q : Placed). end_at q ≤ most) p placed (omega (arith, here, moved, first))
    (ends_by drafts start limit most issues placed others within ends.1)

-- ---- what lands

-- no instruction lands behind its end
lands_by : (p : Placed) → landing_end (issue_of p) ≤ end_at p
lands_by p = elim (cases_Bool (is_branching p)) [
  | inl branch ↦ let short = delay_short p.insn in rw branch (omega (arith, short))
  | inr other ↦ rw other (omega arith)
]

pub all_land : (most : ℕ) (placed : List Placed) → All (λ p. end_at p ≤ most) placed → AreDrained most placed
all_land most placed ends =
    All-weaker (λ (p : Placed). end_at p ≤ most) (λ (p : Placed). landing_end (issue_of p) ≤ most)
    (λ p h. let lands = lands_by p in omega (arith, h, lands)) placed ends

last_by : (most : ℕ) (placed : List Placed) → AreDrained most placed → last_landing_end (issues_of placed) ≤ most
last_by most [] lands = omega arith
last_by most (p ∷ placed) lands =
    let first : landing_end (issue_of p) ≤ most = All-head (λ (q : Placed). landing_end (issue_of q) ≤ most) p placed
    lands in
    let rest = last_by most placed (All-tail (λ (q : Placed). landing_end (issue_of q) ≤ most) p placed lands) in
    omega (arith, first, rest)

each_lands : (placed : List Placed) → AreDrained (last_landing_end (issues_of placed)) placed
each_lands [] = All-nil (λ (p : Placed). landing_end (issue_of p) ≤ 0)
each_lands (p ∷ placed) =
    let last : ℕ = last_landing_end (issues_of (p ∷ placed)) in
    All-cons (λ (q : Placed). landing_end (issue_of q) ≤ last) p placed (omega arith)
    (All-weaker (λ (q : Placed). landing_end (issue_of q) ≤ last_landing_end (issues_of placed))
    (λ (q : Placed). landing_end (issue_of q) ≤ last)
    (λ q h. omega (arith, h)) placed (each_lands placed))

-- ---- the length

abbrev branch_in : List Placed → Option RuleIssue
branch_in placed = find (λ p. is_branch (op_of p.insn)) (issues_of placed)

branch_ends : (most other : ℕ) (placed : List Placed) → other ≤ most → All (λ p. end_at p ≤ most) placed
    → option_map_or (λ (b : RuleIssue). b.cycle + 6) (branch_in placed) other ≤ most
branch_ends most other [] less ends = less
branch_ends most other (p ∷ placed) less ends = elim (cases_Bool (is_branching p)) [
  | inl branch ↦
      let first : end_at p ≤ most = All-head (λ (q : Placed). end_at q ≤ most) p placed ends in
      let six : end_at p ≡ p.cycle + 6 = rw branch refl in
      rw branch (omega (arith, first, six))
  | inr other_one ↦ rw other_one
      (branch_ends most other placed less (All-tail (λ (q : Placed). end_at q ≤ most) p placed ends))
]

pub length_within : (most : ℕ) (placed : List Placed) → All (λ p. end_at p ≤ most) placed
    → length_of (issues_of placed) ≤ most
length_within most placed ends =
    branch_ends most (last_landing_end (issues_of placed)) placed (last_by most placed (all_land most placed ends)) ends

-- ---- branches

pub same_branches : (drafts : List Draft) (issues : List Issue) (placed : List Placed)
    → map part_of placed ≡ map (part_in drafts) issues
    → count_by is_branching placed ≡ count_by branches issues
same_branches drafts [] [] is = refl
same_branches drafts [] (p ∷ placed) is = absurd cc
same_branches drafts (issue ∷ issues) [] is = absurd cc
same_branches drafts (issue ∷ issues) (p ∷ placed) is =
    let part : part_of p ≡ part_in drafts issue = cc in
    let others : map part_of placed ≡ map (part_in drafts) issues = cc in
    let here : is_branching p ≡ branches issue = ap (λ (q : Part). is_branch q.parts.op) part in
    let one = sum_by-cons (λ (q : Placed). cond (is_branching q) 1 0) p placed in
    let two = sum_by-cons (λ (i : Issue). cond (branches i) 1 0) issue issues in
    let rest = same_branches drafts issues placed others in
    let same : cond {A = ℕ} (is_branching p) 1 0 ≡ cond (branches issue) 1 0 = rw here refl in
    omega (arith, one, two, rest, same)

-- the first branch is in the same cycle
same_cycle : (drafts : List Draft) (issues : List Issue) (placed : List Placed)
    → map part_of placed ≡ map (part_in drafts) issues
    → option_map (λ (b : RuleIssue). b.cycle) (branch_in placed) ≡ option_map (λ (issue : Issue). issue.cycle)
    (find branches issues)
same_cycle drafts [] [] is = refl
same_cycle drafts [] (p ∷ placed) is = absurd cc
same_cycle drafts (issue ∷ issues) [] is = absurd cc
same_cycle drafts (issue ∷ issues) (p ∷ placed) is =
    let part : part_of p ≡ part_in drafts issue = cc in
    let others : map part_of placed ≡ map (part_in drafts) issues = cc in
    let here : is_branching p ≡ branches issue = ap (λ (q : Part). is_branch q.parts.op) part in
    let cycle : p.cycle ≡ issue.cycle = ap (λ (q : Part). q.cycle) part in
    let rest = same_cycle drafts issues placed others in
    elim (cases_Bool (branches issue)) [
      | inl branch ↦ rw (here, branch, cycle) refl
      | inr other ↦ rw (here, other) rest
    ]

-- where a block with a branch is over, the branch takes effect
over_within : (start next last : ℕ) (found : Option Issue) (branch : Option RuleIssue)
    → option_map (λ (b : RuleIssue). b.cycle) branch ≡ option_map (λ (issue : Issue). issue.cycle) found
    → (found ≡ None → ⊥)
    → option_map_or (λ (issue : Issue). min next (start + issue.cycle + 6)) found next ≤ start + option_map_or
    (λ (b : RuleIssue). b.cycle + 6) branch last
over_within start next last None branch same some = absurd (some refl)
over_within start next last (Some issue) None same some = absurd cc
over_within start next last (Some issue) (Some b) same some = let e : b.cycle ≡ issue.cycle = cc in omega (arith, e)

none_is_last : (last : ℕ) (found : Option Issue) (branch : Option RuleIssue)
    → option_map (λ (b : RuleIssue). b.cycle) branch ≡ option_map (λ (issue : Issue). issue.cycle) found → found ≡ None
    → option_map_or (λ (b : RuleIssue). b.cycle + 6) branch last ≡ last
none_is_last last found None same none = refl
none_is_last last None (Some b) same none = absurd cc
none_is_last last (Some issue) (Some b) same none = absurd cc

drained_by : (drafts : List Draft) (next : ℕ) (draft : Draft) (placed : List Placed) (found : Option Issue)
    → AreOf drafts draft.issues placed
    → IsOver drafts next draft → find branches draft.issues ≡ found → AreDrained (length_of (issues_of placed)) placed
drained_by drafts next draft placed None stand over none =
    let same = same_cycle drafts draft.issues placed stand.parts in
    let last = none_is_last (last_landing_end (issues_of placed)) (find branches draft.issues) (branch_in placed) same
    none in
    subst (λ (n : ℕ). AreDrained n placed) (sym last) (each_lands placed)
drained_by drafts next draft placed (Some issue) stand over some =
    let same = same_cycle drafts draft.issues placed stand.parts in
    let within : over_in next draft ≤ draft.start + length_of (issues_of placed) =
    over_within draft.start next (last_landing_end (issues_of placed)) (find branches draft.issues) (branch_in placed)
    same (λ none. cc) in
    all_land (length_of (issues_of placed)) placed
    (ends_by drafts draft.start (over_in next draft) (length_of (issues_of placed)) draft.issues placed stand.parts
    within over.drained)

-- ---- the packet block

issued_of : (placed : List Placed)
    → count_by (λ (p : RuleIssue). is_branch (op_of p.insn)) (issues_of placed) ≡ count_by is_branching placed
issued_of [] = refl
issued_of (p ∷ placed) =
    let one = sum_by-cons (λ (r : RuleIssue). cond (is_branch (op_of r.insn)) 1 0) (issue_of p) (issues_of placed) in
    let other = sum_by-cons (λ (r : Placed). cond (is_branching r) 1 0) p placed in
    omega (arith, one, other, issued_of placed)

module _ (isa : InstructionSet) (drafts : List Draft) (draft : Draft) (listed : List Placed)
    (lawful : AreLawful drafts draft.issues listed)
    (sound : IsSound isa drafts draft) where
  are : AreListed drafts draft.issues listed
  are = lawful.are

  one_branch : HaveOneBranch are.placed
  one_branch =
      let same = same_branches drafts draft.issues are.placed are.stand.parts in
      let one = sound.over.one_branch in
      omega (arith, same, one)

  one_listed : HaveOneBranch listed
  one_listed =
      let count = sum_by-IsPermutation (λ (p : Placed). cond (is_branching p) 1 0) are.placed listed are.same in
      omega (arith, count, one_branch)

  same_length : length_of (issues_of listed) ≡ length_of (issues_of are.placed)
  same_length =
      any-order-length (issues_of are.placed) (issues_of listed) (IsPermutation-map issue_of are.placed listed are.same)
      (let few = issued_of are.placed in omega (arith, few, one_branch))

  in_time : All (λ p. end_at p ≤ MOST_CYCLES) are.placed
  in_time =
      ends_by drafts draft.start (draft.start + MOST_CYCLES) MOST_CYCLES draft.issues are.placed are.stand.parts
      (omega arith) (in_time_by draft.issues sound.fine.placed)
    where
      in_time_by : (issues : List Issue) → AllByRecursion (IsPlaced isa draft.start) issues
          → AllByRecursion (λ issue. end_of issue.parts (draft.start + issue.cycle) ≤ draft.start + MOST_CYCLES) issues
      in_time_by [] fine = tt
      in_time_by (issue ∷ issues) fine = (fine.0.in_time, in_time_by issues fine.1)

  pub is_short : length_of (issues_of listed) ≤ MOST_CYCLES
  is_short = rw same_length (length_within MOST_CYCLES are.placed in_time)

  is_drained : AreDrained (length_of (issues_of listed)) listed
  is_drained =
      let own = drained_by drafts sound.next draft are.placed (find branches draft.issues) are.stand sound.over refl in
      rw same_length (All-permutation (λ (p : Placed). landing_end (issue_of p) ≤ length_of (issues_of are.placed))
      are.placed listed are.same own)

  pub is_packet_block : (label : Option Name) → IsPacketBlock (packed_of label (length_of (issues_of listed)) listed)
  is_packet_block label = record {
    in_order = are.in_order;
    as_written = All-permutation (λ (p : Placed). unit_of p.insn ≡ Some p.unit) are.placed listed are.same
        are.stand.units;
    rules = lawful.kept;
    one_branch = one_listed;
    few = (let many = as_many_listed drafts draft.issues listed are in let few = sound.fine.few in omega
        (arith, many, few));
    own_length = refl;
    short = is_short;
    drained = is_drained;
  }

  pub is_block_of : (block : Packed) (label : Option Name) → label ≡ draft.label
      → block ≡ packed_of label (length_of (issues_of listed)) listed
      → IsBlockOf drafts draft block
  is_block_of block label labelled is =
      subst (IsBlockOf drafts draft) (sym is) (record {
        label = labelled;
        placed = are.placed;
        stand = are.stand;
        listed = are.same;
        is_block = is_packet_block label;
      })
