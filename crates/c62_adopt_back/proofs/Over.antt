-- Nothing of a listing is in flight where its blocks are over.
use Rattle.c62_adopt_back.proofs.Common.{nat_tests, arith, ◌≡◌, ℕ, ◌+◌, ◌≤◌, List, [], ◌∷◌, Bool, true, false, None}
use Rattle.c62_adopt_back.proofs.Common.{refl, sym, ap, subst, ◌&&◌, ◌||◌}
use Rattle.c62_adopt_back.proofs.Common.{AllByRecursion, AllZip, list_any, is_branch, Name, Parts, Placed, Packed}
use Rattle.c62_adopt_back.proofs.Common.{is_branching_placed, Draft, Issue}
use Rattle.c62_adopt_back.proofs.Common.{end_of}
use Rattle.std.specs.Prelude.{min}
use Rattle.std.proofs.Common.{inl, inr}
use Rattle.std.proofs.lemmas.Bool.{cases_Bool, or_right}
use Rattle.std.specs.List.{find}
use Rattle.std.specs.Option.{option_map_or}
use Rattle.c62_adopt_cut.specs.Flight.{all_lacking, branches, faulty_among, faulty_in, first_faulty, is_lost}
use Rattle.c62_adopt_cut.specs.Flight.{issue_fault, lacking, landed}
use Rattle.c62_adopt_cut.specs.Flight.{next_drained, next_start, over_in}
use Rattle.c62_adopt_back.proofs.Blocks.{IsDraftOf, IsIssueOf}
use Rattle.c62_adopt_back.proofs.Cycles.{BranchOnce, IsListed}
use Rattle.c62_adopt_back.proofs.Said.{lands_at, target_written}
use Rattle.c62_adopt_back.proofs.Walk.{AreRead}
use Rattle.c62_op.specs.declared.set.InstructionSet.{InstructionSet}

-- ---- an instruction

branches_so : (name : ℕ → Name) (issue : Issue) (p : Placed) → IsIssueOf name issue p
    → branches issue ≡ is_branching_placed p
branches_so name issue p is = ap (λ (parts : Parts). is_branch parts.op) is.parts

ends_so : (isa : InstructionSet) (name : ℕ → Name) (start cycles : ℕ) (issue : Issue) (p : Placed)
    → IsIssueOf name issue p
    → IsListed isa name cycles p
    → end_of issue.parts (start + issue.cycle) ≤ start + cycles
ends_so isa name start cycles issue p is listed = rw (is.parts, is.cycle)
    (grind (arith, nat_tests, lands_at p start, listed.fits.ends, listed.fits.last))

-- the same, and its branch goes to a label that a block has
pub record IsFound (isa : InstructionSet) (name : ℕ → Name) (whole : List Draft) (cycles : ℕ)
    (p : Placed) : Type 0 where
  pub listed : IsListed isa name cycles p
  pub found : is_lost whole (target_written name p) ≡ false

-- ---- the instructions of a block

none_behind : (name : ℕ → Name) (issues : List Issue) (placed : List Placed) → AllZip (IsIssueOf name) issues placed
    → BranchOnce true placed
    → list_any branches issues ≡ false
unfolding BranchOnce
none_behind name [] placed are once = refl
none_behind name (issue ∷ issues) [] are once = absurd are
none_behind name (issue ∷ issues) (p ∷ placed) are once =
    grind (arith, nat_tests, branches_so name issue p are.0, once.0, none_behind name issues placed are.1)

module _ (isa : InstructionSet) (name : ℕ → Name) (whole : List Draft) (start cycles : ℕ) where
  no_fault : (over : ℕ) (issue : Issue) (p : Placed) (others : List Issue) (placed : List Placed) (branched : Bool)
      → over ≡ start + cycles
      → IsIssueOf name issue p → IsFound isa name whole cycles p → AllZip (IsIssueOf name) others placed
      → BranchOnce (branched || is_branching_placed p) placed
      → issue_fault whole start over issue others ≡ None
  no_fault over issue p others placed branched over_is is found are once =
      let goes : is_lost whole issue.target ≡ false = rw is.target found.found in
      let alone : (branches issue && list_any branches others) ≡ false = elim (cases_Bool (is_branching_placed p)) [
        | inl here ↦
            let all : BranchOnce true placed = subst (λ (b : Bool). BranchOnce b placed)
            (or_right branched (is_branching_placed p) here) once in
            rw (branches_so name issue p is, here) (none_behind name others placed are all)
        | inr other ↦ rw (branches_so name issue p is, other) refl
      ] in
      grind (arith, nat_tests, goes, alone, ends_so isa name start cycles issue p is found.listed)

  none_faulty : (over : ℕ) (issues : List Issue) (placed : List Placed) (branched : Bool) → over ≡ start + cycles
      → AllZip (IsIssueOf name) issues placed → AllByRecursion (IsFound isa name whole cycles) placed
      → BranchOnce branched placed
      → first_faulty whole start over issues ≡ None
  unfolding BranchOnce
  none_faulty over [] placed branched over_is are found once = refl
  none_faulty over (issue ∷ issues) [] branched over_is are found once = absurd are
  none_faulty over (issue ∷ issues) (p ∷ placed) branched over_is are found once =
      rw (no_fault over issue p issues placed branched over_is are.0 found.0 are.1 once.1)
      (none_faulty over issues placed (branched || is_branching_placed p) over_is are.1 found.1 once.1)

  all_landed : (issues : List Issue) (placed : List Placed) → AllZip (IsIssueOf name) issues placed
      → AllByRecursion (IsFound isa name whole cycles) placed → landed start issues ≤ start + cycles
  all_landed [] placed are found = omega arith
  all_landed (issue ∷ issues) [] are found = absurd are
  all_landed (issue ∷ issues) (p ∷ placed) are found =
      omega (arith, ends_so isa name start cycles issue p are.0 found.0.listed, all_landed issues placed are.1 found.1)

  -- a branch takes effect where its block is over
  over_by : (issues : List Issue) (placed : List Placed) → AllZip (IsIssueOf name) issues placed
      → AllByRecursion (IsFound isa name whole cycles) placed
      → option_map_or (λ issue. min (start + cycles) (start + issue.cycle + 6)) (find branches issues) (start + cycles)
      ≡ start + cycles
  over_by [] placed are found = refl
  over_by (issue ∷ issues) [] are found = absurd are
  over_by (issue ∷ issues) (p ∷ placed) are found =
      grind (
        arith,
        nat_tests,
        branches_so name issue p are.0,
        found.0.listed.fits.last,
        over_by issues placed are.1
            found.1,
      )

-- ---- a block

pub record IsSettled (isa : InstructionSet) (name : ℕ → Name) (whole : List Draft) (block : Packed) : Type 0 where
  pub found : AllByRecursion (IsFound isa name whole block.cycles) block.placed
  pub once : BranchOnce false block.placed

module _ (isa : InstructionSet) (name : ℕ → Name) (whole : List Draft) (start : ℕ) (draft : Draft) (block : Packed)
    (is : IsDraftOf name block.label start block.placed draft) (settled : IsSettled isa name whole block) where
  lacks_none : lacking (start + block.cycles) draft ≡ 0
  lacks_none =
      let all = all_landed isa name whole start block.cycles draft.issues block.placed is.issues settled.found in
      rw is.starts (grind (arith, nat_tests, all))

  over_here : over_in (start + block.cycles) draft ≡ start + block.cycles
  over_here = rw is.starts (over_by isa name whole start block.cycles draft.issues block.placed is.issues settled.found)

  drained_here : (drain : Bool) → next_drained drain (start + block.cycles) draft ≡ start + block.cycles
  drained_here drain = grind (arith, nat_tests, lacks_none)

  none_in : (drain : Bool) → faulty_in drain whole (start + block.cycles) draft ≡ None
  unfolding faulty_in
  none_in drain =
      rw (drained_here drain, over_here, is.starts)
      (none_faulty isa name whole start block.cycles
      (start + block.cycles) draft.issues block.placed false refl is.issues
      settled.found settled.once)

-- ---- all blocks

next_is : (name : ℕ → Name) (start end : ℕ) (drafts : List Draft) (blocks : List Packed)
    → AreRead name start end drafts blocks
    → next_start end drafts ≡ start
unfolding AreRead
next_is name start end [] [] are = sym are
next_is name start end [] (block ∷ blocks) are = absurd are
next_is name start end (draft ∷ drafts) [] are = absurd are
next_is name start end (draft ∷ drafts) (block ∷ blocks) are = are.0.starts

pub none_in_flight : (isa : InstructionSet) (name : ℕ
    → Name) (whole : List Draft) (drain : Bool) (start end : ℕ) (drafts : List Draft) (blocks : List Packed)
    → AreRead name start end drafts blocks → AllByRecursion (IsSettled isa name whole) blocks
    → faulty_among drain whole end drafts ≡ None
unfolding AreRead
none_in_flight isa name whole drain start end [] blocks are settled = refl
none_in_flight isa name whole drain start end (draft ∷ drafts) [] are settled = absurd are
none_in_flight isa name whole drain start end (draft ∷ drafts) (block ∷ blocks) are settled =
    rw (
      next_is name (start + block.cycles) end drafts blocks are.1,
      none_in isa name whole start draft block are.0
          settled.0 drain,
    )
    (none_in_flight isa name whole drain (start + block.cycles) end drafts blocks are.1 settled.1)

pub none_lacking : (isa : InstructionSet) (name : ℕ → Name) (whole : List Draft) (start end : ℕ) (drafts : List Draft)
    (blocks : List Packed)
    → AreRead name start end drafts blocks → AllByRecursion (IsSettled isa name whole) blocks
    → all_lacking end drafts ≡ 0
unfolding AreRead
none_lacking isa name whole start end [] blocks are settled = refl
none_lacking isa name whole start end (draft ∷ drafts) [] are settled = absurd are
none_lacking isa name whole start end (draft ∷ drafts) (block ∷ blocks) are settled =
    let others = none_lacking isa name whole (start + block.cycles) end drafts blocks are.1 settled.1 in
    rw (
      next_is name (start + block.cycles) end drafts blocks are.1,
      lacks_none isa name whole start draft block are.0
          settled.0,
      others,
    ) (omega arith)
