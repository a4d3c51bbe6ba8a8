-- Where no instruction of a block has a fault, nothing is in flight when the block is over.
use Rattle.std.proofs.Common.{◌≡◌, ◌≤◌, ◌+◌, ◌∙◌, refl, true, false, ◌&&◌, ltb, ℕ, Bool, List, ◌∷◌, [], Option, Some}
use Rattle.std.proofs.Common.{None, cond, arith, inl, inr}
use Rattle.std.specs.Prelude.{count_by}
use Rattle.std.specs.List.{AllByRecursion, list_any}
use Rattle.std.proofs.lemmas.Bool.{cases_Bool}
use Rattle.std.proofs.lemmas.Bool.Decides.{nat_tests}
use Rattle.std.proofs.lemmas.List.Sums.{sum_by-cons}
use Rattle.c62_adopt_cut.specs.declared.fault.TextCause.{TextCause}
use Rattle.c62_adopt_cut.specs.declared.fault.TextCause.TheVariants.{TwoBranches, NotDrained}
use Rattle.c62_line.specs.declared.fault.Cause.TheVariants.{UnknownTarget}
use Rattle.c62_adopt_cut.specs.Blocks.{Issue, Draft}
use Rattle.c62_adopt_cut.specs.Text.{Cut, Refusal, end_of, read_cause}
use Rattle.c62_adopt_cut.specs.Flight.{branches, faulty_among, faulty_in, first_faulty, is_lost, issue_fault}
use Rattle.c62_adopt_cut.specs.Flight.{next_drained, next_start, or_behind, or_later, over_in}
use Rattle.c62_adopt_cut.specs.Laws.{AreOver, BlocksAreOver, IsOver}

-- what no fault of an instruction says
record IsFree (whole : List Draft) (start over : ℕ) (issue : Issue) (others : List Issue) : Type 0 where
  found : is_lost whole issue.target ≡ false
  alone : (branches issue && list_any branches others) ≡ false
  drained : ltb over (end_of issue.parts (start + issue.cycle)) ≡ false

free_by : (lost two late : Bool)
    → cond lost (Some (read_cause UnknownTarget)) (cond two (Some TwoBranches) (cond late (Some NotDrained) None)) ≡
    None
    → (lost ≡ false) × (two ≡ false) × (late ≡ false)
free_by false false false none = (refl, refl, refl)
free_by true two late none = absurd cc
free_by false true late none = absurd cc
free_by false false true none = absurd cc

free_of : (whole : List Draft) (start over : ℕ) (issue : Issue) (others : List Issue)
    → issue_fault whole start over issue others ≡ None
    → IsFree whole start over issue others
free_of whole start over issue others none =
    let all = free_by (is_lost whole issue.target) (branches issue && list_any branches others)
    (ltb over (end_of issue.parts (start + issue.cycle))) none in
    record { found = all.0; alone = all.1; drained = all.2 }

-- the first of a list has no fault, and neither have the others
parts_of : (line : ℕ) (fault : Option TextCause) (later : Option Refusal) → or_later line fault later ≡ None
    → (fault ≡ None) × (later ≡ None)
parts_of line None later none = (refl, none)
parts_of line (Some cause) later none = absurd cc

counts : (issue : Issue) (others : List Issue)
    → count_by branches (issue ∷ others) ≡ cond (branches issue) 1 0 + count_by branches others
counts issue others = sum_by-cons (λ (x : Issue). cond (branches x) 1 0) issue others

none_branch : (issues : List Issue) → list_any branches issues ≡ false → count_by branches issues ≡ 0
none_branch [] none = refl
none_branch (issue ∷ issues) none =
    let here : branches issue ≡ false = grind (arith, nat_tests) in
    let behind = none_branch issues (grind (arith, nat_tests)) in
    counts issue issues ∙ rw (here, behind) refl

record AreFree (whole : List Draft) (start over : ℕ) (issues : List Issue) : Type 0 where
  drained : AllByRecursion (λ issue. end_of issue.parts (start + issue.cycle) ≤ over) issues
  one_branch : count_by branches issues ≤ 1
  found : AllByRecursion (λ issue. is_lost whole issue.target ≡ false) issues

one_more_branch : (issue : Issue) (others : List Issue) → (branches issue && list_any branches others) ≡ false
    → count_by branches others ≤ 1
    → count_by branches (issue ∷ others) ≤ 1
one_more_branch issue others alone one =
    rw (counts issue others) (elim (cases_Bool (branches issue)) [
      | inl branch ↦ let none = none_branch others (rw branch at alone) in rw (branch, none) (omega arith)
      | inr other ↦ rw other (omega arith)
    ])

are_free : (whole : List Draft) (start over : ℕ) (issues : List Issue) → first_faulty whole start over issues ≡ None
    → AreFree whole start over issues
are_free whole start over [] none = record { drained = tt; one_branch = omega arith; found = tt }
are_free whole start over (issue ∷ others) none =
    let parts = parts_of issue.line (issue_fault whole start over issue others) (first_faulty whole start over others)
    none in
    let here = free_of whole start over issue others parts.0 in
    let behind = are_free whole start over others parts.1 in
    let drained = here.drained in
    record {
      drained = (grind (arith, nat_tests), behind.drained);
      one_branch = one_more_branch issue others here.alone behind.one_branch;
      found = (here.found, behind.found);
    }

pub behind_of : (first behind : Option Refusal) → or_behind first behind ≡ None → (first ≡ None) × (behind ≡ None)
behind_of None behind none = (refl, none)
behind_of (Some refusal) behind none = absurd cc

pub block_over : (drain : Bool) (whole : List Draft) (next : ℕ) (draft : Draft)
    → faulty_in drain whole next draft ≡ None
    → IsOver whole (next_drained drain next draft) draft
unfolding faulty_in
block_over drain whole next draft none =
    let free = are_free whole draft.start (over_in (next_drained drain next draft) draft) draft.issues none in
    record { drained = free.drained; one_branch = free.one_branch; found = free.found }

are_over : (drain : Bool) (whole : List Draft) (end : ℕ) (drafts : List Draft)
    → faulty_among drain whole end drafts ≡ None
    → AreOver drain whole end drafts
are_over drain whole end [] none = tt
are_over drain whole end (draft ∷ drafts) none =
    let parts = behind_of (faulty_in drain whole (next_start end drafts) draft) (faulty_among drain whole end drafts)
    none in
    (block_over drain whole (next_start end drafts) draft parts.0, are_over drain whole end drafts parts.1)

pub blocks_are_over : (drain : Bool) (cut : Cut) → BlocksAreOver drain cut
blocks_are_over drain cut none = are_over drain cut.drafts cut.cycles cut.drafts none
