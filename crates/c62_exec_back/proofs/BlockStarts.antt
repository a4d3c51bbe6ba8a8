-- Where blocks begin, and where they are over.
use Rattle.std.proofs.Common.{◌≡◌, ℕ, zero, suc, ◌+◌, ◌-◌, ◌<◌, ◌≤◌, min, true, false, cond, List, [], ◌∷◌, length}
use Rattle.std.proofs.Common.{Option, Some, None, refl, sym, ap, subst, inl, inr, arith}
use Rattle.std.specs.Prelude.{find, slice_get, count_by, All}
use Rattle.std.specs.List.{AllByRecursion, AllZip}
use Rattle.std.specs.List.Sorted.{IsNonDecreasing}
use Rattle.std.specs.Option.{option_map_or}
use Rattle.std.proofs.lemmas.Bool.{cases_Bool}
use Rattle.std.proofs.lemmas.Option.{same_Some}
use Rattle.std.proofs.lemmas.List.Sums.{sum_by-cons}
use Rattle.std.proofs.lemmas.List.Sorted.{All-permutation}
use Rattle.c62_op.specs.Shape.{is_branch}
use Rattle.c62_line.specs.Line.{Parts}
use Rattle.c62_packet.specs.declared.placed.Placed.{Placed}
use Rattle.c62_packet.specs.Packed.{Packed}
use Rattle.c62_adopt_cut.specs.Blocks.{Draft, Issue}
use Rattle.c62_adopt_cut.specs.Flight.{branches, next_start, over_in}
use Rattle.c62_adopt_cut.specs.Home.{starts_of}
use Rattle.c62_adopt_cut.specs.Laws.{AreOver, IsOver}
use Rattle.c62_adopt_cut.specs.Text.{end_of}
use Rattle.c62_adopt.specs.Blocks.{IsBlockOf}
use Rattle.c62_adopt.proofs.BlockLemmas.{end_at, ends_by, length_within}
use Rattle.c62_meaning.proofs.Lookup.{In}
use Rattle.c62_exec_back.proofs.Members.{all_in}

-- ---- where blocks begin

-- the cycle in which a block begins, or in which the text is over
abbrev pub start_at : ℕ → List Draft → ℕ → ℕ
start_at end [] number = end
start_at end (draft ∷ drafts) zero = draft.start
start_at end (draft ∷ drafts) (suc number) = start_at end drafts number

abbrev pub AreRising : ℕ → List Draft → Type 0
AreRising end [] = Unit {0}
AreRising end (draft ∷ drafts) = (draft.start ≤ start_at end drafts 0) × AreRising end drafts

behind_rises : (start : ℕ) (starts : List ℕ) → IsNonDecreasing (start ∷ starts) → IsNonDecreasing starts
behind_rises start starts rising = λ i j d low below. rising (suc i) (suc j) d (omega (arith, low))
    (omega (arith, below))

pub are_rising : (end : ℕ) (drafts : List Draft) → IsNonDecreasing (starts_of drafts)
    → AllByRecursion (λ start. start ≤ end) (starts_of drafts) → AreRising end drafts
are_rising end [] rising early = tt
are_rising end (draft ∷ []) rising early = (early.0, tt)
are_rising end (draft ∷ other ∷ drafts) rising early = (
  rising 0 1 0 (omega arith) (omega arith),
  are_rising end (other ∷ drafts)
      (behind_rises draft.start (starts_of (other ∷ drafts)) rising) early.1,
)

pub starts_rise : (end : ℕ) (drafts : List Draft) (number next : ℕ) → AreRising end drafts → number ≤ next
    → start_at end drafts number ≤ start_at end drafts next
starts_rise end [] number next rising l = omega arith
starts_rise end (draft ∷ drafts) zero zero rising l = omega arith
starts_rise end (draft ∷ drafts) zero (suc next) rising l = let rest = starts_rise end drafts 0 next rising.1
    (omega arith) in let here = rising.0 in omega (arith, rest, here)
starts_rise end (draft ∷ drafts) (suc number) zero rising l = absurd (omega arith)
starts_rise end (draft ∷ drafts) (suc number) (suc next) rising l = starts_rise end drafts number next rising.1
    (omega arith)

pub start_behind : (end : ℕ) (drafts : List Draft) (number : ℕ) → length drafts ≤ number
    → start_at end drafts number ≡ end
start_behind end [] number l = refl
start_behind end (draft ∷ drafts) zero l = absurd (omega arith)
start_behind end (draft ∷ drafts) (suc number) l = start_behind end drafts number (omega arith)

pub start_is : (end : ℕ) (drafts : List Draft) (number : ℕ) (draft : Draft) → slice_get drafts number ≡ Some draft
    → start_at end drafts number ≡ draft.start
start_is end [] number draft e = absurd cc
start_is end (other ∷ drafts) zero draft e = ap (λ (d : Draft). d.start) (same_Some other draft e)
start_is end (other ∷ drafts) (suc number) draft e = start_is end drafts number draft e

first_start : (end : ℕ) (drafts : List Draft) → next_start end drafts ≡ start_at end drafts 0
first_start end [] = refl
first_start end (draft ∷ drafts) = refl

pub over_of : (whole : List Draft) (end : ℕ) (drafts : List Draft) (number : ℕ) (draft : Draft)
    → AreOver false whole end drafts → slice_get drafts number ≡ Some draft
    → IsOver whole (start_at end drafts (suc number)) draft
over_of whole end [] number draft over e = absurd cc
over_of whole end (other ∷ drafts) zero draft over e =
    subst (λ (d : Draft). IsOver whole (start_at end drafts 0) d) (same_Some other draft e)
    (subst (λ n. IsOver whole n other) (first_start end drafts) over.0)
over_of whole end (other ∷ drafts) (suc number) draft over e = over_of whole end drafts number draft over.1 e

-- ---- the blocks by their numbers

pub record IsBlockAt (drafts : List Draft) (end number : ℕ) (draft : Draft) (block : Packed) : Type 0 where
  pub there : slice_get drafts number ≡ Some draft
  pub is : IsBlockOf drafts draft block
  pub start : start_at end drafts number ≡ draft.start
  pub over : IsOver drafts (start_at end drafts (suc number)) draft

pub draft_of : (whole drafts : List Draft) (packets : List Packed) (number : ℕ) (block : Packed)
    → AllZip (IsBlockOf whole) drafts packets → slice_get packets number ≡ Some block
    → (draft : Draft) × (slice_get drafts number ≡ Some draft) × IsBlockOf whole draft block
draft_of whole [] [] number block zip e = absurd cc
draft_of whole [] (other ∷ packets) number block zip e = absurd zip
draft_of whole (draft ∷ drafts) [] number block zip e = absurd zip
draft_of whole (draft ∷ drafts) (other ∷ packets) zero block zip e =
    (draft, refl, subst (IsBlockOf whole draft) (same_Some other block e) zip.0)
draft_of whole (draft ∷ drafts) (other ∷ packets) (suc number) block zip e = draft_of whole drafts packets number block
    zip.1 e

pub block_of : (whole drafts : List Draft) (packets : List Packed) (number : ℕ) (draft : Draft)
    → AllZip (IsBlockOf whole) drafts packets → slice_get drafts number ≡ Some draft
    → (block : Packed) × (slice_get packets number ≡ Some block) × IsBlockOf whole draft block
block_of whole [] [] number draft zip e = absurd cc
block_of whole [] (other ∷ packets) number draft zip e = absurd zip
block_of whole (other ∷ drafts) [] number draft zip e = absurd zip
block_of whole (other ∷ drafts) (block ∷ packets) zero draft zip e =
    (block, refl, subst (λ (d : Draft). IsBlockOf whole d block) (same_Some other draft e) zip.0)
block_of whole (other ∷ drafts) (block ∷ packets) (suc number) draft zip e = block_of whole drafts packets number draft
    zip.1 e

pub same_count : (whole drafts : List Draft) (packets : List Packed) → AllZip (IsBlockOf whole) drafts packets
    → length drafts ≡ length packets
same_count whole [] [] zip = refl
same_count whole [] (block ∷ packets) zip = absurd zip
same_count whole (draft ∷ drafts) [] zip = absurd zip
same_count whole (draft ∷ drafts) (block ∷ packets) zip = ap suc (same_count whole drafts packets zip.1)

-- ---- the cycle in which a block is over

pub over_late : (next : ℕ) (draft : Draft) → draft.start ≤ next → draft.start ≤ over_in next draft
over_late next draft l = go (find branches draft.issues)
  where
    go : (found : Option Issue)
        → draft.start ≤ option_map_or (λ issue. min next (draft.start + issue.cycle + 6)) found next
    go None = l
    go (Some issue) = omega (arith, l)

end_later : (parts : Parts) (cycle : ℕ) → cycle < end_of parts cycle
end_later parts cycle = elim (cases_Bool (is_branch parts.op)) [
  | inl branch ↦ rw branch (omega arith)
  | inr other ↦ rw other (omega arith)
]

pub issue_early : (whole : List Draft) (next : ℕ) (draft : Draft) (issue : Issue) → IsOver whole next draft
    → In issue draft.issues → draft.start + issue.cycle < over_in next draft
issue_early whole next draft issue over h =
    let ends : end_of issue.parts (draft.start + issue.cycle) ≤ over_in next draft
    = all_in (λ (i : Issue). end_of i.parts (draft.start + i.cycle) ≤ over_in next draft) draft.issues issue
    over.drained h in
    let later = end_later issue.parts (draft.start + issue.cycle) in omega (arith, ends, later)

counts_none : (issues : List Issue) (issue : Issue) → In issue issues → branches issue ≡ true
    → count_by branches issues ≤ 0 → ⊥
counts_none [] issue h t l = h
counts_none (other ∷ issues) issue (inl e) t l =
    let one = sum_by-cons (λ (i : Issue). cond (branches i) 1 0) other issues in
    let here : cond {A = ℕ} (branches other) 1 0 ≡ 1 = rw (subst (λ (i : Issue). branches i ≡ true) (sym e) t) refl in
    omega (arith, one, here, l)
counts_none (other ∷ issues) issue (inr h) t l =
    let one = sum_by-cons (λ (i : Issue). cond (branches i) 1 0) other issues in
    counts_none issues issue h t (omega (arith, one, l))

pub found_branch : (issues : List Issue) (issue : Issue) → In issue issues → branches issue ≡ true
    → count_by branches issues ≤ 1 → find branches issues ≡ Some issue
found_branch [] issue h t l = absurd h
found_branch (other ∷ issues) issue (inl e) t l = let here : branches other ≡ true = subst
    (λ (i : Issue). branches i ≡ true) (sym e) t in rw here (ap Some e)
found_branch (other ∷ issues) issue (inr h) t l =
    let one = sum_by-cons (λ (i : Issue). cond (branches i) 1 0) other issues in
    elim (cases_Bool (branches other)) [
      | inl first ↦
          let here : cond {A = ℕ} (branches other) 1 0 ≡ 1 = rw first refl in
          absurd (counts_none issues issue h t (omega (arith, one, here, l)))
      | inr later ↦ rw later (found_branch issues issue h t (omega (arith, one, l)))
    ]

pub branch_over : (whole : List Draft) (next : ℕ) (draft : Draft) (issue : Issue) → IsOver whole next draft
    → In issue draft.issues → branches issue ≡ true
    → over_in next draft ≤ draft.start + issue.cycle + 6
branch_over whole next draft issue over h t =
    let found = found_branch draft.issues issue h t over.one_branch in
    rw found (omega arith)

-- its packets are over then, or before
pub block_fits : (whole : List Draft) (draft : Draft) (block : Packed) (next : ℕ) → IsBlockOf whole draft block
    → IsOver whole next draft → draft.start ≤ next
    → draft.start + block.cycles ≤ over_in next draft
block_fits whole draft block next is over from =
    let late = over_late next draft from in
    let most : ℕ = over_in next draft - draft.start in
    let ends : All (λ p. end_at p ≤ most) is.placed =
    ends_by whole draft.start (over_in next draft) most draft.issues is.placed is.stand.parts (omega (arith, late))
    over.drained in
    let listed : All (λ p. end_at p ≤ most) block.placed = All-permutation (λ (p : Placed). end_at p ≤ most) is.placed
    block.placed is.listed ends in
    let short = length_within most block.placed listed in
    let own = is.is_block.own_length in
    omega (arith, own, short, late)
