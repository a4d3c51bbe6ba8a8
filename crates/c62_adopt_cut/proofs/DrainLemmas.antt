-- A text lacks no cycles exactly where nothing is in flight as it stands.
use Rattle.std.proofs.Common.{◌≡◌, ◌≤◌, ◌<◌, ◌+◌, ◌-◌, ◌∙◌, ap, sym, refl, true, false, ℕ, List, ◌∷◌, [], Option, Some}
use Rattle.std.proofs.Common.{None, arith, inl, inr}
use Rattle.std.specs.List.{AllByRecursion, find, list_any}
use Rattle.std.proofs.lemmas.Bool.{cases_Bool}
use Rattle.std.proofs.lemmas.Bool.Decides.{nat_tests}
use Rattle.c62_adopt_cut.specs.Blocks.{Issue, Draft}
use Rattle.c62_adopt_cut.specs.Text.{Cut, Refusal, end_of}
use Rattle.c62_adopt_cut.specs.Flight.{all_lacking, branches, faulty_among, faulty_in, first_faulty, lacking, landed}
use Rattle.c62_adopt_cut.specs.Flight.{next_drained, next_start, or_behind, over_in}
use Rattle.c62_adopt_cut.specs.Laws.{IsJustDrained, LacksNoneWhereOver}
use Rattle.c62_adopt_cut.proofs.OverLemmas.{behind_of, block_over}

-- ---- a block

landed_before : (start last : ℕ) (issues : List Issue)
    → AllByRecursion (λ issue. end_of issue.parts (start + issue.cycle) ≤ last) issues
    → landed start issues ≤ last
landed_before start last [] all = omega arith
landed_before start last (issue ∷ issues) all = omega (arith, all.0, landed_before start last issues all.1)

pub over_before : (next : ℕ) (draft : Draft) → over_in next draft ≤ next
over_before next draft = go (find branches draft.issues) refl
  where
    go : (found : Option Issue) → find branches draft.issues ≡ found → over_in next draft ≤ next
    go None is = rw is (omega arith)
    go (Some branch) is = rw is (omega arith)

lacks_none : (whole : List Draft) (next : ℕ) (draft : Draft) → faulty_in false whole next draft ≡ None
    → lacking next draft ≡ 0
lacks_none whole next draft none = elim (cases_Bool (list_any branches draft.issues)) [
  | inl branch ↦ rw branch refl
  | inr alone ↦
      let over = over_before next draft in
      let landed_first = landed_before draft.start (over_in next draft) draft.issues
      (block_over false whole next draft none).drained in
      rw alone (omega arith)
]

same_drained : (whole : List Draft) (next : ℕ) (draft : Draft) → lacking next draft ≡ 0
    → faulty_in true whole next draft ≡ faulty_in false whole next draft
unfolding faulty_in
same_drained whole next draft lacks =
    let same : next_drained true next draft ≡ next = omega (arith, lacks) in
    ap (λ (over : ℕ). first_faulty whole draft.start (over_in over draft) draft.issues) same

-- ---- the blocks of a text

none_behind : (first behind : Option Refusal) → first ≡ None → behind ≡ None → or_behind first behind ≡ None
none_behind first behind one other = rw (one, other) refl

all_drained : (whole : List Draft) (end : ℕ) (drafts : List Draft) → faulty_among false whole end drafts ≡ None
    → (faulty_among true whole end drafts ≡ None) × (all_lacking end drafts ≡ 0)
all_drained whole end [] none = (refl, refl)
all_drained whole end (draft ∷ drafts) none =
    let next = next_start end drafts in
    let parts = behind_of (faulty_in false whole next draft) (faulty_among false whole end drafts) none in
    let lacks = lacks_none whole next draft parts.0 in
    let behind = all_drained whole end drafts parts.1 in (
      none_behind (faulty_in true whole next draft) (faulty_among true whole end drafts)
          (same_drained whole next draft lacks ∙ parts.0) behind.0,
      omega (arith, lacks, behind.1),
    )

all_over : (whole : List Draft) (end : ℕ) (drafts : List Draft) → faulty_among true whole end drafts ≡ None
    → all_lacking end drafts ≡ 0
    → faulty_among false whole end drafts ≡ None
all_over whole end [] none lacks = refl
all_over whole end (draft ∷ drafts) none lacks =
    let next = next_start end drafts in
    let parts = behind_of (faulty_in true whole next draft) (faulty_among true whole end drafts) none in
    let here : lacking next draft ≡ 0 = omega arith in
    let behind : all_lacking end drafts ≡ 0 = omega arith in
    none_behind (faulty_in false whole next draft) (faulty_among false whole end drafts)
    (sym (same_drained whole next draft here) ∙ parts.0)
    (all_over whole end drafts parts.1 behind)

pub lacks_none_where_over : (cut : Cut) → LacksNoneWhereOver cut
lacks_none_where_over cut =
    (all_drained cut.drafts cut.cycles cut.drafts, λ both. all_over cut.drafts cut.cycles cut.drafts both.0 both.1)

-- ---- enough cycles, and no fewer

found_none : (issues : List Issue) → list_any branches issues ≡ false → find branches issues ≡ None
found_none [] none = refl
found_none (issue ∷ issues) none =
    let here : branches issue ≡ false = grind (arith, nat_tests) in
    rw here (found_none issues (grind (arith, nat_tests)))

landed_in_time : (start last : ℕ) (issues : List Issue) → landed start issues ≤ last
    → AllByRecursion (λ issue. end_of issue.parts (start + issue.cycle) ≤ last) issues
landed_in_time start last [] landed_first = tt
landed_in_time start last (issue ∷ issues) landed_first =
    (omega (arith, landed_first), landed_in_time start last issues (omega (arith, landed_first)))

alone_over : (next : ℕ) (draft : Draft) → list_any branches draft.issues ≡ false → over_in next draft ≡ next
alone_over next draft none = rw (found_none draft.issues none) refl

alone_lacks : (next : ℕ) (draft : Draft) → list_any branches draft.issues ≡ false
    → landed draft.start draft.issues ≤ next + lacking next draft
alone_lacks next draft none = rw none (omega arith)

few_lack : (next fewer : ℕ) (draft : Draft) → fewer < lacking next draft
    → landed draft.start draft.issues ≤ next + fewer → ⊥
few_lack next fewer draft less landed_first = elim (cases_Bool (list_any branches draft.issues)) [
  | inl branch ↦ let none : fewer < 0 = rw branch at less in omega (arith, none)
  | inr alone ↦ let most : fewer < landed draft.start draft.issues - next = rw alone at less in omega
      (arith, most, landed_first)
]

pub is_just_drained : (next : ℕ) (draft : Draft) → IsJustDrained next draft
is_just_drained next draft = record {
  enough = λ alone. rw (alone_over (next_drained true next draft) draft alone)
      (landed_in_time draft.start (next + lacking next draft) draft.issues (alone_lacks next draft alone));
  least = λ fewer less all. few_lack next fewer draft less (landed_before draft.start (next + fewer) draft.issues all);
}
