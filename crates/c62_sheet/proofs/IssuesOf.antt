-- What is issued by a block and the spots of its numbers.
use Rattle.c62_sheet.proofs.Common.{[], arith, ◌≡◌, ℕ, zero, suc, List, ◌∷◌, length, get_or, Option, Some, None, refl}
use Rattle.c62_sheet.proofs.Common.{sym, ap, ◌∙◌}
use Rattle.c62_sheet.proofs.Common.{inl, inr, slice_get, slice_set, option_map, get_or_past, same_Some}
use Rattle.c62_sheet.proofs.Common.{none-some, slice_get_cases, Insn, Issue, IsIssued, Spot, Spots, IsAt, spot_at}
use Rattle.c62_sheet.proofs.Common.{placed, withdrawn}
use Rattle.c62_sheet.proofs.Common.{issue_at, issues}

pub length-issues : (block : List Insn) (set : Spots) → length set ≡ length block
    → length (issues block set) ≡ length block
length-issues [] set h = refl
length-issues (insn ∷ block) [] h = absurd (omega (arith, h))
length-issues (insn ∷ block) (s ∷ set) h = omega (arith, length-issues block set (omega (arith, h)))

-- what is issued under a number
pub issue-at : (block : List Insn) (set : Spots) (k : ℕ) (insn : Insn) → length set ≡ length block
    → slice_get block k ≡ Some insn
    → get_or (issues block set) k None ≡ option_map (issue_at insn) (spot_at set k)
issue-at [] set k insn h at = absurd (none-some insn at)
issue-at (first ∷ block) [] k insn h at = absurd (omega (arith, h))
issue-at (first ∷ block) (s ∷ set) zero insn h at = ap (λ (i : Insn). option_map (issue_at i) s)
    (same_Some first insn at)
issue-at (first ∷ block) (s ∷ set) (suc k) insn h at = issue-at block set k insn (omega (arith, h)) at

-- a number that is issued is one of the block's, at its spot
pub record IsPlacement (block : List Insn) (set : Spots) (k : ℕ) (p : Issue) : Type 0 where
  pub insn : Insn
  pub spot : Spot
  pub is_insn : slice_get block k ≡ Some insn
  pub is_at : IsAt set k spot
  pub is_issue : p ≡ issue_at insn spot

placement_from : (block : List Insn) (set : Spots) (k : ℕ) (p : Issue) (insn : Insn) (o : Option Spot)
    → slice_get block k ≡ Some insn
    → spot_at set k ≡ o → option_map (issue_at insn) o ≡ Some p → IsPlacement block set k p
placement_from block set k p insn None at is e = absurd (none-some p e)
placement_from block set k p insn (Some s) at is e =
    record { insn = insn; spot = s; is_insn = at; is_at = is; is_issue = sym (same_Some (issue_at insn s) p e) }

pub issued-placement : (block : List Insn) (set : Spots) (k : ℕ) (p : Issue) → length set ≡ length block
    → IsIssued (issues block set) k p
    → IsPlacement block set k p
issued-placement block set k p h is =
    elim ((slice_get_cases block k).1) [
      | inl w ↦ placement_from block set k p w.0 (spot_at set k) w.2 refl (sym (issue-at block set k w.0 h w.2) ∙ is)
      | inr w ↦ absurd (none-some p
          (sym (get_or_past (issues block set) k None (omega (arith, w.0, length-issues block set h))) ∙ is))
    ]

pub placement-issued : (block : List Insn) (set : Spots) (k : ℕ) (insn : Insn) (s : Spot) → length set ≡ length block
    → slice_get block k ≡ Some insn
    → IsAt set k s → IsIssued (issues block set) k (issue_at insn s)
placement-issued block set k insn s h at is = issue-at block set k insn h at ∙ ap (option_map (issue_at insn)) is

-- one more triple is one more issue
pub issues-placed : (block : List Insn) (set : Spots) (i : ℕ) (insn : Insn) (s : Spot) → length set ≡ length block
    → slice_get block i ≡ Some insn
    → issues block (placed set i s) ≡ slice_set (issues block set) i (Some (issue_at insn s))
issues-placed [] set i insn s h at = absurd (none-some insn at)
issues-placed (first ∷ block) [] i insn s h at = absurd (omega (arith, h))
issues-placed (first ∷ block) (o ∷ set) zero insn s h at = ap (λ (x : Insn). Some (issue_at x s) ∷ issues block set)
    (same_Some first insn at)
issues-placed (first ∷ block) (o ∷ set) (suc i) insn s h at = rw
    (issues-placed block set i insn s (omega (arith, h)) at) refl

-- one triple less is one issue less
pub issues-withdrawn : (block : List Insn) (set : Spots) (i : ℕ) → length set ≡ length block
    → issues block (withdrawn set i) ≡ slice_set (issues block set) i None
issues-withdrawn [] set i h = refl
issues-withdrawn (first ∷ block) [] i h = refl
issues-withdrawn (first ∷ block) (o ∷ set) zero h = refl
issues-withdrawn (first ∷ block) (o ∷ set) (suc i) h = rw (issues-withdrawn block set i (omega (arith, h))) refl
