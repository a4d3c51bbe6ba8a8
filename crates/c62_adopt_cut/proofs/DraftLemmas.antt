-- Labels and instructions of blocks that were read.
use Rattle.std.proofs.Common.{◌≡◌, ◌+◌, Some, min, List, [], ◌∷◌, ℕ, refl, ap, ◌||◌, Bool, inl, inr}
use Rattle.std.proofs.lemmas.Bool.{cases_Bool}
use Rattle.std.specs.Prelude.{map, option_map}
use Rattle.std.specs.List.{list_any, find}
use Rattle.c62_read.specs.Program.{Name, label_is}
use Rattle.c62_adopt_cut.specs.declared.draft.Draft.{Draft as DraftRead}
use Rattle.c62_adopt_cut.specs.declared.draft.Issue.{Issue as IssueRead}
use Rattle.c62_adopt_cut.specs.Blocks.{Draft, Issue}
use Rattle.c62_adopt_cut.specs.Drafted.{draft_of, issue_of}
use Rattle.c62_adopt_cut.specs.Flight.{branches, over_in}

pub any_draft : (label : Name) (drafts : List DraftRead)
    → list_any (λ (draft : Draft). label_is label draft.label) (map draft_of drafts) ≡ list_any
    (λ (draft : DraftRead). label_is label draft.label) drafts
any_draft label [] = refl
any_draft label (draft ∷ drafts) = ap (λ (others : Bool). label_is label draft.label || others) (any_draft label drafts)

module _ (test : Issue → Bool) where
  pub any_issue : (issues : List IssueRead)
      → list_any test (map issue_of issues) ≡ list_any (λ (issue : IssueRead). test (issue_of issue)) issues
  any_issue [] = refl
  any_issue (issue ∷ issues) = ap (λ (others : Bool). test (issue_of issue) || others) (any_issue issues)

  pub find_issue : (issues : List IssueRead)
      → find test (map issue_of issues) ≡ option_map issue_of
      (find (λ (issue : IssueRead). test (issue_of issue)) issues)
  find_issue [] = refl
  find_issue (issue ∷ issues) = elim (cases_Bool (test (issue_of issue))) [
    | inl here ↦ rw here refl
    | inr other ↦ rw other (find_issue issues)
  ]

pub over_at : (next : ℕ) (draft : DraftRead) (branch : IssueRead)
    → Some branch ≡ find (λ (issue : IssueRead). branches (issue_of issue)) draft.issues.items
    → over_in next (draft_of draft) ≡ min next (draft.start + branch.cycle + 6)
over_at next draft branch is = rw (find_issue branches draft.issues.items, ← is) refl
