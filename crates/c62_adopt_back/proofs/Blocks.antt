-- A block that is being read.
use Rattle.c62_adopt_back.proofs.Common.{nat_tests, arith, ◌≡◌, ℕ, ◌+◌, ◌<◌, List, length, Bool, true, false, Option}
use Rattle.c62_adopt_back.proofs.Common.{Some, None}
use Rattle.c62_adopt_back.proofs.Common.{AllZip, Name, Placed, Line, cuts_of, cycles_of, Draft, Drafts, Issue}
use Rattle.c62_adopt_back.proofs.Common.{all_drafts, begins_at, opened}
use Rattle.c62_adopt_back.proofs.Cuts.{AreCuts, last_cut}
use Rattle.c62_adopt_back.proofs.Said.{parts_written, target_written}

-- ---- what is read of a block

pub record IsIssueOf (name : ℕ → Name) (issue : Issue) (p : Placed) : Type 0 where
  pub parts : issue.parts ≡ parts_written p
  pub target : issue.target ≡ target_written name p
  pub cycle : issue.cycle ≡ p.cycle

pub record IsDraftOf (name : ℕ
    → Name) (label : Option Name) (start : ℕ) (placed : List Placed) (draft : Draft) : Type 0 where
  pub label_is : draft.label ≡ label
  pub starts : draft.start ≡ start
  pub issues : AllZip (IsIssueOf name) draft.issues placed

-- ---- where it is read

-- a block behind others, which begins in this cycle of the text and takes so many
pub record Site : Type 0 where
  pub name : ℕ → Name
  pub done : List Draft
  pub label : Option Name
  pub start : ℕ
  pub cycles : ℕ

-- its cycles below the next are written, with these instructions
pub record IsAt (site : Site) (next : ℕ) (branched : Bool) (placed : List Placed) (above : List Line)
    (drafts : Drafts) : Type 0 where
  pub passed : cycles_of above ≡ site.start + next
  pub cuts : AreCuts site.start (last_cut branched site.start site.cycles) (cuts_of above)
  pub draft : Draft
  pub opens : opened site.start drafts ≡ record { done = site.done; current = Some draft }
  pub is : IsDraftOf site.name site.label site.start placed draft
  pub begun : (site.label ≡ None → 0 < length placed) → begins_at site.start drafts.current ≡ true

pub as_opened : (start : ℕ) (drafts next : Drafts) → opened start drafts ≡ next → begins_at start drafts.current ≡ true
    → drafts ≡ next
as_opened start drafts next opens begun = grind (arith, nat_tests)

pub not_opened : (start : ℕ) (drafts : Drafts) (done : List Draft) (draft : Draft)
    → opened start drafts ≡ record { done = done; current = Some draft } → begins_at start drafts.current ≡ false
    → all_drafts drafts ≡ done
not_opened start drafts done draft opens none = grind (arith, nat_tests)
