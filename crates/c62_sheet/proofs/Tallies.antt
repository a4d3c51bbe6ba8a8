-- The length of what is placed, as far as a walk has come.
use Rattle.c62_sheet.proofs.Common.{arith, ◌≡◌, ℕ, ◌+◌, ◌<◌, ◌≤◌, max, List, ◌∷◌, length, drop, get_or, Some, None}
use Rattle.c62_sheet.proofs.Common.{true, false, refl, slice_get}
use Rattle.c62_sheet.proofs.Common.{Insn, is_branch, Issue, Spot, Spots, spot_at, issue_at, issues, add-one, find}
use Rattle.c62_sheet.proofs.Common.{drop-cons, drop_all, issued}
use Rattle.c62_insn.specs.Insn.{op_of}
use Rattle.std.specs.Option.{option_map_or}
use Rattle.c62_rules.specs.Length.{landing_end, last_landing_end}
use Rattle.c62_sheet.proofs.IssuesOf.{length-issues, issue-at}
use Rattle.c62_sheet.proofs.Used.{insn_at}

-- the length of a block of which these instructions are left, the others being no branches that have landed below `end`
abbrev pub length_after : ℕ → List Issue → ℕ
length_after end left = option_map_or (λ branch. branch.cycle + 6) (find (λ p. is_branch (op_of p.insn)) left)
    (max end (last_landing_end left))

-- the same of what is issued from number k on
abbrev pub length_from : List Insn → Spots → ℕ → ℕ → ℕ
length_from block set k end = length_after end (issued (drop k (issues block set)))

module _ (block : List Insn) (set : Spots) (k : ℕ) (sized : length set ≡ length block) (within : k < length block) where
  opened : drop k (issues block set) ≡ get_or (issues block set) k None ∷ drop (k + 1) (issues block set)
  opened = rw add-one (drop-cons (issues block set) k None (omega (arith, within, length-issues block set sized)))

  -- nothing is issued under this number
  pub length_skip : (end : ℕ) → spot_at set k ≡ None → length_from block set (k + 1) end ≡ length_from block set k end
  length_skip end none =
      let w = insn_at block k within in
      rw (opened, issue-at block set k w.0 sized w.1, none) refl

  here_is : (insn : Insn) (s : Spot) → slice_get block k ≡ Some insn → spot_at set k ≡ Some s
      → issued (drop k (issues block set)) ≡ issue_at insn s ∷ issued (drop (k + 1) (issues block set))
  here_is insn s at is = rw (opened, issue-at block set k insn sized at, is) refl

  pub length_more : (end : ℕ) (insn : Insn) (s : Spot) → slice_get block k ≡ Some insn → spot_at set k ≡ Some s
      → is_branch (op_of insn) ≡ false
      → length_from block set (k + 1) (max end (landing_end (issue_at insn s))) ≡ length_from block set k end
  length_more end insn s at is goes_on =
      let left = issued (drop (k + 1) (issues block set)) in
      let landed : ℕ = landing_end (issue_at insn s) in
      let most : max (max end landed) (last_landing_end left) ≡ max end (max landed (last_landing_end left)) = omega
      arith in
      rw (here_is insn s at is, goes_on, most) refl

  pub length_branch : (end : ℕ) (insn : Insn) (s : Spot) → slice_get block k ≡ Some insn → spot_at set k ≡ Some s
      → is_branch (op_of insn) ≡ true
      → s.cycle + 6 ≡ length_from block set k end
  length_branch end insn s at is branch = rw (here_is insn s at is, branch) refl

pub length_end : (block : List Insn) (set : Spots) (k end : ℕ) → length set ≡ length block → length block ≤ k
    → end ≡ length_from block set k end
length_end block set k end sized past = rw
    (drop_all k (issues block set) (omega (arith, past, length-issues block set sized))) (omega arith)
