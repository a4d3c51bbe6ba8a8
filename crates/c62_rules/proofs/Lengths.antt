-- The length of a block asks only which instructions are issued.
use Rattle.std.proofs.Common.{arith, ◌≡◌, ℕ, ◌+◌, ◌≤◌, List, [], ◌∷◌, Option, Some, None, refl, sym, ap, ◌∙◌, Bool}
use Rattle.std.proofs.Common.{true, false, cond}
use Rattle.std.specs.Prelude.{sum_by, count_by, IsPermutation, All, find}
use Rattle.std.specs.Option.{option_map_or}
use Rattle.std.proofs.lemmas.List.Sums.{sum_by-cons}
use Rattle.std.proofs.lemmas.List.Elements.{All-nil, All-cons, All-weaker, All-head, All-tail}
use Rattle.std.proofs.lemmas.List.Sorted.{IsPermutation-sym, All-permutation, sum_by-IsPermutation}
use Rattle.c62_op.specs.Shape.{is_branch}
use Rattle.c62_insn.specs.Insn.{op_of}
use Rattle.c62_rules.specs.PacketRules.{Issue}
use Rattle.c62_rules.specs.Length.{landing_end, last_landing_end, length_of}
use Rattle.c62_rules.specs.Part.{HasFewBranches}

-- ---- the last landing

-- it is no earlier than that of each
each-lands : (issues : List Issue) → All (λ p. landing_end p ≤ last_landing_end issues) issues
each-lands [] = All-nil (λ p. landing_end p ≤ 0)
each-lands (p ∷ issues) =
    All-cons (λ q. landing_end q ≤ last_landing_end (p ∷ issues)) p issues (omega arith)
    (All-weaker (λ q. landing_end q ≤ last_landing_end issues) (λ q. landing_end q ≤ last_landing_end (p ∷ issues))
    (λ q h. omega (arith, h)) issues (each-lands issues))

-- and the least such cycle
last-least : (issues : List Issue) (n : ℕ) → All (λ p. landing_end p ≤ n) issues → last_landing_end issues ≤ n
last-least [] n h = omega arith
last-least (p ∷ issues) n h =
    let first : landing_end p ≤ n = All-head (λ q. landing_end q ≤ n) p issues h in
    let rest : last_landing_end issues ≤ n = last-least issues n (All-tail (λ q. landing_end q ≤ n) p issues h) in
    omega (arith, first, rest)

last-below : (issues others : List Issue) → IsPermutation issues others
    → last_landing_end others ≤ last_landing_end issues
last-below issues others same =
    last-least others (last_landing_end issues)
    (All-permutation (λ p. landing_end p ≤ last_landing_end issues) issues others same (each-lands issues))

pub last-same : (issues others : List Issue) → IsPermutation issues others
    → last_landing_end issues ≡ last_landing_end others
last-same issues others same =
    let below = last-below issues others same in
    let above = last-below others issues (IsPermutation-sym issues others same) in
    omega (arith, below, above)

-- ---- the branch

abbrev branches : Issue → Bool
branches p = is_branch (op_of p.insn)

-- a number that tells the cycle of a branch, and 0 for others
branch_mark : Issue → ℕ
branch_mark p = cond (branches p) (p.cycle + 7) 0

mark_of : Option Issue → ℕ
mark_of found = option_map_or (λ p. p.cycle + 7) found 0

no-marks : (issues : List Issue) → count_by branches issues ≡ 0 → sum_by branch_mark issues ≡ 0
unfolding branch_mark
no-marks [] h = refl
no-marks (p ∷ issues) h = go (no-marks issues) (branches p) refl
  where
    go : (count_by branches issues ≡ 0 → sum_by branch_mark issues ≡ 0) → (b : Bool) → branches p ≡ b
        → sum_by branch_mark (p ∷ issues) ≡ 0
    go later true e =
        let one : cond (branches p) 1 0 ≡ 1 = ap (λ (t : Bool). cond {A = ℕ} t 1 0) e in
        let many = sum_by-cons (λ (q : Issue). cond (branches q) 1 0) p issues in
        absurd (omega (arith, one, many, h))
    go later false e =
        let none : cond (branches p) 1 0 ≡ 0 = ap (λ (t : Bool). cond {A = ℕ} t 1 0) e in
        let own : branch_mark p ≡ 0 = ap (λ (t : Bool). cond {A = ℕ} t (p.cycle + 7) 0) e in
        let many = sum_by-cons (λ (q : Issue). cond (branches q) 1 0) p issues in
        let rest : sum_by branch_mark issues ≡ 0 = later (omega (arith, none, many, h)) in
        let whole = sum_by-cons branch_mark p issues in
        omega (arith, own, rest, whole)

-- of at most one branch the sum of the marks tells the cycle
found-mark : (issues : List Issue) → HasFewBranches issues → mark_of (find branches issues) ≡ sum_by branch_mark issues
unfolding branch_mark mark_of
found-mark [] few = refl
found-mark (p ∷ issues) few = go (found-mark issues) (branches p) refl
  where
    go : (HasFewBranches issues → mark_of (find branches issues) ≡ sum_by branch_mark issues) → (b : Bool)
        → branches p ≡ b
        → mark_of (find branches (p ∷ issues)) ≡ sum_by branch_mark (p ∷ issues)
    go later true e =
        let one : cond (branches p) 1 0 ≡ 1 = ap (λ (t : Bool). cond {A = ℕ} t 1 0) e in
        let own : branch_mark p ≡ p.cycle + 7 = ap (λ (t : Bool). cond {A = ℕ} t (p.cycle + 7) 0) e in
        let many = sum_by-cons (λ (q : Issue). cond (branches q) 1 0) p issues in
        let rest : sum_by branch_mark issues ≡ 0 = no-marks issues (omega (arith, one, many, few)) in
        let whole = sum_by-cons branch_mark p issues in
        let found : mark_of (find branches (p ∷ issues)) ≡ p.cycle + 7 = ap
        (λ (t : Bool). mark_of (cond {A = Option Issue} t (Some p) (find branches issues))) e in
        omega (arith, own, rest, whole, found)
    go later false e =
        let none : cond (branches p) 1 0 ≡ 0 = ap (λ (t : Bool). cond {A = ℕ} t 1 0) e in
        let own : branch_mark p ≡ 0 = ap (λ (t : Bool). cond {A = ℕ} t (p.cycle + 7) 0) e in
        let many = sum_by-cons (λ (q : Issue). cond (branches q) 1 0) p issues in
        let rest : mark_of (find branches issues) ≡ sum_by branch_mark issues = later (omega (arith, none, many, few))
        in
        let whole = sum_by-cons branch_mark p issues in
        let found : mark_of (find branches (p ∷ issues)) ≡ mark_of (find branches issues) =
        ap (λ (t : Bool). mark_of (cond {A = Option Issue} t (Some p) (find branches issues))) e in
        omega (arith, own, rest, whole, found)

few-same : (issues others : List Issue) → IsPermutation issues others → HasFewBranches issues → HasFewBranches others
few-same issues others same few =
    let count = sum_by-IsPermutation (λ (p : Issue). cond (branches p) 1 0) issues others same in
    omega (arith, count, few)

same-end : (first second : Option Issue) (m n : ℕ) → mark_of first ≡ mark_of second → m ≡ n
    → option_map_or (λ (p : Issue). p.cycle + 6) second n ≡ option_map_or (λ (p : Issue). p.cycle + 6) first m
unfolding mark_of
same-end None None m n marks e = sym e
same-end None (Some q) m n marks e = absurd (omega (arith, marks))
same-end (Some p) None m n marks e = absurd (omega (arith, marks))
same-end (Some p) (Some q) m n marks e = omega (arith, marks)

pub any-order-length : (issues others : List Issue) → IsPermutation issues others → HasFewBranches issues
    → length_of others ≡ length_of issues
any-order-length issues others same few =
    let sums = sum_by-IsPermutation branch_mark issues others same in
    let marks : mark_of (find branches issues) ≡ mark_of (find branches others) =
    found-mark issues few ∙ sym sums ∙ sym (found-mark others (few-same issues others same few)) in
    same-end (find branches issues) (find branches others) (last_landing_end issues) (last_landing_end others) marks
    (last-same issues others same)
