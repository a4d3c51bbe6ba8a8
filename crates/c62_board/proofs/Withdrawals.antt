-- The withdrawals of the marked numbers, and what they leave.
use Rattle.std.proofs.Common.{◌≡◌, ℕ, zero, suc, ◌+◌, ◌<◌, ◌≤◌, List, ◌∷◌, length, Bool, true, false, cond, None}
use Rattle.std.proofs.Common.{get_or, set, inl, inr, sym, ap, refl, ◌∙◌, subst, arith}
use Rattle.std.proofs.lemmas.Bool.{cases_eq, false_from_ne_true, false≢true}
use Rattle.std.proofs.lemmas.Option.{none-some}
use Rattle.c62_insn.specs.declared.insn.Insn.{Insn}
use Rattle.c62_sheet.specs.declared.entry.Entry.{Entry}
use Rattle.c62_sheet.specs.declared.entry.Entry.TheVariants.{Withdraw}
use Rattle.c62_sheet.specs.declared.entry.Spot.{Spot}
use Rattle.c62_sheet.specs.declared.entry.Who.{Who}
use Rattle.c62_sheet.specs.Lawful.{Spots, IsAt, spot_at, withdrawn}
use Rattle.c62_sheet.specs.Journal.{replayed}
use Rattle.c62_sheet.specs.Chain.{Marks}
use Rattle.c62_board.specs.Withdrawal.{GoesWith, WithdrawsBelow, marked_below, withdrawals}
use Rattle.c62_sheet.proofs.Sets.{spot_at-withdrawn_other}
use Rattle.c62_board.proofs.TakingOut.{not_there, spot_at-withdrawn_same, at_withdrawn}

-- ---- the withdrawals of the marked numbers

pub withdrawals_one : (marks : List Bool) (who : Who) (j m : ℕ) → m ≡ suc j → get_or marks j false ≡ true
    → withdrawals marks who m ≡ Withdraw j who ∷ withdrawals marks who j
withdrawals_one marks who j m at is =
    ap (withdrawals marks who) at
    ∙ ap (λ (b : Bool). cond {A = List Entry} b (Withdraw j who ∷ withdrawals marks who j)
    (withdrawals marks who j)) is

pub withdrawals_skip : (marks : List Bool) (who : Who) (j m : ℕ) → m ≡ suc j → get_or marks j false ≡ false
    → withdrawals marks who m ≡ withdrawals marks who j
withdrawals_skip marks who j m at is =
    ap (withdrawals marks who) at
    ∙ ap (λ (b : Bool). cond {A = List Entry} b (Withdraw j who ∷ withdrawals marks who j)
    (withdrawals marks who j)) is

-- they withdraw what goes with a number, where that is what is marked
pub withdraws_marked : (block : List Insn) (set : Spots) (i : ℕ) (who : Who) (n : ℕ) (marks : List Bool)
    → n ≤ length block
    → Marks block (GoesWith block set i) marks → WithdrawsBelow block set i who n (withdrawals marks who n)
withdraws_marked block set i who zero marks le marked = refl
withdraws_marked block set i who (suc j) marks le marked =
    here (get_or marks j false) refl (withdraws_marked block set i who j marks (omega arith) marked)
  where
    here : (b : Bool) → get_or marks j false ≡ b → WithdrawsBelow block set i who j (withdrawals marks who j)
        → WithdrawsBelow block set i who (suc j) (withdrawals marks who (suc j))
    here true is rest = inl (
      (marked j (omega arith)).0 is,
      (withdrawals marks who j, withdrawals_one marks who j (suc j) refl is, rest),
    )
    here false is rest = inr (
      λ g. false≢true (sym is ∙ (marked j (omega arith)).1 g),
      subst (λ (es : List Entry). WithdrawsBelow block set i who j es)
          (sym (withdrawals_skip marks who j (suc j) refl is)) rest,
    )

-- ---- counting them

pub marked_one : (marks : List Bool) (j m : ℕ) → m ≡ suc j → get_or marks j false ≡ true
    → marked_below marks m ≡ marked_below marks j + 1
marked_one marks j m at is = ap (marked_below marks) at
    ∙ ap (λ (b : Bool). marked_below marks j + cond {A = ℕ} b 1 0) is

pub marked_skip : (marks : List Bool) (j m : ℕ) → m ≡ suc j → marked_below marks j ≤ marked_below marks m
marked_skip marks j m at = omega (arith, ap (marked_below marks) at)

pub marked_below-le : (marks : List Bool) (n : ℕ) → marked_below marks n ≤ n
marked_below-le marks zero = omega arith
marked_below-le marks (suc n) = omega (arith, marked_below-le marks n, at_most_one (get_or marks n false))
  where
    at_most_one : (b : Bool) → cond {A = ℕ} b 1 0 ≤ 1
    at_most_one true = omega arith
    at_most_one false = omega arith

pub withdrawn_many : (block : List Insn) (set : Spots) (i : ℕ) (who : Who) (n : ℕ) (marks : List Bool) (es : List Entry)
    → n ≤ length block
    → Marks block (GoesWith block set i) marks → WithdrawsBelow block set i who n es → length es ≡ marked_below marks n
withdrawn_many block set i who zero marks es le marked w = ap (length {A = Entry}) w
withdrawn_many block set i who (suc j) marks es le marked (inl w) =
    let is : get_or marks j false ≡ true = (marked j (omega arith)).1 w.0 in
    let rest = withdrawn_many block set i who j marks w.1.0 (omega arith) marked w.1.2 in
    let long : length es ≡ suc (length w.1.0) = ap (length {A = Entry}) w.1.1 in
    omega (arith, long, rest, marked_one marks j (suc j) refl is)
withdrawn_many block set i who (suc j) marks es le marked (inr w) =
    let off : get_or marks j false ≡ false = false_from_ne_true (get_or marks j false)
    (λ is. w.0 ((marked j (omega arith)).0 is)) in
    let same : marked_below marks (suc j) ≡ marked_below marks j + 0 = ap
    (λ (b : Bool). marked_below marks j + cond {A = ℕ} b 1 0) off in
    let rest = withdrawn_many block set i who j marks es (omega arith) marked w.1 in
    omega (arith, same, rest)

-- ---- what is left

-- what does not go with i stays
pub kept_below : (block : List Insn) (set now : Spots) (i : ℕ) (who : Who) (n k : ℕ) (es : List Entry)
    → WithdrawsBelow block set i who n es
    → (GoesWith block set i k → ⊥) → spot_at (replayed now es) k ≡ spot_at now k
kept_below block set now i who zero k es w not = ap (λ (xs : List Entry). spot_at (replayed now xs) k) w
kept_below block set now i who (suc j) k es (inl w) not =
    ap (λ (xs : List Entry). spot_at (replayed now xs) k) w.1.1
    ∙ kept_below block set (withdrawn now j) i who j k w.1.0 w.1.2 not
    ∙ spot_at-withdrawn_other now j k (λ (e : k ≡ j). not (subst (λ (x : ℕ). GoesWith block set i x) (sym e) w.0))
kept_below block set now i who (suc j) k es (inr w) not = kept_below block set now i who j k es w.1 not

-- what is left stood there
pub left_below : (block : List Insn) (set now : Spots) (i : ℕ) (who : Who) (n k : ℕ) (t : Spot) (es : List Entry)
    → WithdrawsBelow block set i who n es
    → IsAt (replayed now es) k t → IsAt now k t
left_below block set now i who zero k t es w at = subst (λ (xs : List Entry). IsAt (replayed now xs) k t) w at
left_below block set now i who (suc j) k t es (inl w) at =
    at_withdrawn now j k t
    (left_below block set (withdrawn now j) i who j k t w.1.0 w.1.2
    (subst (λ (xs : List Entry). IsAt (replayed now xs) k t) w.1.1 at))
left_below block set now i who (suc j) k t es (inr w) at = left_below block set now i who j k t es w.1 at

-- what goes with i is gone
pub gone_below : (block : List Insn) (set now : Spots) (i : ℕ) (who : Who) (n k : ℕ) (es : List Entry)
    → WithdrawsBelow block set i who n es
    → k < n → GoesWith block set i k → spot_at (replayed now es) k ≡ None
gone_below block set now i who zero k es w lt f = absurd (omega (arith, lt))
gone_below block set now i who (suc j) k es (inl w) lt f = elim (cases_eq k j) [
  | inl e ↦ not_there (spot_at (replayed now es) k) (λ t at.
      let there : IsAt (withdrawn now j) k t = left_below block set (withdrawn now j) i who j k t w.1.0 w.1.2
      (subst (λ (xs : List Entry). IsAt (replayed now xs) k t) w.1.1 at) in
      none-some t (sym (spot_at-withdrawn_same now j) ∙ ap (λ (x : ℕ). spot_at (withdrawn now j) x) (sym e) ∙ there))
  | inr ne ↦ ap (λ (xs : List Entry). spot_at (replayed now xs) k) w.1.1
      ∙ gone_below block set (withdrawn now j) i who j k w.1.0 w.1.2 (omega arith) f
]
gone_below block set now i who (suc j) k es (inr w) lt f = elim (cases_eq k j) [
  | inl e ↦ absurd (w.0 (subst (λ (x : ℕ). GoesWith block set i x) e f))
  | inr ne ↦ gone_below block set now i who j k es w.1 (omega arith) f
]
