-- How much is left to do: each step that goes on and is not idle makes it less, and two sides are not idle at once.
use Rattle.std.proofs.Common.{◌≡◌, ℕ, ◌+◌, ◌*◌, ◌<◌, ◌⊎◌, List, length, Option, inl, inr, refl, ap, ◌∙◌, arith, add-one}
use Rattle.std.proofs.Math.Nat.{suc-mul}
use Rattle.c62_op.specs.declared.register.Side.{Side}
use Rattle.c62_op.specs.declared.register.Side.TheVariants.{A, B}
use Rattle.c62_insn.specs.declared.insn.Insn.{Insn}
use Rattle.c62_read.specs.Block.{Serial}
use Rattle.c62_depend.specs.Plan.{insns_of}
use Rattle.c62_sheet.specs.declared.entry.Entry.{Entry}
use Rattle.c62_sheet.specs.declared.entry.Spot.{Spot}
use Rattle.c62_sheet.specs.Lawful.{Spots, placed}
use Rattle.c62_sheet.specs.Least.{HasNoPick, IsComplete}
use Rattle.c62_sheet.proofs.Picks.{some_ready}
use Rattle.c62_sheet.specs.Journal.{replayed}
use Rattle.c62_board.specs.declared.turn.Turn.{Turn}
use Rattle.c62_board.specs.declared.turn.Turn.TheVariants.{Placed, Ejected, Idle, Done, NoRoom, Memory}
use Rattle.c62_board.specs.State.{BoardState, IsStep}
use Rattle.c62_board.proofs.Counting.{unplaced, unplaced-placed, unplaced-le, length-replayed}
use Rattle.c62_work.specs.Turns.{GoesOn}

-- ---- less is left

-- what is left: the ejections, each of which may take all out, and the numbers that are not placed
abbrev pub rank : BoardState → ℕ
rank b = b.budget * (length (insns_of b.plan) + 1) + unplaced b.spots

pub step_rank : (old new : BoardState) (of : Side) (taken : Turn) → length old.spots ≡ length (insns_of old.plan)
    → IsStep old of taken new → GoesOn taken
    → (rank new < rank old) ⊎ ((taken ≡ Idle) × (new ≡ old))
step_rank old new of Idle sized step goes = inr (refl, step.1)
step_rank old new of Done sized step goes = absurd goes
step_rank old new of (NoRoom i) sized step goes = absurd goes
step_rank old new of Memory sized step goes = absurd goes
step_rank old new of (Placed i s) sized step goes =
    let is = step.turn_is in
    let within : i < length old.spots = (let w = is.0.pick.competes.within in omega (arith, sized, w)) in
    let spots : new.spots ≡ placed old.spots i s = step.adds.spots
    ∙ ap (λ (es : List Entry). replayed old.spots es) is.1 in
    let less : unplaced new.spots + 1 ≡ unplaced old.spots =
    ap (λ (set : Spots). unplaced set + 1) spots ∙ unplaced-placed old.spots i s within is.0.pick.competes.ready.free in
    let many : length (insns_of new.plan) ≡ length (insns_of old.plan) = ap (λ (p : Serial). length (insns_of p))
    step.adds.plan in
    let most : new.budget * (length (insns_of new.plan) + 1) ≡ old.budget * (length (insns_of old.plan) + 1) =
    ap (λ (b : ℕ). b * (length (insns_of new.plan) + 1)) is.2 ∙ ap (λ (n : ℕ). old.budget * (n + 1)) many in
    inl (omega (arith, less, most))
step_rank old new of (Ejected q i s) sized step goes =
    let is = step.turn_is in
    let many : length (insns_of new.plan) ≡ length (insns_of old.plan) = ap (λ (p : Serial). length (insns_of p))
    step.adds.plan in
    let most : old.budget * (length (insns_of old.plan) + 1) ≡ new.budget * (length (insns_of old.plan) + 1) +
    (length (insns_of old.plan) + 1) =
    ap (λ (b : ℕ). b * (length (insns_of old.plan) + 1)) is.1 ∙ one_more new.budget (length (insns_of old.plan) + 1) in
    let now : new.budget * (length (insns_of new.plan) + 1) ≡ new.budget * (length (insns_of old.plan) + 1) = ap
    (λ (n : ℕ). new.budget * (n + 1)) many in
    let long : length new.spots ≡ length old.spots = ap (length {A = Option Spot}) step.adds.spots
    ∙ length-replayed old.spots step.entries in
    let few = unplaced-le new.spots in
    inl (omega (arith, most, now, long, few, sized))
  where
    one_more : (b m : ℕ) → (b + 1) * m ≡ b * m + m
    one_more b m = ap (λ (n : ℕ). n * m) (add-one b) ∙ suc-mul b m

-- ---- somebody has something to do

pub not_both_idle : (block : List Insn) (set : Spots) → (IsComplete block set → ⊥) → HasNoPick block set A
    → HasNoPick block set B → ⊥
not_both_idle block set left a b =
    let w = some_ready block set left in
    none w.0 w.1.0 w.1.1
  where
    none : (of : Side) → HasNoPick block set of
    none A = a
    none B = b
