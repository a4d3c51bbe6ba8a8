-- Turns one after another.
use Rattle.std.proofs.Common.{◌≡◌, ◌<◌, ◌⊎◌, List, [], ◌++◌, length, Option, inl, inr, refl, sym, ap, ◌∙◌, subst, arith}
use Rattle.std.proofs.Common.{append_assoc, length-append}
use Rattle.std.proofs.lemmas.List.{append-nil}
use Rattle.c62_op.specs.declared.register.Side.{Side}
use Rattle.c62_op.specs.declared.register.Side.TheVariants.{A, B}
use Rattle.c62_read.specs.Block.{Serial}
use Rattle.c62_depend.specs.Plan.{insns_of}
use Rattle.c62_sheet.specs.declared.entry.Spot.{Spot}
use Rattle.c62_sheet.specs.declared.entry.Entry.{Entry}
use Rattle.c62_sheet.specs.Lawful.{Spots}
use Rattle.c62_sheet.specs.Least.{HasNoPick}
use Rattle.c62_sheet.specs.Journal.{replayed}
use Rattle.c62_board.specs.declared.turn.Turn.{Turn}
use Rattle.c62_board.specs.declared.turn.Turn.TheVariants.{Placed, Ejected, Idle, Done, NoRoom, Memory}
use Rattle.c62_board.specs.Turn.{IsTurn}
use Rattle.c62_board.specs.State.{BoardState, IsSound, Adds, TakesTurn, IsStep}
use Rattle.c62_board.proofs.Journals.{replayed-append}
use Rattle.c62_work.specs.Turns.{other_side, GoesOn, Reaches, start, turn, TakesTurns}
use Rattle.c62_board.proofs.Counting.{length-replayed}
use Rattle.c62_work.proofs.Ranks.{rank, step_rank, not_both_idle}

-- turns so far, and whose turn it is
pub record HasTaken (old : BoardState) (side : Side) (now : BoardState) : Type 0 where
  pub entries : List Entry
  pub reached : Reaches (insns_of old.plan) old.spots old.budget side entries now.budget
  pub adds : Adds (record old { budget = now.budget }) entries now

pub taken_none : (board : BoardState) → HasTaken board A board
taken_none board = record {
  entries = [];
  reached = start;
  adds = record {
    plan = refl;
    spots = refl;
    journal = sym (append-nil board.journal);
    budget = refl;
    room = omega arith;
  };
}

took : (now new : BoardState) (side : Side) (taken : Turn) → IsStep now side taken new → GoesOn taken
    → TakesTurn now side taken new
took now new side (Placed i s) step goes = step
took now new side (Ejected q i s) step goes = step
took now new side Idle step goes = step.0
took now new side Done step goes = absurd goes
took now new side (NoRoom i) step goes = absurd goes
took now new side Memory step goes = absurd goes

stopped : (now new : BoardState) (side : Side) (taken : Turn) → IsStep now side taken new → (GoesOn taken → ⊥)
    → new ≡ now
stopped now new side (Placed i s) step ends = absurd (ends tt)
stopped now new side (Ejected q i s) step ends = absurd (ends tt)
stopped now new side Idle step ends = absurd (ends tt)
stopped now new side Done step ends = step.1
stopped now new side (NoRoom i) step ends = step.1
stopped now new side Memory step ends = step.1

pub taken_more : (old now new : BoardState) (side : Side) (taken : Turn) → HasTaken old side now
    → IsStep now side taken new → GoesOn taken
    → HasTaken old (other_side side) new
taken_more old now new side taken so_far step goes =
    let more = took now new side taken step goes in
    let is : IsTurn (insns_of old.plan) (replayed old.spots so_far.entries) now.budget side taken more.entries
    new.budget =
    rw (← so_far.adds.plan, ← so_far.adds.spots) more.turn_is in
    record {
      entries = so_far.entries ++ more.entries;
      reached = turn side so_far.entries now.budget taken more.entries new.budget so_far.reached is goes;
      adds = record {
        plan = more.adds.plan ∙ so_far.adds.plan;
        spots = more.adds.spots ∙ ap (λ (set : Spots). replayed set more.entries) so_far.adds.spots
            ∙ sym (replayed-append old.spots so_far.entries more.entries);
        journal = more.adds.journal ∙ ap (λ (es : List Entry). es ++ more.entries) so_far.adds.journal
            ∙ append_assoc old.journal so_far.entries more.entries;
        budget = refl;
        room = (let first = so_far.adds.room in let second = more.adds.room in omega
            (arith, length-append so_far.entries more.entries));
      };
    }

pub taken_last : (old now new : BoardState) (side : Side) (taken : Turn) → HasTaken old side now
    → IsStep now side taken new → (GoesOn taken → ⊥)
    → TakesTurns old taken new
taken_last old now new side taken so_far step ends =
    let same : new ≡ now = stopped now new side taken step ends in
    subst (λ (b : BoardState). TakesTurns old taken b) (sym same)
    (record {
      side = side;
      entries = so_far.entries;
      reached = so_far.reached;
      adds = so_far.adds;
      stays = subst (λ (b : BoardState). IsStep now side taken b) same step;
      ends = ends;
    })

stays_sized : (now new : BoardState) (side : Side) (taken : Turn) → length now.spots ≡ length (insns_of now.plan)
    → IsStep now side taken new → GoesOn taken
    → length new.spots ≡ length (insns_of new.plan)
stays_sized now new side taken sized step goes =
    let more = took now new side taken step goes in
    ap (length {A = Option Spot}) more.adds.spots ∙ length-replayed now.spots more.entries ∙ sized
    ∙ sym (ap (λ (p : Serial). length (insns_of p)) more.adds.plan)

-- two steps leave less to do
pub both_less : (old mid new : BoardState) (first second : Turn) → IsSound old → IsStep old A first mid → GoesOn first
    → IsStep mid B second new → GoesOn second
    → rank new < rank old
both_less old mid new first second sound step goes next goes_on =
    by_cases (step_rank old mid A first sound.lawful.sized step goes)
    (step_rank mid new B second (stays_sized old mid A first sound.lawful.sized step goes) next goes_on)
  where
    idle : (first ≡ Idle) × (mid ≡ old) → (second ≡ Idle) × (new ≡ mid) → ⊥
    idle a b =
        let at_first : IsStep old A Idle mid = subst (λ (t : Turn). IsStep old A t mid) a.0 step in
        let at_second : IsStep mid B Idle new = subst (λ (t : Turn). IsStep mid B t new) b.0 next in
        let is = at_first.0.turn_is in
        let later = at_second.0.turn_is in
        let none = subst (λ (m : BoardState). HasNoPick (insns_of m.plan) m.spots B) a.1 later.1 in
        not_both_idle (insns_of old.plan) old.spots is.0 is.1 none

    by_cases : (rank mid < rank old) ⊎ ((first ≡ Idle) × (mid ≡ old)) → (rank new < rank mid)
        ⊎ ((second ≡ Idle) × (new ≡ mid)) → rank new < rank old
    by_cases (inl x) (inl y) = omega (arith, x, y)
    by_cases (inl x) (inr y) = (let same : rank new ≡ rank mid = ap rank y.1 in omega (arith, x, same))
    by_cases (inr x) (inl y) = (let same : rank mid ≡ rank old = ap rank x.1 in omega (arith, y, same))
    by_cases (inr x) (inr y) = absurd (idle x y)
