-- A side's turn, learned before it is taken.
use Rattle.std.proofs.Common.{◌≡◌, ℕ, ◌+◌, ◌<◌, ◌≤◌, List, [], ◌∷◌, ◌++◌, length, refl, sym, ap, ◌∙◌, subst, arith}
use Rattle.std.proofs.Common.{length-append}
use Rattle.std.proofs.lemmas.List.{append-nil}
use Rattle.c62_op.specs.declared.register.Side.{Side}
use Rattle.c62_depend.specs.Plan.{insns_of}
use Rattle.c62_sheet.specs.declared.entry.Entry.{Entry}
use Rattle.c62_sheet.specs.declared.entry.Entry.TheVariants.{Place}
use Rattle.c62_board.specs.declared.turn.Turn.{Turn}
use Rattle.c62_board.specs.declared.turn.Turn.TheVariants.{Placed, Ejected, Idle, Done, NoRoom, Memory}
use Rattle.c62_board.specs.Who.{who_of}
use Rattle.c62_board.specs.State.{BoardState, Adds, GainsRoom, TakesTurn, IsStep, IsAhead, HasManyEntries}
use Rattle.c62_board.proofs.Turns.{one_turn}
use Rattle.c62_view.specs.Changing.{HasEntriesToAdd, IsDeskStep}

-- nothing was added
adds_none : (old : BoardState) → Adds old [] old
adds_none old = record {
  plan = refl;
  spots = refl;
  journal = sym (append-nil old.journal);
  budget = refl;
  room = omega arith;
}

-- a turn without entries changes nothing
pub no_entries : (old : BoardState) (side : Side) (turn : Turn) (entries : List Entry) → IsAhead old side turn entries
    → length entries ≡ 0 → IsDeskStep old side turn old
no_entries old side Memory entries (left, is) none = absurd is
no_entries old side Done entries (left, is) none =
    (record { entries = []; turn_is = (is.0, refl, refl); adds = adds_none old }, refl)
no_entries old side Idle entries (left, is) none =
    (record { entries = []; turn_is = (is.0, is.1, refl, refl); adds = adds_none old }, refl)
no_entries old side (NoRoom i) entries (left, is) none =
    (record { entries = []; turn_is = (is.0, refl, refl); adds = adds_none old }, refl)
no_entries old side (Placed i s) entries (left, is) none =
    let one : length entries ≡ 1 = ap (length {A = Entry}) is.1 in absurd (omega (arith, one, none))
no_entries old side (Ejected q i s) entries (left, is) none =
    let some : length entries ≡ length is.0.withdrawals + 1 = ap (length {A = Entry}) is.0.entries_are
    ∙ length-append is.0.withdrawals (Place i s (who_of side) ∷ []) in
    absurd (omega (arith, some, none))

-- the turn that was learned is the one that is taken
took : (old mid new : BoardState) (side : Side) (turn taken : Turn) (entries : List Entry) (n : ℕ)
    → IsAhead old side turn entries → GainsRoom old n mid
    → TakesTurn mid side taken new → (new.plan ≡ old.plan) × (new.journal ≡ old.journal ++ entries)
took old mid new side turn taken entries n ahead gains t =
    let t' : TakesTurn (record old { room = mid.room }) side taken new = subst
    (λ (b : BoardState). TakesTurn b side taken new) gains.same t in
    let same = one_turn (insns_of old.plan) old.spots old.budget side taken turn t'.entries entries new.budget ahead.0
    t'.turn_is ahead.1 in
    (t'.adds.plan, t'.adds.journal ∙ ap (λ (es : List Entry). old.journal ++ es) same.1)

pub stepped : (old mid new : BoardState) (side : Side) (turn taken : Turn) (entries : List Entry) (n : ℕ)
    → IsAhead old side turn entries → GainsRoom old n mid
    → n ≡ length entries → IsStep mid side taken new → (new.plan ≡ old.plan) × (new.journal ≡ old.journal ++ entries)
stepped old mid new side turn Memory entries n ahead gains many step =
    let mid_ahead : IsAhead mid side turn entries = subst (λ (b : BoardState). IsAhead b side turn entries)
    (sym gains.same) ahead in
    let few : mid.room < length entries = step.0 turn entries mid_ahead.0 mid_ahead.1 in
    absurd (omega (arith, few, gains.enough, many))
stepped old mid new side turn Done entries n ahead gains many step = took old mid new side turn Done entries n ahead
    gains step.0
stepped old mid new side turn Idle entries n ahead gains many step = took old mid new side turn Idle entries n ahead
    gains step.0
stepped old mid new side turn (NoRoom i) entries n ahead gains many step = took old mid new side turn (NoRoom i) entries
    n ahead gains step.0
stepped old mid new side turn (Placed i s) entries n ahead gains many step = took old mid new side turn (Placed i s)
    entries n ahead gains step
stepped old mid new side turn (Ejected q i s) entries n ahead gains many step = took old mid new side turn
    (Ejected q i s) entries n ahead gains step

-- ---- where memory runs out

-- more than four entries are some
pub adds_many : (board : BoardState) (side : Side) → HasManyEntries board side → IsDeskStep board side Memory board
adds_many board side many = (
  λ turn entries left is. let more : 4 < length entries = many turn entries left is in omega (arith, more),
  (refl, omega arith),
)

-- the turn that a side has ahead is the one that it has, whatever room was made for it
pub adds_some : (old mid : BoardState) (side : Side) (turn : Turn) (entries : List Entry)
    → IsAhead old side turn entries → 0 < length entries
    → mid ≡ record old { room = mid.room } → old.room ≤ mid.room → IsDeskStep old side Memory mid
adds_some old mid side turn entries ahead some same more =
    let adds : HasEntriesToAdd old side = λ taken others left is.
    let one = one_turn (insns_of old.plan) old.spots old.budget side turn taken entries others ahead.0 left ahead.1 is
    in
    let as_many = ap (length {A = Entry}) one.1 in
    omega (arith, some, as_many) in
    (adds, (same, more))

pub adds_same : (old mid : BoardState) (side : Side) (turn : Turn) (entries : List Entry)
    → IsAhead old side turn entries → 0 < length entries
    → mid ≡ old → IsDeskStep old side Memory mid
adds_same old mid side turn entries ahead some same =
    rw same (adds_some old old side turn entries ahead some refl (omega arith))
