-- A side has one turn, and what its parts make of it.
use Rattle.std.proofs.Common.{◌≡◌, ℕ, ◌+◌, ◌<◌, List, [], ◌∷◌, ◌++◌, length, sym, ap, refl, ◌∙◌, subst, arith}
use Rattle.c62_op.specs.declared.register.Side.{Side}
use Rattle.c62_insn.specs.declared.insn.Insn.{Insn}
use Rattle.c62_depend.specs.Plan.{insns_of}
use Rattle.c62_sheet.specs.declared.entry.Entry.{Entry}
use Rattle.c62_sheet.specs.declared.entry.Entry.TheVariants.{Place}
use Rattle.c62_sheet.specs.declared.entry.Spot.{Spot}
use Rattle.c62_sheet.specs.declared.entry.Who.{Who}
use Rattle.c62_sheet.specs.Lawful.{Spots, spot_at, placed}
use Rattle.c62_sheet.specs.Least.{IsLeast, HasNoSpot, IsPick, IsComplete}
use Rattle.c62_sheet.specs.Journal.{replayed}
use Rattle.c62_board.specs.declared.turn.Turn.{Turn}
use Rattle.c62_board.specs.declared.turn.Turn.TheVariants.{Placed, Ejected, Idle, Done, NoRoom, Memory}
use Rattle.c62_board.specs.Who.{who_of}
use Rattle.c62_board.specs.Withdrawal.{Withdraws}
use Rattle.c62_board.specs.Ejection.{IsEjected}
use Rattle.c62_board.specs.Turn.{IsPlaced, IsStuck, IsTurn}
use Rattle.c62_board.specs.State.{BoardState, Adds, GainsRoom, TakesTurn, HasNoRoomFor}
use Rattle.c62_sheet.proofs.Optional.{none_not_some}
use Rattle.c62_sheet.proofs.Search.{least_unique}
use Rattle.c62_sheet.proofs.Picks.{pick_unique}
use Rattle.c62_board.proofs.TakingOut.{one_below}
use Rattle.c62_sheet.proofs.Victims.{one_victim}

-- ---- one turn

pub pick_left : (block : List Insn) (set : Spots) (side : Side) (i : ℕ) → IsPick block set side i → IsComplete block set
    → ⊥
pick_left block set side i pick complete = none_not_some (spot_at set i) pick.competes.ready.free
    (complete i pick.competes.within)

module _ (block : List Insn) (set : Spots) (budget : ℕ) (side : Side) where
  no_spot_none : (i : ℕ) (s : Spot) → HasNoSpot block set i → IsLeast block set i s → ⊥
  no_spot_none i s none least = none s least.lawful

  moved : (P : ℕ → Type 0) (i k : ℕ) → IsPick block set side i → IsPick block set side k → P k → P i
  moved P i k a b p = subst P (sym (pick_unique block set side i k a b)) p

  -- the pick is placed, or something makes way for it, or it is stuck: one of the three
  pub placed_ejected : (i k q : ℕ) (s : Spot) → IsPlaced block set budget side i s → IsPick block set side k
      → IsEjected block set budget k q → ⊥
  placed_ejected i k q s placed pick ejected =
      placed.kept q (moved (λ x. IsEjected block set budget x q) i k placed.pick pick ejected)

  stuck_placed : (i k : ℕ) (s : Spot) → IsStuck block set side i → IsPlaced block set budget side k s → ⊥
  stuck_placed i k s stuck placed =
      no_spot_none i s stuck.no_spot (moved (λ x. IsLeast block set x s) i k stuck.pick placed.pick placed.least)

  pub stuck_ejected : (i k q : ℕ) → IsStuck block set side i → IsPick block set side k → IsEjected block set budget k q
      → ⊥
  stuck_ejected i k q stuck pick ejected =
      (let e : IsEjected block set budget i q = moved (λ x. IsEjected block set budget x q) i k stuck.pick pick ejected
      in
      no_spot_none i e.least stuck.no_spot e.is_least)

  -- a turn with its entries and the budget that it leaves
  abbrev pub Outcome : Type 0
  Outcome = Turn × List Entry × ℕ

  outcome : (t u : Turn) (es fs : List Entry) (l m : ℕ) → t ≡ u → es ≡ fs → l ≡ m → (t ≡ u) × (es ≡ fs) × (l ≡ m)
  outcome t u es fs l m a b c = (a, b, c)

  pub one_turn : (t u : Turn) (es fs : List Entry) (l m : ℕ) → IsTurn block set budget side t es l
      → IsTurn block set budget side u fs m
      → (t ≡ u) × (es ≡ fs) × (l ≡ m)
  one_turn Memory u es fs l m a b = absurd a
  one_turn Done Memory es fs l m a b = absurd b
  one_turn Done Done es fs l m a b = (refl, a.1 ∙ sym b.1, a.2 ∙ sym b.2)
  one_turn Done Idle es fs l m a b = absurd (b.0 a.0)
  one_turn Done (NoRoom k) es fs l m a b = absurd (pick_left block set side k b.0.pick a.0)
  one_turn Done (Placed k s) es fs l m a b = absurd (pick_left block set side k b.0.pick a.0)
  one_turn Done (Ejected q k s) es fs l m a b = absurd (pick_left block set side k b.0.pick a.0)
  one_turn Idle Memory es fs l m a b = absurd b
  one_turn Idle Done es fs l m a b = absurd (a.0 b.0)
  one_turn Idle Idle es fs l m a b = (refl, a.2 ∙ sym b.2, a.3 ∙ sym b.3)
  one_turn Idle (NoRoom k) es fs l m a b = absurd (a.1 k b.0.pick.competes)
  one_turn Idle (Placed k s) es fs l m a b = absurd (a.1 k b.0.pick.competes)
  one_turn Idle (Ejected q k s) es fs l m a b = absurd (a.1 k b.0.pick.competes)
  one_turn (NoRoom i) Memory es fs l m a b = absurd b
  one_turn (NoRoom i) Done es fs l m a b = absurd (pick_left block set side i a.0.pick b.0)
  one_turn (NoRoom i) Idle es fs l m a b = absurd (b.1 i a.0.pick.competes)
  one_turn (NoRoom i) (NoRoom k) es fs l m a b = (
    ap NoRoom (pick_unique block set side i k a.0.pick b.0.pick),
    a.1
        ∙ sym b.1,
    a.2 ∙ sym b.2,
  )
  one_turn (NoRoom i) (Placed k s) es fs l m a b = absurd (stuck_placed i k s a.0 b.0)
  one_turn (NoRoom i) (Ejected q k s) es fs l m a b = absurd (stuck_ejected i k q a.0 b.0.pick b.0.ejected)
  one_turn (Placed i s) Memory es fs l m a b = absurd b
  one_turn (Placed i s) Done es fs l m a b = absurd (pick_left block set side i a.0.pick b.0)
  one_turn (Placed i s) Idle es fs l m a b = absurd (b.1 i a.0.pick.competes)
  one_turn (Placed i s) (NoRoom k) es fs l m a b = absurd (stuck_placed k i s b.0 a.0)
  one_turn (Placed i s) (Placed k t) es fs l m a b =
      let number : i ≡ k = pick_unique block set side i k a.0.pick b.0.pick in
      let spot : s ≡ t = least_unique block set k s t (subst (λ (x : ℕ). IsLeast block set x s) number a.0.least)
      b.0.least in (
        ap (λ (x : ℕ). Placed x s) number ∙ ap (λ (x : Spot). Placed k x) spot,
        a.1 ∙ ap (λ (x : ℕ). Place x s (who_of side) ∷ []) number ∙ ap (λ (x : Spot). Place k x (who_of side) ∷ []) spot
            ∙ sym b.1,
        a.2 ∙ sym b.2,
      )
  one_turn (Placed i s) (Ejected q k t) es fs l m a b = absurd (placed_ejected i k q s a.0 b.0.pick b.0.ejected)
  one_turn (Ejected p i s) Memory es fs l m a b = absurd b
  one_turn (Ejected p i s) Done es fs l m a b = absurd (pick_left block set side i a.0.pick b.0)
  one_turn (Ejected p i s) Idle es fs l m a b = absurd (b.1 i a.0.pick.competes)
  one_turn (Ejected p i s) (NoRoom k) es fs l m a b = absurd (stuck_ejected k i p b.0 a.0.pick a.0.ejected)
  one_turn (Ejected p i s) (Placed k t) es fs l m a b = absurd (placed_ejected k i p t b.0 a.0.pick a.0.ejected)
  one_turn (Ejected p i s) (Ejected q k t) es fs l m a b =
      let number : i ≡ k = pick_unique block set side i k a.0.pick b.0.pick in
      let first : IsEjected block set budget k p = subst (λ (x : ℕ). IsEjected block set budget x p) number a.0.ejected
      in
      let victim : p ≡ q = one_victim block set k p q first.victim b.0.ejected.victim in
      let out : a.0.withdrawals ≡ b.0.withdrawals =
      one_below block set q (who_of side) (length block) a.0.withdrawals b.0.withdrawals
      (subst (λ (x : ℕ). Withdraws block set x (who_of side) a.0.withdrawals) victim a.0.withdraws) b.0.withdraws in
      let spot : s ≡ t =
      least_unique block (replayed set b.0.withdrawals) k s t
      (subst (λ (x : ℕ). IsLeast block (replayed set b.0.withdrawals) x s) number
      (subst (λ (ws : List Entry). IsLeast block (replayed set ws) i s) out a.0.least))
      b.0.least in (
        ap (λ (x : ℕ). Ejected x i s) victim ∙ ap (λ (x : ℕ). Ejected q x s) number
            ∙ ap (λ (x : Spot). Ejected q k x) spot,
        a.0.entries_are ∙ ap (λ (ws : List Entry). ws ++ Place i s (who_of side) ∷ []) out
            ∙ ap (λ (x : ℕ). b.0.withdrawals ++ Place x s (who_of side) ∷ []) number
            ∙ ap (λ (x : Spot). b.0.withdrawals ++ Place k x (who_of side) ∷ []) spot ∙ sym b.0.entries_are,
        (let left : l + 1 ≡ m + 1 = sym a.1 ∙ b.1 in omega (arith, left)),
      )

-- ---- a step that places

pub placed_turn : (old mid new : BoardState) (side : Side) (i n : ℕ) (s : Spot) (who : Who) → who ≡ who_of side
    → IsPlaced (insns_of old.plan) old.spots old.budget side i s → GainsRoom old n mid
    → Adds mid (Place i s who ∷ []) new → TakesTurn old side (Placed i s) new
placed_turn old mid new side i n s who by placed gains adds =
    let budget : new.budget ≡ old.budget = adds.budget ∙ ap (λ (b : BoardState). b.budget) gains.same in
    record {
      entries = Place i s who ∷ [];
      turn_is = (placed, ap (λ (x : Who). Place i s x ∷ []) by, budget);
      adds = record {
        plan = adds.plan ∙ ap (λ (b : BoardState). b.plan) gains.same;
        spots = adds.spots ∙ ap (λ (b : BoardState). replayed b.spots (Place i s who ∷ [])) gains.same;
        journal = adds.journal ∙ ap (λ (b : BoardState). b.journal ++ Place i s who ∷ []) gains.same;
        budget = refl;
        room = (let fits = adds.room in let more = gains.more in omega arith);
      };
    }

pub no_room_to_place : (old : BoardState) (side : Side) (i : ℕ) (s : Spot)
    → IsPlaced (insns_of old.plan) old.spots old.budget side i s
    → old.room < 1 → HasNoRoomFor old side
no_room_to_place old side i s placed full turn entries left is =
    let same = one_turn (insns_of old.plan) old.spots old.budget side turn (Placed i s) entries
    (Place i s (who_of side) ∷ []) left old.budget is (placed, refl, refl) in
    subst (λ (es : List Entry). old.room < length es) (sym same.1) full
