-- What a step that ejects makes of its parts.
use Rattle.std.proofs.Common.{◌≡◌, ℕ, ◌+◌, ◌-◌, ◌<◌, List, [], ◌∷◌, ◌++◌, length, take, Bool, Result, Ok, Err, sym, ap}
use Rattle.std.proofs.Common.{refl, ◌∙◌, subst, arith, length-append}
use Rattle.std.specs.Result.{OnErr}
use Rattle.c62_op.specs.declared.register.Side.{Side}
use Rattle.c62_insn.specs.declared.insn.Insn.{Insn}
use Rattle.c62_read.specs.Block.{Serial}
use Rattle.c62_depend.specs.Plan.{insns_of}
use Rattle.c62_sheet.specs.declared.entry.Entry.{Entry}
use Rattle.c62_sheet.specs.declared.entry.Entry.TheVariants.{Place}
use Rattle.c62_sheet.specs.declared.entry.Spot.{Spot}
use Rattle.c62_sheet.specs.declared.entry.Who.{Who}
use Rattle.c62_sheet.specs.Lawful.{Spots, Placements, placed, IsLawful}
use Rattle.c62_sheet.specs.Least.{IsReady, IsLeast, HasNoSpot, IsPick}
use Rattle.c62_sheet.specs.Journal.{replayed}
use Rattle.c62_board.specs.declared.turn.Turn.TheVariants.{Placed, Ejected, Idle, Done, NoRoom, Memory}
use Rattle.c62_sheet.specs.Chain.{Marks}
use Rattle.c62_board.specs.Who.{who_of}
use Rattle.c62_board.specs.Withdrawal.{GoesWith, Withdraws, IsLeft, marked_below, withdrawals}
use Rattle.c62_board.specs.Turn.{IsEjection}
use Rattle.c62_board.specs.Ejection.{IsEjected}
use Rattle.c62_board.specs.State.{BoardState, IsSound, Adds, GainsRoom, IsWithdrawal, IsReadyNow, IsLeastNow, TakesTurn}
use Rattle.c62_board.specs.State.{HasNoRoomFor}
use Rattle.c62_sheet.proofs.Picks.{pick_unique}
use Rattle.c62_board.proofs.Journals.{adds_both, gains_adds, lawful_replayed}
use Rattle.c62_board.proofs.Withdrawals.{withdrawn_many, withdraws_marked}
use Rattle.c62_board.proofs.TakingOut.{one_below}
use Rattle.c62_sheet.proofs.Victims.{one_victim}
use Rattle.c62_board.proofs.Victims.{ready_left, spot_left}
use Rattle.c62_board.proofs.Turns.{pick_left, placed_ejected, stuck_ejected}

-- a board, the same with more room, and without the victim
module _ (old mid left : BoardState) (side : Side) (i q n count : ℕ) (who : Who) (sound : IsSound old)
    (sound_left : IsSound left)
    (pick : IsPick (insns_of old.plan) old.spots side i)
    (ejected : IsEjected (insns_of old.plan) old.spots old.budget i q)
    (gains : GainsRoom old n mid) (out : IsWithdrawal mid q who count left) where
  abbrev block : List Insn
  block = insns_of old.plan

  withdraws : Withdraws block old.spots q who out.entries
  withdraws = subst (λ (b : BoardState). Withdraws (insns_of b.plan) b.spots q who out.entries) gains.same out.withdraws

  left_plan : left.plan ≡ old.plan
  left_plan = out.adds.plan ∙ ap (λ (b : BoardState). b.plan) gains.same

  left_spots : left.spots ≡ replayed old.spots out.entries
  left_spots = out.adds.spots ∙ ap (λ (b : BoardState). replayed b.spots out.entries) gains.same

  left_lawful : IsLawful block (replayed old.spots out.entries)
  left_lawful = rw (← left_plan, ← left_spots) sound_left.lawful

  pub eject_ready : IsReadyNow left i
  eject_ready = record {
    within = rw left_plan pick.competes.within;
    ready = rw (left_plan, left_spots)
        (ready_left block old.spots old.budget i q who out.entries sound.lawful pick.competes.ready pick.competes.within
        ejected withdraws left_lawful);
  }

  pub eject_spot : HasNoSpot (insns_of left.plan) left.spots i → ⊥
  eject_spot none =
      let w = spot_left block old.spots old.budget i q who out.entries sound.lawful pick.competes.ready
      pick.competes.within ejected withdraws left_lawful in
      let now : (s : Spot) → IsLawful block (placed (replayed old.spots out.entries) i s)
      → IsLawful (insns_of left.plan) (placed left.spots i s) =
      λ s lawful. rw (left_plan, left_spots) lawful in
      none w.0 (now w.0 w.1)

  pub eject_turn : (s : Spot) (by : Who) (last : BoardState) → who ≡ who_of side → by ≡ who_of side
      → IsLeastNow left i s → Adds left (Place i s by ∷ []) last
      → TakesTurn old side (Ejected q i s) (record last { budget = last.budget - 1 })
  eject_turn s by last is_who is_by least adds =
      let budget : last.budget ≡ old.budget = adds.budget ∙ out.adds.budget
      ∙ ap (λ (b : BoardState). b.budget) gains.same in
      let least_then : IsLeastNow (record old { spots = replayed old.spots out.entries }) i s = rw
      (← left_plan, ← left_spots) least in
      record {
        entries = out.entries ++ Place i s by ∷ [];
        turn_is = (
          record {
            pick = pick;
            ejected = ejected;
            withdrawals = out.entries;
            withdraws = subst (λ (w : Who). Withdraws block old.spots q w out.entries) is_who withdraws;
            least = least_then;
            entries_are = ap (λ (w : Who). out.entries ++ Place i s w ∷ []) is_by;
          },
          (let some = ejected.left in omega (arith, budget)),
        );
        adds = record {
          plan = adds.plan ∙ left_plan;
          spots = both.spots ∙ ap (λ (b : BoardState). replayed b.spots (out.entries ++ Place i s by ∷ [])) gains.same;
          journal = both.journal ∙ ap (λ (b : BoardState). b.journal ++ (out.entries ++ Place i s by ∷ [])) gains.same;
          budget = refl;
          room = (let fits = both.room in let more = gains.more in omega arith);
        };
      }
    where
      both : Adds mid (out.entries ++ Place i s by ∷ []) last
      both = adds_both mid left last out.entries (Place i s by ∷ []) out.adds adds

-- a board's placements, and the same once the victim is out
module _ (old : BoardState) (new : Placements) (side : Side) (i q : ℕ) (sound : IsSound old)
    (pick : IsPick (insns_of old.plan) old.spots side i)
    (ejected : IsEjected (insns_of old.plan) old.spots old.budget i q) (kept : new.plan ≡ old.plan)
    (left : IsLeft (insns_of old.plan) old.spots q (who_of side) new.spots)
    (lawful : IsLawful (insns_of new.plan) new.spots) where
  out_lawful : IsLawful (insns_of old.plan) (replayed old.spots left.entries)
  out_lawful = rw (← kept, ← left.spots) lawful

  pub ready_out : IsReady (insns_of new.plan) new.spots i
  ready_out =
      rw (kept, left.spots)
      (ready_left (insns_of old.plan) old.spots old.budget i q (who_of side) left.entries sound.lawful
      pick.competes.ready pick.competes.within ejected left.withdraws out_lawful)

  pub spot_out : HasNoSpot (insns_of new.plan) new.spots i → ⊥
  spot_out none =
      let w = spot_left (insns_of old.plan) old.spots old.budget i q (who_of side) left.entries sound.lawful
      pick.competes.ready pick.competes.within ejected left.withdraws out_lawful in
      let now : (s : Spot) → IsLawful (insns_of old.plan) (placed (replayed old.spots left.entries) i s)
      → IsLawful (insns_of new.plan) (placed new.spots i s) =
      λ s fits. rw (kept, left.spots) fits in
      none w.0 (now w.0 w.1)

  pub ejection_out : (s : Spot) → IsLeast (insns_of new.plan) new.spots i s
      → (entries : List Entry) × IsEjection (insns_of old.plan) old.spots old.budget side q i s entries
  ejection_out s least = (
    left.entries ++ Place i s (who_of side) ∷ [],
    record {
      pick = pick;
      ejected = ejected;
      withdrawals = left.entries;
      withdraws = left.withdraws;
      least = rw (← kept, ← left.spots) least;
      entries_are = refl;
    },
  )

-- the same of a copy of the spots
module _ (old : BoardState) (plan : Serial) (rest : Spots) (n : ℕ) (side : Side) (i q : ℕ) (sound : IsSound old)
    (pick : IsPick (insns_of old.plan) old.spots side i)
    (ejected : IsEjected (insns_of old.plan) old.spots old.budget i q) (kept : plan ≡ old.plan)
    (count : n ≡ length old.plan.insns)
    (copy : IsLeft (insns_of old.plan) old.spots q (who_of side) (take (length old.plan.insns) rest)) where
  abbrev copied : Placements
  copied = record { plan = plan; spots = take n rest }

  is_left : IsLeft (insns_of old.plan) old.spots q (who_of side) copied.spots
  is_left = subst (λ (m : ℕ). IsLeft (insns_of old.plan) old.spots q (who_of side) (take m rest)) (sym count) copy

  pub copy_lawful : IsLawful (insns_of plan) (take n rest)
  copy_lawful = rw (kept, is_left.spots)
      (lawful_replayed (insns_of old.plan) old.spots is_left.entries sound.lawful is_left.legal)

  pub copy_ready : IsReady (insns_of plan) (take n rest) i
  copy_ready = ready_out old copied side i q sound pick ejected kept is_left copy_lawful

  pub copy_spot : HasNoSpot (insns_of plan) (take n rest) i → ⊥
  copy_spot none = spot_out old copied side i q sound pick ejected kept is_left copy_lawful none

  pub copy_ejection : (s : Spot) → IsLeast (insns_of plan) (take n rest) i s
      → (entries : List Entry) × IsEjection (insns_of old.plan) old.spots old.budget side q i s entries
  copy_ejection s least = ejection_out old copied side i q sound pick ejected kept is_left copy_lawful s least

-- an ejection adds the withdrawals of what is marked, and the placing
pub listed_ejection : (old : BoardState) (side : Side) (i q : ℕ) (s : Spot) (marks : List Bool) (n : ℕ) (who by : Who)
    (entries listed all : List Entry)
    → Marks (insns_of old.plan) (GoesWith (insns_of old.plan) old.spots q) marks → n ≡ length (insns_of old.plan)
    → who ≡ who_of side → by ≡ who_of side
    → IsEjection (insns_of old.plan) old.spots old.budget side q i s entries → listed ≡ withdrawals marks who n
    → all ≡ listed ++ Place i s by ∷ []
    → (left : ℕ) × ((IsEjection (insns_of old.plan) old.spots old.budget side q i s all) × (old.budget ≡ left + 1))
listed_ejection old side i q s marks n who by entries listed all marked many is_who is_by e is_listed is_all =
    let block = insns_of old.plan in
    let own : Withdraws block old.spots q (who_of side) (withdrawals marks (who_of side) (length block)) =
    withdraws_marked block old.spots q (who_of side) (length block) marks (omega arith) marked in
    let same : e.withdrawals ≡ withdrawals marks (who_of side) (length block) =
    one_below block old.spots q (who_of side) (length block) e.withdrawals
    (withdrawals marks (who_of side) (length block)) e.withdraws own in
    let list : listed ≡ e.withdrawals = is_listed ∙ ap (λ (w : Who). withdrawals marks w n) is_who
    ∙ ap (withdrawals marks (who_of side)) many ∙ sym same in (
      old.budget - 1,
      (
        record {
          pick = e.pick;
          ejected = e.ejected;
          withdrawals = e.withdrawals;
          withdraws = e.withdraws;
          least = e.least;
          entries_are = is_all ∙ ap (λ (es : List Entry). es ++ Place i s by ∷ []) list
              ∙ ap (λ (w : Who). e.withdrawals ++ Place i s w ∷ []) is_by;
        },
        (let some = e.ejected.left in omega (arith, some)),
      ),
    )

-- where four entries are too few
pub on_err : {A E : Type 0} (r : Result A E) (P : Type 0) → P → OnErr r P
on_err (Ok x) P p = tt
on_err (Err x) P p = p

-- without room for the withdrawals and the placing there is none for the turn
pub no_room_to_eject : (old : BoardState) (side : Side) (i q : ℕ) (marks : List Bool)
    → IsPick (insns_of old.plan) old.spots side i
    → IsEjected (insns_of old.plan) old.spots old.budget i q
    → Marks (insns_of old.plan) (GoesWith (insns_of old.plan) old.spots q) marks
    → old.room < marked_below marks (length (insns_of old.plan)) + 1 → HasNoRoomFor old side
no_room_to_eject old side i q marks pick ejected marked full Memory entries left is = absurd is
no_room_to_eject old side i q marks pick ejected marked full Done entries left is = absurd
    (pick_left (insns_of old.plan) old.spots side i pick is.0)
no_room_to_eject old side i q marks pick ejected marked full Idle entries left is = absurd (is.1 i pick.competes)
no_room_to_eject old side i q marks pick ejected marked full (NoRoom k) entries left is =
    absurd (stuck_ejected (insns_of old.plan) old.spots old.budget side k i q is.0 pick ejected)
no_room_to_eject old side i q marks pick ejected marked full (Placed k s) entries left is =
    absurd (placed_ejected (insns_of old.plan) old.spots old.budget side k i q s is.0 pick ejected)
no_room_to_eject old side i q marks pick ejected marked full (Ejected p k s) entries left is =
    let number : k ≡ i = pick_unique (insns_of old.plan) old.spots side k i is.0.pick pick in
    let theirs : IsEjected (insns_of old.plan) old.spots old.budget i p = subst
    (λ (x : ℕ). IsEjected (insns_of old.plan) old.spots old.budget x p) number is.0.ejected in
    let victim : p ≡ q = one_victim (insns_of old.plan) old.spots i p q theirs.victim ejected.victim in
    let withdraws : Withdraws (insns_of old.plan) old.spots q (who_of side) is.0.withdrawals =
    subst (λ (x : ℕ). Withdraws (insns_of old.plan) old.spots x (who_of side) is.0.withdrawals) victim is.0.withdraws in
    let many = withdrawn_many (insns_of old.plan) old.spots q (who_of side) (length (insns_of old.plan)) marks
    is.0.withdrawals (omega arith) marked withdraws in
    let long : length entries ≡ length is.0.withdrawals + 1 =
    ap (length {A = Entry}) is.0.entries_are ∙ length-append is.0.withdrawals (Place k s (who_of side) ∷ []) in
    omega (arith, many, long, full)

-- a withdrawal once there is room
pub gains_withdrawal : (old mid new : BoardState) (n i count many : ℕ) (who : Who) → many ≡ count → GainsRoom old n mid
    → IsWithdrawal mid i who count new
    → IsWithdrawal old i who many new
gains_withdrawal old mid new n i count many who same gains out = record {
  entries = out.entries;
  withdraws = subst (λ (b : BoardState). Withdraws (insns_of b.plan) b.spots i who out.entries) gains.same
      out.withdraws;
  counts = same ∙ out.counts;
  adds = gains_adds old mid new n out.entries gains out.adds;
}

-- without room for the withdrawals
pub no_room_to_withdraw : (board : BoardState) (i : ℕ) (who : Who) (marks : List Bool) (entries : List Entry)
    → Marks (insns_of board.plan) (GoesWith (insns_of board.plan) board.spots i) marks
    → board.room < marked_below marks (length (insns_of board.plan))
    → Withdraws (insns_of board.plan) board.spots i who entries → board.room < length entries
no_room_to_withdraw board i who marks entries marked full withdraws =
    let many = withdrawn_many (insns_of board.plan) board.spots i who (length (insns_of board.plan)) marks entries
    (omega arith) marked withdraws in
    omega (arith, many, full)
