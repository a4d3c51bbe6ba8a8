-- Turns and finishing lead to one board.
use Rattle.std.proofs.Common.{◌≡◌, ◌≢◌, ◌∙◌, ◌⊎◌, ℕ, suc, ◌<◌, List, [], ◌∷◌, ◌++◌, refl, sym, ap, subst, arith, inl}
use Rattle.std.proofs.Common.{inr}
use Rattle.std.proofs.lemmas.Bool.{cases_lt}
use Rattle.c62_op.specs.declared.register.Side.{Side}
use Rattle.c62_insn.specs.declared.insn.Insn.{Insn}
use Rattle.c62_read.specs.Block.{Serial}
use Rattle.c62_depend.specs.Plan.{insns_of}
use Rattle.c62_sheet.specs.declared.entry.Entry.{Entry}
use Rattle.c62_sheet.specs.declared.entry.Entry.TheVariants.{Place, Withdraw}
use Rattle.c62_sheet.specs.declared.entry.Spot.{Spot}
use Rattle.c62_sheet.specs.declared.entry.Who.TheVariants.{A, B, Tail}
use Rattle.c62_sheet.specs.Journal.{replayed}
use Rattle.c62_sheet.specs.Lawful.{Spots, spot_at, placed}
use Rattle.c62_sheet.specs.Least.{IsLeast}
use Rattle.c62_sheet.proofs.Optional.{none_not_some}
use Rattle.c62_sheet.proofs.Search.{least_unique}
use Rattle.c62_board.specs.declared.turn.Turn.{Turn}
use Rattle.c62_board.specs.declared.turn.Turn.TheVariants.{Placed, Ejected, Idle, Done, NoRoom, Memory}
use Rattle.c62_board.specs.Turn.{IsTurn}
use Rattle.c62_board.specs.State.{BoardState, Has, IsSound, IsStep, TakesTurn, nothing_of}
use Rattle.c62_board.proofs.Turns.{one_turn}
use Rattle.c62_work.specs.Turns.{GoesOn, Reaches, TakesTurns, other_side, start, turn}
use Rattle.c62_work.specs.Finish.{FillsUp, IsLowestMissing, KeepsWork, StartsAnew}
use Rattle.c62_command.specs.declared.command.Packing.{Packing}
use Rattle.c62_answer.specs.Schedule.{IsTurned}
use Rattle.c62_answer.specs.OneText.{HasOneBoard, IsSameBoard}

-- ---- turns

-- the same side has its turn, behind the same entries and with the same budget
record IsSamePlace (side other : Side) (entries others : List Entry) (left rest : ℕ) : Type 0 where
  pub side_is : side ≡ other
  pub entries_are : entries ≡ others
  pub left_is : left ≡ rest

-- what holds of a place holds of the same place
at_same : (P : Side → List Entry → ℕ → Type 0) (side other : Side) (entries others : List Entry) (left rest : ℕ)
    → IsSamePlace side other entries others left rest → P side entries left → P other others rest
at_same P side other entries others left rest same p =
    subst (λ (s : Side). P s others rest) same.side_is
    (subst (λ (es : List Entry). P side es rest) same.entries_are (subst (λ (n : ℕ). P side entries n) same.left_is p))

-- a turn of the side after which the sides go on
record CanGoOn (block : List Insn) (set : Spots) (side : Side) (entries : List Entry) (left : ℕ) : Type 0 where
  pub taken : Turn
  pub added : List Entry
  pub rest : ℕ
  pub is : IsTurn block (replayed set entries) left side taken added rest
  pub goes : GoesOn taken

module _ (block : List Insn) (set : Spots) (budget : ℕ) where
  -- how many turns were taken
  abbrev count : (side : Side) (entries : List Entry) (left : ℕ) → Reaches block set budget side entries left → ℕ
  count _ _ _ start = 0
  count _ _ _ (turn side entries left taken added rest before is goes) = suc (count side entries left before)

  -- as many turns lead to one place
  as_far : (side : Side) (entries : List Entry) (left : ℕ) (first : Reaches block set budget side entries left)
      (other : Side) (others : List Entry) (rest : ℕ) (last : Reaches block set budget other others rest)
      → count side entries left first ≡ count other others rest last → IsSamePlace side other entries others left rest
  as_far _ _ _ start _ _ _ start same = record { side_is = refl; entries_are = refl; left_is = refl }
  as_far _ _ _ start _ _ _ (turn other others more took gave end earlier was went) same = absurd (omega (arith, same))
  as_far _ _ _ (turn side entries left taken added rest before is goes) _ _ _ start same = absurd (omega (arith, same))
  as_far _ _ _ (turn side entries left taken added rest before is goes) _ _ _
      (turn other others more took gave end earlier was went) same =
      let counted : suc (count side entries left before) ≡ suc (count other others more earlier) = same in
      let place = as_far side entries left before other others more earlier (omega (arith, counted)) in
      let here : IsTurn block (replayed set others) more other taken added rest =
      at_same (λ s es n. IsTurn block (replayed set es) n s taken added rest) side other entries others left more place
      is in
      let one = one_turn block (replayed set others) more other taken took added gave rest end here was in
      record {
        side_is = ap other_side place.side_is;
        entries_are = ap (λ (es : List Entry). es ++ added) place.entries_are
            ∙ ap (λ (es : List Entry). others ++ es) one.1;
        left_is = one.2;
      }

  -- where more turns were taken elsewhere, the sides can go on
  goes_further : (side : Side) (entries : List Entry) (left : ℕ) (first : Reaches block set budget side entries left)
      (other : Side) (others : List Entry) (rest : ℕ) (last : Reaches block set budget other others rest)
      → count side entries left first < count other others rest last → CanGoOn block set side entries left
  goes_further side entries left first _ _ _ start less = absurd (omega (arith, less))
  goes_further side entries left first _ _ _ (turn other others rest taken added end before is goes) less =
      let bound : count side entries left first < suc (count other others rest before) = less in
      elim (cases_lt (count side entries left first) (count other others rest before)) [
        | inl earlier ↦ goes_further side entries left first other others rest before earlier
        | inr enough ↦
            let place = as_far other others rest before side entries left first (omega (arith, bound, enough)) in
            at_same (λ s es n. CanGoOn block set s es n) other side others entries rest left place
            (record { taken = taken; added = added; rest = end; is = is; goes = goes })
      ]

-- ---- where the turns end

-- turns from nothing lead to this board, and none goes on from there
record Ends (block : Serial) (budget : ℕ) (board : BoardState) : Type 0 where
  pub plan_is : board.plan ≡ block
  pub side : Side
  pub entries : List Entry
  pub reached : Reaches (insns_of block) (nothing_of block) budget side entries board.budget
  pub spots : board.spots ≡ replayed (nothing_of block) entries
  pub journal : board.journal ≡ entries
  pub last : Turn
  pub added : List Entry
  pub is : IsTurn (insns_of block) (replayed (nothing_of block) entries) board.budget side last added board.budget
  pub stops : GoesOn last → ⊥

last_taken : (board : BoardState) (side : Side) (last : Turn) → IsStep board side last board → (GoesOn last → ⊥)
    → last ≢ Memory
    → TakesTurn board side last board
last_taken board side (Placed i s) step stops enough = absurd (stops tt)
last_taken board side (Ejected q i s) step stops enough = absurd (stops tt)
last_taken board side Idle step stops enough = absurd (stops tt)
last_taken board side Done step stops enough = step.0
last_taken board side (NoRoom i) step stops enough = step.0
last_taken board side Memory step stops enough = absurd (enough refl)

ends : (block : Serial) (budget : ℕ) (empty : BoardState) (last : Turn) (board : BoardState) → Has block [] budget empty
    → last ≢ Memory
    → TakesTurns empty last board → Ends block budget board
ends block budget empty last board begin enough turns =
    let taken = last_taken board turns.side last turns.stays turns.ends enough in
    let plan_is : board.plan ≡ block = turns.adds.plan ∙ begin.plan_is in
    let spots : board.spots ≡ replayed (nothing_of block) turns.entries =
    turns.adds.spots ∙ ap (λ (set : Spots). replayed set turns.entries) begin.spots in
    record {
      plan_is = plan_is;
      side = turns.side;
      entries = turns.entries;
      reached =
          subst (λ (n : ℕ). Reaches (insns_of block) (nothing_of block) n turns.side turns.entries board.budget)
          begin.budget_is
          (subst (λ (set : Spots). Reaches (insns_of block) set empty.budget turns.side turns.entries board.budget)
          begin.spots
          (subst (λ (plan : Serial). Reaches (insns_of plan) empty.spots empty.budget turns.side turns.entries
          board.budget) begin.plan_is turns.reached));
      spots = spots;
      journal = turns.adds.journal ∙ ap (λ (es : List Entry). es ++ turns.entries) begin.journal;
      last = last;
      added = taken.entries;
      is =
          subst (λ (set : Spots). IsTurn (insns_of block) set board.budget turns.side last taken.entries board.budget)
          spots
          (subst (λ (plan : Serial). IsTurn (insns_of plan) board.spots board.budget turns.side last taken.entries
          board.budget) plan_is taken.turn_is);
      stops = turns.ends;
    }

module _ (block : Serial) (budget : ℕ) where
  -- a side that stopped can't go on
  can_not : (board : BoardState) (end : Ends block budget board)
      → CanGoOn (insns_of block) (nothing_of block) end.side end.entries board.budget → ⊥
  can_not board end on =
      let one = one_turn (insns_of block) (replayed (nothing_of block) end.entries) board.budget end.side on.taken
      end.last on.added end.added on.rest board.budget
      on.is end.is in
      end.stops (subst GoesOn one.0 on.goes)

  one_end : (first last : BoardState) (one : Ends block budget first) (other : Ends block budget last)
      → IsSamePlace one.side other.side one.entries other.entries first.budget last.budget
  one_end first last one other =
      let insns = insns_of block in
      let none = nothing_of block in
      let here = count insns none budget one.side one.entries first.budget one.reached in
      let there = count insns none budget other.side other.entries last.budget other.reached in
      elim (cases_lt here there) [
        | inl less ↦ absurd (can_not first one
            (goes_further insns none budget one.side one.entries first.budget one.reached other.side other.entries
            last.budget other.reached less))
        | inr enough ↦ elim (cases_lt there here) [
          | inl more ↦ absurd (can_not last other
              (goes_further insns none budget other.side other.entries last.budget other.reached one.side
              one.entries first.budget one.reached more))
          | inr same ↦ as_far insns none budget one.side one.entries first.budget one.reached other.side other.entries
              last.budget other.reached (omega (arith, enough, same))
        ]
      ]

-- ---- finishing

one_lowest : (block : List Insn) (set : Spots) (i k : ℕ) → IsLowestMissing block set i → IsLowestMissing block set k
    → i ≡ k
one_lowest block set i k one other = elim (cases_lt i k) [
  | inl less ↦ absurd (none_not_some (spot_at set i) one.free (other.below i less))
  | inr enough ↦ elim (cases_lt k i) [
    | inl more ↦ absurd (none_not_some (spot_at set k) other.free (one.below k more))
    | inr same ↦ omega (arith, enough, same)
  ]
]

-- a set is completed in one way
filled_once : (block : List Insn) (set : Spots) (entries others : List Entry) → FillsUp block set entries
    → FillsUp block set others → entries ≡ others
filled_once block set [] [] one other = refl
filled_once block set [] (Withdraw k who ∷ others) one other = absurd other
filled_once block set [] (Place k t A ∷ others) one other = absurd other
filled_once block set [] (Place k t B ∷ others) one other = absurd other
filled_once block set [] (Place k t Tail ∷ others) one other = absurd
    (none_not_some (spot_at set k) other.0.free (one k other.0.within))
filled_once block set (Withdraw i who ∷ entries) others one other = absurd one
filled_once block set (Place i s A ∷ entries) others one other = absurd one
filled_once block set (Place i s B ∷ entries) others one other = absurd one
filled_once block set (Place i s Tail ∷ entries) [] one other = absurd
    (none_not_some (spot_at set i) one.0.free (other i one.0.within))
filled_once block set (Place i s Tail ∷ entries) (Withdraw k who ∷ others) one other = absurd other
filled_once block set (Place i s Tail ∷ entries) (Place k t A ∷ others) one other = absurd other
filled_once block set (Place i s Tail ∷ entries) (Place k t B ∷ others) one other = absurd other
filled_once block set (Place i s Tail ∷ entries) (Place k t Tail ∷ others) one other =
    let number : i ≡ k = one_lowest block set i k one.0 other.0 in
    let spot : s ≡ t = least_unique block set k s t (subst (λ (x : ℕ). IsLeast block set x s) number one.1) other.1 in
    let fills : FillsUp block (placed set k t) entries =
    subst (λ (x : Spot). FillsUp block (placed set k x) entries) spot
    (subst (λ (x : ℕ). FillsUp block (placed set x s) entries) number one.2) in
    ap (λ (x : ℕ). Place x s Tail ∷ entries) number ∙ ap (λ (x : Spot). Place k x Tail ∷ entries) spot
    ∙ ap (λ (es : List Entry). Place k t Tail ∷ es) (filled_once block (placed set k t) entries others fills other.2)

module _ (block : Serial) (turned last : BoardState) (plan_is : turned.plan ≡ block) (last_is : last.plan ≡ block)
    (spots : turned.spots ≡ last.spots)
    (journal : turned.journal ≡ last.journal) (one other : BoardState) where
  -- what completes one board completes the other
  kept_anew : KeepsWork turned block one → StartsAnew last block other → ⊥
  kept_anew kept anew =
      let fills : FillsUp (insns_of last.plan) last.spots kept.1.0 =
      subst (λ (plan : Serial). FillsUp (insns_of plan) last.spots kept.1.0) (sym last_is)
      (subst (λ (set : Spots). FillsUp (insns_of block) set kept.1.0) spots kept.1.1) in
      anew.0 last_is kept.1.0 fills

  kept_once : KeepsWork turned block one → KeepsWork last block other → one.journal ≡ other.journal
  kept_once kept again =
      let fills : FillsUp (insns_of block) last.spots kept.1.0 = subst
      (λ (set : Spots). FillsUp (insns_of block) set kept.1.0) spots kept.1.1 in
      let same = filled_once (insns_of block) last.spots kept.1.0 again.1.0 fills again.1.1 in
      kept.1.2 ∙ ap (λ (es : List Entry). es ++ kept.1.0) journal ∙ ap (λ (es : List Entry). last.journal ++ es) same
      ∙ sym again.1.2

module _ (block : Serial) (turned last : BoardState) (plan_is : turned.plan ≡ block) (last_is : last.plan ≡ block)
    (spots : turned.spots ≡ last.spots)
    (journal : turned.journal ≡ last.journal) (one other : BoardState) where
  one_journal : KeepsWork turned block one ⊎ StartsAnew turned block one → KeepsWork last block other
      ⊎ StartsAnew last block other
      → one.journal ≡ other.journal
  one_journal (inl kept) (inl again) = kept_once block turned last plan_is last_is spots journal one other kept again
  one_journal (inl kept) (inr anew) = absurd
      (kept_anew block turned last plan_is last_is spots journal one other kept anew)
  one_journal (inr anew) (inl kept) = absurd
      (kept_anew block last turned last_is plan_is (sym spots) (sym journal) other one kept anew)
  one_journal (inr anew) (inr again) = filled_once (insns_of block) (nothing_of block) one.journal other.journal anew.1
      again.1

-- ---- the board

abbrev board_of : Serial → Spots → List Entry → ℕ → ℕ → BoardState
board_of plan spots journal budget room = record
    { plan = plan; spots = spots; journal = journal; budget = budget; room = room }

same_board : (one other : BoardState) → one.plan ≡ other.plan → one.spots ≡ other.spots → one.journal ≡ other.journal
    → one.budget ≡ other.budget
    → IsSameBoard one other
same_board one other plan spots journal budget =
    ap (λ (p : Serial). board_of p one.spots one.journal one.budget one.room) plan
    ∙ ap (λ (s : Spots). board_of other.plan s one.journal one.budget one.room) spots
    ∙ ap (λ (es : List Entry). board_of other.plan other.spots es one.budget one.room) journal
    ∙ ap (λ (n : ℕ). board_of other.plan other.spots other.journal n one.room) budget

one_spots : (block : Serial) (one other : BoardState) → one.plan ≡ block → other.plan ≡ block
    → one.journal ≡ other.journal → IsSound one → IsSound other
    → one.spots ≡ other.spots
one_spots block one other one_is other_is journal first last =
    sym first.replays
    ∙ ap (λ (p : Serial). replayed (nothing_of p) one.journal) (one_is ∙ sym other_is)
    ∙ ap (λ (es : List Entry). replayed (nothing_of other.plan) es) journal
    ∙ last.replays

turned_once : (packing : Packing) (block : Serial) (one other : BoardState) → IsTurned block packing.budget one
    → IsTurned block packing.budget other
    → (one.journal ≡ other.journal) × (one.budget ≡ other.budget)
turned_once packing block one other first last =
    let begins = ends block packing.budget first.empty first.last first.turned first.begin first.enough first.turns in
    let again = ends block packing.budget last.empty last.last last.turned last.begin last.enough last.turns in
    let same = one_end block packing.budget first.turned last.turned begins again in
    let spots = begins.spots ∙ ap (λ (es : List Entry). replayed (nothing_of block) es) same.entries_are
    ∙ sym again.spots in
    let journal = begins.journal ∙ same.entries_are ∙ sym again.journal in (
      one_journal block first.turned last.turned begins.plan_is again.plan_is spots journal one other
          first.finished.journal last.finished.journal,
      first.finished.budget ∙ same.left_is ∙ sym last.finished.budget,
    )

pub one_board : (packing : Packing) (block : Serial) → HasOneBoard packing block
one_board packing block turns one other first last =
    let same = turned_once packing block one other (first.turned turns) (last.turned turns) in
    let plan : one.plan ≡ other.plan = first.plan_is ∙ sym last.plan_is in
    same_board one other plan (one_spots block one other first.plan_is last.plan_is same.0 first.sound last.sound)
    same.0 same.1
