-- How many numbers are placed, and how early they stand.
use Rattle.std.proofs.Common.{◌≡◌, ℕ, suc, ◌+◌, ◌*◌, ◌<◌, ◌≤◌, cond, List, [], ◌∷◌, length, Option, Some, None, inl}
use Rattle.std.proofs.Common.{inr, refl, sym, ap, ◌∙◌, arith, subst, length-set, mul-one}
use Rattle.std.specs.Prelude.{count_by, is_none}
use Rattle.std.proofs.lemmas.List.Sums.{sum_by-set, count_by-le-length}
use Rattle.std.proofs.lemmas.List.Folds.{sum_by-replicate}
use Rattle.c62_insn.specs.declared.insn.Insn.{Insn}
use Rattle.c62_depend.specs.Plan.{IsPlan}
use Rattle.c62_sheet.specs.declared.entry.Entry.{Entry}
use Rattle.c62_sheet.specs.declared.entry.Entry.TheVariants.{Place, Withdraw}
use Rattle.c62_sheet.specs.declared.entry.Spot.{Spot}
use Rattle.c62_sheet.specs.Lawful.{Spots, IsAt, spot_at, placed, withdrawn, nothing_placed, IsLawful}
use Rattle.c62_sheet.specs.Journal.{replayed, IsLegal}
use Rattle.c62_sheet.proofs.Sets.{IsAt-placed}
use Rattle.c62_sheet.proofs.Room.{finds_room}
use Rattle.std.proofs.lemmas.Option.{none-some}
use Rattle.c62_depend.specs.Plan.{insns_of}
use Rattle.c62_depend.proofs.Plans.{many_insns}
use Rattle.c62_sheet.specs.Laws.{HasRoom}
use Rattle.c62_sheet.proofs.Sets.{nothing_at}
use Rattle.c62_sheet.proofs.Empty.{lawful_empty}
use Rattle.c62_board.specs.State.{BoardState, nothing_of, IsSound, IsReadyNow}
use Rattle.c62_board.specs.Laws.{HasOnlyPlaces}

-- how many numbers are not placed
abbrev pub unplaced : Spots → ℕ
unplaced set = count_by is_none set

pub unplaced-placed : (set : Spots) (i : ℕ) (s : Spot) → i < length set → spot_at set i ≡ None
    → unplaced (placed set i s) + 1 ≡ unplaced set
unplaced-placed set i s lt free =
    let changed = sum_by-set (λ (o : Option Spot). cond {A = ℕ} (is_none o) 1 0) set i (Some s) None lt in
    let was : cond {A = ℕ} (is_none (spot_at set i)) 1 0 ≡ 1 = ap (λ (o : Option Spot). cond {A = ℕ} (is_none o) 1 0)
    free in
    omega (arith, changed, was)

pub unplaced-le : (set : Spots) → unplaced set ≤ length set
unplaced-le set = count_by-le-length is_none set

pub length-replayed : (set : Spots) (es : List Entry) → length (replayed set es) ≡ length set
length-replayed set [] = refl
length-replayed set (Place i s who ∷ es) = length-replayed (placed set i s) es ∙ length-set set i (Some s)
length-replayed set (Withdraw i who ∷ es) = length-replayed (withdrawn set i) es ∙ length-set set i None

-- all stands at least five cycles before cycle 5 k
abbrev pub IsBehind : Spots → ℕ → Type 0
IsBehind set k = (j : ℕ) (t : Spot) → IsAt set j t → t.cycle + 5 ≤ 5 * k

-- what placings leave: each took one number, and found a spot five cycles later at most
pub record HasPlaced (block : List Insn) (set : Spots) (k : ℕ) : Type 0 where
  pub lawful : IsLawful block set
  pub behind : IsBehind set k
  pub many : unplaced set + k ≡ length block

pub placings : (block : List Insn) (set : Spots) (k : ℕ) (es : List Entry) → IsPlan block → IsLegal block set es
    → HasOnlyPlaces es → HasPlaced block set k
    → HasPlaced block (replayed set es) (k + length es)
placings block set k [] known legal only at =
    (let same : k ≡ k + 0 = omega arith in subst (λ (n : ℕ). HasPlaced block set n) same at)
placings block set k (Withdraw i who ∷ es) known legal only at = absurd only
placings block set k (Place i s who ∷ es) known legal only at =
    let may = legal.0 in
    let in_set : i < length set = (let w = may.within in omega (arith, at.lawful.sized, w)) in
    let less = unplaced-placed set i s in_set may.ready.free in
    let room = finds_room block set i k known at.lawful may.ready may.within (omega (arith, less, at.many)) at.behind in
    let soon = room.least s may.least in
    let next : HasPlaced block (placed set i s) (k + 1) = record {
      lawful = may.least.lawful;
      behind = λ j t there. elim (IsAt-placed set i j s t in_set there) [
        | inl w ↦ (let same : t.cycle ≡ s.cycle = ap (λ (x : Spot). x.cycle) w.1 in omega (arith, same, soon))
        | inr w ↦ (let low = at.behind j t w.1 in omega (arith, low))
      ];
      many = omega (arith, less, at.many);
    } in
    let later : (k + 1) + length es ≡ k + suc (length es) = omega arith in
    subst (λ (n : ℕ). HasPlaced block (replayed (placed set i s) es) n) later
    (placings block (placed set i s) (k + 1) es known legal.1 only next)

pub none_placed : (n : ℕ) → unplaced (nothing_placed n) ≡ n
none_placed n = sum_by-replicate (λ (o : Option Spot). cond {A = ℕ} (is_none o) 1 0) n None ∙ mul-one n

-- on a board from which nothing was withdrawn a number that is not placed finds a spot
pub room_left : (board : BoardState) (i : ℕ) → IsSound board → HasOnlyPlaces board.journal → IsReadyNow board i
    → HasRoom (insns_of board.plan) board.spots i (length board.journal)
room_left board i sound only ready =
    let block = insns_of board.plan in
    let all = many_insns board.plan.insns in
    let nothing : HasPlaced block (nothing_of board.plan) 0 = record {
      lawful = rw (← all) (lawful_empty block);
      behind = λ j t at. absurd (none-some t (sym (nothing_at (length board.plan.insns) j) ∙ at));
      many = (let none = none_placed (length board.plan.insns) in omega (arith, none, all));
    } in
    let placed_so : HasPlaced block (replayed (nothing_of board.plan) board.journal) (0 + length board.journal) =
    placings block (nothing_of board.plan) 0 board.journal sound.plan sound.legal only nothing in
    let now : HasPlaced block board.spots (length board.journal) =
    (let same : 0 + length board.journal ≡ length board.journal = omega arith in
    subst (λ (n : ℕ). HasPlaced block board.spots n) same
    (subst (λ (set : Spots). HasPlaced block set (0 + length board.journal)) sound.replays placed_so)) in
    let in_set : i < length board.spots = (let w = ready.within in omega (arith, sound.lawful.sized, w)) in
    let some : unplaced (placed board.spots i (record { cycle = 0; unit = (sound.plan.stands i ready.within).0 })) + 1 ≡
    unplaced board.spots =
    unplaced-placed board.spots i (record { cycle = 0; unit = (sound.plan.stands i ready.within).0 }) in_set
    ready.ready.free in
    finds_room block board.spots i (length board.journal) sound.plan sound.lawful ready.ready ready.within
    (omega (arith, some, now.many)) now.behind
