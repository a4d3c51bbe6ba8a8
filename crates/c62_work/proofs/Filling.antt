-- Placing the lowest missing number again and again.
use Rattle.std.proofs.Common.{◌≡◌, ◌≢◌, ℕ, ◌+◌, ◌*◌, ◌<◌, ◌≤◌, List, [], ◌∷◌, ◌++◌, length, Some, None, IsSome, inl}
use Rattle.std.proofs.Common.{inr, refl, sym, ap, ◌∙◌, subst, arith, append_assoc, get_or-set_same, get_or-set_other}
use Rattle.std.proofs.lemmas.Bool.{cases_eq, cases_lt}
use Rattle.std.proofs.lemmas.List.{append-nil}
use Rattle.std.proofs.lemmas.Option.{none-some}
use Rattle.c62_insn.specs.declared.insn.Insn.{Insn}
use Rattle.c62_depend.specs.Plan.{IsPlan, insns_of}
use Rattle.c62_sheet.specs.declared.entry.Entry.{Entry}
use Rattle.c62_sheet.specs.declared.entry.Entry.TheVariants.{Place, Withdraw}
use Rattle.c62_sheet.specs.declared.entry.Who.TheVariants.{A, B, Tail}
use Rattle.c62_sheet.specs.declared.entry.Spot.{Spot}
use Rattle.c62_sheet.specs.Lawful.{Spots, IsAt, spot_at, placed, IsLawful}
use Rattle.c62_sheet.specs.Least.{IsLeast, HasNoSpot, IsComplete}
use Rattle.c62_sheet.specs.Journal.{replayed}
use Rattle.c62_sheet.proofs.Optional.{some_is, none_not_some}
use Rattle.c62_sheet.proofs.Sets.{IsAt-placed, nothing_at}
use Rattle.c62_sheet.proofs.Search.{least_unique}
use Rattle.c62_sheet.proofs.Room.{finds_room}
use Rattle.c62_read.specs.Block.{Serial}
use Rattle.c62_board.specs.State.{BoardState, nothing_of, Adds, IsCleared, IsLeastNow}
use Rattle.c62_board.proofs.Journals.{adds_both}
use Rattle.c62_work.specs.Finish.{IsLowestMissing, FillsUp, FillsOut, CannotFill, IsBoardFor, IsFinished}
use Rattle.c62_sheet.proofs.Picks.{ready_lowest}

-- the rest of a list whose beginning these are, which completes a set
pub record EndsIn (block : List Insn) (now : Spots) (es all : List Entry) : Type 0 where
  pub rest : List Entry
  pub is : all ≡ es ++ rest
  pub fills : FillsUp block now rest

-- all stands early enough for number i to fit, and the numbers from i on are not placed
pub record IsEarlyBelow (now : Spots) (i : ℕ) : Type 0 where
  pub early : (k : ℕ) (t : Spot) → IsAt now k t → t.cycle + 5 ≤ 5 * i
  pub none : (k : ℕ) → i ≤ k → spot_at now k ≡ None

-- the entries so far complete a set up to number i
pub record IsFilling (block : List Insn) (old : Spots) (i : ℕ) (now : Spots) (es : List Entry) : Type 0 where
  pub whole : (rest : List Entry) → FillsUp block now rest → FillsUp block old (es ++ rest)
  pub only : (all : List Entry) → FillsUp block old all → EndsIn block now es all
  pub below : (k : ℕ) → k < i → IsSome (spot_at now k)
  pub lawful : IsLawful block now
  pub from_nothing : ((k : ℕ) → spot_at old k ≡ None) → IsEarlyBelow now i

pub filling_none : (block : List Insn) (set : Spots) → IsLawful block set → IsFilling block set 0 set []
filling_none block set lawful = record {
  whole = λ rest fills. fills;
  only = λ all fills. record { rest = all; is = refl; fills = fills };
  below = λ k lt. absurd (omega (arith, lt));
  lawful = lawful;
  from_nothing = λ none. record { early = λ k t at. absurd (none-some t (sym (none k) ∙ at)); none = λ k le. none k };
}

-- a number that is placed already
pub filling_skip : (block : List Insn) (old now : Spots) (i : ℕ) (es : List Entry) → IsSome (spot_at now i)
    → IsFilling block old i now es
    → IsFilling block old (i + 1) now es
filling_skip block old now i es there f = record {
  whole = f.whole;
  only = f.only;
  below = λ k lt. elim (cases_eq k i) [ inl e ↦ rw e there | inr ne ↦ f.below k (omega arith) ];
  lawful = f.lawful;
  from_nothing = λ none. absurd (none_not_some (spot_at now i) ((f.from_nothing none).none i (omega arith)) there);
}

module _ (block : List Insn) (old now : Spots) (i : ℕ) (es : List Entry) (f : IsFilling block old i now es)
    (within : i < length block) (free : spot_at now i ≡ None) where
  lowest : IsLowestMissing block now i
  lowest = record { within = within; free = free; below = f.below }

  -- there is one lowest missing number
  one_lowest : (k : ℕ) → IsLowestMissing block now k → k ≡ i
  one_lowest k other = elim (cases_lt k i) [
    | inl lt ↦ absurd (none_not_some (spot_at now k) other.free (f.below k lt))
    | inr le ↦ elim (cases_lt i k) [
      | inl lt ↦ absurd (none_not_some (spot_at now i) free (other.below i lt))
      | inr ge ↦ omega (arith, le, ge)
    ]
  ]

  in_now : i < length now
  in_now = omega (arith, f.lawful.sized, within)

  -- what completes the set begins with that number at its least spot
  goes_on : (s : Spot) → IsLeast block now i s → (rest : List Entry) → FillsUp block now rest
      → EndsIn block (placed now i s) (Place i s Tail ∷ []) rest
  goes_on s least [] complete = absurd (none_not_some (spot_at now i) free (complete i within))
  goes_on s least (Withdraw k who ∷ rest) fills = absurd fills
  goes_on s least (Place k t A ∷ rest) fills = absurd fills
  goes_on s least (Place k t B ∷ rest) fills = absurd fills
  goes_on s least (Place k t Tail ∷ rest) fills =
      let number : k ≡ i = one_lowest k fills.0 in
      let spot : t ≡ s = least_unique block now i t s (subst (λ (x : ℕ). IsLeast block now x t) number fills.1) least in
      record {
        rest = rest;
        is = ap (λ (x : ℕ). Place x t Tail ∷ rest) number ∙ ap (λ (x : Spot). Place i x Tail ∷ rest) spot;
        fills = subst (λ (x : Spot). FillsUp block (placed now i x) rest) spot
            (subst (λ (x : ℕ). FillsUp block (placed now x t) rest) number fills.2);
      }

  pub filling_more : (s : Spot) → IsPlan block → IsLeast block now i s
      → IsFilling block old (i + 1) (placed now i s) (es ++ Place i s Tail ∷ [])
  filling_more s known least = record {
    whole = λ rest fills. rw append_assoc (f.whole (Place i s Tail ∷ rest) (lowest, least, fills));
    only = λ all fills.
        (let first = f.only all fills in
        let next = goes_on s least first.rest first.fills in
        record {
          rest = next.rest;
          is = first.is ∙ ap (λ (xs : List Entry). es ++ xs) next.is
              ∙ sym (append_assoc es (Place i s Tail ∷ []) next.rest);
          fills = next.fills;
        });
    below = λ k lt. elim (cases_eq k i) [
      | inl e ↦ some_is (spot_at (placed now i s) k) s (ap (λ (x : ℕ). spot_at (placed now i s) x) e
          ∙ get_or-set_same now i (Some s) None in_now)
      | inr ne ↦ rw (get_or-set_other now i k (Some s) None ne) (f.below k (omega arith))
    ];
    lawful = least.lawful;
    from_nothing = λ none.
        (let before = f.from_nothing none in
        let room = finds_room block now i i known f.lawful (ready_lowest block now i free f.below) within within
        before.early in
        let soon = room.least s least in
        record {
          early = λ k t at. elim (IsAt-placed now i k s t in_now at) [
            | inl w ↦ (let same : t.cycle ≡ s.cycle = ap (λ (x : Spot). x.cycle) w.1 in omega (arith, same, soon))
            | inr w ↦ (let low = before.early k t w.1 in omega (arith, low))
          ];
          none = λ k le. (let other : k ≢ i = (λ e. omega (arith, e, le)) in get_or-set_other now i k (Some s) None
              other ∙ before.none k (omega (arith, le)));
        });
  }

  -- where it has no spot, nothing completes the set
  pub filling_stuck : HasNoSpot block now i → (all : List Entry) → FillsUp block old all → ⊥
  filling_stuck no_spot all fills = (let first = f.only all fills in stuck first.rest first.fills)
    where
      stuck : (rest : List Entry) → FillsUp block now rest → ⊥
      stuck [] complete = none_not_some (spot_at now i) free (complete i within)
      stuck (Withdraw k who ∷ rest) fills = fills
      stuck (Place k t A ∷ rest) fills = fills
      stuck (Place k t B ∷ rest) fills = fills
      stuck (Place k t Tail ∷ rest) fills =
          (let number : k ≡ i = one_lowest k fills.0 in
          let least : IsLeast block now i t = subst (λ (x : ℕ). IsLeast block now x t) number fills.1 in
          no_spot t least.lawful)

  -- from nothing, it has one
  pub filling_found : IsPlan block → ((k : ℕ) → spot_at old k ≡ None) → HasNoSpot block now i → ⊥
  filling_found known none no_spot =
      let before = f.from_nothing none in
      let room = finds_room block now i i known f.lawful (ready_lowest block now i free f.below) within within
      before.early in
      no_spot (record { cycle = 5 * i; unit = room.unit }) room.fits

pub filling_all : (block : List Insn) (old now : Spots) (i : ℕ) (es : List Entry) → length block ≤ i
    → IsFilling block old i now es → FillsUp block old es
filling_all block old now i es all f =
    subst (λ (xs : List Entry). FillsUp block old xs) (append-nil es)
    (f.whole [] (λ k lt. f.below k (omega (arith, all))))

-- what completes a set leaves a complete one
pub fills_complete : (block : List Insn) (set : Spots) (es : List Entry) → FillsUp block set es
    → IsComplete block (replayed set es)
fills_complete block set [] fills = fills
fills_complete block set (Withdraw k who ∷ es) fills = absurd fills
fills_complete block set (Place k t A ∷ es) fills = absurd fills
fills_complete block set (Place k t B ∷ es) fills = absurd fills
fills_complete block set (Place k t Tail ∷ es) fills = fills_complete block (placed set k t) es fills.2

-- ---- boards

module _ (old now : BoardState) (i : ℕ) (es : List Entry) (f : IsFilling (insns_of old.plan) old.spots i now.spots es)
    (adds : Adds old es now) (known : IsPlan (insns_of old.plan))
    (within : i < length (insns_of old.plan)) where
  pub board_stuck : spot_at now.spots i ≡ None → HasNoSpot (insns_of now.plan) now.spots i → CannotFill old
  board_stuck free no_spot = filling_stuck (insns_of old.plan) old.spots now.spots i es f within free
      (rw (← adds.plan) no_spot)

  pub board_found : spot_at now.spots i ≡ None → HasNoSpot (insns_of now.plan) now.spots i
      → old.spots ≡ nothing_of old.plan → ⊥
  board_found free no_spot nothing =
      filling_found (insns_of old.plan) old.spots now.spots i es f within free known
      (λ k. ap (λ (set : Spots). spot_at set k) nothing
      ∙ nothing_at (length old.plan.insns) k) (rw (← adds.plan) no_spot)

  pub board_more : (s : Spot) (new : BoardState) → spot_at now.spots i ≡ None → IsLeastNow now i s
      → Adds now (Place i s Tail ∷ []) new
      → IsFilling (insns_of old.plan) old.spots (i + 1) new.spots (es ++ Place i s Tail ∷ [])
      × Adds old (es ++ Place i s Tail ∷ []) new
  board_more s new free least more = (
    rw more.spots (filling_more (insns_of old.plan) old.spots now.spots i es f within free s known
        (rw (← adds.plan) least)),
    adds_both old now new es (Place i s Tail ∷ []) adds more,
  )

pub board_filled : (old now : BoardState) (i : ℕ) (es : List Entry)
    → IsFilling (insns_of old.plan) old.spots i now.spots es → Adds old es now
    → length (insns_of old.plan) ≤ i → FillsOut old now
board_filled old now i es f adds all = record
    { entries = es; fills = filling_all (insns_of old.plan) old.spots now.spots i es all f; adds = adds }

-- ---- finishing

-- the board that was completed, with its placings or without
module _ (board : BoardState) (plan : Serial) (first : BoardState) (is : IsBoardFor board plan first) where
  same_plan : first.plan ≡ plan
  same_plan = elim is [ inl w ↦ ap (λ (b : BoardState). b.plan) w.1 ∙ w.0 | inr w ↦ w.1.plan_is ]

  same_budget : first.budget ≡ board.budget
  same_budget = elim is [ inl w ↦ ap (λ (b : BoardState). b.budget) w.1 | inr w ↦ w.1.budget_is ]

  pub finished_kept : (last : BoardState) → FillsOut first last → IsFinished board plan last
  finished_kept last out =
      let complete = fills_complete (insns_of first.plan) first.spots out.entries out.fills in
      record {
        plan_is = out.adds.plan ∙ same_plan;
        complete = rw (out.adds.spots, ← same_plan) complete;
        budget = out.adds.budget ∙ same_budget;
        journal = elim is [
          | inl w ↦ inl (
            w.0,
            (
              out.entries,
              subst (λ (p : Serial). FillsUp (insns_of p) board.spots out.entries) w.0
                  (subst (λ (b : BoardState). FillsUp (insns_of b.plan) b.spots out.entries) w.1 out.fills),
              out.adds.journal ∙ ap (λ (b : BoardState). b.journal ++ out.entries) w.1,
            ),
          )
          | inr w ↦ inr (
            λ same. absurd (w.0 same),
            (let journal : last.journal ≡ out.entries = out.adds.journal
                ∙ ap (λ (es : List Entry). es ++ out.entries) w.1.journal in
                let fills : FillsUp (insns_of plan) (nothing_of plan) out.entries = rw (← w.1.spots, ← w.1.plan_is)
                out.fills in
                rw journal fills),
          )
        ];
      }

  pub finished_anew : (left cleared last : BoardState) → CannotFill first → left.plan ≡ first.plan
      → left.budget ≡ first.budget → IsCleared left cleared → FillsOut cleared last
      → IsFinished board plan last
  finished_anew left cleared last cannot left_plan left_budget empty out =
      let plan_is : cleared.plan ≡ plan = empty.empty.plan_is ∙ left_plan ∙ same_plan in
      let nothing : cleared.spots ≡ nothing_of plan = empty.empty.spots ∙ ap nothing_of (left_plan ∙ same_plan) in
      let journal : last.journal ≡ out.entries = out.adds.journal
      ∙ ap (λ (es : List Entry). es ++ out.entries) empty.empty.journal in
      let fills : FillsUp (insns_of plan) (nothing_of plan) out.entries = rw (← nothing, ← plan_is) out.fills in
      let complete = fills_complete (insns_of cleared.plan) cleared.spots out.entries out.fills in
      record {
        plan_is = out.adds.plan ∙ plan_is;
        complete = rw (out.adds.spots, ← plan_is) complete;
        budget = out.adds.budget ∙ empty.empty.budget_is ∙ left_budget ∙ same_budget;
        journal = inr (
          λ same. elim is [ inl w ↦ subst CannotFill w.1 cannot | inr w ↦ absurd (w.0 same) ],
          rw journal fills,
        );
      }
