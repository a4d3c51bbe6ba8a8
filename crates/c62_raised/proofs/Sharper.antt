-- The raised bound is at least the least length.
use Rattle.std.proofs.Common.{arith, ◌≡◌, ℕ, zero, suc, ◌+◌, ◌*◌, ◌<◌, ◌≤◌, List, [], ◌∷◌, length, Option, Some, None}
use Rattle.std.proofs.Common.{refl, sym, ap, ◌∙◌, subst, inl, inr}
use Rattle.std.specs.Prelude.{ℤ, pos, negsuc, ◌+ℤ◌, ◌≤ℤ◌, slice_get}
use Rattle.std.specs.Int.{div_ceil}
use Rattle.std.proofs.lemmas.Int.{ints}
use Rattle.std.proofs.lemmas.Bool.{cases_eq, cases_lt}
use Rattle.std.proofs.lemmas.Option.{same_Some, none-some}
use Rattle.std.proofs.lemmas.Grind.{div_ceil_times}
use Rattle.c62_op.specs.declared.register.Side.{Side}
use Rattle.c62_op.specs.Shape.{data_path_of}
use Rattle.c62_insn.specs.declared.insn.Insn.{Insn}
use Rattle.c62_insn.specs.Insn.{operands_of}
use Rattle.c62_depend.specs.Height.{height as own_height, raised, IsHeight}
use Rattle.c62_depend.proofs.Plans.{short_is}
use Rattle.c62_depend.proofs.Rules.{height_is}
use Rattle.c62_sheet.specs.Counts.{HasCount}
use Rattle.c62_bound.specs.declared.need.Kind.{Kind}
use Rattle.c62_bound.specs.declared.need.Kind.TheVariants.{L as OnL, S as OnS, M as OnM, D as OnD, Ls, Lsd, Path}
use Rattle.c62_bound.specs.declared.need.Need.{Need}
use Rattle.c62_bound.specs.Bound.{width, GoesOver, WaitsFor, IsConfined, IsNeed, cycles_of as need_cycles}
use Rattle.c62_bound.specs.Length.{IsNeeded}
use Rattle.c62_bound.proofs.Needs.{few_rounds}
use Rattle.c62_bound.proofs.Seats.{some_width}
use Rattle.c62_bound.proofs.Rooms.{CanTell, tell_side, tell_only, count_of, some_counted, one_round}
use Rattle.c62_raised.specs.declared.room.Room.TheVariants.{Of}
use Rattle.c62_raised.specs.declared.crowd.Crowd.{Crowd as CrowdOf}
use Rattle.c62_raised.specs.Chain.Chain.{single}
use Rattle.c62_raised.specs.Chain.{Chain, IsLongest}
use Rattle.c62_raised.specs.Crowd.{IsInCrowd, IsCrowdOf}
use Rattle.c62_raised.specs.Raised.{IsRaised, AreRaised, AreAtOnce, with_first}
use Rattle.c62_raised.specs.Laws.{IsSharper}
use Rattle.c62_raised.proofs.Crowds.{is_some, the_one}

-- ---- raised heights are no lower

raised_above : (least before : ℤ) (low h own : ℕ) → (least +ℤ pos low) ≡ pos own → least ≤ℤ before → low ≤ h
    → own ≤ raised before h
raised_above least (pos l) low h own whole up high = omega (arith, ints, whole, up, high)
raised_above least (negsuc l) low h own whole up high = omega (arith, ints, whole, up, high)

longest_above : (block : List Insn) (i j : ℕ) (o : Option ℤ) (cycles : ℤ) → IsLongest block i j o
    → Chain block i j cycles
    → (most : ℤ) × (o ≡ Some most) × (cycles ≤ℤ most)
longest_above block i j None cycles is chain = absurd (is cycles chain)
longest_above block i j (Some most) cycles is chain = (most, refl, is.1 cycles chain)

no_lower : (block : List Insn) (height : ℕ → ℕ) → AreRaised block height → (steps i : ℕ) → i < length block
    → length block ≤ i + steps
    → own_height block i ≤ height i
no_lower block height are zero i within few = absurd (omega (arith, within, few))
no_lower block height are (suc steps) i within few =
    let w = are i within in
    let own : IsHeight block i (own_height block i) = height_is block i within in
    elim own.attained [
      | inl e ↦ (let low = w.2.own in omega (arith, low, e))
      | inr v ↦
          (let short = short_is block i v.0 v.1 v.2 in
          let before = short.before in
          let behind = no_lower block height are steps v.0 short.within (omega (arith, before, few)) in
          let lead = longest_above block i v.0 (w.0 v.0) v.1 (w.1 v.0) (single v.0 v.1 v.2) in
          let up : v.1 ≤ℤ lead.0 = lead.2 in
          let fits = raised_above v.1 lead.0 (own_height block v.0) (height v.0) (own_height block i) v.3 up behind in
          let low = w.2.ones v.0 lead.0 lead.1 in
          omega (arith, fits, low))
    ]

-- ---- crowds

-- the least of those that are counted
least_member : (Is : ℕ → Type 0) (height : ℕ → ℕ) (n count : ℕ) → HasCount Is n count → 0 < count
    → (m : ℕ) × (m < n) × Is m × ((j : ℕ) → j < n → Is j → height m ≤ height j)
least_member Is height zero count has some = absurd (omega (arith, has, some))
least_member Is height (suc n) count has some = elim has [
  | inr w ↦
      (let rest = least_member Is height n count w.1 some in (
        rest.0,
        (let low = rest.1 in omega (arith, low)),
        rest.2,
        λ j low is. elim (cases_eq j n)
            [ inl e ↦ absurd (w.0 (subst Is e is)) | inr ne ↦ rest.3 j (omega (arith, low, ne)) is ],
      ))
  | inl w ↦ elim (cases_lt 0 w.1.0) [
    | inr none ↦ (
      n,
      omega arith,
      w.0,
      λ j low is. elim (cases_eq j n) [
        | inl e ↦ (let same = ap height e in omega (arith, same))
        | inr ne ↦ (let more = some_counted Is n w.1.0 j w.1.2 (omega (arith, low, ne)) is in absurd
            (omega (arith, more, none)))
      ],
    )
    | inl more ↦
        (let rest = least_member Is height n w.1.0 w.1.2 more in
        elim (cases_lt (height n) (height rest.0)) [
          | inl lower ↦ (
            n,
            omega arith,
            w.0,
            λ j low is. elim (cases_eq j n) [
              | inl e ↦ (let same = ap height e in omega (arith, same))
              | inr ne ↦ (let up = rest.3 j (omega (arith, low, ne)) is in omega (arith, up, lower))
            ],
          )
          | inr higher ↦ (
            rest.0,
            (let low = rest.1 in omega (arith, low)),
            rest.2,
            λ j low is. elim (cases_eq j n) [
              | inl e ↦ (let same = ap height e in omega (arith, same, higher))
              | inr ne ↦ rest.3 j (omega (arith, low, ne)) is
            ],
          )
        ])
  ]
]

count_more : (P Q : ℕ → Type 0) (n a b : ℕ) → ((j : ℕ) → j < n → P j → Q j) → HasCount P n a → HasCount Q n b → a ≤ b
count_more P Q zero a b into p q = omega (arith, p)
count_more P Q (suc n) a b into p q = elim p [
  | inl v ↦ elim q [
    | inl w ↦
        (let rest = count_more P Q n v.1.0 w.1.0 (λ j low is. into j (omega (arith, low)) is) v.1.2 w.1.2 in
        let one = v.1.1 in
        let other = w.1.1 in
        omega (arith, rest, one, other))
    | inr w ↦ absurd (w.0 (into n (omega arith) v.0))
  ]
  | inr v ↦ elim q [
    | inl w ↦
        (let rest = count_more P Q n a w.1.0 (λ j low is. into j (omega (arith, low)) is) v.1 w.1.2 in
        let other = w.1.1 in
        omega (arith, rest, other))
    | inr w ↦ count_more P Q n a b (λ j low is. into j (omega (arith, low)) is) v.1 w.1
  ]
]

more_rounds : (count most by : ℕ) → 0 < by → count ≤ most → div_ceil count by ≤ div_ceil most by
more_rounds count most by some few =
    let up : most ≤ div_ceil most by * by = (div_ceil_times most by some).0 in
    let turned : div_ceil most by * by ≡ by * div_ceil most by = omega arith in
    few_rounds count by (div_ceil most by) some (omega (arith, up, few, turned))

tell_path : (o : Option Side) (side : Side) → CanTell (o ≡ Some side)
tell_path None side = inr (λ e. none-some side e)
tell_path (Some own) side = elim (tell_side own side)
    [ inl e ↦ inl (ap Some e) | inr ne ↦ inr (λ e. ne (same_Some own side e)) ]

tell_over : (block : List Insn) (side : Side) (j : ℕ) → CanTell (GoesOver block side j)
tell_over block side j = by_insn (slice_get block j) refl
  where
    by_insn : (o : Option Insn) → slice_get block j ≡ o → CanTell (GoesOver block side j)
    by_insn None e = inl (λ insn at. absurd (none-some insn (sym e ∙ at)))
    by_insn (Some insn) e = elim (tell_path (data_path_of (operands_of insn)) side) [
      | inl over ↦ inl (λ other at. subst (λ (x : Insn). data_path_of (operands_of x) ≡ Some side)
          (same_Some insn other (sym e ∙ at)) over)
      | inr not ↦ inr (λ all. not (all insn e))
    ]

tell_waits : (block : List Insn) (kind : Kind) (side : Side) (j : ℕ) → CanTell (WaitsFor block kind side j)
tell_waits block OnL side j = tell_only block OnL side j
tell_waits block OnS side j = tell_only block OnS side j
tell_waits block OnM side j = tell_only block OnM side j
tell_waits block OnD side j = tell_only block OnD side j
tell_waits block Ls side j = tell_only block Ls side j
tell_waits block Lsd side j = tell_only block Lsd side j
tell_waits block Path side j = tell_over block side j

module _ (block : List Insn) (height : ℕ → ℕ) (lead : ℕ
    → Option ℤ) (at_once : AreAtOnce block lead) (behind : ℕ) (is : IsRaised block height lead 0 behind)
    (higher : (i : ℕ) → i < length block → own_height block i ≤ height i) where
  height_below : (i : ℕ) → i < length block → height i ≤ behind
  height_below i low = let one = is.ones i (pos 0) (at_once.each i low) in omega (arith, one)

  tell_in : (kind : Kind) (side : Side) (tail j : ℕ) → CanTell (IsInCrowd block height lead (Of kind side) tail j)
  tell_in kind side tail j = elim (tell_waits block kind side j) [
    | inr not ↦ inr (λ w. not w.waits)
    | inl waits ↦ elim (cases_lt (height j) tail) [
      | inl low ↦ inr (λ w. (let tall = w.tall in omega (arith, tall, low)))
      | inr tall ↦ by_lead waits (omega (arith, tall)) (lead j) refl
    ]
  ]
    where
      by_lead : WaitsFor block kind side j → tail ≤ height j → (o : Option ℤ) → lead j ≡ o
          → CanTell (IsInCrowd block height lead (Of kind side) tail j)
      by_lead waits tall None e = inr (λ w. (let v = the_one (lead j) w.behind in none-some v.0 (sym e ∙ v.1)))
      by_lead waits tall (Some before) e = inl
          (record { waits = waits; behind = is_some (lead j) before e; tall = tall })

  no_lead : (j : ℕ) (before : ℤ) → j < length block → lead j ≡ Some before → before ≡ pos 0
  no_lead j before low e = same_Some before (pos 0) (sym e ∙ at_once.each j low)

  crowd_below : (kind : Kind) (side : Side) (tail count m : ℕ) → m < length block → IsConfined block kind side tail m
      → ((j : ℕ) → j < length block → IsConfined block kind side tail j → height m ≤ height j)
      → HasCount (IsConfined block kind side tail) (length block) count
      → div_ceil count (width kind) + tail ≤ behind + 1
  crowd_below kind side tail count m within member least has =
      let Is : ℕ → Type 0 = IsInCrowd block height lead (Of kind side) (height m) in
      let all = count_of Is (λ j. tell_in kind side (height m) j) (length block) in
      let own : CrowdOf = record { room = Of kind side; lead = pos 0; count = all.0; tail = height m } in
      let own_in : Is m = record
      { waits = member.waits; behind = is_some (lead m) (pos 0) (at_once.each m within); tall = omega arith } in
      let crowd : IsCrowdOf block height lead (Of kind side) m own = record {
        is_room = refl;
        is_tail = refl;
        within = within;
        last_in = own_in;
        counted = all.1;
        least = λ j before low w told. (let none = no_lead j before low told in omega (arith, ints, none));
        first = (m, within, own_in, at_once.each m within);
      } in
      let fits = is.crowds (Of kind side) m own crowd in
      let more = count_more (IsConfined block kind side tail) Is (length block) count all.0
      (λ j low w. record {
        waits = w.waits;
        behind = is_some (lead j) (pos 0) (at_once.each j low);
        tall = least j low w;
      }) has all.1 in
      let rounds = more_rounds count all.0 (width kind) (some_width kind) more in
      let some = one_round all.0 (width kind) (some_counted Is (length block) all.0 m all.1 within own_in)
      (some_width kind) in
      let tall = member.tall in
      let high = higher m within in
      omega (arith, fits, rounds, some, tall, high)

  need_below : (need : Need) → IsNeed block need → need_cycles need ≤ behind + 1
  need_below need w = elim (cases_lt 0 need.count) [
    | inl some ↦
        (let m = least_member (IsConfined block need.kind need.side need.tail) height (length block) need.count
        w.of.counted some in
        crowd_below need.kind need.side need.tail need.count m.0 m.1 m.2 m.3 w.of.counted)
    | inr none ↦
        (let rounds = few_rounds need.count (width need.kind) 0 (some_width need.kind) (omega (arith, none)) in
        let tail = w.of.is_tail in
        let high = higher w.last w.within in
        let low = height_below w.last w.within in
        omega (arith, rounds, tail, high, low))
  ]

  needed_below : (cycles : ℕ) → IsNeeded block cycles → cycles ≤ behind + 1
  needed_below cycles needed = elim needed [
    | inl path ↦ (let high = higher path.0 path.1 in let low = height_below path.0 path.1 in omega
        (arith, high, low, path.2))
    | inr need ↦ (let below = need_below need.0 need.1 in omega (arith, below, need.2))
  ]

some_needed : (block : List Insn) (cycles behind : ℕ) → IsNeeded block cycles → cycles ≤ behind + 1
    → cycles ≤ with_first block behind
some_needed [] cycles behind needed low = elim needed [
  | inl path ↦ absurd (omega (arith, path.1))
  | inr need ↦ (let within = need.1.within in absurd (omega (arith, within)))
]
some_needed (insn ∷ block) cycles behind needed low = low

pub is_sharper : (block : List Insn) → IsSharper block
is_sharper block least cycles is raised = elim (cases_lt 0 least) [
  | inr none ↦ omega (arith, none)
  | inl some ↦
      (let needed = is.attained some in
      let below = needed_below block raised.height raised.lead raised.at_once raised.behind raised.is
      (λ i within. no_lower block raised.height raised.heights (length block) i within (omega arith)) least needed in
      let low = some_needed block least raised.behind needed below in
      let whole = raised.whole in
      omega (arith, low, whole))
]
