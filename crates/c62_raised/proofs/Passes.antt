-- A pass over numbers in falling order of their heights.
use Rattle.std.proofs.Common.{arith, ◌≡◌, ◌⊎◌, ℕ, zero, suc, ◌+◌, ◌-◌, ◌<◌, ◌≤◌, List, length, max, Option, Some, None, refl, Bool, true, false, ◌↔◌}
use Rattle.std.proofs.Common.{sym, ap, ◌∙◌, subst, inl, inr}
use Rattle.std.specs.Prelude.{ℤ, ◌≤ℤ◌, IsTrue, IsSome, MatchOption, slice_index, nat_eq}
use Rattle.std.specs.Int.{div_ceil}
use Rattle.std.proofs.lemmas.Int.{ints}
use Rattle.std.proofs.lemmas.Bool.{cases_eq, cases_lt}
use Rattle.std.proofs.lemmas.Bool.Decides.{nat_tests}
use Rattle.std.proofs.lemmas.Option.{none-some, same_Some}
use Rattle.c62_insn.specs.declared.insn.Insn.{Insn}
use Rattle.c62_depend.specs.Height.{raised}
use Rattle.c62_sheet.specs.Counts.{HasCount}
use Rattle.c62_bound.proofs.Counting.{one_count}
use Rattle.c62_raised.specs.declared.room.Room.{Room}
use Rattle.c62_raised.specs.declared.crowd.Crowd.{Crowd as CrowdOf}
use Rattle.c62_raised.specs.declared.crowd.Pass.{Pass}
use Rattle.c62_raised.specs.Room.{WaitsIn, width_of}
use Rattle.c62_raised.specs.Crowd.{IsInCrowd, IsCrowdOf, cycles_of}
use Rattle.c62_raised.specs.Order.{IsSeen, IsOrdered, CoversLeads}
use Rattle.c62_raised.specs.Raised.{IsReached}
use Rattle.c62_raised.specs.Steps.{count_of, IsJoined, closed, closed_before, IsWithMember, IsWithNumber, CoversCrowds}
use Rattle.c62_raised.proofs.Crowds.{count_same, is_some, the_one}

-- ---- counts

count_none : (P : ℕ → Type 0) (n : ℕ) → ((j : ℕ) → P j → ⊥) → HasCount P n 0
count_none P zero none = refl
count_none P (suc n) none = inr (none n, count_none P n none)

-- one number more
count_one : (P Q : ℕ → Type 0) (n x count : ℕ) → x < n → (P x → ⊥) → Q x → ((j : ℕ) → P j → Q j)
    → ((j : ℕ) → Q j → P j ⊎ (j ≡ x))
    → HasCount P n count → HasCount Q n (count + 1)
count_one P Q zero x count low not own into out has = absurd (omega (arith, low))
count_one P Q (suc n) x count low not own into out has = elim (cases_eq n x) [
  | inl at ↦ elim has [
    | inl w ↦ absurd (not (subst P at w.0))
    | inr w ↦
        inl (
          subst Q (sym at) own,
          (
            count,
            refl,
            count_same P Q n count (λ j less p. into j p)
                (λ j less q. only j (λ e. omega (arith, e, at, less)) (out j q)) w.1,
          ),
        )
  ]
  | inr ne ↦ elim has [
    | inl w ↦
        (let e = w.1.1 in
        let more : count + 1 ≡ (w.1.0 + 1) + 1 = omega (arith, e) in
        inl (
          into n w.0,
          (w.1.0 + 1, more, count_one P Q n x w.1.0 (omega (arith, low, ne)) not own into out w.1.2),
        ))
    | inr w ↦
        inr (
          λ q. w.0 (only n ne (out n q)),
          count_one P Q n x count (omega (arith, low, ne)) not own into out w.1,
        )
  ]
]
  where
    only : (j : ℕ) → (j ≡ x → ⊥) → P j ⊎ (j ≡ x) → P j
    only j ne (inl p) = p
    only j ne (inr e) = absurd (ne e)

-- ---- crowds with one tail

one_first : (block : List Insn) (height : ℕ → ℕ) (lead : ℕ → Option ℤ) (room : Room) (last other : ℕ) (a b : CrowdOf)
    → IsCrowdOf block height lead room last a → IsCrowdOf block height lead room other b → a.tail ≡ b.tail
    → b.lead ≤ℤ a.lead
one_first block height lead room last other a b p q tails =
    let first = p.first in
    q.least first.0 a.lead first.1 (subst (λ (t : ℕ). IsInCrowd block height lead room t first.0) tails first.2) first.3

pub one_crowd : (block : List Insn) (height : ℕ → ℕ) (lead : ℕ → Option ℤ) (room : Room) (last other : ℕ) (a b : CrowdOf)
    → IsCrowdOf block height lead room last a → IsCrowdOf block height lead room other b → a.tail ≡ b.tail
    → cycles_of a ≡ cycles_of b
one_crowd block height lead room last other a b p q tails =
    let rooms : a.room ≡ b.room = p.is_room ∙ sym q.is_room in
    let counts : a.count ≡ b.count =
    one_count (IsInCrowd block height lead room a.tail) (length block) a.count b.count p.counted
    (subst (λ (t : ℕ). HasCount (IsInCrowd block height lead room t) (length block) b.count) (sym tails) q.counted) in
    let down = one_first block height lead room last other a b p q tails in
    let up = one_first block height lead room other last b a q p (sym tails) in
    let leads : a.lead ≡ b.lead = omega (arith, ints, down, up) in
    ap (λ (l : ℤ). raised l (div_ceil a.count (width_of a.room) - 1 + a.tail)) leads
    ∙ ap (λ (k : ℕ). raised b.lead (div_ceil k (width_of a.room) - 1 + a.tail)) counts
    ∙ ap (λ (r : Room). raised b.lead (div_ceil b.count (width_of r) - 1 + a.tail)) rooms
    ∙ ap (λ (t : ℕ). raised b.lead (div_ceil b.count (width_of b.room) - 1 + t)) tails

-- ---- a pass

module _ (block : List Insn) (height : ℕ → ℕ) (lead : ℕ → Option ℤ) (room : Room) (order : List ℕ) where
  -- it waits for the room and comes behind
  pub record IsMember (j : ℕ) : Type 0 where
    pub waits : WaitsIn block room j
    pub behind : IsSome (lead j)

  -- and is among the first
  pub record IsGot (p j : ℕ) : Type 0 where
    pub seen : IsSeen order p j
    pub member : IsMember j

  -- the crowd of those among the first
  pub record IsOpen (p : ℕ) (crowd : CrowdOf) : Type 0 where
    pub is_room : crowd.room ≡ room
    pub last : (k : ℕ) × (k < p) × IsMember (slice_index order k) × (crowd.tail ≡ height (slice_index order k))
    pub low : (j : ℕ) → IsGot p j → crowd.tail ≤ height j
    pub counted : HasCount (IsGot p) (length block) crowd.count
    pub least : (j : ℕ) (cycles : ℤ) → IsGot p j → lead j ≡ Some cycles → crowd.lead ≤ℤ cycles
    pub first : (j : ℕ) × IsGot p j × (lead j ≡ Some crowd.lead)

  abbrev pub AreOpen : ℕ → Option CrowdOf → Type 0
  AreOpen p held = MatchOption held ((j : ℕ) → IsGot p j → ⊥) (IsOpen p)

  abbrev pub IsLeft : Option CrowdOf → ℕ → Type 0
  IsLeft held tail = MatchOption held ⊥ (λ crowd. crowd.tail ≡ tail)

  -- those among the first are counted, but for the crowd that is held
  pub record IsPass (least p : ℕ) (held : Option CrowdOf) (most : ℕ) : Type 0 where
    pub few : count_of held ≤ p
    pub up : least ≤ most
    pub are : AreOpen p held
    pub covers : (last : ℕ) (crowd : CrowdOf) → IsSeen order p last → IsCrowdOf block height lead room last crowd
        → IsLeft held crowd.tail ⊎ (cycles_of crowd ≤ most)
    pub attained : (delay : ℕ) → IsReached block height lead delay least → IsReached block height lead delay most

  pub begin : (least : ℕ) → IsPass least 0 None least
  begin least = record {
    few = omega arith;
    up = omega arith;
    are = λ j got. (let seen = got.seen in omega (arith, seen.1));
    covers = λ last crowd seen is. absurd (omega (arith, seen.1));
    attained = λ delay reached. reached;
  }

  -- an held crowd is one, where no other number is so tall
  whole : (p : ℕ) (crowd : CrowdOf) → IsOpen p crowd → ((k : ℕ) → k < p → slice_index order k < length block)
      → ((j : ℕ) → IsMember j → crowd.tail ≤ height j → IsSeen order p j)
      → (last : ℕ) × IsCrowdOf block height lead room last crowd
  whole p crowd held within rest =
      let last = held.last in
      let first = held.first in
      let inside : slice_index order last.0 < length block = within last.0 last.1 in
      let seen = first.1.seen in
      let behind = within seen.0 seen.1 in
      let got : (j : ℕ) → IsInCrowd block height lead room crowd.tail j → IsGot p j = λ j is. (
      let member : IsMember j = record { waits = is.waits; behind = is.behind } in
      record { seen = rest j member is.tall; member = member }) in
      let given : (j : ℕ) → IsGot p j → IsInCrowd block height lead room crowd.tail j = λ j is.
      record { waits = is.member.waits; behind = is.member.behind; tall = held.low j is } in (
        slice_index order last.0,
        record {
          is_room = held.is_room;
          is_tail = last.3;
          within = inside;
          last_in = given (slice_index order last.0)
              (record { seen = (last.0, last.1, refl); member = last.2 });
          counted = count_same (IsGot p) (IsInCrowd block height lead room crowd.tail) (length block) crowd.count
              (λ j low is. given j is) (λ j low is. got j is) held.counted;
          least = λ j cycles low is told. held.least j cycles (got j is) told;
          first = (
            first.0,
            (let e = seen.2 in omega (arith, e, behind)),
            given first.0 first.1,
            first.2,
          );
        },
      )

  -- what such a crowd makes of so many cycles
  reached_more : (p : ℕ) (crowd : CrowdOf) (delay most : ℕ) → ((last : ℕ) × IsCrowdOf block height lead room last crowd)
      → IsReached block height lead delay most
      → IsReached block height lead delay (max most (cycles_of crowd))
  reached_more p crowd delay most w reached = elim (cases_lt most (cycles_of crowd)) [
    | inl less ↦
        (let e : max most (cycles_of crowd) ≡ cycles_of crowd = omega (arith, less) in
        inr (inr (room, w.0, crowd, w.1, e)))
    | inr more ↦
        (let e : most ≡ max most (cycles_of crowd) = omega (arith, more) in
        subst (IsReached block height lead delay) e reached)
  ]

  module _ (ordered : IsOrdered (length block) height order) (all : CoversLeads order lead) where
    -- at the end
    pub ended : (least : ℕ) (held : Option CrowdOf) (most : ℕ) → IsPass least (length order) held most
        → (least ≤ closed held most) × CoversCrowds block height lead room (closed held most)
        × ((delay : ℕ) → IsReached block height lead delay least
        → IsReached block height lead delay (closed held most))
    ended least None most is = (
      is.up,
      λ last crowd w. (let before = the_one (lead last) w.last_in.behind in
          elim (is.covers last crowd (all last before.0 before.1) w) [ inl none ↦ absurd none | inr low ↦ low ]),
      is.attained,
    )
    ended least (Some held) most is =
        let own = whole (length order) held is.are (λ k low. ordered.1.within k low) (λ j member tall. (
        let before = the_one (lead j) member.behind in
        all j before.0 before.1)) in (
          (let up = is.up in omega (arith, up)),
          λ last crowd w. (let before = the_one (lead last) w.last_in.behind in
              elim (is.covers last crowd (all last before.0 before.1) w) [
                | inl e ↦
                    (let same = one_crowd block height lead room last own.0 crowd held w own.1 (sym e) in
                    omega (arith, same))
                | inr low ↦ omega (arith, low)
              ]),
          λ delay reached. reached_more (length order) held delay most own (is.attained delay reached),
        )

    -- a number that is no member
    pub passed : (least p : ℕ) (held : Option CrowdOf) (most : ℕ) → (IsMember (slice_index order p) → ⊥)
        → IsPass least p held most → IsPass least (p + 1) held most
    passed least p held most not is = record {
      few = (let few = is.few in omega (arith, few));
      up = is.up;
      are = are_more held is.are;
      covers = λ last crowd seen w. elim (seen_before last seen) [
        | inl before ↦ is.covers last crowd before w
        | inr e ↦ absurd (not (subst IsMember e (record { waits = w.last_in.waits; behind = w.last_in.behind })))
      ];
      attained = is.attained;
    }
      where
        seen_before : (j : ℕ) → IsSeen order (p + 1) j → IsSeen order p j ⊎ (j ≡ slice_index order p)
        seen_before j seen = elim (cases_eq seen.0 p) [
          | inl e ↦ inr (sym seen.2 ∙ ap (slice_index order) e)
          | inr ne ↦ (let low = seen.1 in inl (seen.0, omega (arith, low, ne), seen.2))
        ]

        got_before : (j : ℕ) → IsGot (p + 1) j → IsGot p j
        got_before j got = elim (seen_before j got.seen) [
          | inl before ↦ record { seen = before; member = got.member }
          | inr e ↦ absurd (not (subst IsMember e got.member))
        ]

        got_after : (j : ℕ) → IsGot p j → IsGot (p + 1) j
        got_after j got = (let low = got.seen.1 in
            record { seen = (got.seen.0, omega (arith, low), got.seen.2); member = got.member })

        are_more : (o : Option CrowdOf) → AreOpen p o → AreOpen (p + 1) o
        are_more None none = λ j got. none j (got_before j got)
        are_more (Some crowd) own =
            let last = own.last in
            record {
              is_room = own.is_room;
              last = (last.0, (let low = last.1 in omega (arith, low)), last.2, last.3);
              low = λ j got. own.low j (got_before j got);
              counted = count_same (IsGot p) (IsGot (p + 1)) (length block) crowd.count
                  (λ j low got. got_after j got) (λ j low got. got_before j got) own.counted;
              least = λ j cycles got told. own.least j cycles (got_before j got) told;
              first = (own.first.0, got_after own.first.0 own.first.1, own.first.2);
            }

    -- a member
    pub joined : (least p : ℕ) (held : Option CrowdOf) (most : ℕ) (cycles : ℤ) (new : CrowdOf) → p < length order
        → IsMember (slice_index order p) → lead (slice_index order p) ≡ Some cycles
        → IsJoined held room cycles (height (slice_index order p)) new
        → IsPass least p held most
        → IsPass least (p + 1) (Some new) (closed_before held (height (slice_index order p)) most)
    joined least p held most cycles new inside member told join is = by_open held join is
      where
        at : ℕ
        at = slice_index order p

        seen_before : (j : ℕ) → IsSeen order (p + 1) j → IsSeen order p j ⊎ (j ≡ at)
        seen_before j seen = elim (cases_eq seen.0 p) [
          | inl e ↦ inr (sym seen.2 ∙ ap (slice_index order) e)
          | inr ne ↦ (let low = seen.1 in inl (seen.0, omega (arith, low, ne), seen.2))
        ]

        got_before : (j : ℕ) → IsGot (p + 1) j → IsGot p j ⊎ (j ≡ at)
        got_before j got = elim (seen_before j got.seen) [
          | inl before ↦ inl (record { seen = before; member = got.member })
          | inr e ↦ inr e
        ]

        got_after : (j : ℕ) → IsGot p j → IsGot (p + 1) j
        got_after j got = (let low = got.seen.1 in
            record { seen = (got.seen.0, omega (arith, low), got.seen.2); member = got.member })

        got_at : IsGot (p + 1) at
        got_at = record { seen = (p, omega arith, refl); member = member }

        not_at : IsGot p at → ⊥
        not_at got = ordered.1.once got.seen.0 p got.seen.1 inside got.seen.2

        tall : (j : ℕ) → IsSeen order (p + 1) j → height at ≤ height j
        tall j seen = elim (cases_eq seen.0 p) [
          | inl e ↦ (let same : height j ≡ height at = ap height (sym seen.2 ∙ ap (slice_index order) e) in
              omega (arith, same))
          | inr ne ↦ (let low = seen.1 in
              let same : height (slice_index order seen.0) ≡ height j = ap height seen.2 in
              let falls = ordered.1.falls seen.0 p (omega (arith, low, ne)) inside in
              omega (arith, same, falls))
        ]

        counted : (count : ℕ) → HasCount (IsGot p) (length block) count
            → HasCount (IsGot (p + 1)) (length block) (count + 1)
        counted count has = count_one (IsGot p) (IsGot (p + 1)) (length block) at count (ordered.1.within p inside)
            not_at got_at got_after got_before has

        one_lead : (j : ℕ) (before : ℤ) → j ≡ at → lead j ≡ Some before → cycles ≡ before
        one_lead j before e is_told = same_Some cycles before (sym told ∙ ap lead (sym e) ∙ is_told)

        opened : (o : Option CrowdOf) → IsJoined o room cycles (height at) new → AreOpen p o → IsOpen (p + 1) new
        opened None j none = record {
          is_room = j.is_room;
          last = (p, omega arith, member, j.is_tail);
          low = λ k got. (let e = j.is_tail in omega (arith, e, tall k got.seen));
          counted = subst (HasCount (IsGot (p + 1)) (length block)) (sym j.is_count)
              (counted 0 (count_none (IsGot p) (length block) none));
          least = λ k before got is_told. elim (got_before k got) [
            | inl old ↦ absurd (none k old)
            | inr e ↦ (let same = one_lead k before e is_told in let low = j.least in omega (arith, ints, same, low))
          ];
          first = elim j.attained [
            | inl e ↦ (at, got_at, told ∙ ap Some (sym e))
            | inr none_is ↦ absurd none_is
          ];
        }
        opened (Some old) j own = record {
          is_room = j.is_room;
          last = (p, omega arith, member, j.is_tail);
          low = λ k got. (let e = j.is_tail in omega (arith, e, tall k got.seen));
          counted = subst (HasCount (IsGot (p + 1)) (length block)) (sym j.is_count) (counted old.count own.counted);
          least = λ k before got is_told. elim (got_before k got) [
            | inl older ↦
                (let low = own.least k before older is_told in
                let below : new.lead ≤ℤ old.lead = j.below in
                omega (arith, ints, low, below))
            | inr e ↦ (let same = one_lead k before e is_told in let low = j.least in omega (arith, ints, same, low))
          ];
          first = elim j.attained [
            | inl e ↦ (at, got_at, told ∙ ap Some (sym e))
            | inr e ↦ (own.first.0, got_after own.first.0 own.first.1, own.first.2 ∙ ap Some (sym e))
          ];
        }

        -- the held crowd is whole before a number that is less tall
        closes : (old : CrowdOf) → IsOpen p old → (old.tail ≡ height at → ⊥)
            → (last : ℕ) × IsCrowdOf block height lead room last old
        closes old own other =
            let last = own.last in
            let falls = ordered.1.falls last.0 p last.1 inside in
            let same = last.3 in
            let more : height at < old.tail = omega (arith, falls, same, other) in
            whole p old own (λ k low. ordered.1.within k (omega (arith, low, inside))) (λ j is_member high. (
            let before = the_one (lead j) is_member.behind in
            let seen = all j before.0 before.1 in
            elim (cases_lt seen.0 p) [
              | inl low ↦ (seen.0, low, seen.2)
              | inr late ↦ absurd (not_late j seen.0 seen.1 seen.2 late more high)
            ]))
          where
            not_late : (j k : ℕ) → k < length order → slice_index order k ≡ j → p ≤ k → height at < old.tail
                → old.tail ≤ height j
                → ⊥
            not_late j k low e late more high = elim (cases_eq k p) [
              | inl same ↦
                  (let one : height j ≡ height at = ap height (sym e ∙ ap (slice_index order) same) in
                  omega (arith, one, more, high))
              | inr ne ↦
                  (let one : height (slice_index order k) ≡ height j = ap height e in
                  let falls = ordered.1.falls p k (omega (arith, late, ne)) low in
                  omega (arith, one, more, high, falls))
            ]

        fewer : (o : Option CrowdOf) → IsJoined o room cycles (height at) new → count_of o ≤ p → new.count ≤ p + 1
        fewer o j few = (let e = j.is_count in omega (arith, e, few))

        by_open : (o : Option CrowdOf) → IsJoined o room cycles (height at) new → IsPass least p o most
            → IsPass least (p + 1) (Some new) (closed_before o (height at) most)
        by_open None j pass = record {
          few = fewer None j pass.few;
          up = pass.up;
          are = opened None j pass.are;
          covers = λ last crowd seen w. elim (seen_before last seen) [
            | inl before ↦ absurd (pass.are last (record {
              seen = before;
              member = record { waits = w.last_in.waits; behind = w.last_in.behind };
            }))
            | inr e ↦ inl (j.is_tail ∙ ap height (sym e) ∙ sym w.is_tail)
          ];
          attained = pass.attained;
        }
        by_open (Some old) j pass = elim (cases_eq old.tail (height at)) [
          | inl same ↦
              (let test : nat_eq old.tail (height at) ≡ true = grind (arith, same, nat_tests) in
              rw test (record {
                few = fewer (Some old) j pass.few;
                up = pass.up;
                are = opened (Some old) j pass.are;
                covers = λ last crowd seen w. elim (seen_before last seen) [
                  | inl before ↦ elim (pass.covers last crowd before w) [
                    | inl e ↦ inl (j.is_tail ∙ sym same ∙ e)
                    | inr low ↦ inr low
                  ]
                  | inr e ↦ inl (j.is_tail ∙ ap height (sym e) ∙ sym w.is_tail)
                ];
                attained = pass.attained;
              }))
          | inr ne ↦
              (let test : nat_eq old.tail (height at) ≡ false = grind (arith, ne, nat_tests) in
              let own = closes old pass.are ne in
              rw test (record {
                few = fewer (Some old) j pass.few;
                up = (let up = pass.up in omega (arith, up));
                are = opened (Some old) j pass.are;
                covers = λ last crowd seen w. elim (seen_before last seen) [
                  | inl before ↦ elim (pass.covers last crowd before w) [
                    | inl e ↦
                        (let one = one_crowd block height lead room last own.0 crowd old w own.1 (sym e) in
                        inr (omega (arith, one)))
                    | inr low ↦ inr (omega (arith, low))
                  ]
                  | inr e ↦ inl (j.is_tail ∙ ap height (sym e) ∙ sym w.is_tail)
                ];
                attained = λ delay reached. reached_more p old delay most own (pass.attained delay reached);
              }))
        ]

    -- and a number
    pub stepped : (least p : ℕ) (old new : Pass) (waits : Bool) (own : Option ℤ) (h : ℕ) → p < length order
        → IsTrue waits ↔ WaitsIn block room (slice_index order p) → own ≡ lead (slice_index order p)
        → h ≡ height (slice_index order p)
        → IsWithNumber room waits own h old new → IsPass least p old.held old.most
        → IsPass least (p + 1) new.held new.most
    stepped least p old new waits own h inside decides is_own is_height step is = elim step [
      | inl w ↦
          (let told : lead (slice_index order p) ≡ Some w.0 = sym is_own ∙ w.2 in
          let member : IsMember (slice_index order p) =
          record { waits = decides.0 w.1; behind = is_some (lead (slice_index order p)) w.0 told } in
          let with : IsWithMember room w.0 (height (slice_index order p)) old new =
          subst (λ (t : ℕ). IsWithMember room w.0 t old new) is_height w.3 in
          let crowd = with.held in
          let own_pass = joined least p old.held old.most w.0 crowd.0 inside member told crowd.2 is in
          subst (λ (o : Option CrowdOf). IsPass least (p + 1) o new.most) (sym crowd.1)
          (subst (IsPass least (p + 1) (Some crowd.0)) (sym with.closed) own_pass))
      | inr w ↦
          (let not : IsMember (slice_index order p) → ⊥ = λ member. (
          let before = the_one (lead (slice_index order p)) member.behind in
          none-some before.0 (sym (w.0 (decides.1 member.waits)) ∙ is_own ∙ before.1)) in
          subst (λ (pass : Pass). IsPass least (p + 1) pass.held pass.most) (sym w.1)
          (passed least p old.held old.most not is))
    ]
