-- No schedule is shorter than the raised bound.
use Rattle.std.proofs.Common.{arith, ◌≡◌, ℕ, zero, suc, ◌+◌, ◌-◌, ◌*◌, ◌<◌, ◌≤◌, List, [], ◌∷◌, length, Option, Some}
use Rattle.std.proofs.Common.{None, refl, sym, ap, subst, inl, inr}
use Rattle.std.specs.Prelude.{ℤ, pos, negsuc, ◌+ℤ◌, ◌≤ℤ◌, IsSome}
use Rattle.std.specs.Int.{div_ceil}
use Rattle.std.proofs.lemmas.Int.{ints}
use Rattle.std.proofs.lemmas.Bool.{cases_lt}
use Rattle.c62_op.specs.Shape.{delay_of}
use Rattle.c62_insn.specs.declared.insn.Insn.{Insn}
use Rattle.c62_insn.specs.Insn.{op_of}
use Rattle.c62_depend.specs.Plan.{IsPlan}
use Rattle.c62_depend.specs.Latency.{latency}
use Rattle.c62_depend.specs.Height.{raised, delay_at, delay_in}
use Rattle.c62_depend.proofs.Latencies.{latency-is}
use Rattle.c62_sheet.specs.declared.entry.Spot.{Spot}
use Rattle.c62_sheet.specs.Lawful.{Spots, IsAt, spot_at}
use Rattle.c62_sheet.specs.Counts.{HasCount}
use Rattle.c62_sheet.proofs.Used.{insn_at}
use Rattle.c62_bound.proofs.Paths.{spot_of, bound_of}
use Rattle.c62_bound.proofs.Seats.{some_width}
use Rattle.c62_bound.proofs.Finding.{find_room, few_wait}
use Rattle.c62_bound.proofs.Needs.{few_rounds, no_seating_shorter}
use Rattle.c62_raised.specs.declared.room.Room.{Room}
use Rattle.c62_raised.specs.declared.room.Room.TheVariants.{Of, Cross}
use Rattle.c62_raised.specs.declared.crowd.Crowd.{Crowd as CrowdOf}
use Rattle.c62_raised.specs.Room.{WaitsIn, width_of}
use Rattle.c62_raised.specs.Chain.{Chain}
use Rattle.c62_raised.specs.Chain.Chain.{single, longer}
use Rattle.c62_raised.specs.Crowd.{IsInCrowd, IsCrowdOf, cycles_of}
use Rattle.c62_raised.specs.Raised.{IsRaisedLength, AreAtOnce, AreRaised, IsReached, with_first}
use Rattle.c62_raised.specs.Laws.{IsSeatedAcross, RaisedBoundHolds}
use Rattle.c62_raised.proofs.Chains.{chain_after, chain_of}

pub some_width_of : (room : Room) → 0 < width_of room
some_width_of (Of kind side) = some_width kind
some_width_of (Cross side) = omega arith

-- how many cycles follow behind cycle c, by one that comes behind
raised_fits : (before : ℤ) (c h d most : ℕ) → c + 1 ≤ most → (pos c +ℤ before) ≤ℤ pos d → d + h + 1 ≤ most
    → c + raised before h + 1 ≤ most
raised_fits (pos l) c h d most own kept ends = omega (arith, ints, own, kept, ends)
raised_fits (negsuc l) c h d most own kept ends = omega (arith, ints, own, kept, ends)

-- and by a crowd, of which the first comes in cycle c and the lead, or later
crowd_fits : (lead : ℤ) (c rounds tail most : ℕ) → c + 1 ≤ most → raised lead c + tail + 1 ≤ most
    → rounds ≤ most - tail - raised lead c
    → c + raised lead (rounds - 1 + tail) + 1 ≤ most
crowd_fits (pos l) c rounds tail most own some fits = omega (arith, own, some, fits)
crowd_fits (negsuc l) c rounds tail most own some fits = omega (arith, own, some, fits)

comes_after : (lead before : ℤ) (c d : ℕ) → lead ≤ℤ before → (pos c +ℤ before) ≤ℤ pos d → raised lead c ≤ d
comes_after (pos l) before c d low kept = omega (arith, ints, low, kept)
comes_after (negsuc l) before c d low kept = omega (arith, ints, low, kept)

pub some_of : {A : Type 0} (o : Option A) → IsSome o → (x : A) × (o ≡ Some x)
some_of None is = cc
some_of (Some x) is = (x, refl)

module _ (block : List Insn) (set : Spots) (most : ℕ) (plan : IsPlan block) (is : IsSeatedAcross block set most) where
  few_in : (room : Room) (Is : ℕ → Type 0) (first cycles : ℕ)
      → ((j : ℕ) (s : Spot) → j < length block → Is j → IsAt set j s → WaitsIn block room j × (first ≤ s.cycle)
      × (s.cycle < first + cycles))
      → (count : ℕ) → HasCount Is (length block) count → count ≤ width_of room * cycles
  few_in (Of kind side) Is first cycles within = few_wait block set most is.seated kind side Is first cycles within
  few_in (Cross side) Is first cycles within =
      find_room set (length block) 1 (λ s. 0) Is first cycles is.seated.complete (λ s. omega arith)
      (λ j s small p at. (let w = within j s small p at in (w.1, w.2)))
      (λ i j s t small less p q is_i is_j same alike. is.each_cross side i j s t small less is_i is_j same
      (within i s small p is_i).0 (within j t less q is_j).0)

  -- a chain keeps its cycles
  follows : (i j : ℕ) (cycles : ℤ) (s t : Spot) → Chain block i j cycles → IsAt set i s → IsAt set j t
      → (pos s.cycle +ℤ cycles) ≤ℤ pos t.cycle
  follows i j cycles s t (single _ _ by) is_i is_j =
      is.seated.delays i j cycles s t (bound_of block i j (latency block i j) cycles (latency-is block i j) by) is_i
      is_j
  follows i j cycles s t (longer k _ sum last before by) is_i is_j =
      let inside = (chain_after block i k sum before).1 in
      let r = spot_of (spot_at set k) (is.seated.complete k inside) in
      let first = follows i k sum s r.0 before is_i r.1 in
      let second = is.seated.delays k j last r.0 t
      (bound_of block k j (latency block k j) last (latency-is block k j) by) r.1 is_j in
      omega (arith, ints, first, second)

  -- numbers that come behind cycle c as far as the leads say, and behind which their heights end
  record ComesBehind (height : ℕ → ℕ) (lead : ℕ → Option ℤ) (c j : ℕ) (before : ℤ) : Type 0 where
    inside : j < length block
    behind : (t : Spot) → IsAt set j t → (pos c +ℤ before) ≤ℤ pos t.cycle
    ends : (t : Spot) → IsAt set j t → t.cycle + height j + 1 ≤ most

  module _ (height : ℕ → ℕ) (lead : ℕ → Option ℤ) (c : ℕ) (come : (j : ℕ) (before : ℤ) → lead j ≡ Some before
      → ComesBehind height lead c j before) (own : c + 1 ≤ most) where
    crowd_ends : (room : Room) (last : ℕ) (crowd : CrowdOf) → IsCrowdOf block height lead room last crowd
        → c + cycles_of crowd + 1 ≤ most
    crowd_ends room last crowd w =
        let first : ℕ = raised crowd.lead c in
        let first_one = w.first in
        let head = come first_one.0 crowd.lead first_one.3 in
        let s = spot_of (spot_at set first_one.0) (is.seated.complete first_one.0 head.inside) in
        let from = comes_after crowd.lead crowd.lead c s.0.cycle (omega (arith, ints)) (head.behind s.0 s.1) in
        let to = head.ends s.0 s.1 in
        let tall = first_one.2.tall in
        let some : first + crowd.tail + 1 ≤ most = omega (arith, from, to, tall) in
        let fits = few_in room (IsInCrowd block height lead room crowd.tail) first (most - crowd.tail - first)
        (λ j t small of at. (let before = some_of (lead j) of.behind in
        let here = come j before.0 before.1 in
        let low = w.least j before.0 small of before.1 in
        let begin = comes_after crowd.lead before.0 c t.cycle low (here.behind t at) in
        let end = here.ends t at in
        let high = of.tall in
        (of.waits, begin, omega (arith, begin, end, high)))) crowd.count w.counted in
        let rounds = few_rounds crowd.count (width_of crowd.room) (most - crowd.tail - first) (some_width_of crowd.room)
        (subst (λ (r : Room). crowd.count ≤ width_of r * (most - crowd.tail - first)) (sym w.is_room) fits) in
        crowd_fits crowd.lead c (div_ceil crowd.count (width_of crowd.room)) crowd.tail most own some rounds

    reached_ends : (delay h : ℕ) → c + delay + 1 ≤ most → IsReached block height lead delay h → c + h + 1 ≤ most
    reached_ends delay h ends reached = elim reached [
      | inl e ↦ omega (arith, ends, e)
      | inr w ↦ elim w [
        | inl one ↦
            (let here = come one.0 one.1 one.2 in
            let t = spot_of (spot_at set one.0) (is.seated.complete one.0 here.inside) in
            let fits = raised_fits one.1 c (height one.0) t.0.cycle most own (here.behind t.0 t.1) (here.ends t.0 t.1)
            in
            omega (arith, fits, one.3))
        | inr many ↦
            (let fits = crowd_ends many.0 many.1 many.2 many.3 in
            omega (arith, fits, many.4))
      ]
    ]

  own_delay : (i : ℕ) (s : Spot) → i < length block → IsAt set i s → s.cycle + delay_at block i + 1 ≤ most
  own_delay i s within at =
      let w = insn_at block i within in
      let ends = is.seated.ends i w.0 s w.1 at in
      let own : delay_at block i ≡ delay_of (op_of w.0) = ap delay_in w.1 in
      omega (arith, ends, own)

  module _ (height : ℕ → ℕ) (heights : AreRaised block height) where
    -- the raised height of each number ends within the length, from the last numbers up
    rises : (steps i : ℕ) (s : Spot) → i < length block → length block ≤ i + steps → IsAt set i s
        → s.cycle + height i + 1 ≤ most
    rises zero i s within few at = absurd (omega (arith, within, few))
    rises (suc steps) i s within few at =
        let w = heights i within in
        let delay = own_delay i s within at in
        reached_ends height w.0 s.cycle
        (λ j before e. (let chain = chain_of block i j (w.0 j) before (w.1 j) e in
        let after = chain_after block i j before chain in
        record {
          inside = after.1;
          behind = λ t is_at. follows i j before s t chain at is_at;
          ends = λ t is_at. rises steps j t after.1 (omega (arith, after.0, few)) is_at;
        })) (omega (arith, delay)) (delay_at block i) (height i) delay w.2.attained

    pub height_ends : (i : ℕ) (s : Spot) → i < length block → IsAt set i s → s.cycle + height i + 1 ≤ most
    height_ends i s within at = rises (length block) i s within (omega arith) at

pub with_first_below : (block : List Insn) (behind most : ℕ) → (0 < length block → behind + 1 ≤ most)
    → with_first block behind ≤ most
with_first_below [] behind most fits = omega arith
with_first_below (insn ∷ block) behind most fits = fits (omega arith)

at_once_some : (o : Option ℤ) (before : ℤ) → o ≡ Some before → o ≡ Some (pos 0) → before ≡ pos 0
at_once_some o before e f = cc

inside : (block : List Insn) (lead : ℕ → Option ℤ) (j : ℕ) (before : ℤ) → AreAtOnce block lead → lead j ≡ Some before
    → j < length block
inside block lead j before at_once e = elim (cases_lt j (length block)) [
  | inl low ↦ low
  | inr high ↦ (let none = at_once.others j high in cc)
]

raised_below : (block : List Insn) (set : Spots) (cycles least : ℕ) → IsPlan block → IsSeatedAcross block set cycles
    → IsRaisedLength block least
    → least ≤ cycles
raised_below block set cycles least plan is raised =
    let fits = with_first_below block raised.behind cycles
    (λ some. (let s = spot_of (spot_at set 0) (is.seated.complete 0 some) in
    let first = own_delay block set cycles plan is 0 s.0 some s.1 in
    let ends = reached_ends block set cycles plan is raised.height raised.lead 0 (λ j before e. come j before e)
    (omega (arith, first)) 0 raised.behind
    (omega (arith, first)) raised.is.attained in
    omega (arith, ends))) in
    let whole = raised.whole in
    omega (arith, fits, whole)
  where
    come : (j : ℕ) (before : ℤ) → raised.lead j ≡ Some before
        → ComesBehind block set cycles plan is raised.height raised.lead 0 j before
    come j before e =
        let low = inside block raised.lead j before raised.at_once e in
        let now : before ≡ pos 0 = at_once_some (raised.lead j) before e (raised.at_once.each j low) in
        record {
          inside = low;
          behind = λ t at. omega (arith, ints, now);
          ends = λ t at. height_ends block set cycles plan is raised.height raised.heights j t low at;
        }

pub raised_bound_holds : (block : List Insn) → RaisedBoundHolds block
raised_bound_holds block set cycles plan is = record {
  needs = no_seating_shorter block set cycles plan is.seated;
  raised = λ least raised. raised_below block set cycles least plan is raised;
}
