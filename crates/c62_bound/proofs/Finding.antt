-- No more instructions are issued in some cycles than find room there.
use Rattle.std.proofs.Common.{arith, ◌≡◌, ◌≢◌, ℕ, zero, suc, ◌+◌, ◌-◌, ◌*◌, ◌<◌, ◌≤◌, ◌/◌, List, [], ◌∷◌, length, refl}
use Rattle.std.proofs.Common.{sym, ap, ◌∙◌, inl, inr, true, false, eqb}
use Rattle.std.specs.List.{list_any, AllByRecursion, IsDistinct}
use Rattle.std.specs.Prelude.{IsSome}
use Rattle.std.proofs.lemmas.Bool.{cases_eq}
use Rattle.std.proofs.lemmas.Bool.Decides.{nat_tests}
use Rattle.std.proofs.lemmas.Nat.{mul-add-lt, div-mul-add}
use Rattle.std.proofs.lemmas.Map.Steps.{length-le_from_distinct_below}
use Rattle.c62_op.specs.declared.register.Side.{Side}
use Rattle.c62_op.proofs.UnitOrder.{same_index}
use Rattle.c62_insn.specs.declared.insn.Insn.{Insn}
use Rattle.c62_sheet.specs.declared.entry.Spot.{Spot}
use Rattle.c62_sheet.specs.Lawful.{Spots, IsAt, spot_at}
use Rattle.c62_sheet.specs.Counts.{HasCount}
use Rattle.c62_bound.specs.declared.need.Kind.{Kind}
use Rattle.c62_bound.specs.declared.need.Kind.TheVariants.{L as OnL, S as OnS, M as OnM, D as OnD, Ls, Lsd, Path}
use Rattle.c62_bound.specs.Bound.{width, StandsOnlyOn, WaitsFor}
use Rattle.c62_bound.specs.Laws.{IsSeated}
use Rattle.c62_bound.proofs.Paths.{spot_of}
use Rattle.c62_bound.proofs.Seats.{rank, rank_low, same_rank}

-- what holds of each number of a list holds of those that are found in it
found_in : (P : ℕ → Type 0) (q : ℕ) (xs : List ℕ) → AllByRecursion P xs → list_any (eqb q) xs ≡ true → P q
found_in P q [] all has = cc
found_in P q (x ∷ xs) all has = elim (cases_eq q x) [
  | inl e ↦ rw e all.0
  | inr ne ↦ (let apart : eqb q x ≡ false = grind (arith, ne, nat_tests) in found_in P q xs all.1 (rw apart at has))
]

weaker : (P Q : ℕ → Type 0) → ((q : ℕ) → P q → Q q) → (xs : List ℕ) → AllByRecursion P xs → AllByRecursion Q xs
weaker P Q step [] all = tt
weaker P Q step (x ∷ xs) all = (step x all.0, weaker P Q step xs all.1)

-- numbers of a set, each issued in one of these cycles
abbrev pub AreIssuedIn : Spots → ℕ → (ℕ → Type 0) → ℕ → ℕ → Type 0
AreIssuedIn set n Is first cycles = (j : ℕ) (s : Spot) → j < n → Is j → IsAt set j s → (first ≤ s.cycle)
    × (s.cycle < first + cycles)

-- two of them in one cycle have two ranks
abbrev pub HaveRanks : Spots → ℕ → (ℕ → Type 0) → (Spot → ℕ) → Type 0
HaveRanks set n Is rank =
    (i j : ℕ) (s t : Spot) → i < n → j < n → Is i → Is j → IsAt set i s → IsAt set j t → s.cycle ≡ t.cycle
    → rank s ≡ rank t → i ≡ j

module _ (set : Spots) (size by : ℕ) (rank : Spot → ℕ) (Is : ℕ → Type 0) (first cycles : ℕ) (placed : (j : ℕ) → j < size
    → IsSome (spot_at set j))
    (low : (s : Spot) → rank s < by) (within : AreIssuedIn set size Is first cycles)
    (ranks : HaveRanks set size Is rank) where
  -- the seat of a spot, counted from the first of these cycles
  abbrev seat_of : Spot → ℕ
  seat_of s = (s.cycle - first) * by + rank s

  -- a number below n has this seat
  record HasSeat (n q : ℕ) : Type 0 where
    number : ℕ
    below : number < n
    inside : number < size
    is : Is number
    spot : Spot
    at : IsAt set number spot
    here : q ≡ seat_of spot

  higher : (n q : ℕ) → HasSeat n q → HasSeat (suc n) q
  higher n q w = record {
    number = w.number;
    below = (let below = w.below in omega (arith, below));
    inside = w.inside;
    is = w.is;
    spot = w.spot;
    at = w.at;
    here = w.here;
  }

  apart : (i j : ℕ) (s t : Spot) → i < size → j < size → IsAt set i s → IsAt set j t → Is i → Is j → i ≢ j
      → eqb (seat_of s) (seat_of t) ≡ false
  apart i j s t small less is_i is_j p q ne = elim (cases_eq (seat_of s) (seat_of t)) [
    | inl e ↦
        (let here = within i s small p is_i in
        let there = within j t less q is_j in
        let shifted : s.cycle - first ≡ t.cycle - first =
        sym (div-mul-add (s.cycle - first) by (rank s) (low s)) ∙ ap (λ (k : ℕ). k / by) e
        ∙ div-mul-add (t.cycle - first) by (rank t) (low t) in
        let from = here.0 in
        let also = there.0 in
        let same : s.cycle ≡ t.cycle = omega (arith, shifted, from, also) in
        let starts : (s.cycle - first) * by ≡ (t.cycle - first) * by = ap (λ (k : ℕ). k * by) shifted in
        let alike : rank s ≡ rank t = omega (arith, e, starts) in
        absurd (ne (ranks i j s t small less p q is_i is_j same alike)))
    | inr differs ↦ grind (arith, differs, nat_tests)
  ]

  -- the seats of those numbers below n
  record HasSeats (n count : ℕ) : Type 0 where
    seats : List ℕ
    long : length seats ≡ count
    distinct : IsDistinct eqb seats
    each : AllByRecursion (HasSeat n) seats

  seats_of : (n count : ℕ) → n ≤ size → HasCount Is n count → HasSeats n count
  unfolding IsDistinct
  seats_of zero count few has = record { seats = []; long = sym has; distinct = tt; each = tt }
  seats_of (suc n) count few has = elim has [
    | inl w ↦
        (let rest = seats_of n w.1.0 (omega (arith, few)) w.1.2 in
        let inside : n < size = omega (arith, few) in
        let s = spot_of (spot_at set n) (placed n inside) in
        let here : ℕ = seat_of s.0 in
        let own : HasSeat (suc n) here = record
        { number = n; below = omega arith; inside = inside; is = w.0; spot = s.0; at = s.1; here = refl } in
        record {
          seats = here ∷ rest.seats;
          long = (let long = rest.long in let one = w.1.1 in omega (arith, long, one));
          distinct = (
            weaker (HasSeat n) (λ q. eqb here q ≡ false)
                (λ q v. (let below = v.below in
                let differs = apart n v.number s.0 v.spot inside v.inside s.1 v.at w.0 v.is
                (λ e. omega (arith, e, below)) in
                rw v.here differs)) rest.seats rest.each,
            rest.distinct,
          );
          each = (own, weaker (HasSeat n) (HasSeat (suc n)) (higher n) rest.seats rest.each);
        })
    | inr w ↦
        (let rest = seats_of n count (omega (arith, few)) w.1 in
        record {
          seats = rest.seats;
          long = rest.long;
          distinct = rest.distinct;
          each = weaker (HasSeat n)
              (HasSeat (suc n)) (higher n) rest.seats rest.each;
        })
  ]

  -- they are no more than find room in these cycles
  pub find_room : (count : ℕ) → HasCount Is size count → count ≤ by * cycles
  find_room count has =
      let all = seats_of size count (omega arith) has in
      let below = length-le_from_distinct_below all.seats (by * cycles) all.distinct
      (λ q h. (let v = found_in (HasSeat size) q all.seats all.each h in
      let inside = within v.number v.spot v.inside v.is v.at in
      let from = inside.0 in
      let to = inside.1 in
      rw v.here (mul-add-lt (v.spot.cycle - first) by (rank v.spot) cycles (omega (arith, from, to)) (low v.spot)))) in
      let long = all.long in
      omega (arith, below, long)

-- ---- of a seating

module _ (block : List Insn) (set : Spots) (most : ℕ) (seated : IsSeated block set most) where
  -- two numbers of one place are one, on units
  one_on_units : (kind : Kind) (side : Side) (i j : ℕ) (s t : Spot) → i < length block → j < length block → IsAt set i s
      → IsAt set j t
      → StandsOnlyOn block kind side i → StandsOnlyOn block kind side j → s.cycle ≡ t.cycle
      → rank kind s.unit.letter ≡ rank kind t.unit.letter
      → i ≡ j
  one_on_units kind side i j s t low small is_i is_j only_i only_j cycles ranks =
      let here = only_i s.unit (seated.units i s is_i) in
      let there = only_j t.unit (seated.units j t is_j) in
      let letters = same_rank kind s.unit.letter t.unit.letter here.1 there.1 ranks in
      let sides : s.unit.side ≡ t.unit.side = here.0 ∙ sym there.0 in
      let units : s.unit ≡ t.unit = same_index s.unit t.unit (rw (letters, sides) refl) in
      seated.each_unit i j s t low small is_i is_j cycles units

  one : (kind : Kind) (side : Side) (i j : ℕ) (s t : Spot) → i < length block → j < length block → IsAt set i s
      → IsAt set j t
      → WaitsFor block kind side i → WaitsFor block kind side j → s.cycle ≡ t.cycle
      → rank kind s.unit.letter ≡ rank kind t.unit.letter → i ≡ j
  one OnL side i j s t low small is_i is_j p q c e = one_on_units OnL side i j s t low small is_i is_j p q c e
  one OnS side i j s t low small is_i is_j p q c e = one_on_units OnS side i j s t low small is_i is_j p q c e
  one OnM side i j s t low small is_i is_j p q c e = one_on_units OnM side i j s t low small is_i is_j p q c e
  one OnD side i j s t low small is_i is_j p q c e = one_on_units OnD side i j s t low small is_i is_j p q c e
  one Ls side i j s t low small is_i is_j p q c e = one_on_units Ls side i j s t low small is_i is_j p q c e
  one Lsd side i j s t low small is_i is_j p q c e = one_on_units Lsd side i j s t low small is_i is_j p q c e
  one Path side i j s t low small is_i is_j p q c e = seated.each_path side i j s t low small is_i is_j c p q

  -- numbers that wait for the room, each issued in one of these cycles
  abbrev pub AreIssuedWithin : Kind → Side → (ℕ → Type 0) → ℕ → ℕ → Type 0
  AreIssuedWithin kind side Is first cycles = (j : ℕ) (s : Spot) → j < length block → Is j → IsAt set j s
      → WaitsFor block kind side j × (first ≤ s.cycle) × (s.cycle < first + cycles)

  pub few_wait : (kind : Kind) (side : Side) (Is : ℕ → Type 0) (first cycles : ℕ)
      → AreIssuedWithin kind side Is first cycles
      → (count : ℕ) → HasCount Is (length block) count → count ≤ width kind * cycles
  few_wait kind side Is first cycles within =
      find_room set (length block) (width kind) (λ s. rank kind s.unit.letter) Is first cycles seated.complete
      (λ s. rank_low kind s.unit.letter)
      (λ j s small is at. (let w = within j s small is at in (w.1, w.2)))
      (λ i j s t small less p q is_i is_j cycle alike. one kind side i j s t small less is_i is_j
      (within i s small p is_i).0 (within j t less q is_j).0 cycle alike)
