-- The cycles of a flight, summed up.
use Rattle.std.proofs.Common.{◌≡◌, ℕ, zero, suc, ◌+◌, ◌-◌, ◌<◌, ◌≤◌, Bool, true, false, cond, eqb, List, [], ◌∷◌}
use Rattle.std.proofs.Common.{length, take, drop, Option, Some, None, refl, ◌∙◌, sym, ap, subst, ◌⊎◌, ⊎_elim, inl, inr}
use Rattle.std.proofs.Common.{arith}
use Rattle.std.specs.Prelude.{min, sum_by}
use Rattle.std.specs.List.{range_with_len}
use Rattle.std.proofs.lemmas.Bool.{cases_lt, eqb-true, cond-true, cond-false}
use Rattle.std.proofs.lemmas.Bool.Decides.{nat_tests}
use Rattle.std.proofs.Math.Seq.{take-add}
use Rattle.std.proofs.lemmas.List.Sums.{sum_by-append, sum_by-cons, sum_by-take-drop}
use Rattle.std.proofs.lemmas.Option.{none-some}
use Rattle.c62_read.specs.Program.{Name}
use Rattle.c62_serial.specs.State.{Machine}
use Rattle.c62_flight.specs.declared.stop.Stop.{Stop}
use Rattle.c62_flight.specs.Text.{Text, Position, At, row_of}
use Rattle.c62_flight.specs.Issued.{Visit, Issued, issued_on, over_of}
use Rattle.c62_flight.specs.Broken.{broken}
use Rattle.c62_flight.specs.Flight.{Leads, Stops, stands_after}
use Rattle.c62_flight.proofs.Fronts.{over_later}
use Rattle.c62_rows.specs.Laws.{RiseTo}
use Rattle.c62_exec.specs.declared.tally.Count.{Count}
use Rattle.c62_exec.specs.Counts.{CountsFlight, count_at, cycles_in, next_start, place_of}
use Rattle.c62_profile.specs.Flights.{FlightAddsUp, Block, blocks_from, counts_in, cycles_of, cycles_told, rows_in}
use Rattle.c62_profile.proofs.Sums.{both_sums, no_sum, same_sum}

-- ---- blocks

-- the counts up to a place, and so many behind it
up_to : (counts : List Count) (place more : ℕ)
    → cycles_of (take place counts) + cycles_of (take more (drop place counts)) ≡ cycles_of
    (take (place + more) counts)
up_to counts place more =
    sym (ap cycles_of (take-add place more counts)
    ∙ sum_by-append (λ (c : Count). c.cycles) (take place counts) (take more (drop place counts)))

between : (counts : List Count) (first behind : ℕ) → first ≤ behind
    → cycles_of (take first counts) + cycles_of (take (behind - first) (drop first counts)) ≡ cycles_of
    (take behind counts)
between counts first behind less =
    up_to counts first (behind - first)
    ∙ ap (λ n. cycles_of (take n counts)) (let e : first + (behind - first) ≡ behind = omega arith in e)

least : (rows first : ℕ) (labels : List (Name × ℕ)) → RiseTo rows first labels → first ≤ rows
least rows first [] rise = rise
least rows first (label ∷ labels) rise = let rest : label.1 ≤ rows = least rows label.1 labels rise.1 in omega
    (arith, rise.0)

abbrev block_cycles : List Count → Block → ℕ
block_cycles counts block = cycles_of (counts_in counts block)

blocks_sum : (rows : ℕ) (counts : List Count) (label : Option Name) (first : ℕ) (labels : List (Name × ℕ))
    → RiseTo rows first labels
    → cycles_of (take first counts) + sum_by (block_cycles counts) (blocks_from rows label first labels) ≡ cycles_of
    (take rows counts)
blocks_sum rows counts label first [] rise =
    ap (λ n. cycles_of (take first counts) + n)
    (sum_by-cons (block_cycles counts) (record { label = label; first = first; behind = rows }) [])
    ∙ (let e : cycles_of (take first counts) + (cycles_of (take (rows - first) (drop first counts)) + 0)
    ≡ cycles_of (take first counts) + cycles_of (take (rows - first) (drop first counts)) = omega arith in e)
    ∙ between counts first rows rise
blocks_sum rows counts label first (next ∷ labels) rise =
    let here : cycles_of (take first counts) + cycles_of (take (next.1 - first) (drop first counts)) ≡ cycles_of
    (take next.1 counts) = between counts first next.1 rise.0 in
    let rest : cycles_of (take next.1 counts) + sum_by (block_cycles counts)
    (blocks_from rows (Some next.0) next.1 labels) ≡ cycles_of (take rows counts) =
    blocks_sum rows counts (Some next.0) next.1 labels rise.1 in
    ap (λ n. cycles_of (take first counts) + n)
    (sum_by-cons (block_cycles counts) (record { label = label; first = first; behind = next.1 })
    (blocks_from rows (Some next.0) next.1 labels))
    ∙ omega (arith, here, rest)

told_sum : (counts : List Count) (labels : List (Name × ℕ)) → RiseTo (rows_in counts) 0 labels
    → cycles_told labels counts ≡ cycles_of counts
told_sum counts labels rise =
    let blocks : 0 + sum_by (block_cycles counts) (blocks_from (rows_in counts) None 0 labels) ≡ cycles_of
    (take (rows_in counts) counts) =
    blocks_sum (rows_in counts) counts None 0 labels rise in
    let all : cycles_of (take (rows_in counts) counts) + cycles_of (drop (rows_in counts) counts) ≡ cycles_of counts =
    sum_by-take-drop (λ (c : Count). c.cycles) counts (rows_in counts) in
    omega arith

-- ---- places

places_sum : (counts : List Count) (a : ℕ)
    → sum_by (λ k. (count_at counts (k - a)).cycles) (range_with_len a (length counts)) ≡ cycles_of counts
places_sum [] a = refl
places_sum (count ∷ counts) a =
    let rest : sum_by (λ k. (count_at counts (k - (a + 1))).cycles) (range_with_len (a + 1) (length counts)) ≡ cycles_of
    counts = places_sum counts (a + 1) in
    let here : (count_at (count ∷ counts) (a - a)).cycles ≡ count.cycles =
    ap (λ k. (count_at (count ∷ counts) k).cycles) (let e : a - a ≡ 0 = omega arith in e) in
    let later : sum_by (λ k. (count_at (count ∷ counts) (k - a)).cycles) (range_with_len (a + 1) (length counts))
    ≡ sum_by (λ k. (count_at counts (k - (a + 1))).cycles) (range_with_len (a + 1) (length counts)) =
    same_sum (λ k. (count_at (count ∷ counts) (k - a)).cycles) (λ k. (count_at counts (k - (a + 1))).cycles) (a + 1)
    (length counts)
    (λ k above below. ap (λ n. (count_at (count ∷ counts) n).cycles)
    (let e : k - a ≡ suc (k - (a + 1)) = omega arith in e)) in
    sum_by-cons (λ k. (count_at (count ∷ counts) (k - a)).cycles) a (range_with_len (a + 1) (length counts))
    ∙ omega (arith, here, later, rest)
    ∙ sym (sum_by-cons (λ (c : Count). c.cycles) count counts)

one_place : (more place a n : ℕ) → a ≤ place → place < a + n
    → sum_by (λ k. cond (eqb place k) more 0) (range_with_len a n) ≡ more
one_place more place a zero above below = absurd (omega arith)
one_place more place a (suc n) above below = go (eqb place a) refl
    (λ further. one_place more place (a + 1) n further (omega arith))
  where
    go : (b : Bool) → eqb place a ≡ b
        → (a + 1 ≤ place → sum_by (λ k. cond (eqb place k) more 0) (range_with_len (a + 1) n) ≡ more)
        → sum_by (λ k. cond (eqb place k) more 0) (range_with_len a (suc n)) ≡ more
    go true e further =
        let same : place ≡ a = eqb-true place a e in
        let here : cond (eqb place a) more 0 ≡ more = cond-true _ _ _ e in
        let none : sum_by (λ k. cond (eqb place k) more 0) (range_with_len (a + 1) n) ≡ 0 =
        same_sum (λ k. cond (eqb place k) more 0) (λ k. 0) (a + 1) n
        (λ k high low. grind (arith, nat_tests, same, high)) ∙ no_sum (range_with_len (a + 1) n) in
        sum_by-cons (λ k. cond (eqb place k) more 0) a (range_with_len (a + 1) n) ∙ omega (arith, here, none)
    go false e further =
        let here : cond (eqb place a) more 0 ≡ 0 = cond-false _ _ _ e in
        let rest : sum_by (λ k. cond (eqb place k) more 0) (range_with_len (a + 1) n) ≡ more = further
        (grind (arith, nat_tests, e, above)) in
        sum_by-cons (λ k. cond (eqb place k) more 0) a (range_with_len (a + 1) n) ∙ omega (arith, here, rest)

-- what the visits of a path take together
abbrev all_cycles : List Visit → ℕ → ℕ
all_cycles [] end = 0
all_cycles (visit ∷ path) end = (next_start path end - visit.start) + all_cycles path end

path_sum : (rows : ℕ) (path : List Visit) (end : ℕ)
    → sum_by (λ place. cycles_in rows place path end) (range_with_len 0 (rows + 1)) ≡ all_cycles path end
path_sum rows [] end = no_sum (range_with_len 0 (rows + 1))
path_sum rows (visit ∷ path) end =
    let one : sum_by (λ k. cond (eqb (place_of rows visit) k) (next_start path end - visit.start) 0)
    (range_with_len 0 (rows + 1)) ≡ next_start path end - visit.start =
    one_place (next_start path end - visit.start) (place_of rows visit) 0 (rows + 1) (omega arith) (omega arith) in
    let rest : sum_by (λ k. cycles_in rows k path end) (range_with_len 0 (rows + 1)) ≡ all_cycles path end = path_sum
    rows path end in
    both_sums (λ k. cond (eqb (place_of rows visit) k) (next_start path end - visit.start) 0)
    (λ k. cycles_in rows k path end) (range_with_len 0 (rows + 1))
    ∙ omega (arith, one, rest)

-- ---- a flight

module _ (text : Text) (limit : ℕ) (issued : Issued) where
  -- none of these is begun behind a cycle
  abbrev AreBy : List Visit → ℕ → Type 0
  AreBy [] cycles = Unit {0}
  AreBy (visit ∷ path) cycles = (visit.start ≤ cycles) × AreBy path cycles

  in_sum : (visit : Visit) (path : List Visit) (position last : Position) (cycle end cycles : ℕ)
      → Leads text limit issued position cycle (visit ∷ path) last end
      → AreBy (visit ∷ path) cycles → visit.start + all_cycles (visit ∷ path) cycles ≡ cycles
  in_sum visit [] position last cycle end cycles leads by = omega (arith, by.0)
  in_sum visit (next ∷ path) position last cycle end cycles leads by =
      let rest : next.start + all_cycles (next ∷ path) cycles ≡ cycles =
      in_sum next path (stands_after text issued visit) last (over_of text issued visit) end cycles leads.1 by.1 in
      let when : over_of text issued visit ≡ next.start = leads.1.0.when in
      let later : visit.start < over_of text issued visit = over_later issued visit.start (row_of text visit.row).idle
      in
      omega arith

  ends_later : (path : List Visit) (position last : Position) (cycle end : ℕ)
      → Leads text limit issued position cycle path last end → cycle ≤ end
  ends_later [] position last cycle end leads = let e : end ≡ cycle = leads.1 in omega arith
  ends_later (visit ∷ path) position last cycle end leads =
      let rest : over_of text issued visit ≤ end = ends_later path (stands_after text issued visit) last
      (over_of text issued visit) end leads.1 in
      let when : cycle ≡ visit.start = leads.0.when in
      let later : visit.start < over_of text issued visit = over_later issued visit.start (row_of text visit.row).idle
      in
      omega arith

  by_end : (path : List Visit) (position last : Position) (cycle end : ℕ)
      → Leads text limit issued position cycle path last end → AreBy path end
  by_end [] position last cycle end leads = tt
  by_end (visit ∷ path) position last cycle end leads =
      let all : cycle ≤ end = ends_later (visit ∷ path) position last cycle end leads in
      let when : cycle ≡ visit.start = leads.0.when in
      (omega arith, by_end path (stands_after text issued visit) last (over_of text issued visit) end leads.1)

  by_breach : (path : List Visit) (position last : Position) (cycle end at : ℕ) (stop : Stop)
      → broken issued at ≡ Some stop
      → Leads text limit issued position cycle path last end → AreBy path (at + 1)
  by_breach [] position last cycle end at stop breaks leads = tt
  by_breach (visit ∷ path) position last cycle end at stop breaks leads =
      let when : cycle ≡ visit.start = leads.0.when in (
        ⊎_elim {C = visit.start ≤ at + 1}
            (λ (early : at < cycle). absurd (none-some stop (sym (leads.0.whole at early) ∙ breaks)))
            (λ late. omega arith) (cases_lt at cycle),
        by_breach path (stands_after text issued visit) last (over_of text issued visit) end at stop breaks leads.1,
      )

  by_least : (path : List Visit) (one other : ℕ) → AreBy path one → AreBy path other → AreBy path (min one other)
  by_least [] one other a b = tt
  by_least (visit ∷ path) one other a b = (omega (arith, a.0, b.0), by_least path one other a.1 b.1)

  all_by : (path : List Visit) (position last : Position) (cycle end : ℕ) (stop : Stop) (cycles : ℕ)
      → Leads text limit issued position cycle path last end
      → Stops text limit issued last end stop cycles → AreBy path cycles
  all_by path position last cycle end stop cycles leads (inl breaks) =
      subst (AreBy path) (sym breaks.told)
      (by_least path (breaks.cycle + 1) end
      (by_breach path position last cycle end breaks.cycle stop breaks.breaks leads)
      (by_end path position last cycle end leads))
  all_by path position last cycle end stop cycles leads (inr ends) = subst (AreBy path) (sym ends.told)
      (by_end path position last cycle end leads)

-- where nothing was issued no cycle passes
no_cycles : (text : Text) (limit first : ℕ) (issued : Issued) (last : Position) (end : ℕ) (stop : Stop) (cycles : ℕ)
    → issued.placed ≡ []
    → Leads text limit issued (At first) 0 [] last end → Stops text limit issued last end stop cycles → cycles ≡ 0
no_cycles text limit first issued last end stop cycles none leads (inl breaks) =
    absurd (none-some stop (sym (nothing issued none) ∙ breaks.breaks))
  where
    nothing : (issued : Issued) → issued.placed ≡ [] → broken issued breaks.cycle ≡ None
    nothing issued none = ap (λ placed. broken (record { placed = placed; did = issued.did }) breaks.cycle) none
no_cycles text limit first issued last end stop cycles none leads (inr ends) = ends.told ∙ leads.1

flight_sum : (text : Text) (first limit : ℕ) (issued : Issued) (path : List Visit) (last : Position) (end : ℕ)
    (stop : Stop) (cycles : ℕ) → (path ≡ [] → issued.placed ≡ [])
    → Leads text limit issued (At first) 0 path last end → Stops text limit issued last end stop cycles
    → all_cycles path cycles ≡ cycles
flight_sum text first limit issued [] last end stop cycles none leads stops = sym
    (no_cycles text limit first issued last end stop cycles (none refl) leads stops)
flight_sum text first limit issued (visit ∷ path) last end stop cycles none leads stops =
    let all : visit.start + all_cycles (visit ∷ path) cycles ≡ cycles =
    in_sum text limit issued visit path (At first) last 0 end cycles leads
    (all_by text limit issued (visit ∷ path) (At first) last 0 end stop cycles leads stops) in
    let when : 0 ≡ visit.start = leads.0.when in
    omega arith

-- the counts of a flight add up to its cycles
pub counts_sum : (text : Text) (first limit : ℕ) (opening : Machine) (stop : Stop) (cycles : ℕ) (final : Machine)
    (counts : List Count)
    → CountsFlight text first limit opening stop cycles final counts → cycles_of counts ≡ cycles
counts_sum text first limit opening stop cycles final counts is =
    let path : List Visit = is.flies.path in
    let rows : ℕ = length text.rows in
    sym (places_sum counts 0)
    ∙ same_sum (λ k. (count_at counts (k - 0)).cycles) (λ k. cycles_in (length text.rows) k is.flies.path cycles) 0
    (length counts)
    (λ k above below. ap (λ n. (count_at counts n).cycles) (let e : k - 0 ≡ k = omega arith in e)
    ∙ is.are.cycles k (omega arith))
    ∙ ap (λ n. sum_by (λ k. cycles_in (length text.rows) k is.flies.path cycles) (range_with_len 0 n)) is.each
    ∙ path_sum (length text.rows) is.flies.path cycles
    ∙ flight_sum text first limit (record { placed = issued_on text is.flies.path; did = is.flies.did }) is.flies.path
    is.flies.last is.flies.end stop cycles
    (λ none. ap (issued_on text) none) is.flies.leads is.flies.stops

pub flight_adds_up : (text : Text) (first limit : ℕ) (opening : Machine) (stop : Stop) (cycles : ℕ) (final : Machine)
    (counts : List Count)
    → FlightAddsUp text first limit opening stop cycles final counts
flight_adds_up text first limit opening stop cycles final counts is labels rise =
    told_sum counts labels
    (subst (λ n. RiseTo n 0 labels) (let each : length counts ≡ length text.rows + 1 = is.each in omega arith)
    rise)
    ∙ counts_sum text first limit opening stop cycles final counts is
