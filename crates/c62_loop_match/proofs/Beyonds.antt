-- Instances of iterations past the last, as the code has them and as they are meant.
use Rattle.std.proofs.Common.{◌≡◌, ℕ, zero, suc, ◌+◌, ◌<◌, ◌≤◌, List, [], ◌∷◌, ◌++◌, length, map, get_or}
use Rattle.std.proofs.Common.{Option, Some, None}
use Rattle.std.proofs.Common.{refl, sym, ◌∙◌, ap, subst, inl, inr, ⊎_elim, arith}
use Rattle.std.specs.Prelude.{slice_get, option_map, Contains}
use Rattle.std.proofs.lemmas.Bool.{cases_lt}
use Rattle.std.proofs.lemmas.List.{append_assoc, map-append}
use Rattle.std.proofs.lemmas.Option.{slice_get-map, slice_get-get_or, slice_get_within, get_or_from_slice_get}
use Rattle.c62_read.specs.declared.block.SerialInsn.{SerialInsn}
use Rattle.c62_packet.specs.declared.placed.Placed.{Placed}
use Rattle.c62_meaning.specs.Cut.{moved}
use Rattle.c62_meaning.proofs.Lookup.{In, In_from_Contains, Contains_from_In}
use Rattle.c62_meaning.proofs.Instances.{in_map, no_placed}
use Rattle.c62_loop.specs.Stage.{Stage, Schedule, cycles_in, instance_of, round_of, rounds_from, placed_of}
use Rattle.c62_loop.specs.Collapsed.{Beyond, held_in, past_placed, all_placed, IsHeld, AreHeldOf, AreAllBeyond}
use Rattle.c62_loop.proofs.Lists.{at_place, place_of, from_mapped, in_mapped}
use Rattle.c62_loop.proofs.Machines.{In-All}
use Rattle.c62_loop_match.specs.declared.beyond.Beyond.{Beyond as BeyondRead}
use Rattle.c62_loop_match.specs.declared.parts.Stage.{Stage as StageRead}
use Rattle.c62_loop_match.specs.declared.parts.Schedule.{Schedule as ScheduleRead}
use Rattle.c62_loop_match.specs.declared.path.Instance.{Instance}
use Rattle.c62_loop_match.specs.Beyond.{held_of, instance_in, begun_in, IsBegun, AreBegun, HoldsNumbers, IsHeldAt}
use Rattle.c62_loop_match.specs.Beyond.{AreHeld}
use Rattle.c62_loop_match.specs.Collapse.{past_instances, all_instances}
use Rattle.c62_loop_match.specs.Parts.{stage_of, schedule_of}
use Rattle.c62_loop_match.specs.Path.{instance}

-- ---- one number more

pub no_numbers : (beyond : List BeyondRead) (place from : ℕ) → HoldsNumbers beyond place from from
no_numbers beyond place from one there low high = absurd (omega arith)

pub one_number_more : (beyond : List BeyondRead) (place from n : ℕ)
    → Contains beyond (record { place = place; number = n }) → HoldsNumbers beyond place from n
    → HoldsNumbers beyond place from (n + 1)
one_number_more beyond place from n new old one there low high =
    ⊎_elim {C = Contains beyond one} (λ (l : one.number < n). old one there low l)
    (λ (l : n ≤ one.number). (let s : n ≡ one.number = omega arith in
    subst (λ k. Contains beyond (record { place = k; number = one.number })) (sym there)
    (subst (λ k. Contains beyond (record { place = place; number = k })) s new)))
    (cases_lt one.number n)

pub place_more : {X Y : Type 0} (P : ℕ → X → Y → Type 0) (xs : List X) (ys : List Y) (n : ℕ) (x : X) (y : Y)
    → x ≡ get_or xs n x → y ≡ get_or ys n y → P n x y
    → ((k : ℕ) (a : X) (b : Y) → k < n → slice_get xs k ≡ Some a → slice_get ys k ≡ Some b → P k a b)
    → (k : ℕ) (a : X) (b : Y) → k < n + 1 → slice_get xs k ≡ Some a → slice_get ys k ≡ Some b → P k a b
place_more P xs ys n x y is_x is_y new old k a b l at_x at_y =
    ⊎_elim {C = P k a b} (λ (h : k < n). old k a b h at_x at_y)
    (λ (h : n ≤ k). (let s : n ≡ k = omega arith in
    let e : x ≡ a = is_x ∙ ap (λ m. get_or xs m x) s ∙ get_or_from_slice_get xs k a x at_x in
    let f : y ≡ b = is_y ∙ ap (λ m. get_or ys m y) s ∙ get_or_from_slice_get ys k b y at_y in
    subst (λ m. P m a b) s (subst (λ z. P n z b) e (subst (λ z. P n x z) f new))))
    (cases_lt k n)

-- ---- what they are

-- an instruction stands at its place, of which its iteration is held
record Begun (stages : List StageRead) (one : BeyondRead) : Type 0 where
  pub stage : StageRead
  pub stage_is : slice_get stages one.place ≡ Some stage
  pub held : one.number < held_of stage

as_begun : (stages : List StageRead) (one : BeyondRead) → IsBegun stages one → Begun stages one
as_begun stages one h = by (slice_get stages one.place) refl h
  where
    by : (o : Option StageRead) → slice_get stages one.place ≡ o → begun_in one.number o → Begun stages one
    by None at k = absurd k
    by (Some stage) at k = record { stage = stage; stage_is = at; held = k }

abbrev none : Stage
none = record { early = []; kernel = no_placed; late = [] }

module _ (work : List SerialInsn) (stages : List StageRead) (other : SerialInsn) where
  abbrev pub beyond_of : BeyondRead → Beyond
  beyond_of one = record {
    entry = get_or work one.place other;
    stage = get_or (map stage_of stages) one.place none;
    number = one.number;
  }

  stage_there : (one : BeyondRead) (b : Begun stages one)
      → slice_get (map stage_of stages) one.place ≡ Some (stage_of b.stage)
  stage_there one b = slice_get-map stage_of stages one.place ∙ ap (λ o. option_map stage_of o) b.stage_is

  stage_is : (one : BeyondRead) (b : Begun stages one)
      → get_or (map stage_of stages) one.place none ≡ stage_of b.stage
  stage_is one b = get_or_from_slice_get (map stage_of stages) one.place (stage_of b.stage) none (stage_there one b)

  -- ---- instances

  past_same : (interval passes : ℕ) (beyond : List BeyondRead) → ((one : BeyondRead) → In one beyond → Begun stages one)
      → map (λ (one : BeyondRead). instance_in interval passes one.number (slice_get stages one.place)) beyond
      ≡ map instance (past_placed interval (map beyond_of beyond) passes)
  past_same interval passes [] begun = refl
  past_same interval passes (one ∷ beyond) begun =
      let b : Begun stages one = begun one (inl refl) in
      let head : instance_in interval passes one.number (slice_get stages one.place) ≡ instance
      (instance_of interval passes (passes + one.number) (get_or (map stage_of stages) one.place none))
      = ap (λ o. instance_in interval passes one.number o) b.stage_is
      ∙ ap (λ s. instance (instance_of interval passes (passes + one.number) s)) (sym (stage_is one b)) in
      let rest : map (λ (x : BeyondRead). instance_in interval passes x.number (slice_get stages x.place)) beyond
      ≡ map instance (past_placed interval (map beyond_of beyond) passes)
      = past_same interval passes beyond (λ x h. begun x (inr h)) in
      ap (λ x. x ∷ map (λ (y : BeyondRead). instance_in interval passes y.number (slice_get stages y.place)) beyond)
      head
      ∙ ap (λ xs. instance
      (instance_of interval passes (passes + one.number) (get_or (map stage_of stages) one.place none)) ∷ xs) rest

  -- ---- each, and all

  module _ (most deep : ℕ) (beyond : List BeyondRead) (held : AreHeld most deep beyond work stages)
      (begun : AreBegun stages beyond) where
    is_begun : (one : BeyondRead) → In one beyond → Begun stages one
    is_begun one h = as_begun stages one (In-All (IsBegun stages) beyond begun one h)

    pub each : (one : Beyond) → Contains (map beyond_of beyond) one → IsHeld work (map stage_of stages) one
    each one c =
        let r = in_mapped beyond_of beyond one (In_from_Contains one (map beyond_of beyond) c) in
        let b : Begun stages r.0 = is_begun r.0 r.1 in
        let l : r.0.place < length stages = slice_get_within stages r.0.place b.stage b.stage_is in
        let n : length stages ≡ length work = held.count in
        subst (λ x. IsHeld work (map stage_of stages) x) (sym r.2) (record {
          place = r.0.place;
          entry_is = slice_get-get_or work r.0.place other (omega arith);
          stage_is = stage_there r.0 b ∙ ap Some (sym (stage_is r.0 b));
          held = subst (λ (s : Stage). r.0.number < held_in s) (sym (stage_is r.0 b)) b.held;
        })

    pub all : AreAllBeyond work (map stage_of stages) most (map beyond_of beyond)
    all place number entry stage at_e at_s low high =
        let r = from_mapped stage_of stages place stage at_s in
        let h : IsHeldAt most deep beyond place entry r.0 = held.each place entry r.0 at_e r.1 in
        let one : BeyondRead = record { place = place; number = number } in
        let u : number < held_of r.0 = subst (λ (s : Stage). number < held_in s) r.2 high in
        let c : Contains beyond one = h.all.past one refl low u in
        let m : Contains (map beyond_of beyond) (beyond_of one)
        = Contains_from_In (beyond_of one) (map beyond_of beyond)
        (in_map beyond_of one beyond (In_from_Contains one beyond c)) in
        subst (λ e. Contains (map beyond_of beyond) (record { entry = e; stage = stage; number = number }))
        (get_or_from_slice_get work place entry other at_e)
        (subst (λ s. Contains (map beyond_of beyond)
        (record { entry = get_or work place other; stage = s; number = number }))
        (get_or_from_slice_get (map stage_of stages) place stage none at_s) m)

-- each stage holds what is asked
pub held_whole : (most deep : ℕ) (entries : List SerialInsn) (stages : List StageRead)
    → length stages ≡ length entries
    → ((place : ℕ) (entry : SerialInsn) (stage : StageRead) → slice_get entries place ≡ Some entry
    → slice_get stages place ≡ Some stage → (beyond : List BeyondRead) × (n : ℕ)
    × IsHeldAt most deep beyond n entry stage) → AreHeldOf most deep entries (map stage_of stages)
held_whole most deep [] [] same h = tt
held_whole most deep [] (s ∷ stages) same h = absurd (omega arith)
held_whole most deep (e ∷ entries) [] same h = absurd (omega arith)
held_whole most deep (e ∷ entries) (s ∷ stages) same h =
    let one = h 0 e s refl refl in
    let k : IsHeldAt most deep one.0 one.1 e s = one.2 in (
      record { early = k.early; kernel = k.kernel; late = k.late; enough = k.all.enough; few = k.few },
      held_whole most deep entries stages (omega arith) (λ place entry stage at_e at_s. h (suc place) entry stage at_e
          at_s),
    )

-- ---- all instances

rounds_append : (schedule : Schedule) (passes from trips : ℕ) (xs ys : List Placed)
    → rounds_from schedule passes from trips xs ++ ys ≡ rounds_from schedule passes from trips (xs ++ ys)
rounds_append schedule passes from zero xs ys = refl
rounds_append schedule passes from (suc trips) xs ys =
    append_assoc (round_of schedule passes from) (rounds_from schedule passes (suc from) trips xs) ys
    ∙ ap (λ zs. round_of schedule passes from ++ zs) (rounds_append schedule passes (suc from) trips xs ys)

pub instances_are : (work : List SerialInsn) (schedule : ScheduleRead) (other : SerialInsn) (most passes : ℕ)
    (beyond : List BeyondRead) → AreBegun schedule.stages.items beyond
    → all_instances schedule most beyond passes ≡ map instance (all_placed (schedule_of schedule) most
    (map (beyond_of work schedule.stages.items other) beyond) passes)
instances_are work schedule other most passes beyond begun =
    ap (λ xs. map instance (placed_of (schedule_of schedule) (most + passes) passes) ++ xs)
    (past_same work schedule.stages.items other schedule.interval passes beyond
    (λ one h. as_begun schedule.stages.items one (In-All (IsBegun schedule.stages.items) beyond begun one h)))
    ∙ sym (map-append instance (placed_of (schedule_of schedule) (most + passes) passes) past)
    ∙ ap (map instance) (append_assoc schedule.before.items
    (rounds_from (schedule_of schedule) passes 0 (most + passes) behind) past
    ∙ ap (λ xs. schedule.before.items ++ xs)
    (rounds_append (schedule_of schedule) passes 0 (most + passes) behind past))
  where
    behind : List Placed
    behind = map (moved (cycles_in schedule.interval passes)) schedule.behind.items

    past : List Placed
    past = past_placed schedule.interval (map (beyond_of work schedule.stages.items other) beyond) passes
