-- All but a branch to a block waits for a room, so the greatest need is no shorter than a path that begins with it.
use Rattle.std.proofs.Common.{arith, ◌≡◌, ℕ, zero, suc, ◌+◌, ◌*◌, ◌<◌, ◌≤◌, List, length, Option, Some, refl, ap, subst}
use Rattle.std.proofs.Common.{◌⊎◌, inl, inr, Bool, true, false}
use Rattle.std.specs.Prelude.{slice_get, IsTrue}
use Rattle.std.specs.Int.{div_ceil}
use Rattle.std.proofs.lemmas.Bool.{cases_Bool, cases_eq, cases_lt}
use Rattle.std.proofs.lemmas.Option.{slice_get_within}
use Rattle.std.proofs.lemmas.Grind.{div_ceil_times}
use Rattle.c62_op.specs.declared.register.Side.{Side}
use Rattle.c62_op.specs.declared.register.Side.TheVariants.{A, B}
use Rattle.c62_op.specs.declared.register.Letter.{Letter}
use Rattle.c62_op.specs.declared.register.Letter.TheVariants.{L, S, M, D}
use Rattle.c62_op.specs.declared.register.Unit.{Unit as FunctionalUnit}
use Rattle.c62_op.specs.declared.operands.Op.{Op}
use Rattle.c62_op.specs.Takes.{takes, has_letter as stands_on_letter}
use Rattle.c62_op.specs.Shape.{side_of}
use Rattle.c62_op.proofs.TakenTests.{taken_letter}
use Rattle.c62_op.proofs.SideLemmas.{takes_on_side}
use Rattle.c62_insn.specs.declared.insn.Insn.{Insn}
use Rattle.c62_insn.specs.Insn.{op_of, operands_of}
use Rattle.c62_depend.specs.Height.{height}
use Rattle.c62_sheet.specs.Counts.{HasCount}
use Rattle.c62_bound.specs.declared.need.Kind.{Kind}
use Rattle.c62_bound.specs.declared.need.Kind.TheVariants.{M as OnM, Lsd}
use Rattle.c62_bound.specs.declared.need.Need.{Need}
use Rattle.c62_bound.specs.Bound.{has_letter, width, taken_in, is_taken, StandsOnlyOn, WaitsFor, IsConfined, IsNeed}
use Rattle.c62_bound.specs.Laws.{ReachesPaths}
use Rattle.c62_bound.proofs.Seats.{some_width}
use Rattle.c62_bound.proofs.Lengths.{no_fewer}

-- what has a form on .M has none elsewhere
multiplies : (op : Op) (letter : Letter) → stands_on_letter op M ≡ true → stands_on_letter op letter ≡ true
    → has_letter OnM letter ≡ true
multiplies op letter on h = grind (arith, on, h)

others : (op : Op) (letter : Letter) → stands_on_letter op M ≡ false → stands_on_letter op letter ≡ true
    → has_letter Lsd letter ≡ true
others op letter off h = grind (arith, off, h)

taken_there : (block : List Insn) (i : ℕ) (insn : Insn) (unit : FunctionalUnit) → slice_get block i ≡ Some insn
    → IsTrue (is_taken block i unit)
    → takes (op_of insn) (operands_of insn) unit ≡ true
taken_there block i insn unit at is = subst (λ (o : Option Insn). taken_in o unit ≡ true) at is

-- ---- what can be told can be counted

abbrev pub CanTell : Type 0 → Type 0
CanTell P = P ⊎ (P → ⊥)

pub both : (P Q : Type 0) → CanTell P → CanTell Q → CanTell (P × Q)
both P Q (inl p) (inl q) = inl (p, q)
both P Q (inr none) q = inr (λ w. none w.0)
both P Q p (inr none) = inr (λ w. none w.1)

tell_sides : (P : Side → Type 0) → ((s : Side) → CanTell (P s)) → CanTell ((s : Side) → P s)
tell_sides P tell = elim (both (P A) (P B) (tell A) (tell B)) [
  | inl w ↦ inl (each_side w.0 w.1)
  | inr none ↦ inr (λ all. none (all A, all B))
]
  where
    each_side : P A → P B → (s : Side) → P s
    each_side a b A = a
    each_side a b B = b

tell_letters : (P : Letter → Type 0) → ((l : Letter) → CanTell (P l)) → CanTell ((l : Letter) → P l)
tell_letters P tell = elim (both (P L × P S) (P M
    × P D) (both (P L) (P S) (tell L) (tell S)) (both (P M) (P D) (tell M) (tell D))) [
      | inl w ↦ inl (each_letter w.0.0 w.0.1 w.1.0 w.1.1)
      | inr none ↦ inr (λ all. none ((all L, all S), (all M, all D)))
    ]
  where
    each_letter : P L → P S → P M → P D → (l : Letter) → P l
    each_letter a b c d L = a
    each_letter a b c d S = b
    each_letter a b c d M = c
    each_letter a b c d D = d

tell_units : (P : FunctionalUnit → Type 0) → ((u : FunctionalUnit) → CanTell (P u))
    → CanTell ((u : FunctionalUnit) → P u)
tell_units P tell = elim (tell_letters (λ l. (s : Side)
    → P (record { letter = l; side = s }))
    (λ l. tell_sides (λ s. P (record { letter = l; side = s })) (λ s. tell (record { letter = l; side = s })))) [
      | inl all ↦ inl (λ u. all u.letter u.side)
      | inr none ↦ inr (λ all. none (λ l s. all (record { letter = l; side = s })))
    ]

pub tell_true : (t : Bool) → CanTell (IsTrue t)
tell_true true = inl refl
tell_true false = inr (λ e. cc e)

pub tell_side : (r s : Side) → CanTell (r ≡ s)
tell_side A A = inl refl
tell_side B B = inl refl
tell_side A B = inr (λ e. cc e)
tell_side B A = inr (λ e. cc e)

tell_if : (P Q : Type 0) → CanTell P → CanTell Q → CanTell (P → Q)
tell_if P Q p (inl q) = inl (λ w. q)
tell_if P Q (inr none) q = inl (λ w. absurd (none w))
tell_if P Q (inl p) (inr none) = inr (λ f. none (f p))

pub tell_only : (block : List Insn) (kind : Kind) (s : Side) (j : ℕ) → CanTell (StandsOnlyOn block kind s j)
tell_only block kind s j =
    tell_units (λ u. IsTrue (is_taken block j u) → (u.side ≡ s) × IsTrue (has_letter kind u.letter))
    (λ u. tell_if (IsTrue (is_taken block j u)) ((u.side ≡ s)
    × IsTrue (has_letter kind u.letter)) (tell_true (is_taken block j u))
    (both (u.side ≡ s) (IsTrue (has_letter kind u.letter)) (tell_side u.side s) (tell_true (has_letter kind u.letter))))

-- a room of a side for which number i waits
record HasRoom (block : List Insn) (s : Side) (i : ℕ) : Type 0 where
  kind : Kind
  waits : WaitsFor block kind s i
  tell : (j : ℕ) → CanTell (WaitsFor block kind s j)

room_of : (block : List Insn) (i : ℕ) (insn : Insn) (s : Side) → slice_get block i ≡ Some insn
    → side_of (operands_of insn) ≡ Some s → HasRoom block s i
room_of block i insn s at decided = elim (cases_Bool (stands_on_letter (op_of insn) M)) [
  | inl on ↦ record {
    kind = OnM;
    waits = λ unit is. (
      takes_on_side (op_of insn) (operands_of insn) unit s decided (taken_there block i insn unit at is),
      multiplies (op_of insn) unit.letter on
          (taken_letter (op_of insn) (operands_of insn) unit (taken_there block i insn unit at is)),
    );
    tell = tell_only block OnM s;
  }
  | inr off ↦ record {
    kind = Lsd;
    waits = λ unit is. (
      takes_on_side (op_of insn) (operands_of insn) unit s decided (taken_there block i insn unit at is),
      others (op_of insn) unit.letter off
          (taken_letter (op_of insn) (operands_of insn) unit (taken_there block i insn unit at is)),
    );
    tell = tell_only block Lsd s;
  }
]

tell_confined : (block : List Insn) (kind : Kind) (s : Side) (tail j : ℕ) → CanTell (WaitsFor block kind s j)
    → CanTell (IsConfined block kind s tail j)
tell_confined block kind s tail j tell = elim (cases_lt (height block j) tail) [
  | inl low ↦ inr (λ is. (let tall = is.tall in omega (arith, tall, low)))
  | inr tall ↦ elim tell [
    | inl waits ↦ inl (record { tall = tall; waits = waits })
    | inr none ↦ inr (λ is. none is.waits)
  ]
]

pub count_of : (Is : ℕ → Type 0) → ((k : ℕ) → CanTell (Is k)) → (n : ℕ) → (count : ℕ) × HasCount Is n count
count_of Is tell zero = (0, refl)
count_of Is tell (suc n) =
    let rest = count_of Is tell n in
    elim (tell n) [
      | inl is ↦ (rest.0 + 1, inl (is, (rest.0, refl, rest.1)))
      | inr none ↦ (rest.0, inr (none, rest.1))
    ]

pub some_counted : (Is : ℕ → Type 0) (n count k : ℕ) → HasCount Is n count → k < n → Is k → 0 < count
some_counted Is zero count k has low is = absurd (omega (arith, low))
some_counted Is (suc n) count k has low is = elim has [
  | inl w ↦ omega (arith, w.1.1)
  | inr w ↦ elim (cases_eq k n) [
    | inl e ↦ absurd (w.0 (subst Is e is))
    | inr ne ↦ some_counted Is n count k w.1 (omega (arith, low, ne)) is
  ]
]

pub one_round : (count by : ℕ) → 0 < count → 0 < by → 1 ≤ div_ceil count by
one_round count by some wide =
    let up : count ≤ div_ceil count by * by = (div_ceil_times count by wide).0 in
    elim (cases_lt 0 (div_ceil count by)) [
      | inl rounds ↦ omega (arith, rounds)
      | inr none ↦
          (let zero_rounds : div_ceil count by ≡ 0 = omega (arith, none) in
          let all : div_ceil count by * by ≡ 0 * by = ap (λ (k : ℕ). k * by) zero_rounds in
          absurd (omega (arith, up, all, some)))
    ]

pub reaches_paths : (block : List Insn) → ReachesPaths block
reaches_paths block need greatest i insn s at decided =
    let within = slice_get_within block i insn at in
    let room = room_of block i insn s at decided in
    let Is : ℕ → Type 0 = IsConfined block room.kind s (height block i) in
    let count = count_of Is (λ j. tell_confined block room.kind s (height block i) j (room.tell j)) (length block) in
    let own : Need = record { kind = room.kind; side = s; count = count.0; tail = height block i } in
    let is : IsNeed block own = record {
      last = i;
      within = within;
      of = record
          { is_kind = refl; is_side = refl; is_tail = refl; counted = count.1 };
    } in
    let some = some_counted Is (length block) count.0 i count.1 within
    (record { tall = omega arith; waits = room.waits }) in
    let round = one_round count.0 (width room.kind) some (some_width room.kind) in
    let above = no_fewer need own (greatest.first own is) in
    omega (arith, round, above)
