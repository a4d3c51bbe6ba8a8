-- What is greatest is one.
use Rattle.std.proofs.Common.{arith, ◌≡◌, ℕ, ◌<◌, ◌≤◌, List, [], refl, inl, inr}
use Rattle.std.specs.Int.{div_ceil}
use Rattle.std.proofs.lemmas.Bool.{cases_lt}
use Rattle.c62_op.specs.declared.register.Side.{Side}
use Rattle.c62_op.specs.declared.register.Side.TheVariants.{A, B}
use Rattle.c62_insn.specs.declared.insn.Insn.{Insn}
use Rattle.c62_bound.specs.declared.need.Kind.{Kind}
use Rattle.c62_bound.specs.declared.need.Need.{Need}
use Rattle.c62_bound.specs.Bound.{cycles_of, width, kind_index, place, ComesFirst}
use Rattle.c62_bound.proofs.Counting.{same_parts}
use Rattle.c62_bound.specs.Length.{IsNeeded, IsLeastLength}
use Rattle.c62_bound.specs.Laws.{HasOneGreatest, HasOneLeastLength, NothingTakesNoCycle}

pub index_small : (kind : Kind) → kind_index kind < 7
index_small kind = grind arith

pub same_kind : (k l : Kind) → kind_index k ≡ kind_index l → k ≡ l
same_kind k l e = grind (arith, e)

same_room : (k l : Kind) (r s : Side) → place k r ≡ place l s → (k ≡ l) × (r ≡ s)
same_room k l A A e = (same_kind k l e, refl)
same_room k l A B e = absurd (omega (arith, e, index_small k))
same_room k l B A e = absurd (omega (arith, e, index_small l))
same_room k l B B e = (same_kind k l (omega (arith, e)), refl)

-- what comes before each other is the same
same_place : (a b : Need) → ComesFirst a b → ComesFirst b a → (cycles_of a ≡ cycles_of b) × (a.count ≡ b.count)
    × (place a.kind a.side ≡ place b.kind b.side)
same_place a b p q = grind (arith, p, q)

same_tail : (a b : Need) → cycles_of a ≡ cycles_of b → a.count ≡ b.count → a.kind ≡ b.kind → a.tail ≡ b.tail
same_tail a b cycles count kind =
    let rounds : div_ceil a.count (width a.kind) ≡ div_ceil b.count (width b.kind) = rw (count, kind) refl in
    omega (arith, cycles, rounds)

pub one_greatest : (block : List Insn) → HasOneGreatest block
one_greatest block a b p q =
    let same = same_place a b (p.first b q.is) (q.first a p.is) in
    let room = same_room a.kind b.kind a.side b.side same.2 in
    let tail = same_tail a b same.0 same.1 room.0 in
    same_parts a b room.0 room.1 same.1 tail

not_above : (block : List Insn) (a b : ℕ) → IsLeastLength block a → IsLeastLength block b → a ≤ b
not_above block a b p q = elim (cases_lt 0 a) [
  | inl some ↦ q.covers a (p.attained some)
  | inr none ↦ omega (arith, none)
]

pub one_least_length : (block : List Insn) → HasOneLeastLength block
one_least_length block a b p q =
    let up = not_above block a b p q in
    let down = not_above block b a q p in
    omega (arith, up, down)

nothing_needed : (cycles : ℕ) → IsNeeded [] cycles → ⊥
nothing_needed cycles needed = elim needed [
  | inl path ↦ omega (arith, path.1)
  | inr need ↦ (let within = need.1.within in omega (arith, within))
]

pub no_cycle : NothingTakesNoCycle
no_cycle cycles is = elim (cases_lt 0 cycles) [
  | inl some ↦ absurd (nothing_needed cycles (is.attained some))
  | inr none ↦ omega (arith, none)
]
