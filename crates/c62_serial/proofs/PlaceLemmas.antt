-- Places of addresses in memory that begins at a multiple of 4.
use Rattle.std.proofs.Common.{◌≡◌, ◌⊎◌, inl, inr, ℕ, ◌+◌, ◌*◌, ◌%◌, ◌^◌, ◌<◌, ◌≤◌, Bool, true, false, subst, sym, arith}
use Rattle.std.specs.Prelude.{◌↔◌, ◌==◌, ◌&&◌, ◌||◌, nat_le, IsTrue}
use Rattle.std.proofs.lemmas.Bool.{and_parts, and_from, or_cases}
use Rattle.std.proofs.lemmas.Bool.Decides.{nat_tests}
use Rattle.c62_serial.specs.Memory.{is_good, is_size, place_from}
use Rattle.c62_serial.specs.Laws.{LiesByItsAddress}

sizes : (size : ℕ) → is_size size ≡ true → (size ≡ 1) ⊎ ((size ≡ 2) ⊎ (size ≡ 4))
sizes size h = grind (arith, nat_tests)

-- where an access is good by its place it is so by its address
by_place : (base address size : ℕ) → (size ≡ 1) ⊎ ((size ≡ 2) ⊎ (size ≡ 4)) → base % 4 ≡ 0 → base + 65536 ≤ 2 ^ 32
    → address < 2 ^ 32 → place_from base address % size ≡ 0 → place_from base address + size ≤ 65536
    → (address % size ≡ 0) × (base ≤ address) × (address + size ≤ base + 65536)
by_place base address size (inl e) whole ends word on within = rw e (
  omega (arith, e, within, ends, word),
  omega
      (arith, e, within, ends, word),
  omega (arith, e, within, ends, word),
)
by_place base address size (inr (inl e)) whole ends word on within = (
  rw e (omega (arith, rw e at on, rw e at within, ends, word, whole)),
  omega (arith, e, within, ends, word),
  omega (arith, e, within, ends, word),
)
by_place base address size (inr (inr e)) whole ends word on within = (
  rw e (omega (arith, rw e at on, rw e at within, ends, word, whole)),
  omega (arith, e, within, ends, word),
  omega (arith, e, within, ends, word),
)

by_address : (base address size : ℕ) → (size ≡ 1) ⊎ ((size ≡ 2) ⊎ (size ≡ 4)) → base % 4 ≡ 0 → base + 65536 ≤ 2 ^ 32
    → address % size ≡ 0 → base ≤ address → address + size ≤ base + 65536
    → (place_from base address % size ≡ 0) × (place_from base address + size ≤ 65536)
by_address base address size (inl e) whole ends on low high = (
  rw e (omega arith),
  omega (arith, e, low, high, ends),
)
by_address base address size (inr (inl e)) whole ends on low high = (
  rw e (omega (arith, rw e at on, low, rw e at high, ends, whole)),
  omega (arith, e, low, high, ends),
)
by_address base address size (inr (inr e)) whole ends on low high = (
  rw e (omega (arith, rw e at on, low, rw e at high, ends, whole)),
  omega (arith, e, low, high, ends),
)

pub lies_by_its_address : (base address size : ℕ) → LiesByItsAddress base address size
lies_by_its_address base address size whole ends word sized = (
  (λ good.
      let parts = and_parts (place_from base address % size == 0)
      (nat_le (place_from base address + size) 65536) good in
      let on : place_from base address % size ≡ 0 = grind (arith, nat_tests, parts.0) in
      let within : place_from base address + size ≤ 65536 = grind (arith, nat_tests, parts.1) in
      by_place base address size (sizes size sized) whole ends word on within),
  (λ lies.
      let place = by_address base address size (sizes size sized) whole ends lies.0 lies.1 lies.2 in
      let on : (place_from base address % size == 0) ≡ true = grind (arith, nat_tests, place.0) in
      let within : nat_le (place_from base address + size) 65536 ≡ true = grind (arith, nat_tests, place.1) in
      and_from (place_from base address % size == 0) (nat_le (place_from base address + size) 65536) on within),
)
