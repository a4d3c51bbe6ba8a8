-- Two blocks, laid out as the rows of their text.
use Rattle.std.proofs.Common.{◌≡◌, ℕ, ◌+◌, ◌<◌, ◌≤◌, [], ◌∷◌, Some, refl, arith}
use Rattle.std.proofs.Common.{None}
use Rattle.std.specs.Prelude.{slice_get, slice_index_or, All, codes}
use Rattle.std.proofs.lemmas.List.Elements.{All-cons, All-nil}
use Rattle.c62_packet.specs.Packed.{Packed, packed_of}
use Rattle.c62_packet.specs.Packed.{IsPacketBlock}
use Rattle.c62_flight.specs.Text.{aim_of}
use Rattle.c62_flight.specs.Laid.{straight_end, IsLaid, AreLaid}
use Rattle.c62_flight.specs.Samples.{branch, three_a1, two_rows, two_blocks}
use Rattle.std.proofs.lemmas.Bool.Decides.{nat_tests}

abbrev row_at : ℕ → ℕ
row_at number = slice_index_or (0 ∷ 2 ∷ []) number 3

abbrev count_at : ℕ → ℕ
count_at number = slice_index_or (2 ∷ 1 ∷ []) number 0

laid_at : (number : ℕ) (block : Packed) → slice_get two_blocks number ≡ Some block
    → IsLaid two_rows block (row_at number) (count_at number) 0
laid_at number block e = grind arith

next_at : (number : ℕ) → number < 2 → row_at (number + 1) ≡ row_at number + count_at number
next_at number l = grind arith

aim_at : (number : ℕ) → number < 2 → aim_of two_rows number ≡ row_at number
aim_at number l = grind arith

outside_at : (number : ℕ) → 2 ≤ number → aim_of two_rows number ≡ 3
outside_at number l = grind arith

gap_at : (number : ℕ) (block : Packed) → slice_get two_blocks number ≡ Some block
    → block.cycles + 0 ≤ 0 + straight_end two_rows (row_at number) 0 (count_at number)
gap_at number block e = grind arith

pub two_laid : AreLaid two_rows two_blocks
two_laid = record {
  row = row_at;
  count = count_at;
  lead = λ number. 0;
  laid = laid_at;
  first = refl;
  next = next_at;
  last = refl;
  begun = refl;
  gaps = gap_at;
  targets = λ number other block p at inside names few. refl;
  aims = aim_at;
  outside = outside_at;
}

-- ---- they are packet blocks

first_packet : IsPacketBlock (packed_of None 6 (branch 1 1 ∷ []))
first_packet = grind (arith, nat_tests)

second_packet : IsPacketBlock (packed_of (Some (codes "L")) 1 (three_a1 3 ∷ []))
second_packet = grind (arith, nat_tests)

pub two_packets : All IsPacketBlock two_blocks
two_packets = All-cons IsPacketBlock (packed_of None 6 (branch 1 1 ∷ []))
    (packed_of (Some (codes "L")) 1 (three_a1 3 ∷ []) ∷ []) first_packet
    (All-cons IsPacketBlock (packed_of (Some (codes "L")) 1 (three_a1 3 ∷ [])) [] second_packet (All-nil IsPacketBlock))
