-- Instructions of a cycle in the order of their units.
use Rattle.std.proofs.Common.{◌≡◌, ℕ, ◌+◌, ◌<◌, ◌≤◌, ◌∙◌, List, length, map, get_or, ap, subst, ⊎_elim, arith}
use Rattle.std.proofs.lemmas.Bool.{cases_lt}
use Rattle.std.proofs.lemmas.List.{get_or-map, get_or_default, length-map}
use Rattle.std.proofs.lemmas.List.Sorted.{IsNonDecreasingBy-from_all_adjacent}
use Rattle.std.specs.Prelude.{All}
use Rattle.std.specs.List.Sorted.{IsStrictlyIncreasing}
use Rattle.c62_op.specs.Units.{index_of as unit_index}
use Rattle.c62_packet.specs.declared.placed.Placed.{Placed}
use Rattle.c62_rules.specs.PacketRules.{KeepsPacketRules}
use Rattle.c62_packet.specs.Packed.{listing_position, IsInListingOrder, StandAsWritten, issued}
use Rattle.c62_rows.specs.declared.rows.Row.{Row as RowRead}
use Rattle.c62_rows.specs.Rows.{row_read}
use Rattle.c62_modulo.specs.Made.{IsLawful}

abbrev unit_at : Placed → ℕ
unit_at p = unit_index p.unit

-- those of one cycle that rise by their units stand as in a listing
pub listed : (placed : List Placed) → All (λ p. p.cycle ≡ 0) placed
    → IsStrictlyIncreasing (map (λ p. unit_index p.unit) placed) → IsInListingOrder placed
listed placed at_once rising =
    IsNonDecreasingBy-from_all_adjacent listing_position placed
    (λ k d l.
    let here : (get_or placed k d).cycle ≡ 0 = at_once k d (omega (arith, l)) in
    let next : (get_or placed (k + 1) d).cycle ≡ 0 = at_once (k + 1) d l in
    let one : get_or (map unit_at placed) k 0 ≡ unit_at (get_or placed k d) = get_or-map unit_at placed k d 0
    (omega (arith, l)) in
    let two : get_or (map unit_at placed) (k + 1) 0 ≡ unit_at (get_or placed (k + 1) d) = get_or-map unit_at placed
    (k + 1) d 0 l in
    let many : length (map unit_at placed) ≡ length placed = length-map placed unit_at in
    let rise : get_or (map unit_at placed) k 0 < get_or (map unit_at placed) (k + 1) 0 = rising k
    (omega (arith, l, many)) in
    omega (arith, here, next, one, two, rise))

-- such packets are lawful
pub lawful : (row : RowRead) → length row.insns.items ≤ 8 → StandAsWritten row.insns.items
    → All (λ p. p.cycle ≡ 0) row.insns.items
    → IsStrictlyIncreasing (map (λ p. unit_index p.unit) row.insns.items)
    → KeepsPacketRules (issued row.insns.items) → IsLawful (row_read row)
lawful row few written at_once rising keeps = record {
  row = record { units = written; cycles = at_once; enough = keeps.enough 0; in_order = rising; few = few };
  rules = keeps;
}

-- with one more, all of so many are
pub one_more : {A : Type 0} (P : A → Type 0) (xs : List A) (n : ℕ) (x : A) → n < length xs
    → x ≡ get_or xs n x → P x → ((k : ℕ) (d : A) → k < n → P (get_or xs k d))
    → (k : ℕ) (d : A) → k < n + 1 → P (get_or xs k d)
one_more P xs n x inside is_x one old k d l =
    ⊎_elim {C = P (get_or xs k d)} (λ (h : k < n). old k d h)
    (λ (h : n ≤ k). (let s : n ≡ k = omega arith in
    let here : x ≡ get_or xs k d = is_x ∙ get_or_default xs n x d inside ∙ ap (λ m. get_or xs m d) s in
    subst P here one))
    (cases_lt k n)
