-- No two instructions of a packet block are equal.
use Rattle.std.proofs.Common.{arith, ◌≡◌, ℕ, ◌<◌, List, [], ◌∷◌, length, get_or, set, refl, sym, ap, ◌∙◌, inl, inr, ◌⊎◌}
use Rattle.std.proofs.Common.{get_or-set_same, get_or-set_other, length-set}
use Rattle.std.specs.List.{swap}
use Rattle.std.proofs.lemmas.List.{get_or_default}
use Rattle.std.proofs.lemmas.List.Edits.{length-swap}
use Rattle.std.proofs.lemmas.List.Sorted.{IsPermutation-keeps}
use Rattle.std.proofs.lemmas.Bool.{cases_eq}
use Rattle.c62_rules.proofs.Capacities.{one-each-unit}
use Rattle.c62_rules.specs.PacketRules.{KeepsPacketRules}
use Rattle.c62_packet.specs.declared.placed.Placed.{Placed}
use Rattle.c62_packet.specs.Packed.{issue_of, issued}
use Rattle.c62_check.specs.Schedule.{AreDistinct}
use Rattle.c62_packet.proofs.Placings.{issued_or}

abbrev AreOnce : List Placed → Type 0
AreOnce xs = (i j : ℕ) (d : Placed) → i < length xs → j < length xs → get_or xs i d ≡ get_or xs j d → i ≡ j

once_by_rules : (placed : List Placed) → KeepsPacketRules (issued placed) → AreOnce placed
once_by_rules placed rules i j d one other same =
    one-each-unit (issued placed) rules (get_or placed i d).unit i j (issue_of (get_or placed i d))
    (issue_of (get_or placed j d)) (issued_or placed i d one) (issued_or placed j d other)
    (ap (λ (p : Placed). p.cycle) same) refl (ap (λ (p : Placed). p.unit) (sym same))

-- which place came to place k
abbrev IsMate : ℕ → ℕ → ℕ → ℕ → Type 0
IsMate i j k m = ((k ≡ j) × (m ≡ i)) ⊎ (((k ≡ j → ⊥) × (k ≡ i) × (m ≡ j)) ⊎ ((k ≡ j → ⊥) × (k ≡ i → ⊥) × (m ≡ k)))

pub record CameFrom (xs : List Placed) (i j k : ℕ) (d : Placed) : Type 0 where
  pub place : ℕ
  pub within : place < length xs
  pub same : get_or (swap xs i j) k d ≡ get_or xs place d
  pub mate : IsMate i j k place

came_from : (xs : List Placed) (i j k : ℕ) (d : Placed) → i < length xs → j < length xs → k < length xs
    → CameFrom xs i j k d
came_from [] i j k d p q lt = absurd (omega (arith, lt))
came_from (x ∷ xs) i j k d p q lt =
    let ys = x ∷ xs in
    let once = set ys i (get_or ys j x) in
    let long : length once ≡ length ys = length-set ys i (get_or ys j x) in
    elim (cases_eq k j) [
      | inl e ↦ record {
        place = i;
        within = p;
        same = ap (λ (n : ℕ). get_or (set once j (get_or ys i x)) n d) e
            ∙ (get_or-set_same once j (get_or ys i x) d (omega (arith, q, long)) ∙ get_or_default ys i x d p);
        mate = inl (e, refl);
      }
      | inr n ↦ elim (cases_eq k i) [
        | inl e ↦ record {
          place = j;
          within = q;
          same = get_or-set_other once j k (get_or ys i x) d n
              ∙ (ap (λ (m : ℕ). get_or once m d) e
              ∙ (get_or-set_same ys i (get_or ys j x) d p ∙ get_or_default ys j x d q));
          mate = inr (inl (n, e, refl));
        }
        | inr o ↦ record {
          place = k;
          within = lt;
          same = get_or-set_other once j k (get_or ys i x) d n ∙ get_or-set_other ys i k (get_or ys j x) d o;
          mate = inr (inr (n, o, refl));
        }
      ]
    ]

mates : (i j k l m n : ℕ) → IsMate i j k m → IsMate i j l n → m ≡ n → k ≡ l
mates i j k l m n one other same = grind arith

pub are_distinct : (listed : List Placed) → KeepsPacketRules (issued listed) → AreDistinct listed
are_distinct listed rules placed permuted =
    IsPermutation-keeps listed AreOnce (once_by_rules listed rules)
    (λ xs i j p q once k l d one other same. (
    let long = length-swap xs i j in
    let first = came_from xs i j k d p q (omega (arith, one, long)) in
    let second = came_from xs i j l d p q (omega (arith, other, long)) in
    mates i j k l first.place second.place first.mate second.mate
    (once first.place second.place d first.within second.within (sym first.same ∙ (same ∙ second.same)))))
    placed permuted
