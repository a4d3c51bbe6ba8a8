-- Placed instructions by their numbers, and blocks by their parts.
use Rattle.std.proofs.Common.{arith, ◌≡◌, ℕ, zero, suc, ◌<◌, List, [], ◌∷◌, length, get_or, Some, None, ap}
use Rattle.std.specs.Prelude.{slice_get}
use Rattle.std.proofs.lemmas.List.{get_or-map}
use Rattle.std.proofs.lemmas.Option.{none-some, same_Some}
use Rattle.c62_rules.specs.PacketRules.{IsIssued}
use Rattle.c62_packet.specs.declared.placed.Placed.{Placed}
use Rattle.c62_packet.specs.Packed.{Packed, issue_of, issued}

-- what is placed is issued under its number
pub issued_at : (placed : List Placed) (k : ℕ) (p : Placed) → slice_get placed k ≡ Some p
    → IsIssued (issued placed) k (issue_of p)
issued_at [] k p e = absurd (none-some p e)
issued_at (q ∷ placed) zero p e = ap (λ (r : Placed). Some (issue_of r)) (same_Some q p e)
issued_at (q ∷ placed) (suc k) p e = issued_at placed k p e

pub issued_or : (placed : List Placed) (k : ℕ) (d : Placed) → k < length placed
    → IsIssued (issued placed) k (issue_of (get_or placed k d))
issued_or placed k d lt = get_or-map (λ (p : Placed). Some (issue_of p)) placed k d None lt

-- equal in each part
pub same_packed : (one other : Packed) → one.label ≡ other.label → one.cycles ≡ other.cycles → one.placed ≡ other.placed
    → one ≡ other
same_packed one other label cycles placed = grind arith
