-- Packets that are one but for their lines are a block of packets both.
use Rattle.std.proofs.Common.{◌≡◌, ℕ, zero, suc, ◌+◌, ◌*◌, ◌≤◌, ◌<◌, Bool, true, false, cond, List, [], ◌∷◌, length}
use Rattle.std.proofs.Common.{map, get_or, Some, refl, sym, ap, subst, ◌∙◌, arith}
use Rattle.std.specs.Prelude.{All, count_by, filter, ◌&&◌}
use Rattle.std.specs.List.{list_all}
use Rattle.std.proofs.lemmas.List.Sums.{length-filter}
use Rattle.std.proofs.lemmas.Simd.{map-map}
use Rattle.c62_op.specs.Shape.{is_branch}
use Rattle.c62_op.specs.Units.{index_of}
use Rattle.c62_insn.specs.Insn.{op_of, unit_of}
use Rattle.c62_rules.specs.PacketRules.{Issue, KeepsPacketRules}
use Rattle.c62_rules.specs.Length.{landing_end, length_of}
use Rattle.c62_packet.specs.declared.placed.Placed.{Placed}
use Rattle.c62_packet.specs.Packed.{Packed, IsPacketBlock, issue_of, issues_of, issued, is_branching, listing_position}
use Rattle.c62_packet.specs.Alike.{Unlined, unlined}

same_count : (xs ys : List Placed) → issues_of xs ≡ issues_of ys → length xs ≡ length ys
same_count [] [] same = refl
same_count [] (y ∷ ys) same = absurd cc
same_count (x ∷ xs) [] same = absurd cc
same_count (x ∷ xs) (y ∷ ys) same = let rest : issues_of xs ≡ issues_of ys = cc in ap suc (same_count xs ys rest)

same_at : (xs ys : List Placed) → issues_of xs ≡ issues_of ys → (k : ℕ) (d : Placed) → k < length ys
    → issue_of (get_or xs k d) ≡ issue_of (get_or ys k d)
same_at [] [] same k d l = absurd (omega (arith, l))
same_at [] (y ∷ ys) same k d l = absurd cc
same_at (x ∷ xs) [] same k d l = absurd cc
same_at (x ∷ xs) (y ∷ ys) same zero d l = (let first : issue_of x ≡ issue_of y = cc in first)
same_at (x ∷ xs) (y ∷ ys) same (suc k) d l =
    let rest : issues_of xs ≡ issues_of ys = cc in same_at xs ys rest k d (omega (arith, l))

-- what holds of each issue of the one holds of each of the other
all_same : (P : Issue → Type 0) (xs ys : List Placed) → issues_of xs ≡ issues_of ys → All (λ p. P (issue_of p)) xs
    → All (λ p. P (issue_of p)) ys
all_same P xs ys same all k d l =
    let count = same_count xs ys same in
    subst P (same_at xs ys same k d l) (all k d (omega (arith, count, l)))

-- and they pass a test of issues alike
pub same_tests : (f : Issue → Bool) (xs ys : List Placed) → issues_of xs ≡ issues_of ys
    → list_all (λ p. f (issue_of p)) xs ≡ list_all (λ p. f (issue_of p)) ys
same_tests f [] [] same = refl
same_tests f [] (y ∷ ys) same = absurd cc
same_tests f (x ∷ xs) [] same = absurd cc
same_tests f (x ∷ xs) (y ∷ ys) same =
    let first : issue_of x ≡ issue_of y = cc in
    let rest : issues_of xs ≡ issues_of ys = cc in
    ap (λ i. f i && list_all (λ p. f (issue_of p)) xs) first
    ∙ ap (λ b. f (issue_of y) && b) (same_tests f xs ys rest)

same_branches : (xs ys : List Placed) → issues_of xs ≡ issues_of ys
    → length (filter is_branching xs) ≡ length (filter is_branching ys)
same_branches [] [] same = refl
same_branches [] (y ∷ ys) same = absurd cc
same_branches (x ∷ xs) [] same = absurd cc
same_branches (x ∷ xs) (y ∷ ys) same =
    let first : issue_of x ≡ issue_of y = cc in
    let rest : issues_of xs ≡ issues_of ys = cc in
    let test : is_branching x ≡ is_branching y = ap (λ (i : Issue). is_branch (op_of i.insn)) first in
    by (is_branching x) (is_branching y) test (same_branches xs ys rest)
  where
    by : (a b : Bool) → a ≡ b → length (filter is_branching xs) ≡ length (filter is_branching ys)
        → length (cond a (x ∷ filter is_branching xs) (filter is_branching xs))
        ≡ length (cond b (y ∷ filter is_branching ys) (filter is_branching ys))
    by true true e h = ap suc h
    by false false e h = h
    by true false e h = absurd cc
    by false true e h = absurd cc

abbrev position_in : Issue → ℕ
position_in issue = 8 * issue.cycle + index_of issue.unit

module _ (packed lined : Packed) (alike : unlined packed ≡ unlined lined) (is : IsPacketBlock packed) where
  pub issues_are : issues_of packed.placed ≡ issues_of lined.placed
  issues_are = ap (λ (u : Unlined). u.issues) alike

  pub cycles_are : packed.cycles ≡ lined.cycles
  cycles_are = ap (λ (u : Unlined). u.cycles) alike

  issued_are : issued packed.placed ≡ issued lined.placed
  issued_are = sym (map-map (λ (i : Issue). Some i) issue_of packed.placed)
      ∙ (ap (map (λ (i : Issue). Some i)) issues_are ∙ map-map (λ (i : Issue). Some i) issue_of lined.placed)

  pub is_packet_block : IsPacketBlock lined
  is_packet_block = record {
    in_order = λ i j d l w.
        (let count = same_count packed.placed lined.placed issues_are in
        let first : listing_position (get_or packed.placed i d) ≡ listing_position (get_or lined.placed i d)
        = ap position_in (same_at packed.placed lined.placed issues_are i d (omega (arith, l, w))) in
        let second : listing_position (get_or packed.placed j d) ≡ listing_position (get_or lined.placed j d)
        = ap position_in (same_at packed.placed lined.placed issues_are j d w) in
        let old : listing_position (get_or packed.placed i d) ≤ listing_position (get_or packed.placed j d)
        = is.in_order i j d l (omega (arith, count, w)) in
        subst (λ n. n ≤ listing_position (get_or lined.placed j d)) first
        (subst (λ n. listing_position (get_or packed.placed i d) ≤ n) second old));
    as_written = all_same (λ (i : Issue). unit_of i.insn ≡ Some i.unit) packed.placed lined.placed issues_are
        is.as_written;
    rules = subst KeepsPacketRules issued_are is.rules;
    one_branch =
        (let one : length (filter is_branching packed.placed) ≡ count_by is_branching packed.placed
        = length-filter is_branching packed.placed in
        let other : length (filter is_branching lined.placed) ≡ count_by is_branching lined.placed
        = length-filter is_branching lined.placed in
        let same = same_branches packed.placed lined.placed issues_are in
        let few = is.one_branch in
        omega (arith, one, other, same, few));
    few = (let count = same_count packed.placed lined.placed issues_are in let few = is.few in
        omega (arith, count, few));
    own_length = sym cycles_are ∙ (is.own_length ∙ ap length_of issues_are);
    short = (let short = is.short in let same = cycles_are in omega (arith, short, same));
    drained = subst (λ n. All (λ p. landing_end (issue_of p) ≤ n) lined.placed) cycles_are
        (all_same (λ (i : Issue). landing_end i ≤ packed.cycles) packed.placed lined.placed issues_are is.drained);
  }
