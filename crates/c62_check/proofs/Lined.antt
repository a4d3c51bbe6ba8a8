-- Numbered packets with the lines of the block.
use Rattle.std.proofs.Common.{arith, ◌≡◌, ℕ, zero, suc, ◌<◌, ◌≤ℤ◌, ◌+ℤ◌, ℤ, pos, List, [], ◌∷◌, length, map, get_or}
use Rattle.std.proofs.Common.{set, IsPermutation, Some, None, Option, refl, sym, ap, subst, ◌∙◌}
use Rattle.std.specs.List.{slice_get, swap}
use Rattle.std.specs.Prelude.{IsTrue}
use Rattle.std.proofs.Math.ListN.{get_or-map}
use Rattle.std.proofs.lemmas.Int.{ints}
use Rattle.std.proofs.lemmas.Option.{none-some, same_Some}
use Rattle.std.proofs.lemmas.List.{map-set, append-nil, length-map}
use Rattle.std.proofs.lemmas.List.Sorted.{IsPermutation-refl, IsPermutation-sym, IsPermutation-trans}
use Rattle.std.proofs.lemmas.List.Sorted.{IsPermutation-keeps, Contains-permutation}
use Rattle.c62_insn.specs.declared.insn.Insn.{Insn}
use Rattle.c62_rules.specs.Dependence.{Bounds, IsLatency}
use Rattle.c62_read.specs.declared.block.SerialInsn.{SerialInsn}
use Rattle.c62_packet.specs.declared.placed.Placed.{Placed}
use Rattle.c62_packet.specs.Packed.{issue_of, issues_of}
use Rattle.c62_depend.specs.Latency.{latency}
use Rattle.c62_depend.specs.Plan.{insns_of}
use Rattle.c62_depend.proofs.Latencies.{latency-is}
use Rattle.c62_meaning.specs.Laws.{StandsAs, IsPlacing, IsPacked, cycles_of}
use Rattle.c62_rules.specs.PacketRules.{Issue}
use Rattle.c62_rules.specs.Length.{length_of}
use Rattle.c62_read.specs.Block.{Serial, branch_last, operations}
use Rattle.c62_packet.specs.Packed.{Packed}
use Rattle.c62_packet.specs.Alike.{Unlined}
use Rattle.c62_check.specs.Matched.{AreSame, AreNumbered}
use Rattle.c62_check.specs.Early.{KeepsAll}
use Rattle.c62_check.specs.Schedule.{KeepBounds, IsSchedule, SchedulesArePacked}

-- ---- another list that agrees in what f tells, in the same order

map_swap : {X Y : Type 0} (f : X → Y) (xs : List X) (i j : ℕ) → map f (swap xs i j) ≡ swap (map f xs) i j
map_swap f [] i j = refl
map_swap f (d ∷ xs) i j =
    let ys = d ∷ xs in
    map-set f (set ys i (get_or ys j d)) j (get_or ys i d)
    ∙ (ap (λ zs. set zs j (f (get_or ys i d))) (map-set f ys i (get_or ys j d)
    ∙ ap (set (map f ys) i) (sym (get_or-map f ys j d)))
    ∙ ap (set (set (map f ys) i (get_or (map f ys) j (f d))) j) (sym (get_or-map f ys i d)))

swapped : {X : Type 0} (xs : List X) (i j : ℕ) → i < length xs → j < length xs → IsPermutation xs (swap xs i j)
swapped xs i j p q = record { moves = (i, j) ∷ []; below = (p, q, tt); is = refl }

pub record IsCarried {X Y : Type 0} (f : X → Y) (from to : List X) : Type 0 where
  pub carried : List X
  pub permuted : IsPermutation from carried
  pub agrees : map f carried ≡ map f to

carry : {X Y : Type 0} (f : X → Y) (from xs ys : List X) → map f from ≡ map f xs → IsPermutation xs ys
    → IsCarried f from ys
carry f from xs ys e h =
    IsPermutation-keeps xs (λ l. IsCarried f from l)
    (record { carried = from; permuted = IsPermutation-refl from; agrees = e })
    (λ l i j p q c. (
    let long : length c.carried ≡ length l = sym (length-map c.carried f)
    ∙ (ap (λ zs. length zs) c.agrees ∙ length-map l f) in
    record {
      carried = swap c.carried i j;
      permuted = IsPermutation-trans from c.carried (swap c.carried i j) c.permuted
          (swapped c.carried i j (omega (arith, long, p)) (omega (arith, long, q)));
      agrees = map_swap f c.carried i j ∙ (ap (λ zs. swap zs i j) c.agrees ∙ sym (map_swap f l i j));
    }))
    ys h

-- ---- the lines of the block

abbrev lined_as : SerialInsn → Placed → Placed
lined_as entry p = record { insn = p.insn; line = entry.line; cycle = p.cycle; unit = p.unit }

abbrev lined : List SerialInsn → List Placed → List Placed
lined (entry ∷ entries) (p ∷ placed) = lined_as entry p ∷ lined entries placed
lined _ _ = []

same_issues : (entries : List SerialInsn) (placed : List Placed) → AreSame entries placed
    → issues_of (lined entries placed) ≡ issues_of placed
same_issues [] [] same = refl
same_issues [] (p ∷ placed) same = absurd same
same_issues (e ∷ entries) [] same = absurd same
same_issues (e ∷ entries) (p ∷ placed) same = ap (λ ps. issue_of p ∷ ps) (same_issues entries placed same.1)

as_many : (entries : List SerialInsn) (placed : List Placed) → AreSame entries placed
    → length (lined entries placed) ≡ length entries
as_many [] [] same = refl
as_many [] (p ∷ placed) same = absurd same
as_many (e ∷ entries) [] same = absurd same
as_many (e ∷ entries) (p ∷ placed) same = ap suc (as_many entries placed same.1)

stands_there : (entries : List SerialInsn) (placed : List Placed) → AreSame entries placed
    → (i : ℕ) (entry : SerialInsn) (p : Placed) → slice_get entries i ≡ Some entry
    → slice_get (lined entries placed) i ≡ Some p → StandsAs entry p
stands_there [] [] same i entry p e at = absurd (none-some p at)
stands_there [] (q ∷ placed) same i entry p e at = absurd same
stands_there (x ∷ entries) [] same i entry p e at = absurd same
stands_there (x ∷ entries) (q ∷ placed) same zero entry p e at =
    subst (λ (y : SerialInsn). StandsAs y p) (same_Some x entry e)
    (subst (λ (r : Placed). StandsAs x r) (same_Some (lined_as x q) p at) (record { insn = same.0; line = refl }))
stands_there (x ∷ entries) (q ∷ placed) same (suc i) entry p e at = stands_there entries placed same.1 i entry p e at

-- where it stood without that line
pub record IsLined (placed : List Placed) (i : ℕ) (p : Placed) : Type 0 where
  pub own : Placed
  pub at : slice_get placed i ≡ Some own
  pub cycle : own.cycle ≡ p.cycle

own_of : (entries : List SerialInsn) (placed : List Placed) (i : ℕ) (p : Placed)
    → slice_get (lined entries placed) i ≡ Some p → IsLined placed i p
own_of [] placed i p at = absurd (none-some p at)
own_of (x ∷ entries) [] i p at = absurd (none-some p at)
own_of (x ∷ entries) (q ∷ placed) zero p at = record
    { own = q; at = refl; cycle = ap (λ (r : Placed). r.cycle) (same_Some (lined_as x q) p at) }
own_of (x ∷ entries) (q ∷ placed) (suc i) p at =
    let own = own_of entries placed i p at in
    record { own = own.own; at = own.at; cycle = own.cycle }

-- a bound is kept where the greatest one is
module _ (block : List Insn) (numbered : List Placed) (keeps : (j : ℕ) → KeepsAll block numbered j) where
  by_latency : (i j : ℕ) (p q : Placed) (bound : ℤ) (found : Option ℤ) → latency block i j ≡ found
      → IsLatency block i j found → slice_get numbered i ≡ Some p → slice_get numbered j ≡ Some q
      → Bounds block i j bound → (pos p.cycle +ℤ bound) ≤ℤ pos q.cycle
  by_latency i j p q bound None e is at_p at_q bounds = absurd (is (bound, bounds))
  by_latency i j p q bound (Some needs) e is at_p at_q bounds =
      let kept = keeps j i p q needs at_p at_q e in
      let greatest = is.greatest bound bounds in
      omega (arith, ints, kept, greatest)

  pub keep_bounds : KeepBounds block numbered
  keep_bounds i j p q bound at_p at_q bounds = by_latency i j p q bound (latency block i j) refl (latency-is block i j)
      at_p at_q bounds

pub same_length : (entries : List SerialInsn) (placed : List Placed) → AreSame entries placed
    → length placed ≡ length entries
same_length [] [] same = refl
same_length [] (p ∷ placed) same = absurd same
same_length (e ∷ entries) [] same = absurd same
same_length (e ∷ entries) (p ∷ placed) same = ap suc (same_length entries placed same.1)

-- the instructions of the block, with its lines, in the packets' order
module _ (block : Serial) (packed : Packed) (is : IsSchedule block packed) where
  abbrev own : List Placed
  own = lined block.insns is.numbered

  in_order : IsCarried issue_of own packed.placed
  in_order = carry issue_of own is.numbered packed.placed (same_issues block.insns is.numbered is.numbering.same)
      (IsPermutation-sym packed.placed is.numbered is.numbering.all)

  placing : IsPlacing block.insns own
  placing = record {
    count = as_many block.insns is.numbered is.numbering.same;
    stands = stands_there block.insns is.numbered is.numbering.same;
    keeps = λ i j p q bound at_p at_q bounds.
        (let one = own_of block.insns is.numbered i p at_p in
        let other = own_of block.insns is.numbered j q at_q in
        subst (λ (n : ℕ). (pos n +ℤ bound) ≤ℤ pos q.cycle) one.cycle
        (subst (λ (n : ℕ). (pos one.own.cycle +ℤ bound) ≤ℤ pos n) other.cycle
        (is.numbering.keeps i j one.own other.own bound one.at other.at bounds)));
  }

  is_packed : IsPacked block.insns in_order.carried
  is_packed = record {
    placed = own;
    placing = placing;
    members = λ p. (
      λ h. Contains-permutation in_order.carried own p (IsPermutation-sym own in_order.carried in_order.permuted) h,
      λ h. Contains-permutation own in_order.carried p in_order.permuted h,
    );
  }

pub schedules_packed : (block : Serial) (packed : Packed) → SchedulesArePacked block packed
schedules_packed block packed is =
    let made = in_order block packed is in
    let same : issues_of packed.placed ≡ issues_of made.carried = sym made.agrees in
    record {
      lined = record { label = packed.label; cycles = packed.cycles; placed = made.carried };
      alike = ap (λ (issues : List Issue). unlined_of packed issues) same;
      is = record {
        branch_last = is.branch_last;
        holds = is_packed block packed is;
        cycles = is.own_length
            ∙ ap length_of same;
      };
    }
  where
    unlined_of : Packed → List Issue → Unlined
    unlined_of block issues = record { label = block.label; cycles = block.cycles; issues = issues }

-- numbered packets that keep all distances are a schedule
pub is_schedule : (block : Serial) (packed : Packed) (numbered : List Placed)
    → IsTrue (branch_last (operations block.insns)) → packed.cycles ≡ cycles_of packed.placed
    → AreNumbered block.insns packed.placed numbered → ((j : ℕ) → KeepsAll (insns_of block) numbered j)
    → IsSchedule block packed
is_schedule block packed numbered last own are keeps = record {
  branch_last = last;
  own_length = own;
  numbered = numbered;
  numbering = record {
    same = are.same;
    all = subst (λ (ps : List Placed). IsPermutation packed.placed ps) (append-nil numbered) are.all;
    keeps = keep_bounds (insns_of block) numbered keeps;
  };
}
