-- Counting, as it is asked of steering.
use Rattle.std.proofs.Common.{◌≡◌, ℕ, zero, suc, ◌+◌, ◌<◌, ◌≤◌, true, false, List, [], ◌∷◌, length, map, take}
use Rattle.std.proofs.Common.{drop, get_or, Some, refl, sym, ◌∙◌, ap, subst, ◌⊎◌, inl, inr, ⊎_elim, arith}
use Rattle.std.specs.Prelude.{slice_get, All}
use Rattle.std.proofs.lemmas.Bool.{cond-true, cond-false, false≢true}
use Rattle.std.proofs.lemmas.Bool.{cases_lt}
use Rattle.std.proofs.lemmas.Option.{none-some, same_Some}
use Rattle.std.proofs.Math.Seq.{drop-cons}
use Rattle.c62_packet.specs.declared.placed.Placed.{Placed}
use Rattle.c62_meaning.specs.Cut.{moved}
use Rattle.c62_loop.specs.Counter.{size_of, steps_on, steps_in, StopsAtZero}
use Rattle.c62_loop.specs.Loop.{Pipelined, prolog_cycles, interval, pass_start, EndsPass}
use Rattle.c62_loop.specs.Whole.{Control, entry_of, steps_of, IsControl, AreInTurn, IsSteering}
use Rattle.c62_loop_match.specs.declared.steering.Count.{Count}
use Rattle.c62_loop_match.specs.declared.steering.Rule.{Rule}
use Rattle.c62_loop_match.specs.Form.{stops}
use Rattle.c62_loop_match.specs.Steering.{CountsOne, CountsAll, CountPasses, ComeInTurn}
use Rattle.c62_loop_match.specs.Steering.CountsOne.{Lowers, Ends}
use Rattle.c62_loop_match.proofs.Forms.{stops-stops}
use Rattle.c62_loop_match.proofs.InTurn.{same_place}

-- ---- one by one

pub Onward : Rule → Count → List Placed → Count → List Placed → Type 0
Onward rule from placed count left = (last : Count) → CountsAll rule count left last → CountsAll rule from placed last

pub onward_first : (rule : Rule) (from : Count) (placed : List Placed) → Onward rule from placed from placed
unfolding Onward
onward_first rule from placed last counts = counts

pub onward_next : (rule : Rule) (from count next : Count) (placed : List Placed) (k : ℕ) (p : Placed)
    → k < length placed → p ≡ get_or placed k p → CountsOne rule count p next
    → Onward rule from placed count (drop k placed) → Onward rule from placed next (drop (k + 1) placed)
unfolding Onward
onward_next rule from count next placed k p inside at one on last counts =
    let s : suc k ≡ k + 1 = omega arith in
    let front : drop k placed ≡ p ∷ drop (k + 1) placed = drop-cons placed k p inside
    ∙ ap (λ x. x ∷ drop (suc k) placed) (sym at) ∙ ap (λ n. p ∷ drop n placed) s in
    on last (subst (λ xs. CountsAll rule count xs last) (sym front) (next, one, counts))

pub onward_all : (rule : Rule) (from count : Count) (placed : List Placed) (k : ℕ) → length placed ≤ k
    → Onward rule from placed count (drop k placed) → CountsAll rule from placed count
unfolding Onward
onward_all rule from count placed k past on = on count
    (subst (λ xs. CountsAll rule count xs count) (sym (none placed k past)) refl)
  where
    none : {X : Type 0} (xs : List X) (k : ℕ) → length xs ≤ k → drop k xs ≡ []
    none [] zero l = refl
    none [] (suc k) l = refl
    none (x ∷ xs) zero l = absurd (omega arith)
    none (x ∷ xs) (suc k) l = none xs k (omega arith)

-- ---- all

-- what counting tells of each number
record Told (rule : Rule) (loop : Pipelined) (from : Count) (placed : List Placed) (last : Count) : Type 0 where
  steps : last.steps ≡ from.steps + steps_of rule.counter placed
  passes : from.pass ≤ last.pass
  ends : last.end ≡ pass_start loop (suc last.pass)
  counts : (i : ℕ) (p : Placed) → slice_get placed i ≡ Some p → steps_on rule.counter (entry_of p) ≡ true
      → (from.steps + steps_of rule.counter (take i placed) + size_of (entry_of p) ≤ rule.most + 1)
      ⊎ StopsAtZero rule.counter (entry_of p)
  tests : (i : ℕ) (p : Placed) → slice_get placed i ≡ Some p → steps_on rule.counter (entry_of p) ≡ false
      → (pass : ℕ) × (from.pass ≤ pass) × (pass < last.pass) × EndsPass loop pass p
      × (from.steps + steps_of rule.counter (take i placed) ≡ rule.most + suc pass)
  ended : (pass : ℕ) → from.pass ≤ pass → pass < last.pass
      → (i : ℕ) × (p : Placed) × (slice_get placed i ≡ Some p) × (steps_on rule.counter (entry_of p) ≡ false)
      × EndsPass loop pass p

module _ (rule : Rule) (loop : Pipelined) (every : rule.interval ≡ interval loop) where
  nothing : (from last : Count) → from.end ≡ pass_start loop (suc from.pass) → last ≡ from → Told rule loop from [] last
  nothing from last end is = record {
    steps = ap (λ c. c.steps) is ∙ omega arith;
    passes = (let e : last.pass ≡ from.pass = ap (λ c. c.pass) is in omega arith);
    ends = ap (λ c. c.end) is ∙ end ∙ ap (λ c. pass_start loop (suc c.pass)) (sym is);
    counts = λ i p at t. absurd (none-some p at);
    tests = λ i p at f. absurd (none-some p at);
    ended = λ pass low high. (let e : last.pass ≡ from.pass = ap (λ c. c.pass) is in absurd (omega arith));
  }

  told : (from : Count) (placed : List Placed) (last : Count) → from.end ≡ pass_start loop (suc from.pass)
      → CountsAll rule from placed last → Told rule loop from placed last
  told from [] last end is = nothing from last end is
  told from (p ∷ placed) last end (next, Lowers on least steps pass ended, rest) =
      let size : steps_in rule.counter (entry_of p ∷ map entry_of placed) ≡ size_of (entry_of p) + steps_of rule.counter
      placed = cond-true _ _ _ on in
      let later = told next placed last (ended ∙ end ∙ ap (λ n. pass_start loop (suc n)) (sym pass)) rest in
      let of_rest : last.steps ≡ next.steps + steps_of rule.counter placed = later.steps in
      let more : next.pass ≤ last.pass = later.passes in
      let first : (i : ℕ) → from.steps + steps_of rule.counter (p ∷ take i placed) ≡ next.steps + steps_of rule.counter
      (take i placed)
      = λ i. (let e : steps_in rule.counter (entry_of p ∷ map entry_of (take i placed)) ≡ size_of (entry_of p) +
      steps_of rule.counter (take i placed) = cond-true _ _ _ on in omega arith) in
      record {
        steps = omega arith;
        passes = omega arith;
        ends = later.ends;
        counts = counts_at least first later;
        tests = tests_at first later;
        ended = λ m low high. (let r = later.ended m (omega arith) high in (suc r.0, r.1, r.2, r.3, r.4));
      }
    where
      counts_at : (from.steps + size_of (entry_of p) ≤ rule.most + 1) ⊎ (stops rule.counter p.insn ≡ true)
          → ((i : ℕ) → from.steps + steps_of rule.counter (p ∷ take i placed) ≡ next.steps + steps_of rule.counter
          (take i placed)) → Told rule loop next placed last
          → (i : ℕ) (x : Placed) → slice_get (p ∷ placed) i ≡ Some x → steps_on rule.counter (entry_of x) ≡ true
          → (from.steps + steps_of rule.counter (take i (p ∷ placed)) + size_of (entry_of x) ≤ rule.most + 1)
          ⊎ StopsAtZero rule.counter (entry_of x)
      counts_at least first later zero x at t = subst (λ y. (from.steps + 0 + size_of (entry_of y) ≤ rule.most + 1)
          ⊎ StopsAtZero rule.counter (entry_of y)) (same_Some p x at)
          (elim least [ inl l ↦ inl (omega (arith, l)) | inr s ↦ inr (stops-stops rule.counter (entry_of p) s) ])
      counts_at least first later (suc i) x at t = elim (later.counts i x at t) [
        | inl l ↦ (let e : from.steps + steps_of rule.counter (p ∷ take i placed) ≡ next.steps + steps_of rule.counter
            (take i placed) = first i in inl (omega (arith, l, e)))
        | inr s ↦ inr s
      ]

      tests_at : ((i : ℕ) → from.steps + steps_of rule.counter (p ∷ take i placed) ≡ next.steps + steps_of rule.counter
          (take i placed)) → Told rule loop next placed last
          → (i : ℕ) (x : Placed) → slice_get (p ∷ placed) i ≡ Some x → steps_on rule.counter (entry_of x) ≡ false
          → (m : ℕ) × (from.pass ≤ m) × (m < last.pass) × EndsPass loop m x
          × (from.steps + steps_of rule.counter (take i (p ∷ placed)) ≡ rule.most + suc m)
      tests_at first later zero x at f = absurd (false≢true (sym f
          ∙ ap (λ y. steps_on rule.counter (entry_of y)) (sym (same_Some p x at)) ∙ on))
      tests_at first later (suc i) x at f = let r = later.tests i x at f in let low : next.pass ≤ r.0 = r.1 in
          (r.0, omega arith, r.2, r.3, first i ∙ r.4)
  told from (p ∷ placed) last end (next, Ends off cycle wanted steps pass ended, rest) =
      let none : steps_in rule.counter (entry_of p ∷ map entry_of placed) ≡ steps_of rule.counter placed = cond-false _
      _ _ off in
      let later = told next placed last (ended ∙ ap (λ n. n + rule.interval) end
      ∙ ap (λ n. pass_start loop (suc from.pass) + n) every
      ∙ ap (λ n. pass_start loop (suc n)) (sym pass)) rest in
      let of_rest : last.steps ≡ next.steps + steps_of rule.counter placed = later.steps in
      let more : next.pass ≤ last.pass = later.passes in
      let first : (i : ℕ) → from.steps + steps_of rule.counter (p ∷ take i placed) ≡ next.steps + steps_of rule.counter
      (take i placed)
      = λ i. (let e : steps_in rule.counter (entry_of p ∷ map entry_of (take i placed)) ≡ steps_of rule.counter
      (take i placed) = cond-false _ _ _ off in omega arith) in
      record {
        steps = omega arith;
        passes = omega arith;
        ends = later.ends;
        counts = counts_at first later;
        tests = tests_at first later;
        ended = ended_at later;
      }
    where
      counts_at : ((i : ℕ) → from.steps + steps_of rule.counter (p ∷ take i placed) ≡ next.steps + steps_of rule.counter
          (take i placed)) → Told rule loop next placed last
          → (i : ℕ) (x : Placed) → slice_get (p ∷ placed) i ≡ Some x → steps_on rule.counter (entry_of x) ≡ true
          → (from.steps + steps_of rule.counter (take i (p ∷ placed)) + size_of (entry_of x) ≤ rule.most + 1)
          ⊎ StopsAtZero rule.counter (entry_of x)
      counts_at first later zero x at t = absurd (false≢true (sym off
          ∙ ap (λ y. steps_on rule.counter (entry_of y)) (same_Some p x at) ∙ t))
      counts_at first later (suc i) x at t = elim (later.counts i x at t) [
        | inl l ↦ (let e : from.steps + steps_of rule.counter (p ∷ take i placed) ≡ next.steps + steps_of rule.counter
            (take i placed) = first i in inl (omega (arith, l, e)))
        | inr s ↦ inr s
      ]

      here : EndsPass loop from.pass p
      here = cycle ∙ end

      tests_at : ((i : ℕ) → from.steps + steps_of rule.counter (p ∷ take i placed) ≡ next.steps + steps_of rule.counter
          (take i placed)) → Told rule loop next placed last
          → (i : ℕ) (x : Placed) → slice_get (p ∷ placed) i ≡ Some x → steps_on rule.counter (entry_of x) ≡ false
          → (m : ℕ) × (from.pass ≤ m) × (m < last.pass) × EndsPass loop m x
          × (from.steps + steps_of rule.counter (take i (p ∷ placed)) ≡ rule.most + suc m)
      tests_at first later zero x at f = (let more : next.pass ≤ last.pass = later.passes in (
        from.pass,
        omega arith,
        omega arith,
        subst (λ y. EndsPass loop from.pass y) (same_Some p x at) here,
        omega
            (arith, wanted),
      ))
      tests_at first later (suc i) x at f = let r = later.tests i x at f in let low : next.pass ≤ r.0 = r.1 in
          (r.0, omega arith, r.2, r.3, first i ∙ r.4)

      ended_at : Told rule loop next placed last → (m : ℕ) → from.pass ≤ m → m < last.pass
          → (i : ℕ) × (x : Placed) × (slice_get (p ∷ placed) i ≡ Some x) × (steps_on rule.counter (entry_of x) ≡ false)
          × EndsPass loop m x
      ended_at later m low high = ⊎_elim {C = (i : ℕ) × (x : Placed) × (slice_get (p ∷ placed) i ≡ Some x)
          × (steps_on rule.counter (entry_of x) ≡ false) × EndsPass loop m x}
          (λ (l : from.pass < m). (let r = later.ended m (omega arith) high in (suc r.0, r.1, r.2, r.3, r.4)))
          (λ (l : m ≤ from.pass).
          (let s : from.pass ≡ m = omega arith in (0, p, refl, off, subst (λ n. EndsPass loop n p) s here)))
          (cases_lt from.pass m)

-- ---- steering

pub steers : (rule : Rule) (loop : Pipelined) (prolog : ℕ) (control : Control) → prolog ≡ prolog_cycles loop
    → rule.interval ≡ interval loop
    → All (IsControl rule.counter loop.label) control.early → All (IsControl rule.counter loop.label) control.kernel
    → ComeInTurn rule.counter rule.interval control → CountPasses rule prolog control
    → IsSteering rule.counter loop rule.most control
steers rule loop prolog control begins every early kernel turns counts =
    let start : counts.first.end ≡ pass_start loop (suc counts.first.pass)
    = counts.end ∙ ap (λ n. n + rule.interval) begins ∙ ap (λ n. prolog_cycles loop + n) every
    ∙ ap (λ n. pass_start loop (suc n)) (sym counts.no_pass) in
    let one = told rule loop every counts.first control.early counts.early start counts.of_prolog in
    let other = told rule loop every counts.early control.kernel counts.last one.ends counts.of_kernel in
    let z : counts.first.steps ≡ 0 = counts.no_steps in
    let y : counts.first.pass ≡ 0 = counts.no_pass in
    let sum : counts.early.steps ≡ counts.first.steps + steps_of rule.counter control.early = one.steps in
    let total : counts.last.steps ≡ counts.early.steps + steps_of rule.counter control.kernel = other.steps in
    let grown : counts.last.steps ≡ counts.early.steps + 1 = counts.one_step in
    let passed : counts.last.pass ≡ counts.early.pass + 1 = counts.one_pass in
    let least : rule.most ≤ counts.early.steps = counts.enough in
    let last = other.ended counts.early.pass (omega arith) (omega arith) in
    record {
      early = early;
      kernel = kernel;
      early_turn = turns.early;
      kernel_turn = turns.kernel;
      seam = subst (λ qs. AreInTurn rule.counter control.early qs) (same_place control.kernel) turns.seam;
      next = subst (λ n. AreInTurn rule.counter control.kernel (map (moved n) control.kernel)) every turns.next;
      one_step = omega arith;
      enough = omega arith;
      early_counts = λ i p at t. elim (one.counts i p at t) [ inl l ↦ inl (omega (arith, l, z)) | inr s ↦ inr s ];
      kernel_counts = λ i p at t. elim (other.counts i p at t)
          [ inl l ↦ inl (omega (arith, l, z, sum)) | inr s ↦ inr s ];
      ahead = counts.early.pass;
      early_tests = λ i p at f.
          (let r = one.tests i p at f in let e : counts.first.steps + steps_of rule.counter (take i control.early) ≡
          rule.most + suc r.0 = r.4 in (r.0, r.3, omega arith));
      early_passes = λ pass low. one.ended pass (omega arith) low;
      kernel_tests = λ i p at f. (let r = other.tests i p at f in
          let low : counts.early.pass ≤ r.0 = r.1 in
          let high : r.0 < counts.last.pass = r.2 in
          let is : r.0 ≡ counts.early.pass = omega arith in
          let e : counts.early.steps + steps_of rule.counter (take i control.kernel) ≡ rule.most + suc r.0 = r.4 in
          (subst (λ n. EndsPass loop n p) is r.3, omega arith));
      kernel_pass = (last.0, last.1, last.2, last.3);
    }
