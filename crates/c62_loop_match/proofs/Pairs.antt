-- All pairs of a path keep their distances.
use Rattle.std.proofs.Common.{◌≡◌, ℕ, zero, suc, ◌+◌, ◌-◌, ◌*◌, ◌<◌, ◌≤◌, Bool, List, ◌++◌, length, map, sym, ◌∙◌, ap}
use Rattle.std.proofs.Common.{subst, ⊎_elim, arith}
use Rattle.std.proofs.lemmas.Bool.{cases_lt}
use Rattle.c62_insn.specs.declared.insn.Insn.{Insn}
use Rattle.c62_pair.specs.declared.uses.Uses.{Uses}
use Rattle.c62_pair.specs.Uses.{insns_in}
use Rattle.c62_packet.specs.declared.placed.Placed.{Placed}
use Rattle.c62_loop.specs.Stage.{Straights, insns_of, rounds_with, KeepDistances}
use Rattle.std.proofs.lemmas.List.{length-append, length-map}
use Rattle.c62_loop_match.specs.declared.path.Work.{Work}
use Rattle.c62_loop_match.specs.Path.{straights_of, instance}
use Rattle.c62_loop_match.specs.declared.path.Instance.{Instance}
use Rattle.c62_loop_match.specs.declared.borders.Borders.{Borders}
use Rattle.c62_loop_match.specs.declared.early.Early.{Early}
use Rattle.c62_loop_match.specs.Distances.{Parts, KeepsParted}
use Rattle.c62_loop_match.specs.Early.{ComesEarly}
use Rattle.c62_loop_match.proofs.Bounds.{all_kept}

insns_count : (straights : Straights) (trips : ℕ)
    → length (insns_of straights trips) ≡ length straights.before +
    (trips * length straights.body + length straights.behind)
insns_count straights trips = length-append straights.before (rounds_with straights.body trips straights.behind)
    ∙ ap (λ n. length straights.before + n) (rounds_count straights.body straights.behind trips)
  where
    rounds_count : (body behind : List Insn) (trips : ℕ)
        → length (rounds_with body trips behind) ≡ trips * length body + length behind
    rounds_count body behind zero = omega arith
    rounds_count body behind (suc trips) =
        let rest : length (rounds_with body trips behind) ≡ trips * length body + length behind = rounds_count body
        behind trips in
        let all : length (body ++ rounds_with body trips behind) ≡ length body + length
        (rounds_with body trips behind) = length-append body (rounds_with body trips behind) in
        let e : suc trips * length body ≡ length body + trips * length body = omega arith in
        omega arith

-- the borders of a path are those of its instructions
borders_are : (work : Work) (trips : ℕ) (path : List Uses) (borders : Borders)
    → insns_in path ≡ insns_of (straights_of work) trips
    → borders.begin ≡ length work.before.items → borders.body ≡ length work.body.items
    → borders.end ≡ length path - length work.behind.items → borders.trips ≡ trips
    → Parts (straights_of work) borders
borders_are work trips path borders is b n e t =
    let many : length (insns_in path) ≡ length path = length-map path (λ (one : Uses). one.insn) in
    let before : length (insns_in work.before.items) ≡ length work.before.items = length-map work.before.items
    (λ (one : Uses). one.insn) in
    let block : length (insns_in work.body.items) ≡ length work.body.items = length-map work.body.items
    (λ (one : Uses). one.insn) in
    let behind : length (insns_in work.behind.items) ≡ length work.behind.items = length-map work.behind.items
    (λ (one : Uses). one.insn) in
    let whole : length (insns_in path) ≡ length (insns_in work.before.items) +
    (trips * length (insns_in work.body.items) + length (insns_in work.behind.items)) = ap length is
    ∙ insns_count (straights_of work) trips in
    let times_block : borders.trips * borders.body ≡ trips * length (insns_in work.body.items) = ap
    (λ k. k * borders.body) t ∙ ap (λ k. trips * k) (n ∙ sym block) in
    record { begins = b ∙ sym before; block = n ∙ sym block; ends = omega arith }

module _ (promised : Insn → Insn
    → Bool) (work : Work) (trips : ℕ) (path seen : List Uses) (instances times : List Instance)
    (placed : List Placed) (borders : Borders)
    (is : insns_in path ≡ insns_of (straights_of work) trips) (placed_are : instances ≡ map instance placed)
    (same : seen ≡ path) (same_times : times ≡ instances)
    (count : length instances ≡ length path) (b : borders.begin ≡ length work.before.items)
    (n : borders.body ≡ length work.body.items)
    (e : borders.end ≡ length path - length work.behind.items) (t : borders.trips ≡ trips) where
  parts : Parts (straights_of work) borders
  parts = borders_are work trips path borders is b n e t

  pub passes_kept : ((straights : Straights) → Parts straights borders → (i j : ℕ) → i < j → j < length seen
      → KeepsParted promised straights borders.trips (insns_in seen) times i j)
      → KeepDistances promised (straights_of work) trips placed
  passes_kept keeps =
      let many : length (insns_in path) ≡ length path = length-map path (λ (one : Uses). one.insn) in
      let few : length placed ≡ length instances = sym (ap length placed_are ∙ length-map placed instance) in
      let found : (i j : ℕ) → i < j → j < length path
      → KeepsParted promised (straights_of work) trips (insns_in path) instances i j
      = subst (λ k. (i j : ℕ) → i < j → j < length path
      → KeepsParted promised (straights_of work) k (insns_in path) instances i j) t
      (subst (λ xs. (i j : ℕ) → i < j → j < length xs
      → KeepsParted promised (straights_of work) borders.trips (insns_in xs) instances i j) same
      (subst (λ ns. (i j : ℕ) → i < j → j < length seen
      → KeepsParted promised (straights_of work) borders.trips (insns_in seen) ns i j) same_times
      (keeps (straights_of work) parts))) in
      all_kept promised (straights_of work) trips (insns_in path) placed is
      (λ i j l m. subst (λ ns. KeepsParted promised (straights_of work) trips (insns_in path) ns i j) placed_are
      (found i j l (omega arith))) (omega arith)

  pub passes_early : (early : Early)
      → ((straights : Straights) → Parts straights borders
      → ComesEarly promised straights borders.trips (insns_in seen) times early)
      → ComesEarly promised (straights_of work) trips (insns_of (straights_of work) trips) (map instance placed) early
  passes_early early comes =
      subst (λ xs. ComesEarly promised (straights_of work) trips xs (map instance placed) early) (ap insns_in same ∙ is)
      (subst (λ ns. ComesEarly promised (straights_of work) trips (insns_in seen) ns early) (same_times ∙ placed_are)
      (subst (λ k. ComesEarly promised (straights_of work) k (insns_in seen) times early) t
      (comes (straights_of work) parts)))

pub one_later : (P : ℕ → Type 0) (n : ℕ) → P n → ((k : ℕ) → 0 < k → k < n → P k) → (k : ℕ) → 0 < k → k < n + 1 → P k
one_later P n one old k some high =
    ⊎_elim {C = P k} (λ (l : k < n). old k some l) (λ (l : n ≤ k). (let s : n ≡ k = omega arith in subst P s one))
    (cases_lt k n)
