-- Instances of a pipelined loop keep their distances, in any number of passes.
use Rattle.std.proofs.Common.{Bool, true, ◌≡◌, ℕ, ◌+◌, ◌^◌, ◌<◌, pos, ◌+ℤ◌, ◌≤ℤ◌, List, ◌++◌, map, length, get_or}
use Rattle.std.proofs.Common.{Some, refl, sym, ◌∙◌, ap, subst, ◌⊎◌, inl, inr, arith, ℤ}
use Rattle.std.specs.Prelude.{slice_get, option_map}
use Rattle.std.proofs.lemmas.Option.{same_Some, slice_get-map, slice_get-get_or, slice_get_within}
use Rattle.c62_op.specs.declared.register.Reg.{Reg}
use Rattle.c62_insn.specs.declared.insn.Insn.{Insn}
use Rattle.c62_rules.specs.Dependence.{IsBound}
use Rattle.c62_read.specs.declared.block.SerialInsn.{SerialInsn}
use Rattle.c62_serial.specs.State.{Machine, IsSound}
use Rattle.c62_packet.specs.declared.placed.Placed.{Placed}
use Rattle.c62_meaning.specs.Instances.{IsOfData, IsOfMemory, DataBounds, MetBounds}
use Rattle.c62_meaning.specs.Laws.{StandsAs}
use Rattle.c62_meaning.proofs.Instances.{no_entry}
use Rattle.c62_loop.specs.Counter.{work_of}
use Rattle.c62_loop.specs.Loop.{Region, loop_path, trips_of, Pipelined, interval}
use Rattle.c62_loop.specs.Stage.{AreParted, KeepDistances}
use Rattle.c62_loop.specs.Whole.{insns_in, work_path, work_insns, entry_of, IsInTurn, AreApart}
use Rattle.c62_loop.proofs.Lists.{at_place, get_cases, get_front, get_back, front_at, from_mapped}
use Rattle.c62_loop.proofs.Between.{asked_there}
use Rattle.c62_loop.proofs.Core.{Core}
use Rattle.c62_loop.proofs.Standing.{insns_are, stand_at}
use Rattle.c62_loop.proofs.PassControl.{control_of}
use Rattle.c62_loop.proofs.Turning.{turn_at, control_turn}
use Rattle.c62_loop.proofs.Asked.{turn_keeps, work_free, begin_keeps, behind_each}
use Rattle.c62_loop.proofs.WorkAlone.{Alone, insn_same, same_before, is_control, work_at, insn_of_control, insn_alone}
use Rattle.c62_loop.proofs.WorkAlone.{is_work, meet_alone, in_order, between}

module _ (promised : Insn → Insn → Bool) (region : Region) (loop : Pipelined) (most passes : ℕ)
    (m : Core promised region loop most passes) (some : 0 < passes) (opening : Machine) (sound : IsSound opening)
    (begins : trips_of region opening ≡ most + passes) (small : most + passes < 2 ^ 32)
    (promise : AreApart promised region (most + passes) opening) where
  abbrev counter : Reg
  counter = region.counter

  abbrev trips : ℕ
  trips = most + passes

  abbrev control : List Placed
  control = control_of m.control (interval loop) passes

  abbrev entries : List SerialInsn
  entries = map entry_of control

  abbrev work : List SerialInsn
  work = work_of counter (loop_path region trips)

  abbrev path : List SerialInsn
  path = region.before ++ (entries ++ work)

  -- without the control
  abbrev alone : List SerialInsn
  alone = work_path region trips

  abbrev before : List Placed
  before = m.before

  abbrev rest : List Placed
  rest = m.rest

  -- ---- where a number lies

  abbrev Lies : ℕ → Placed → Type 0
  Lies i p = (slice_get before i ≡ Some p)
      ⊎ (((k : ℕ) × (i ≡ length before + k) × (slice_get control k ≡ Some p))
      ⊎ ((k : ℕ) × (i ≡ length before + (length control + k)) × (slice_get rest k ≡ Some p)))

  lies : (i : ℕ) (p : Placed) → slice_get (before ++ (control ++ rest)) i ≡ Some p → Lies i p
  lies i p at = grind (arith, get_cases)

  abbrev insns : List Insn
  insns = insns_in path

  -- ---- distances

  all_keep : KeepDistances promised (work_insns region) trips (before ++ rest)
  all_keep = m.keeps

  -- the same, of any spelling of the path
  abbrev KeepOn : List Insn → Type 0
  KeepOn path = (i j : ℕ) (p q : Placed) (bound : ℤ) → slice_get (before ++ rest) i ≡ Some p
      → slice_get (before ++ rest) j ≡ Some q → (asked : DataBounds path i j bound)
      → (IsOfMemory asked.bounds.applies → promised asked.bounds.first asked.bounds.second ≡ true
      → AreParted (work_insns region) trips i j → ⊥) → (pos p.cycle +ℤ bound) ≤ℤ pos q.cycle

  alone_keep : KeepOn (insns_in alone)
  alone_keep = subst (λ path. KeepOn path) (sym (insns_are region trips)) all_keep

  abbrev Keeps : ℕ → ℕ → Placed → Placed → ℤ → Type 0
  Keeps i j p q bound = MetBounds path opening insns i j bound → (pos p.cycle +ℤ bound) ≤ℤ pos q.cycle

  keeps_alone : (i j a b : ℕ) (p q : Placed) (bound : ℤ) → Alone before control i a → Alone before control j b
      → slice_get (before ++ rest) a ≡ Some p → slice_get (before ++ rest) b ≡ Some q → Keeps i j p q bound
  keeps_alone i j a b p q bound is_i is_j here there met =
      let lt : i < j = met.bounds.bounds.before in
      let asked = asked_there insns (insns_in alone) i j a b lt
      (in_order promised region loop most passes m some opening sound begins small i j a b is_i is_j lt)
      (insn_alone promised region loop most passes m some opening sound begins small i a is_i)
      (insn_alone promised region loop most passes m some opening sound begins small j b is_j)
      (between promised region loop most passes m some opening sound begins small i j a b is_i is_j)
      bound met.bounds in
      alone_keep a b p q bound here there asked.0
      (λ of t parted.
      promise a b asked.0.bounds.first asked.0.bounds.second asked.0.bounds.is_first asked.0.bounds.is_second t parted
      (meet_alone promised region loop most passes m some opening sound begins small i j a b is_i is_j
      (met.met (asked.3 of))))

  behind_before : (i j k : ℕ) (p q : Placed) (bound : ℤ) → slice_get before i ≡ Some p → j ≡ length before + k
      → slice_get control k ≡ Some q → Keeps i j p q bound
  behind_before i j k p q bound here e there met =
      let entry : SerialInsn = get_or region.before i no_entry in
      let b : length before ≡ length region.before = same_before promised region loop most passes m some opening sound
      begins small in
      let l : i < length before = slice_get_within before i p here in
      let at : slice_get region.before i ≡ Some entry = slice_get-get_or region.before i no_entry (omega arith) in
      let stands : StandsAs entry p = stand_at region.before before m.stand_before i entry p at here in
      let one : entry.insn ≡ met.bounds.bounds.first = same_Some entry.insn met.bounds.bounds.first
      (sym (insn_same path region.before i i (get_front region.before (entries ++ work) i (omega arith))
      ∙ slice_get-map (λ (x : SerialInsn). x.insn) region.before i
      ∙ ap (λ o. option_map (λ (x : SerialInsn). x.insn) o) at) ∙ met.bounds.bounds.is_first) in
      let two : q.insn ≡ met.bounds.bounds.second = same_Some q.insn met.bounds.bounds.second
      (sym (insn_of_control promised region loop most passes m some opening sound begins small j k q e there)
      ∙ met.bounds.bounds.is_second) in
      subst (λ x. (b : IsBound insns i j x met.bounds.bounds.second bound) → IsOfData b
      → (pos p.cycle +ℤ bound) ≤ℤ pos q.cycle) one
      (subst (λ x. (b : IsBound insns i j entry.insn x bound) → IsOfData b → (pos p.cycle +ℤ bound) ≤ℤ pos q.cycle) two
      (begin_keeps counter loop.label insns i j entry p q bound stands
      (is_control promised region loop most passes m some opening sound begins small q
      (at_place control k q there))
      (behind_each counter m.control (interval loop) before m.begins passes p q
      (at_place before i p here) (at_place control k q there))))
      met.bounds.bounds.applies met.bounds.of_data

  both_control : (i j k n : ℕ) (p q : Placed) (bound : ℤ) → i ≡ length before + k → slice_get control k ≡ Some p
      → j ≡ length before + n → slice_get control n ≡ Some q → Keeps i j p q bound
  both_control i j k n p q bound e here f there met =
      let lt : i < j = met.bounds.bounds.before in
      let one : p.insn ≡ met.bounds.bounds.first = same_Some p.insn met.bounds.bounds.first
      (sym (insn_of_control promised region loop most passes m some opening sound begins small i k p e here)
      ∙ met.bounds.bounds.is_first) in
      let two : q.insn ≡ met.bounds.bounds.second = same_Some q.insn met.bounds.bounds.second
      (sym (insn_of_control promised region loop most passes m some opening sound begins small j n q f there)
      ∙ met.bounds.bounds.is_second) in
      let turn : IsInTurn counter p q
      = turn_at counter control
      (control_turn counter m.control (interval loop) m.steering.early_turn m.steering.kernel_turn
      m.steering.seam m.steering.next passes) k n p q (omega arith) here there in
      subst (λ x. (b : IsBound insns i j x met.bounds.bounds.second bound) → IsOfData b
      → (pos p.cycle +ℤ bound) ≤ℤ pos q.cycle) one
      (subst (λ x. (b : IsBound insns i j p.insn x bound) → IsOfData b → (pos p.cycle +ℤ bound) ≤ℤ pos q.cycle) two
      (turn_keeps counter loop.label insns i j p q bound
      (is_control promised region loop most passes m some opening sound begins small p
      (at_place control k p here))
      (is_control promised region loop most passes m some opening sound begins small q
      (at_place control n q there)) turn))
      met.bounds.bounds.applies met.bounds.of_data

  then_work : (i j k n : ℕ) (p : Placed) (bound : ℤ) → i ≡ length before + k → slice_get control k ≡ Some p
      → j ≡ length before + (length control + n) → MetBounds path opening insns i j bound → ⊥
  then_work i j k n p bound e here f met =
      let one : p.insn ≡ met.bounds.bounds.first = same_Some p.insn met.bounds.bounds.first
      (sym (insn_of_control promised region loop most passes m some opening sound begins small i k p e here)
      ∙ met.bounds.bounds.is_first) in
      let r = from_mapped (λ (entry : SerialInsn). entry.insn) work n met.bounds.bounds.second
      (sym (insn_same path work j n
      (work_at promised region loop most passes m some opening sound begins small j n f))
      ∙ met.bounds.bounds.is_second) in
      subst (λ x. (b : IsBound insns i j x met.bounds.bounds.second bound) → IsOfData b → ⊥) one
      (subst (λ x. (b : IsBound insns i j p.insn x bound) → IsOfData b → ⊥) (sym r.2)
      (work_free counter loop.label insns i j p r.0 bound
      (is_control promised region loop most passes m some opening sound begins small p
      (at_place control k p here))
      (is_work promised region loop most passes m some opening sound begins small r.0
      (at_place work n r.0 r.1))))
      met.bounds.bounds.applies met.bounds.of_data

  pub instances_keep : (i j : ℕ) (p q : Placed) (bound : ℤ) → slice_get (before ++ (control ++ rest)) i ≡ Some p
      → slice_get (before ++ (control ++ rest)) j ≡ Some q → Keeps i j p q bound
  instances_keep i j p q bound at_p at_q met = by_part (lies i p at_p) (lies j q at_q)
    where
      -- where one above the label, or of the work, stands without the control
      first : slice_get before i ≡ Some p → Alone before control i i × (slice_get (before ++ rest) i ≡ Some p)
      first here = (inl (refl, slice_get_within before i p here), front_at before rest i p here)

      second : slice_get before j ≡ Some q → Alone before control j j × (slice_get (before ++ rest) j ≡ Some q)
      second here = (inl (refl, slice_get_within before j q here), front_at before rest j q here)

      later : (n k : ℕ) (x : Placed) → n ≡ length before + (length control + k) → slice_get rest k ≡ Some x
          → Alone before control n (length before + k) × (slice_get (before ++ rest) (length before + k) ≡ Some x)
      later n k x e at = (inr (k, e, refl), get_back before rest (length before + k) k refl ∙ at)

      by_part : Lies i p → Lies j q → (pos p.cycle +ℤ bound) ≤ℤ pos q.cycle
      by_part (inl here) (inl there) =
          let a = first here in let b = second there in keeps_alone i j i j p q bound a.0 b.0 a.1 b.1 met
      by_part (inl here) (inr (inl (k, e, there))) = behind_before i j k p q bound here e there met
      by_part (inl here) (inr (inr (k, e, there))) =
          let a = first here in
          grind (arith, later j k q e there, keeps_alone i j i)
      by_part (inr (inl (k, e, here))) (inl there) =
          let l : j < length before = slice_get_within before j q there in absurd (omega arith)
      by_part (inr (inl (k, e, here))) (inr (inl (n, f, there))) = both_control i j k n p q bound e here f there met
      by_part (inr (inl (k, e, here))) (inr (inr (n, f, there))) = absurd (then_work i j k n p bound e here f met)
      by_part (inr (inr (k, e, here))) (inl there) =
          let l : j < length before = slice_get_within before j q there in absurd (omega arith)
      by_part (inr (inr (k, e, here))) (inr (inl (n, f, there))) =
          let l : n < length control = slice_get_within control n q there in absurd (omega arith)
      by_part (inr (inr (k, e, here))) (inr (inr (n, f, there))) =
          let a = later i k p e here in
          grind (arith, later j n q f there, keeps_alone i j)
