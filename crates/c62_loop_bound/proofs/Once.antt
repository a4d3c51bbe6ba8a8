-- The kernel holds an instance of its own for each instruction of the loop.
use Rattle.std.proofs.Common.{arith, Bool, true, false, not, ◌&&◌, ◌≡◌, ℕ, zero, suc, ◌+◌, ◌-◌, ◌<◌, ◌≤◌, ℤ, pos}
use Rattle.std.proofs.Common.{◌+ℤ◌}
use Rattle.std.proofs.Common.{◌≤ℤ◌, List, [], ◌∷◌, length, map, Option, Some, None, refl, sym, ap, ◌∙◌, subst}
use Rattle.std.proofs.Common.{⊎_elim}
use Rattle.std.specs.Prelude.{slice_get}
use Rattle.std.proofs.lemmas.Bool.{cases_lt, and_parts, false≢true}
use Rattle.std.proofs.lemmas.Int.{ints}
use Rattle.std.proofs.lemmas.Option.{none-some, same_Some, slice_get-get_or, slice_get_within, get_or_from_slice_get}
use Rattle.c62_op.specs.declared.register.Reg.{Reg}
use Rattle.c62_op.specs.Shape.{is_branch}
use Rattle.c62_op.specs.Takes.{same_reg}
use Rattle.c62_op.proofs.Registers.{same_reg-refl}
use Rattle.c62_insn.specs.declared.insn.Insn.{Insn}
use Rattle.c62_insn.specs.Insn.{IsSameInsn, op_of, operands_of, cond_of}
use Rattle.c62_rules.specs.Dependence.{IsBound}
use Rattle.c62_rules.specs.Dependence.IsBound.{ReadAfterWrite, WriteAfterRead, WriteAfterWrite, AfterStore}
use Rattle.c62_rules.specs.Dependence.IsBound.{StoreAfterLoad, BeforeBranch}
use Rattle.c62_rules.proofs.Twins.{are_in_order}
use Rattle.c62_read.specs.declared.block.SerialInsn.{SerialInsn}
use Rattle.c62_packet.specs.declared.placed.Placed.{Placed}
use Rattle.c62_meaning.specs.Cut.{moved}
use Rattle.c62_meaning.specs.Instances.{IsOfData, DataBounds}
use Rattle.c62_meaning.specs.Laws.{StandsAs}
use Rattle.c62_meaning.proofs.Lookup.{In, Contains_from_In}
use Rattle.c62_pair.specs.RegSet.{reg_in}
use Rattle.c62_loop.specs.Counter.{touches, IsCounted, work_of}
use Rattle.c62_loop.specs.Loop.{Region, Pipelined, IsCountedLoop}
use Rattle.c62_loop.specs.Stage.{Stage, cycles_in, placed_of, insns_of, begin_of}
use Rattle.c62_loop.specs.Whole.{IsStageOf, AreStagesOf, insns_in, IsPipelining}
use Rattle.c62_loop.proofs.Counting.{in_work}
use Rattle.c62_loop.proofs.Instances.{instance_pass}
use Rattle.c62_loop.proofs.Lists.{at_place, place_of, from_mapped}
use Rattle.c62_loop_match.specs.declared.promise.Promise.{Promise}
use Rattle.c62_loop_match.specs.Promise.{base_in, bases_apart, promises}
use Rattle.c62_loop_bound.proofs.Sums.{AreOnce}
use Rattle.c62_loop_bound.proofs.Paths.{begins_later, insn_in}
use Rattle.c62_loop_bound.proofs.Instances.{straights, body, places, all_keep, stage_of, early_of, few_early}
use Rattle.c62_loop_bound.proofs.Instances.{no_stage, placed_at}

-- ---- lists

pub once_from_places : {X : Type 0} (xs : List X)
    → ((i j : ℕ) (x : X) → slice_get xs i ≡ Some x → slice_get xs j ≡ Some x
    → i ≡ j) → AreOnce xs
once_from_places [] same = tt
once_from_places (x ∷ xs) same = (
  λ h. (let r = place_of xs x h in let e : 0 ≡ suc r.0 = same 0 (suc r.0) x refl r.1 in absurd (omega (arith, e))),
  once_from_places xs (λ i j y at_i at_j.
      (let e : suc i ≡ suc j = same (suc i) (suc j) y at_i at_j in omega (arith, e))),
)

-- ---- stages

-- the entry of a stage
pub stage_at : (most : ℕ) (entries : List SerialInsn) (stages : List Stage) → AreStagesOf most entries stages → (i : ℕ)
    (stage : Stage) → slice_get stages i ≡ Some stage
    → (entry : SerialInsn) × (slice_get entries i ≡ Some entry) × IsStageOf most entry stage
stage_at most entries [] h i stage at = absurd (none-some stage at)
stage_at most [] (s ∷ stages) h i stage at = absurd h
stage_at most (e ∷ entries) (s ∷ stages) h zero stage at =
    (e, refl, subst (λ z. IsStageOf most e z) (same_Some s stage at) h.0)
stage_at most (e ∷ entries) (s ∷ stages) h (suc i) stage at = stage_at most entries stages h.1 i stage at

-- ---- no promise is of an instruction and its like

not_apart : (promise : Promise) (base : Option Reg) → bases_apart promise.bases base base ≡ true → ⊥
not_apart promise None h = false≢true h
not_apart promise (Some reg) h =
    let one = and_parts (reg_in promise.bases reg) (reg_in promise.bases reg && not (same_reg reg reg)) h in
    let two = and_parts (reg_in promise.bases reg) (not (same_reg reg reg)) one.1 in
    false≢true (sym (ap not (same_reg-refl reg)) ∙ two.1)

pub not_promised : (promise : Promise) (p q : Insn) → operands_of p ≡ operands_of q → promises promise p q ≡ true → ⊥
not_promised promise p q same h =
    not_apart promise (base_in (operands_of q))
    (subst (λ o. bases_apart promise.bases (base_in o) (base_in (operands_of q)) ≡ true) same h)

-- a bound on what is no branch is of registers or memory
of_data : {path : List Insn} {i j : ℕ} (p q : Insn) {bound : ℤ} (applies : IsBound path i j p q bound)
    → is_branch (op_of q) ≡ false → IsOfData applies
of_data p q (ReadAfterWrite reg delay w r e) straight = tt
of_data p q (WriteAfterRead reg delay w r e) straight = tt
of_data p q (WriteAfterWrite reg a b v w x e) straight = tt
of_data p q (AfterStore s l x e) straight = tt
of_data p q (StoreAfterLoad l s x e) straight = tt
of_data p q (BeforeBranch b e) straight = absurd (false≢true (sym straight ∙ b))

module _ (promise : Promise) (region : Region) (counted : IsCountedLoop region) (loop : Pipelined) (most : ℕ)
    (m : IsPipelining (promises promise) region loop most) where
  abbrev promised : Insn → Insn → Bool
  promised = promises promise

  abbrev size : ℕ
  size = length (body promised region loop most m)

  abbrev stage : ℕ → Stage
  stage a = stage_of promised region loop most m a

  -- an instruction of the work, and no branch
  pub record Entry (a : ℕ) : Type 0 where
    pub entry : SerialInsn
    pub at : slice_get (body promised region loop most m) a ≡ Some entry.insn
    pub stands : StandsAs entry (stage a).kernel
    pub free : touches region.counter entry ≡ false
    pub straight : is_branch (op_of entry.insn) ≡ false

  pub entry_at : (a : ℕ) → a < size → Entry a
  entry_at a l =
      let n : length m.schedule.stages ≡ size = (places promised region loop most m).body in
      let at : slice_get m.schedule.stages a ≡ Some (stage a)
      = slice_get-get_or m.schedule.stages a no_stage (omega (arith, l, n)) in
      let r = stage_at most (work_of region.counter region.body) m.schedule.stages m.body a (stage a) at in
      let free = in_work region.counter region.body r.0 (at_place (work_of region.counter region.body) a r.0 r.1) in
      let c = Contains_from_In r.0 region.body free.0 in
      let counts : IsCounted region.counter region.number r.0 = subst
      (λ z. IsCounted region.counter region.number z) c.2 (counted.body c.0 r.0 c.1) in
      record {
        entry = r.0;
        at = at_insn (work_of region.counter region.body) a r.0 r.1;
        stands = r.2.kernel;
        free = free.1;
        straight = counts.other free.1;
      }
    where
      at_insn : (entries : List SerialInsn) (k : ℕ) (entry : SerialInsn) → slice_get entries k ≡ Some entry
          → slice_get (insns_in entries) k ≡ Some entry.insn
      at_insn [] k entry e = absurd (none-some entry e)
      at_insn (x ∷ entries) zero entry e = ap (λ (z : SerialInsn). Some z.insn) (same_Some x entry e)
      at_insn (x ∷ entries) (suc k) entry e = at_insn entries k entry e

  -- ---- two of one cycle

  abbrev passes : ℕ
  passes = suc most

  abbrev path : List Insn
  path = insns_of (straights promised region loop most m) (most + passes)

  abbrev placed : List Placed
  placed = placed_of m.schedule (most + passes) passes

  -- of two that are the same the later one isn't issued in the cycle of the earlier one
  not_at_once : (i j : ℕ) (p q : Insn) (x y : Placed) → i < j → slice_get path i ≡ Some p → slice_get path j ≡ Some q
      → IsSameInsn p q → is_branch (op_of p) ≡ false → slice_get placed i ≡ Some x → slice_get placed j ≡ Some y
      → x.cycle ≡ y.cycle → ⊥
  not_at_once i j p q x y lt at_p at_q same straight at_x at_y cycles =
      let bounds = are_in_order path i j p q at_p at_q lt same straight in
      let one : p ≡ bounds.first = same_Some p bounds.first (sym at_p ∙ bounds.is_first) in
      let two : q ≡ bounds.second = same_Some q bounds.second (sym at_q ∙ bounds.is_second) in
      let other : is_branch (op_of bounds.second) ≡ false = ap (λ z. is_branch (op_of z)) (sym two)
      ∙ ap is_branch (sym same.op) ∙ straight in
      let asked : DataBounds path i j (pos 1) = record
      { bounds = bounds; of_data = of_data bounds.first bounds.second bounds.applies other } in
      let alike : operands_of bounds.first ≡ operands_of bounds.second = ap operands_of (sym one) ∙ same.operands
      ∙ ap operands_of two in
      let kept : (pos x.cycle +ℤ pos 1) ≤ℤ pos y.cycle
      = all_keep promised region loop most m passes (omega arith) i j x y (pos 1) at_x at_y asked
      (λ memory kept parted. not_promised promise bounds.first bounds.second alike kept) in
      omega (arith, ints, kept, cycles)

  -- the iteration whose instance is issued when so many passes are over
  abbrev trip : ℕ → ℕ
  trip a = early_of promised region loop most m a + most

  abbrev there : ℕ → ℕ
  there a = begin_of (straights promised region loop most m) (trip a) + a

  insn_there : (a : ℕ) → a < size → (insn : Insn) → slice_get (body promised region loop most m) a ≡ Some insn
      → slice_get path (there a) ≡ Some insn
  insn_there a l insn at =
      let few : early_of promised region loop most m a ≤ most = few_early promised region loop most m a l in
      let trips : most + passes ≡ trip a + suc (most - early_of promised region loop most m a) = omega (arith, few) in
      ap (λ n. slice_get (insns_of (straights promised region loop most m) n) (there a)) trips
      ∙ insn_in (straights promised region loop most m) (trip a) (most - early_of promised region loop most m a) a l
      ∙ at

  placed_there : (a : ℕ) → a < size → slice_get placed (there a) ≡ Some (moved (cycles_in m.schedule.interval most)
      (stage a).kernel)
  placed_there a l =
      let few : early_of promised region loop most m a ≤ most = few_early promised region loop most m a l in
      let trips : most + passes ≡ trip a + suc (most - early_of promised region loop most m a) = omega (arith, few) in
      let same : trip a - early_of promised region loop most m a ≡ most = omega arith in
      ap (λ n. slice_get (placed_of m.schedule n passes) (there a)) trips
      ∙ placed_at promised region loop most m passes (trip a) (most - early_of promised region loop most m a) a l
      ∙ ap Some (instance_pass m.schedule.interval (stage a) passes (trip a) (omega arith) (omega arith)
      ∙ ap (λ n. moved (cycles_in m.schedule.interval n) (stage a).kernel) same)

  abbrev Differ : ℕ → ℕ → Type 0
  Differ a b = (stage a).kernel ≡ (stage b).kernel → ⊥

  -- two numbers of the path whose instances would be one
  at_order : (a b : ℕ) → a < size → b < size → there a < there b → Differ a b
  at_order a b l u before same =
      let x = entry_at a l in
      let y = entry_at b u in
      let one : IsSameInsn x.entry.insn (stage a).kernel.insn = x.stands.insn in
      let two : IsSameInsn y.entry.insn (stage b).kernel.insn = y.stands.insn in
      let alike : IsSameInsn x.entry.insn y.entry.insn = record {
        op = one.op ∙ ap (λ (p : Placed). op_of p.insn) same ∙ sym two.op;
        operands = one.operands ∙ ap (λ (p : Placed). operands_of p.insn) same ∙ sym two.operands;
        cond = one.cond ∙ ap (λ (p : Placed). cond_of p.insn) same ∙ sym two.cond;
      } in
      not_at_once (there a) (there b) x.entry.insn y.entry.insn
      (moved (cycles_in m.schedule.interval most) (stage a).kernel)
      (moved (cycles_in m.schedule.interval most) (stage b).kernel) before (insn_there a l x.entry.insn x.at)
      (insn_there b u y.entry.insn y.at) alike x.straight (placed_there a l) (placed_there b u)
      (ap (λ (p : Placed). cycles_in m.schedule.interval most + p.cycle) same)

  -- of an earlier iteration each stands before each of a later one
  earlier : (a b : ℕ) → a < size → trip a < trip b → there a < there b
  earlier a b l lt =
      let later : begin_of (straights promised region loop most m) (suc (trip a)) ≤ begin_of
      (straights promised region loop most m) (trip b) = begins_later (straights promised region loop most m)
      (suc (trip a)) (trip b) lt in
      omega (arith, later, l)

  differ : (a b : ℕ) → a < size → b < size → a < b → Differ a b
  differ a b l u lt same =
      ⊎_elim {C = ⊥}
      (λ (v : trip a < trip b). at_order a b l u (earlier a b l v) same)
      (λ (v : trip b ≤ trip a). ⊎_elim {C = ⊥}
      (λ (w : trip b < trip a). at_order b a u l (earlier b a u w) (sym same))
      (λ (w : trip a ≤ trip b). let e : trip a ≡ trip b = omega (arith, v, w) in
      let f : begin_of (straights promised region loop most m) (trip a) ≡ begin_of
      (straights promised region loop most m) (trip b) = ap (begin_of (straights promised region loop most m)) e
      in at_order a b l u (omega (arith, f, lt)) same)
      (cases_lt (trip b) (trip a)))
      (cases_lt (trip a) (trip b))

  is_kernel : (i : ℕ) (x : Placed) → slice_get (map (λ (s : Stage). s.kernel) m.schedule.stages) i ≡ Some x
      → (i < size) × ((stage i).kernel ≡ x)
  is_kernel i x at =
      let n : length m.schedule.stages ≡ size = (places promised region loop most m).body in
      let r = from_mapped (λ (s : Stage). s.kernel) m.schedule.stages i x at in
      let within : i < length m.schedule.stages = slice_get_within m.schedule.stages i r.0 r.1 in
      let here : stage i ≡ r.0 = get_or_from_slice_get m.schedule.stages i r.0 no_stage r.1 in
      (omega (arith, within, n), ap (λ (s : Stage). s.kernel) here ∙ sym r.2)

  -- each stage has a kernel of its own
  pub kernels_once : AreOnce (map (λ (s : Stage). s.kernel) m.schedule.stages)
  kernels_once = once_from_places (map (λ (s : Stage). s.kernel) m.schedule.stages)
      (λ i j x at_i at_j. same i j x at_i at_j)
    where
      same : (i j : ℕ) (x : Placed) → slice_get (map (λ (s : Stage). s.kernel) m.schedule.stages) i ≡ Some x
          → slice_get (map (λ (s : Stage). s.kernel) m.schedule.stages) j ≡ Some x → i ≡ j
      same i j x at_i at_j =
          let p = is_kernel i x at_i in
          let q = is_kernel j x at_j in
          ⊎_elim {C = i ≡ j}
          (λ (l : i < j). absurd (differ i j p.0 q.0 l (p.1 ∙ sym q.1)))
          (λ (l : j ≤ i). ⊎_elim {C = i ≡ j} (λ (u : j < i). absurd (differ j i q.0 p.0 u (q.1 ∙ sym p.1)))
          (λ (u : i ≤ j). omega (arith, l, u)) (cases_lt j i))
          (cases_lt i j)

  -- each stands for an instruction of the work
  pub stage_entry : (p : Placed) → In p (map (λ (s : Stage). s.kernel) m.schedule.stages)
      → (entry : SerialInsn) × StandsAs entry p × (touches region.counter entry ≡ false)
  stage_entry p h =
      let r = place_of (map (λ (s : Stage). s.kernel) m.schedule.stages) p h in
      let k = is_kernel r.0 p r.1 in
      let e = entry_at r.0 k.0 in
      (e.entry, subst (λ z. StandsAs e.entry z) k.1 e.stands, e.free)
