-- No two executed writes of one register land in one cycle.
use Rattle.std.proofs.Common.{◌≡◌, ℕ, suc, ◌≤◌, Bool, true, cond, eqb, ltb, ◌&&◌, List, [], ◌∷◌, Option}
use Rattle.std.proofs.Common.{Some, refl, sym, ◌∙◌, ap, subst, inl, inr, ⊎_elim, arith}
use Rattle.std.specs.Prelude.{◌↔◌, Contains, slice_get}
use Rattle.std.specs.List.{flat_map}
use Rattle.std.proofs.lemmas.Bool.{cases_lt, lt-ltb, le-ltb}
use Rattle.std.proofs.lemmas.Option.{none-some}
use Rattle.c62_op.specs.declared.register.Reg.{Reg}
use Rattle.c62_insn.specs.Insn.{register_writes}
use Rattle.c62_rules.specs.PacketRules.{Issue, IsIssued, LandsIn, MayLandTogether, HasOneLanding}
use Rattle.c62_serial.specs.State.{Machine, index_of, word_in}
use Rattle.c62_serial.specs.Effect.{Act, runs, act_of}
use Rattle.c62_packet.specs.declared.placed.Placed.{Placed}
use Rattle.c62_packet.specs.Packed.{issue_of, issued}
use Rattle.c62_meaning.specs.Landing.{Landing, later, latest, value_or}
use Rattle.c62_meaning.specs.Packet.{Did, register_landings, word_before, byte_before, IsRun}
use Rattle.c62_meaning.specs.Landed.{HasLanded, LandOneByOne, RunsLandOneByOne}
use Rattle.c62_meaning.proofs.Lookup.{In, In_from_Contains, Contains_from_In, from_In-flat_map}
use Rattle.c62_meaning.proofs.Landings.{from_In-writes, act_writes}
use Rattle.c62_op.proofs.Registers.{same_register}
use Rattle.c62_meaning.proofs.NotBoth.{writes_runs, opposite_tests}
use Rattle.c62_packet.proofs.Placings.{issued_at}
use Rattle.std.proofs.lemmas.Bool.Decides.{nat_tests}

-- a lookup is the same at two times between which nothing lands at the cell
latest-stays : (cell t u : ℕ) (ls : List Landing)
    → ((v : Landing) → In v ls → v.cell ≡ cell → (t ≤ v.time) ↔ (u ≤ v.time)) → latest cell t ls ≡ latest cell u ls
latest-stays cell t u [] h = refl
latest-stays cell t u (x ∷ xs) h =
    ap (λ (b : Bool). cond b (Some (later x (latest cell t xs))) (latest cell t xs)) same
    ∙ ap (λ (o : Option Landing). cond (eqb x.cell cell && ltb x.time u) (Some (later x o)) o)
    (latest-stays cell t u xs (λ v k. h v (inr k)))
  where
    at_cell : x.cell ≡ cell → ltb x.time t ≡ ltb x.time u
    at_cell p =
        ⊎_elim {C = ltb x.time t ≡ ltb x.time u}
        (λ l. ⊎_elim {C = ltb x.time t ≡ ltb x.time u}
        (λ l'. lt-ltb x.time t l ∙ sym (lt-ltb x.time u l'))
        (λ g. let g' : t ≤ x.time = (h x (inl refl) p).1 g in absurd (omega (arith, l, g')))
        (cases_lt x.time u))
        (λ g. le-ltb x.time t g ∙ sym (le-ltb x.time u ((h x (inl refl) p).0 g)))
        (cases_lt x.time t)

    same : (eqb x.cell cell && ltb x.time t) ≡ (eqb x.cell cell && ltb x.time u)
    same = grind (arith, at_cell)

pub inside_at : (block : List Placed) (i : ℕ) (p : Placed) → slice_get block i ≡ Some p → In p block
inside_at [] i p e = absurd (none-some p e)
inside_at (q ∷ block) i p e = grind (arith, inside_at block)

number_of : (block : List Placed) (p : Placed) → In p block → (k : ℕ) × IsIssued (issued block) k (issue_of p)
number_of [] p h = absurd h
number_of (q ∷ block) p (inl e) = (0, ap (λ (z : Placed). Some (issue_of z)) e)
number_of (q ∷ block) p (inr h) = let r = number_of block p h in (suc r.0, r.1)

module _ (block : List Placed) (opening : Machine) (did : Did) (run : IsRun block opening did) where
  does : (p : Placed) → In p block
      → did p ≡ act_of p.insn opening.base (word_before block opening did p.cycle)
      (byte_before block opening did p.cycle)
  does p h = run p (Contains_from_In p block h)

  -- a write that an instruction made is one of its writes, and it ran
  made : (p : Placed) → In p block → (w : (Reg × ℕ) × ℕ) → In w (did p).writes
      → Contains (register_writes p.insn) w.0 × (runs (word_before block opening did p.cycle) p.insn ≡ true)
  made p h w k =
      let k' : In w (act_of p.insn opening.base (word_before block opening did p.cycle)
      (byte_before block opening did p.cycle)).writes = subst (λ (a : Act). In w a.writes) (does p h) k in (
        Contains_from_In w.0 (register_writes p.insn)
            (act_writes p.insn opening.base (word_before block opening did p.cycle)
            (byte_before block opening did p.cycle) w
            k'),
        writes_runs p.insn opening.base (word_before block opening did p.cycle)
            (byte_before block opening did p.cycle) w k',
      )

  lands_in : (p : Placed) (reg : Reg) (cycle : ℕ) → In p block → HasLanded did p reg cycle
      → LandsIn (issue_of p) reg cycle
  lands_in p reg cycle h l = grind (
    arith,
    made p h ((reg, l.delay), l.value) (In_from_Contains ((reg, l.delay), l.value) (did p).writes l.writes),
  )

  -- a register to which nothing lands between two issues is the same before both
  word_stays : (p q : Placed) (reg : Reg)
      → ((k : ℕ) (r : Issue) (t : ℕ) → IsIssued (issued block) k r → LandsIn r reg t
      → (p.cycle ≤ t) ↔ (q.cycle ≤ t))
      → word_before block opening did p.cycle reg ≡ word_before block opening did q.cycle reg
  word_stays p q reg stays =
      ap (λ (o : Option Landing). value_or o (word_in opening reg))
      (latest-stays (index_of reg) p.cycle q.cycle (flat_map (register_landings did) block) around)
    where
      around : (v : Landing) → In v (flat_map (register_landings did) block) → v.cell ≡ index_of reg
          → (p.cycle ≤ v.time) ↔ (q.cycle ≤ v.time)
      around v h cell =
          let s = from_In-flat_map (register_landings did) v block h in
          let w = from_In-writes s.0.cycle (did s.0).writes v s.2 in
          let here : w.0.0.0 ≡ reg = same_register w.0.0.0 reg (sym w.2 ∙ cell) in
          let number = number_of block s.0 s.1 in
          let writes : Contains (register_writes s.0.insn) (reg, w.0.0.1) = subst
          (λ (r : Reg). Contains (register_writes s.0.insn) (r, w.0.0.1)) here (made s.0 s.1 w.0 w.1).0 in
          stays number.0 (issue_of s.0) v.time number.1 (w.0.0.1, writes, sym w.3)

  not_both : (p q : Placed) → MayLandTogether (issued block) (issue_of p) (issue_of q)
      → runs (word_before block opening did p.cycle) p.insn ≡ true
      → runs (word_before block opening did q.cycle) q.insn ≡ true → ⊥
  not_both p q may a b = grind (arith, nat_tests, word_stays, opposite_tests)

  pub one_by_one : HasOneLanding (issued block) → LandOneByOne block did
  one_by_one rule i j p q reg cycle at_i at_j first second =
      let p_in : In p block = inside_at block i p at_i in
      let q_in : In q block = inside_at block j q at_j in
      elim (rule i j (issue_of p) (issue_of q) reg cycle (issued_at block i p at_i) (issued_at block j q at_j)
      (lands_in p reg cycle p_in first) (lands_in q reg cycle q_in second)) [
        | inl e ↦ e
        | inr may ↦ absurd (not_both p q may
            (made p p_in ((reg, first.delay), first.value)
            (In_from_Contains ((reg, first.delay), first.value) (did p).writes first.writes)).1
            (made q q_in ((reg, second.delay), second.value)
            (In_from_Contains ((reg, second.delay), second.value) (did q).writes second.writes)).1)
      ]

pub runs_one_by_one : (block : List Placed) (opening : Machine) → RunsLandOneByOne block opening
runs_one_by_one block opening did rule run = one_by_one block opening did run rule
