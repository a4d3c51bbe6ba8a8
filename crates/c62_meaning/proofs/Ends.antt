-- The end of a block: where it goes on, and that by then all has landed.
use Rattle.std.proofs.Common.{◌≡◌, ℕ, zero, suc, ◌+◌, ◌<◌, ◌≤◌, Bool, true, false, List, [], ◌∷◌, map, max, Option}
use Rattle.std.proofs.Common.{Some, None, refl, sym, ◌∙◌, ap, subst, ◌⊎◌, inl, inr, ⊎_elim, arith}
use Rattle.std.specs.Prelude.{fold, find}
use Rattle.std.specs.Option.{option_map_or}
use Rattle.std.proofs.lemmas.Bool.{cases_Bool, cases_eq, cases_lt, cond-true, cond-false}
use Rattle.c62_op.specs.declared.register.Reg.{Reg}
use Rattle.c62_op.specs.declared.operands.Op.{Op}
use Rattle.c62_insn.specs.declared.effect.Target.{Target}
use Rattle.c62_insn.specs.declared.insn.Insn.{Insn}
use Rattle.c62_op.specs.Shape.{delay_of, is_branch}
use Rattle.c62_insn.specs.Insn.{IsSameInsn, op_of, register_writes, greatest_delay}
use Rattle.c62_rules.specs.PacketRules.{Issue}
use Rattle.c62_rules.specs.Length.{landing_end, last_landing_end}
use Rattle.c62_insn.proofs.InsnLemmas.{writes_delay, writes_delay_of}
use Rattle.c62_serial.specs.declared.serial.Exit.{Exit}
use Rattle.c62_serial.specs.declared.serial.Exit.TheVariants.{Next}
use Rattle.c62_serial.specs.State.{word_in, byte_in}
use Rattle.c62_serial.specs.Effect.{Act}
use Rattle.c62_serial.specs.Serial.{exit_to, exit_after}
use Rattle.c62_serial.proofs.BranchLemmas.{goes_branch}
use Rattle.c62_packet.specs.declared.placed.Placed.{Placed}
use Rattle.c62_meaning.specs.Packet.{Did}
use Rattle.c62_meaning.specs.Meaning.{exit_by}
use Rattle.c62_meaning.specs.Laws.{StandsAs, cycles_of}
use Rattle.c62_packet.specs.Packed.{issue_of}
use Rattle.c62_meaning.proofs.Lookup.{In, Contains_from_In}
use Rattle.c62_meaning.proofs.SameRuns.{Numbered, ran_at, machine_at, serial_act, IsBlock, IsOver}

-- ---- the exit

abbrev on_exit : Did → Exit → Placed → Exit
on_exit did exit p = exit_after exit (did p).target

exit_none : (did : Did) (ps : List Placed) (exit : Exit) → ((p : Placed) → In p ps → (did p).target ≡ None)
    → fold (on_exit did) exit ps ≡ exit
exit_none did [] exit h = refl
exit_none did (p ∷ ps) exit h = grind (arith, exit_none did ps exit)

exit_some : (did : Did) (ps : List Placed) (exit : Exit) (target : Target)
    → (exit ≡ exit_to target) ⊎ ((p : Placed) × In p ps × ((did p).target ≡ Some target))
    → ((p : Placed) → In p ps → ((did p).target ≡ None) ⊎ ((did p).target ≡ Some target))
    → fold (on_exit did) exit ps ≡ exit_to target
exit_some did [] exit target (inl e) all = e
exit_some did [] exit target (inr r) all = absurd r.1
exit_some did (q ∷ ps) exit target here all = go (λ from h. exit_some did ps from target h (λ p k. all p (inr k)))
    (all q (inl refl))
  where
    later : (exit ≡ exit_to target) ⊎ ((p : Placed) × In p (q ∷ ps) × ((did p).target ≡ Some target))
        → (did q).target ≡ None
        → (exit ≡ exit_to target) ⊎ ((p : Placed) × In p ps × ((did p).target ≡ Some target))
    later (inl e) none = inl e
    later (inr (p, inl e, t)) none = let t' : (did q).target ≡ Some target = subst (λ z. (did z).target ≡ Some target)
        (sym e) t in cc
    later (inr (p, inr k, t)) none = inr (p, k, t)

    go : ((from : Exit) → (from ≡ exit_to target) ⊎ ((p : Placed) × In p ps × ((did p).target ≡ Some target))
        → fold (on_exit did) from ps ≡ exit_to target)
        → ((did q).target ≡ None) ⊎ ((did q).target ≡ Some target)
        → fold (on_exit did) (exit_after exit (did q).target) ps ≡ exit_to target
    go rest (inl none) = ap (λ o. fold (on_exit did) (exit_after exit o) ps) none ∙ rest exit (later here none)
    go rest (inr some) = ap (λ o. fold (on_exit did) (exit_after exit o) ps) some ∙ rest (exit_to target) (inl refl)

serial_none : (b : Numbered) (i : ℕ) → ((k : ℕ) → k < i → (serial_act b k).target ≡ None) → (ran_at b i).exit ≡ Next
serial_none b zero h = refl
serial_none b (suc i) h = grind (arith, serial_none b i)

-- a branch is the last instruction
abbrev pub BranchLast : Numbered → Type 0
BranchLast b = (i : ℕ) → i < b.count → is_branch (op_of (b.entry i).insn) ≡ true → i + 1 ≡ b.count

-- each did what it does serially
abbrev pub AllAgree : Numbered → Did → Type 0
AllAgree b did = (i : ℕ) → i < b.count → did (b.at i) ≡ serial_act b i

no_target : (b : Numbered) → BranchLast b → (k : ℕ) → k + 1 < b.count → (serial_act b k).target ≡ None
no_target b last k l = grind (
  arith,
  goes_branch (b.entry k).insn (machine_at b k).base (word_in (machine_at b k)) (byte_in (machine_at b k)),
)

pub exit_end : (block : List Placed) (b : Numbered) (did : Did) → IsBlock block b → AllAgree b did → BranchLast b
    → exit_by did block ≡ (ran_at b b.count).exit
exit_end block b did is agree last = of_count b.count refl
  where
    of_count : (n : ℕ) → b.count ≡ n → exit_by did block ≡ (ran_at b n).exit
    of_count zero e = exit_none did block Next
        (λ p h. let r = is.only p h in let l : r.0 < b.count = r.1 in absurd (omega arith))
    of_count (suc n) e = of_target (serial_act b n).target refl
      where
        target_at : (p : Placed) (o : Option Target) → (serial_act b n).target ≡ o → (i : ℕ) × (i < b.count)
            × (p ≡ b.at i) → ((did p).target ≡ None) ⊎ ((did p).target ≡ o)
        target_at p o t (i, l, s) =
            let same : (did p).target ≡ (serial_act b i).target = ap (λ z. (did z).target) s
            ∙ ap (λ (a : Act). a.target) (agree i l) in
            ⊎_elim {C = ((did p).target ≡ None) ⊎ ((did p).target ≡ o)}
            (λ q. inr (same ∙ ap (λ k. (serial_act b k).target) q ∙ t))
            (λ ne. inl (same ∙ no_target b last i (omega arith)))
            (cases_eq i n)

        of_target : (o : Option Target) → (serial_act b n).target ≡ o → exit_by did block ≡ (ran_at b (suc n)).exit
        of_target None t =
            exit_none did block Next
            (λ p h. ⊎_elim {C = (did p).target ≡ None} (λ q. q) (λ q. q) (target_at p None t (is.only p h)))
            ∙ sym (ap (λ o. exit_after (ran_at b n).exit o) t
            ∙ serial_none b n (λ k l. no_target b last k (omega arith)))
        of_target (Some target) t =
            exit_some did block Next target
            (inr (b.at n, is.all n (omega arith), ap (λ (a : Act). a.target) (agree n (omega arith)) ∙ t))
            (λ p h. target_at p (Some target) t (is.only p h))
            ∙ sym (ap (λ o. exit_after (ran_at b n).exit o) t)

-- ---- the length

abbrev branches : Issue → Bool
branches p = is_branch (op_of p.insn)

find_branch : (block : List Placed)
    → (find branches (map issue_of block) ≡ None)
    ⊎ ((p : Placed) × In p block × (is_branch (op_of p.insn) ≡ true)
    × (find branches (map issue_of block) ≡ Some (issue_of p)))
find_branch [] = inl refl
find_branch (p ∷ ps) = go (cases_Bool (is_branch (op_of p.insn))) (find_branch ps)
  where
    go : (is_branch (op_of p.insn) ≡ true) ⊎ (is_branch (op_of p.insn) ≡ false)
        → (find branches (map issue_of ps) ≡ None)
        ⊎ ((q : Placed) × In q ps × (is_branch (op_of q.insn) ≡ true)
        × (find branches (map issue_of ps) ≡ Some (issue_of q)))
        → (find branches (map issue_of (p ∷ ps)) ≡ None)
        ⊎ ((q : Placed) × In q (p ∷ ps) × (is_branch (op_of q.insn) ≡ true)
        × (find branches (map issue_of (p ∷ ps)) ≡ Some (issue_of q)))
    go (inl t) rest = inr (p, inl refl, t, cond-true _ _ _ t)
    go (inr f) (inl none) = inl (cond-false _ _ _ f ∙ none)
    go (inr f) (inr (q, h, t, e)) = inr (q, inr h, t, cond-false _ _ _ f ∙ e)

pub past_write : (ws : List (Reg × ℕ)) (w : Reg × ℕ) → In w ws → w.1 ≤ greatest_delay ws
past_write [] w h = absurd h
past_write (v ∷ ws) w h = grind (arith, past_write ws w)

-- the instructions stand in the packets
abbrev pub AllStand : Numbered → Type 0
AllStand b = (i : ℕ) → i < b.count → StandsAs (b.entry i) (b.at i)

same_writes : (one other : Insn) → IsSameInsn one other → register_writes one ≡ register_writes other
same_writes one other h = grind arith

-- where nothing lands from t on
pub drained : (block : List Placed) (b : Numbered) (t : ℕ) → IsBlock block b → AllStand b
    → ((p : Placed) → In p block → landing_end (issue_of p) ≤ t) → IsOver b t
drained block b t is stand late = record {
  issued = λ j l.
      let a : (b.at j).cycle + greatest_delay (register_writes (b.at j).insn) + 1 ≤ t = late (b.at j) (is.all j l) in
      omega arith;
  landed = λ j w l h.
      let a : (b.at j).cycle + greatest_delay (register_writes (b.at j).insn) + 1 ≤ t = late (b.at j) (is.all j l) in
      let k : In w (register_writes (b.at j).insn) = subst (λ ws. In w ws)
      (same_writes (b.entry j).insn (b.at j).insn (stand j l).insn) h in
      let d : w.1 ≤ greatest_delay (register_writes (b.at j).insn) = past_write (register_writes (b.at j).insn) w k in
      omega arith;
}

past_all : (block : List Placed) (p : Placed) → In p block
    → landing_end (issue_of p) ≤ last_landing_end (map issue_of block)
past_all [] p h = absurd h
past_all (q ∷ ps) p (inl e) =
    let P : Placed → Type 0 = λ z. landing_end (issue_of z) ≤ max (landing_end (issue_of q))
    (last_landing_end (map issue_of ps)) in subst P e (omega arith)
past_all (q ∷ ps) p (inr h) = let r : landing_end (issue_of p) ≤ last_landing_end (map issue_of ps) = past_all ps p h in
    omega arith

-- all lands before a branch takes effect
abbrev pub LandBeforeBranch : Numbered → Type 0
LandBeforeBranch b = (j k : ℕ) → j < k → k < b.count → is_branch (op_of (b.entry k).insn) ≡ true
    → (b.at j).cycle + delay_of (op_of (b.entry j).insn) ≤ (b.at k).cycle + 5

pub over : (block : List Placed) (b : Numbered) → IsBlock block b → AllStand b → LandBeforeBranch b → BranchLast b
    → IsOver b (cycles_of block)
over block b is stand lands last = go (find_branch block)
  where
    ended : IsOver b (last_landing_end (map issue_of block))
    ended = drained block b (last_landing_end (map issue_of block)) is stand (past_all block)

    -- nothing is in flight six cycles after the branch
    before : (i : ℕ) → i < b.count → is_branch (op_of (b.entry i).insn) ≡ true → (j : ℕ) → j < b.count → (j < i)
        ⊎ (i ≤ j)
        → (b.at j).cycle < (b.at i).cycle + 6
    before i l t j u (inl lt) =
        let bound : (b.at j).cycle + delay_of (op_of (b.entry j).insn) ≤ (b.at i).cycle + 5 = lands j i lt l t in
        omega arith
    before i l t j u (inr ge) =
        let end : i + 1 ≡ b.count = last i l t in
        let same : i ≡ j = omega arith in
        let e : (b.at i).cycle ≡ (b.at j).cycle = ap (λ k. (b.at k).cycle) same in omega arith

    landing : (i : ℕ) → i < b.count → is_branch (op_of (b.entry i).insn) ≡ true → (j : ℕ) (w : Reg × ℕ) → j < b.count
        → In w (register_writes (b.entry j).insn)
        → (j < i) ⊎ (i ≤ j) → (b.at j).cycle + w.1 < (b.at i).cycle + 6
    landing i l t j w u h (inl lt) =
        let bound : (b.at j).cycle + delay_of (op_of (b.entry j).insn) ≤ (b.at i).cycle + 5 = lands j i lt l t in
        let d : w.1 ≤ delay_of (op_of (b.entry j).insn) = writes_delay_of (b.entry j).insn w.0 w.1
        (Contains_from_In w (register_writes (b.entry j).insn) h) in
        omega arith
    landing i l t j w u h (inr ge) =
        let end : i + 1 ≡ b.count = last i l t in
        let same : i ≡ j = omega arith in
        let e : (b.at i).cycle ≡ (b.at j).cycle = ap (λ k. (b.at k).cycle) same in
        let d : w.1 ≤ 4 = writes_delay (b.entry j).insn w.0 w.1
        (Contains_from_In w (register_writes (b.entry j).insn) h) in
        omega arith

    branched : (i : ℕ) → i < b.count → is_branch (op_of (b.entry i).insn) ≡ true → IsOver b ((b.at i).cycle + 6)
    branched i l t = record {
      issued = λ j u. before i l t j u (cases_lt j i);
      landed = λ j w u h. landing i l t j w u h (cases_lt j i);
    }

    go : (find branches (map issue_of block) ≡ None)
        ⊎ ((p : Placed) × In p block × (is_branch (op_of p.insn) ≡ true)
        × (find branches (map issue_of block) ≡ Some (issue_of p)))
        → IsOver b (cycles_of block)
    go (inl e) =
        let P : Option Issue → Type 0 = λ o. IsOver b
        (option_map_or (λ branch. branch.cycle + 6) o (last_landing_end (map issue_of block))) in
        subst P (sym e) ended
    go (inr (p, h, t, e)) =
        let P : Option Issue → Type 0 = λ o. IsOver b
        (option_map_or (λ branch. branch.cycle + 6) o (last_landing_end (map issue_of block))) in
        let r = is.only p h in
        let s = stand r.0 r.1 in
        let t' : is_branch (op_of (b.at r.0).insn) ≡ true = subst (λ (z : Placed). is_branch (op_of z.insn) ≡ true) r.2
        t in
        let t'' : is_branch (op_of (b.entry r.0).insn) ≡ true = subst (λ (op : Op). is_branch op ≡ true) (sym s.insn.op)
        t' in
        subst P (sym e) (subst (λ (z : Placed). IsOver b (z.cycle + 6)) (sym r.2) (branched r.0 r.1 t''))
