-- A counted loop goes round as often as its counter says.
use Rattle.std.proofs.Common.{◌≡◌, ℕ, zero, suc, ◌+◌, ◌-◌, ◌^◌, ◌<◌, false, List, [], ◌∷◌, ◌++◌, length}
use Rattle.std.proofs.Common.{refl, ◌∙◌, ap, arith}
use Rattle.std.specs.Prelude.{fold}
use Rattle.std.proofs.lemmas.List.{get_or-set_same}
use Rattle.c62_op.specs.declared.register.Reg.{Reg}
use Rattle.c62_op.specs.Shape.{is_branch}
use Rattle.c62_insn.specs.Insn.{op_of}
use Rattle.c62_read.specs.declared.block.SerialInsn.{SerialInsn}
use Rattle.c62_read.specs.Block.{Serial}
use Rattle.c62_serial.specs.declared.serial.Exit.TheVariants.{Next, Block}
use Rattle.c62_serial.specs.State.{Machine, IsSound, index_of, word_in, byte_in}
use Rattle.c62_serial.specs.Serial.{Ran, act_in, after_entry, after_insn, exit_after, serial}
use Rattle.c62_serial.specs.Chain.{At, Leads, position_at, serial_blocks}
use Rattle.c62_serial.proofs.BranchLemmas.{goes_branch}
use Rattle.c62_serial.proofs.ChainLemmas.{at_block}
use Rattle.c62_serial.proofs.RegisterLemmas.{index_within}
use Rattle.c62_meaning.proofs.Lookup.{In}
use Rattle.c62_loop.specs.Counter.{IsCounted, steps_in, work_of}
use Rattle.c62_loop.specs.Loop.{rounds}
use Rattle.c62_loop.specs.Rounds.{IsLoopBlock, repeated, GoesRound}
use Rattle.c62_loop.proofs.Machines.{machine_after, serial_machine, sound_after, In-All}
use Rattle.c62_loop.proofs.Apart.{apart}
use Rattle.c62_loop.proofs.Counting.{after_both, counts_one}
use Rattle.std.proofs.lemmas.Bool.Decides.{nat_tests}

fold_both : (xs ys : List SerialInsn) (ran : Ran)
    → fold after_insn ran (xs ++ ys) ≡ fold after_insn (fold after_insn ran xs) ys
fold_both [] ys ran = refl
fold_both (x ∷ xs) ys ran = fold_both xs ys (after_insn ran x)

-- without a branch a path falls through
falls_through : (xs : List SerialInsn) (ran : Ran)
    → ((entry : SerialInsn) → In entry xs → is_branch (op_of entry.insn) ≡ false)
    → (fold after_insn ran xs).exit ≡ ran.exit
falls_through [] ran none = refl
falls_through (x ∷ xs) ran none = grind (
  arith,
  nat_tests,
  falls_through xs (after_insn ran x),
  goes_branch x.insn ran.machine.base (word_in ran.machine) (byte_in ran.machine),
)

module _ (program : List Serial) (number : ℕ) (counter : Reg) (body : List SerialInsn) (test : SerialInsn)
    (is : IsLoopBlock program number counter body test) where
  abbrev block : List SerialInsn
  block = body ++ (test ∷ [])

  counted : (entry : SerialInsn) → In entry body → IsCounted counter number entry
  counted = In-All (IsCounted counter number) body is.counted

  no_branch : (entry : SerialInsn) → In entry body → is_branch (op_of entry.insn) ≡ false
  no_branch = In-All (λ entry. is_branch (op_of entry.insn) ≡ false) body is.no_branch

  -- the branch leaves the machine as it was
  stays : (machine : Machine) → after_entry test machine ≡ machine
  stays machine = grind (arith, nat_tests)

  round_leaves : (opening : Machine) → (serial block opening).machine ≡ machine_after body opening
  round_leaves opening = grind (arith, serial_machine, after_both, stays)

  module _ (trips : ℕ) (opening : Machine) (sound : IsSound opening) (begins : word_in opening counter ≡ suc trips)
      (small : suc trips < 2 ^ 32) where
    one_less : word_in (machine_after body opening) counter ≡ trips
    one_less =
        let one : steps_in counter body ≡ 1 = is.one_step in
        let less : suc trips - steps_in counter body ≡ trips = omega arith in
        let kept : IsSound (machine_after (work_of counter body) opening) = sound_after (work_of counter body) opening
        sound in
        let n : length (machine_after (work_of counter body) opening).registers ≡ 32 = kept.registers in
        let k : index_of counter < 32 = index_within counter in
        ap (λ (m : Machine). word_in m counter)
        (apart counter number body (suc trips) opening counted (counts_one counter trips body is.one_step) sound
        begins small)
        ∙ get_or-set_same (machine_after (work_of counter body) opening).registers (index_of counter)
        (suc trips - steps_in counter body) 0 (omega arith)
        ∙ less

    -- the exit is the branch's
    exit_is : (serial block opening).exit ≡ exit_after Next (act_in (serial body opening).machine test).target
    exit_is = grind (arith, fold_both body (test ∷ []), falls_through body, no_branch)

    finds : word_in (serial body opening).machine counter ≡ trips
    finds = ap (λ (m : Machine). word_in m counter) (serial_machine body opening) ∙ one_less

    goes_on : trips ≡ 0 → (serial block opening).exit ≡ Next
    goes_on z = grind (arith, exit_is, finds)

    goes_back : (trips ≡ 0 → ⊥) → (serial block opening).exit ≡ Block number
    goes_back ne = grind (arith, nat_tests, exit_is, finds)

  rounds_leave : (trips : ℕ) (opening : Machine)
      → (serial (rounds block (suc trips)) opening).machine ≡
      (serial (rounds block trips) (serial block opening).machine).machine
  rounds_leave trips opening = grind (arith, serial_machine, after_both)

  goes : (trips : ℕ) (opening : Machine) → IsSound opening → word_in opening counter ≡ suc trips → suc trips < 2 ^ 32
      → Leads (length program) (serial_blocks program) opening (At number) (repeated number (suc trips))
      (serial (rounds block (suc trips)) opening).machine (position_at (length program) (number + 1))
  unfolding Leads
  goes zero opening sound begins small = grind (arith, rounds_leave 0 opening, goes_on 0 opening sound begins small)
  goes (suc trips) opening sound begins small = grind (
    arith,
    goes trips,
    round_leaves opening,
    sound_after body opening sound,
    one_less (suc trips) opening sound begins small,
    at_block (length program) number is.there,
    goes_back (suc trips) opening sound begins small,
    rounds_leave (suc trips) opening,
  )

pub goes_round : (program : List Serial) (number : ℕ) (counter : Reg) (body : List SerialInsn) (test : SerialInsn)
    → GoesRound program number counter body test
goes_round program number counter body test is trips opening sound begins small = grind (arith, goes)
