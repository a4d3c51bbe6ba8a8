-- What a program's chain does at a loop: the block above, the loop as often as its counter says, and the block below.
use Rattle.std.proofs.Common.{◌≡◌, ℕ, zero, suc, ◌+◌, ◌-◌, ◌^◌, ◌<◌, Bool, true, false, List, [], ◌∷◌, ◌++◌, length}
use Rattle.std.proofs.Common.{Option, Some, None, refl, sym, ◌∙◌, ap, subst, ◌⊎◌, inl, inr, ⊎_elim, arith}
use Rattle.std.specs.Prelude.{All, IsTrue, slice_get, is_none, is_some, not, nat_le, if◌then◌else◌, ◌==◌, ◌&&◌}
use Rattle.std.proofs.lemmas.Bool.{and_parts, cond-true, cond-false, false≢true, cases_Bool}
use Rattle.std.proofs.lemmas.Bool.Decides.{nat_tests}
use Rattle.std.proofs.lemmas.List.Elements.{All-nil, All-cons}
use Rattle.std.proofs.lemmas.Option.{none-some, same_Some, slice_get_within, get_or_from_slice_get}
use Rattle.c62_op.specs.declared.register.Reg.{Reg}
use Rattle.c62_op.specs.declared.register.Cond.{Cond as Condition}
use Rattle.c62_op.specs.declared.operands.Operands.{Operands}
use Rattle.c62_op.specs.declared.operands.Operands.TheVariants.{Block as BlockOperand}
use Rattle.c62_op.specs.Shape.{is_branch}
use Rattle.c62_op.proofs.Registers.{same_reg-refl}
use Rattle.c62_insn.specs.Insn.{op_of, operands_of, cond_of}
use Rattle.c62_read.specs.declared.limits.TheConstants.{MOST_INSTRUCTIONS}
use Rattle.c62_read.specs.declared.block.SerialInsn.{SerialInsn}
use Rattle.c62_read.specs.Block.{Serial, is_block, branch_last, operations}
use Rattle.c62_serial.specs.declared.serial.Exit.{Exit}
use Rattle.c62_serial.specs.State.{Machine, IsSound, word_in}
use Rattle.c62_serial.specs.Serial.{serial}
use Rattle.c62_serial.specs.Chain.{Position, At, position_at, position_after, no_block, block_of}
use Rattle.c62_serial.proofs.ChainLemmas.{at_block, leads_nowhere}
use Rattle.c62_serial.proofs.MachineLemmas.{sound_run}
use Rattle.c62_meaning.proofs.Lookup.{In, In-append_left, In-append_right, In-append_cases}
use Rattle.c62_loop.specs.Counter.{steps_on, steps_in, touches, IsCounted}
use Rattle.c62_loop.specs.Loop.{Region, rounds, loop_path, serial_path, trips_of, IsCountedLoop}
use Rattle.c62_loop.specs.Rounds.{IsLoopBlock, repeated}
use Rattle.c62_loop.proofs.Counting.{serial_both, steps_both}
use Rattle.c62_loop.proofs.Machines.{In-All}
use Rattle.c62_loop.proofs.Rounds.{goes_round}
use Rattle.c62_check_loop.specs.Region.{last_of, tested, tested_by, counter_in, counter_of, is_branch_entry, straight_of}
use Rattle.c62_check_loop.specs.Region.{is_apart_below, unlabelled_in, unlabelled_of, IsRegionOf}
use Rattle.c62_check_loops.specs.Covered.{is_straight, is_bare, has_below}
use Rattle.c62_check_loops.specs.Fit.{first_block, block_behind, has_above}
use Rattle.c62_check_whole.specs.Promised.{last_in}
use Rattle.c62_check_whole.proofs.Chains.{Goes, goes_both, goes_one, straight_exit, front_straight}

-- ---- lists

all_by : {X : Type 0} (P : X → Type 0) (xs : List X) → ((x : X) → In x xs → P x) → All P xs
all_by P [] each = All-nil P
all_by P (x ∷ xs) each = All-cons P x xs (each x (inl refl)) (all_by P xs (λ y h. each y (inr h)))

last_step : {X : Type 0} (x y : X) (ys : List X)
    → slice_get (x ∷ y ∷ ys) (length (x ∷ y ∷ ys) - 1) ≡ slice_get (y ∷ ys) (length (y ∷ ys) - 1)
last_step x y ys =
    let e : length (x ∷ y ∷ ys) - 1 ≡ suc (length (y ∷ ys) - 1) = omega arith in
    ap (λ n. slice_get (x ∷ y ∷ ys) n) e

-- a list ends with its last
split_last : (xs : List SerialInsn) (x : SerialInsn) → last_of xs ≡ Some x
    → (front : List SerialInsn) × (xs ≡ front ++ (x ∷ []))
split_last [] x e = absurd (none-some x e)
split_last (y ∷ []) x e = ([], ap (λ (z : SerialInsn). z ∷ []) (same_Some y x e))
split_last (y ∷ z ∷ zs) x e =
    let more = split_last (z ∷ zs) x (sym (last_step y z zs) ∙ e) in
    (y ∷ more.0, ap (λ (rest : List SerialInsn). y ∷ rest) more.1)

last_among : (xs : List ℕ) (j : ℕ) → last_in xs ≡ Some j → In j xs
last_among [] j e = absurd (none-some j e)
last_among (x ∷ []) j e = inl (same_Some x j e)
last_among (x ∷ y ∷ ys) j e = inr (last_among (y ∷ ys) j (sym (last_step x y ys) ∙ e))

-- what stands last behind others stands in what is behind
pub last_behind : (xs ys : List ℕ) (j : ℕ) → (ys ≡ [] → ⊥) → last_in (xs ++ ys) ≡ Some j → In j ys
last_behind [] ys j some e = last_among ys j e
last_behind (x ∷ []) [] j some e = absurd (some refl)
last_behind (x ∷ []) (y ∷ ys) j some e = last_among (y ∷ ys) j (sym (last_step x y ys) ∙ e)
last_behind (x ∷ z ∷ xs) ys j some e = last_behind (z ∷ xs) ys j some (sym (last_step x z (xs ++ ys)) ∙ e)

-- ---- tests

not_true : (b : Bool) → not b ≡ true → b ≡ false
not_true true e = absurd (false≢true e)
not_true false e = refl

not_false : (b : Bool) → not b ≡ false → b ≡ true
not_false true e = refl
not_false false e = absurd (false≢true (sym e))

and_true : (b : Bool) → (b && true) ≡ b
and_true true = refl
and_true false = refl

straight_there : (o : Option Serial) → is_straight o ≡ true
    → (b : Serial) × (o ≡ Some b) × (is_branch_entry (last_of b.insns) ≡ false) × (straight_of o ≡ b.insns)
straight_there None h = absurd (false≢true h)
straight_there (Some b) h =
    let none : is_branch_entry (last_of b.insns) ≡ false = not_true (is_branch_entry (last_of b.insns)) h in
    (b, refl, none, cond-false (is_branch_entry (last_of b.insns)) [] b.insns none)

straight_none : (o : Option Serial) → is_straight o ≡ false → straight_of o ≡ []
straight_none None h = refl
straight_none (Some b) h =
    cond-true (is_branch_entry (last_of b.insns)) [] b.insns (not_false (is_branch_entry (last_of b.insns)) h)

bare_there : (o : Option Serial) → is_bare o ≡ true
    → (b : Serial) × (o ≡ Some b) × (is_branch_entry (last_of b.insns) ≡ false) × (unlabelled_of o ≡ b.insns)
bare_there None h = absurd (false≢true h)
bare_there (Some b) h =
    let parts = and_parts (is_none b.label) (not (is_branch_entry (last_of b.insns))) h in
    let none : is_branch_entry (last_of b.insns) ≡ false = not_true (is_branch_entry (last_of b.insns)) parts.1 in
    (b, refl, none, by_label b.label parts.0 none)
  where
    by_label : (label : Option (List ℕ)) → is_none label ≡ true → is_branch_entry (last_of b.insns) ≡ false
        → unlabelled_in label b.insns ≡ b.insns
    by_label None e none = cond-false (is_branch_entry (last_of b.insns)) [] b.insns none
    by_label (Some name) e none = absurd (false≢true e)

bare_none : (o : Option Serial) → is_bare o ≡ false → unlabelled_of o ≡ []
bare_none None h = refl
bare_none (Some b) h = by_label b.label h
  where
    by_label : (label : Option (List ℕ)) → (is_none label && not (is_branch_entry (last_of b.insns))) ≡ false
        → unlabelled_in label b.insns ≡ []
    by_label None e =
        cond-true (is_branch_entry (last_of b.insns)) [] b.insns (not_false (is_branch_entry (last_of b.insns)) e)
    by_label (Some name) e = refl

-- ---- a test of the counter

tests_counter : (number : ℕ) (counter : Reg) (operands : Operands) (cond : Option Condition)
    → tested number operands cond ≡ Some counter
    → (target : ℕ) × (c : Condition) × (operands ≡ BlockOperand target) × (cond ≡ Some c) × (c.reg ≡ counter)
tests_counter number counter (BlockOperand target) (Some c) e =
    (target, c, refl, refl, by_test ((target == number) && not c.negated) e)
  where
    by_test : (b : Bool) → (if b then Some c.reg else None) ≡ Some counter → c.reg ≡ counter
    by_test true e = same_Some c.reg counter e
    by_test false e = absurd (none-some counter e)
tests_counter number counter (BlockOperand target) None e = absurd (none-some counter e)
tests_counter number counter operands cond e = absurd (none-some counter e)

-- ---- the chain

module _ (blocks : List Serial) (whole : All (λ block. IsTrue (is_block block.insns)) blocks) where
  pub block_at : (k : ℕ) (block : Serial) → slice_get blocks k ≡ Some block → block_of blocks k ≡ block
  block_at k block there = get_or_from_slice_get blocks k block no_block there

  pub block_last : (k : ℕ) (block : Serial) → slice_get blocks k ≡ Some block
      → branch_last (operations block.insns) ≡ true
  block_last k block there =
      (and_parts (nat_le (length block.insns) MOST_INSTRUCTIONS) (branch_last (operations block.insns))
      (subst (λ (b : Serial). is_block b.insns ≡ true) (get_or_from_slice_get blocks k block block there)
      (whole k block (slice_get_within blocks k block there)))).1

  -- a straight block, and then the next one
  goes_straight : (k : ℕ) (block : Serial) (machine : Machine) → slice_get blocks k ≡ Some block
      → is_branch_entry (last_of block.insns) ≡ false
      → Goes blocks machine (At k) (k ∷ []) (serial block.insns machine).machine (position_at (length blocks) (k + 1))
  goes_straight k block machine there straight =
      subst (λ (e : Exit). Goes blocks machine (At k) (k ∷ []) (serial block.insns machine).machine
      (position_after (length blocks) k e))
      (straight_exit block.insns machine (block_last k block there) straight)
      (subst (λ (b : Serial). Goes blocks machine (At k) (k ∷ []) (serial b.insns machine).machine
      (position_after (length blocks) k (serial b.insns machine).exit)) (block_at k block there)
      (goes_one blocks machine k))

  module _ (number : ℕ) (region : Region) (found : IsRegionOf blocks number region)
      (counted : IsCountedLoop region) where
    abbrev insns : List SerialInsn
    insns = found.block.insns

    inside : number < length blocks
    inside = slice_get_within blocks number found.block found.there

    -- a run of some blocks, all of them below a number
    pub record Runs (machine : Machine) (position : Position) (final : Machine) (last : Position) (bound : ℕ)
        : Type 0 where
      pub path : List ℕ
      pub goes : Goes blocks machine position path final last
      pub below : (j : ℕ) → In j path → j < bound

    -- ---- above

    goes_above : (machine : Machine)
        → Runs machine (At (first_block blocks number)) (serial region.before machine).machine (At number) number
    goes_above machine =
        ⊎_elim {C = Runs machine (At (first_block blocks number)) (serial region.before machine).machine (At number)
        number} with_above without (cases_Bool (has_above blocks number))
      where
        with_above : has_above blocks number ≡ true
            → Runs machine (At (first_block blocks number)) (serial region.before machine).machine (At number) number
        with_above h =
            let first : first_block blocks number ≡ number - 1 = cond-true (has_above blocks number) (number - 1)
            number h in
            let parts = by_number number h in
            let some : (number == 0) ≡ false = parts.0 in
            let has = straight_there (slice_get blocks (number - 1)) parts.1 in
            let before : region.before ≡ has.0.insns = found.before
            ∙ cond-false (number == 0) [] (straight_of (slice_get blocks (number - 1))) some ∙ has.3 in
            let place : number - 1 + 1 ≡ number = parts.2 in
            record {
              path = (number - 1) ∷ [];
              goes = subst (λ k. Goes blocks machine (At k) ((number - 1) ∷ []) (serial region.before machine).machine
                  (At number)) (sym first)
                  (subst (λ (xs : List SerialInsn). Goes blocks machine (At (number - 1)) ((number - 1) ∷ [])
                  (serial xs machine).machine (At number)) (sym before)
                  (subst (λ (p : Position). Goes blocks machine (At (number - 1)) ((number - 1) ∷ [])
                  (serial has.0.insns machine).machine p)
                  (ap (λ n. position_at (length blocks) n) place ∙ at_block (length blocks) number inside)
                  (goes_straight (number - 1) has.0 machine has.1 has.2)));
              below = λ j h. one_below j h place;
            }
          where
            by_number : (n : ℕ) → has_above blocks n ≡ true
                → ((n == 0) ≡ false) × (is_straight (slice_get blocks (n - 1)) ≡ true) × (n - 1 + 1 ≡ n)
            by_number zero h = absurd (false≢true h)
            by_number (suc n) h =
                let e : suc n - 1 + 1 ≡ suc n = omega arith in
                let some : (suc n == 0) ≡ false = grind (arith, nat_tests) in
                (some, sym (cond-false (suc n == 0) false (is_straight (slice_get blocks (suc n - 1))) some) ∙ h, e)

            one_below : (j : ℕ) → In j ((number - 1) ∷ []) → number - 1 + 1 ≡ number → j < number
            one_below j (inl e) place = omega (arith, e, place)
            one_below j (inr h) place = absurd h

        without : has_above blocks number ≡ false
            → Runs machine (At (first_block blocks number)) (serial region.before machine).machine (At number) number
        without f =
            let first : first_block blocks number ≡ number = cond-false (has_above blocks number) (number - 1) number f
            in
            let before : region.before ≡ [] = found.before ∙ none (number == 0) f in
            record {
              path = [];
              goes = subst (λ k. Goes blocks machine (At k) [] (serial region.before machine).machine (At number))
                  (sym first)
                  (subst (λ (xs : List SerialInsn). Goes blocks machine (At number) [] (serial xs machine).machine
                  (At number)) (sym before) (leads_nowhere (length blocks) _ machine (At number)));
              below = λ j h. absurd h;
            }
          where
            none : (b : Bool) → (if b then false else is_straight (slice_get blocks (number - 1))) ≡ false
                → (if b then [] else straight_of (slice_get blocks (number - 1))) ≡ []
            none true e = refl
            none false e = straight_none (slice_get blocks (number - 1)) e

    -- ---- the loop

    last_there : (o : Option SerialInsn) → tested_by number o ≡ Some region.counter → (test : SerialInsn)
        × (o ≡ Some test) × (tested number (operands_of test.insn) (cond_of test.insn) ≡ Some region.counter)
    last_there None e = absurd (none-some region.counter e)
    last_there (Some test) e = (test, refl, e)

    ends_so : (test : SerialInsn) × (last_of insns ≡ Some test)
        × (tested number (operands_of test.insn) (cond_of test.insn) ≡ Some region.counter)
    ends_so = last_there (last_of insns)
        (sym (found.tests ∙ ap (λ (o : Option Serial). counter_in number o) found.there))

    test : SerialInsn
    test = ends_so.0

    split : (front : List SerialInsn) × (insns ≡ front ++ (ends_so.0 ∷ []))
    split = split_last insns ends_so.0 ends_so.1

    body_is : region.body ≡ split.0 ++ (ends_so.0 ∷ [])
    body_is = found.body ∙ split.1

    counts : (entry : SerialInsn) → In entry (split.0 ++ (ends_so.0 ∷ [])) → IsCounted region.counter number entry
    counts entry h = subst (λ n. IsCounted region.counter n entry) found.numbered
        (In-All (IsCounted region.counter region.number) region.body counted.body entry
        (subst (λ (xs : List SerialInsn). In entry xs) (sym body_is) h))

    no_step : steps_on region.counter ends_so.0 ≡ false
    no_step =
        let t = tests_counter number region.counter (operands_of ends_so.0.insn) (cond_of ends_so.0.insn) ends_so.2 in
        by_operands (operands_of ends_so.0.insn) t.2 refl
      where
        by_operands : (operands : Operands) → {target : ℕ} → operands ≡ BlockOperand target
            → operands_of ends_so.0.insn ≡ operands → steps_on region.counter ends_so.0 ≡ false
        by_operands operands e is = grind (arith, nat_tests)

    touched : touches region.counter ends_so.0 ≡ true
    touched =
        let t = tests_counter number region.counter (operands_of ends_so.0.insn) (cond_of ends_so.0.insn) ends_so.2 in
        let same = same_reg-refl region.counter in
        grind (arith, nat_tests, no_step, t.2, t.3, t.4, same)

    is_loop_block : IsLoopBlock blocks number region.counter split.0 ends_so.0
    is_loop_block = record {
      there = inside;
      block = ap (λ (b : Serial). b.insns) (block_at number found.block found.there) ∙ split.1;
      counted = all_by (IsCounted region.counter number) split.0
          (λ entry h. counts entry (In-append_left entry split.0 (ends_so.0 ∷ []) h));
      no_branch = all_by (λ entry. is_branch (op_of entry.insn) ≡ false) split.0
          (front_straight split.0 ends_so.0
          (subst (λ (xs : List SerialInsn). branch_last (operations xs) ≡ true) split.1
          (block_last number found.block found.there)));
      one_step = (let all : steps_in region.counter (split.0 ++ (ends_so.0 ∷ [])) ≡ 1
          = subst (λ (xs : List SerialInsn). steps_in region.counter xs ≡ 1) body_is counted.one_step in
          let two = steps_both region.counter split.0 (ends_so.0 ∷ []) in
          let last : steps_in region.counter (ends_so.0 ∷ []) ≡ 0 = cond-false (steps_on region.counter ends_so.0) _ 0
          no_step in omega (arith, all, two, last));
      tests = (counts ends_so.0 (In-append_right ends_so.0 split.0 (ends_so.0 ∷ []) (inl refl))).test no_step touched;
    }

    repeats : (trips j : ℕ) → In j (repeated number trips) → j < number + 1
    repeats zero j h = absurd h
    repeats (suc trips) j (inl e) = omega (arith, e)
    repeats (suc trips) j (inr h) = repeats trips j h

    goes_loop : (trips : ℕ) (machine : Machine) → IsSound machine → word_in machine region.counter ≡ suc trips
        → suc trips < 2 ^ 32
        → Goes blocks machine (At number) (repeated number (suc trips))
        (serial (rounds region.body (suc trips)) machine).machine (position_at (length blocks) (number + 1))
    goes_loop trips machine sound begins small =
        subst (λ (xs : List SerialInsn). Goes blocks machine (At number) (repeated number (suc trips))
        (serial (rounds xs (suc trips)) machine).machine (position_at (length blocks) (number + 1))) (sym body_is)
        (goes_round blocks number region.counter split.0 ends_so.0 is_loop_block trips machine sound begins small)

    -- ---- below

    goes_below : (machine : Machine)
        → Runs machine (position_at (length blocks) (number + 1)) (serial region.behind machine).machine
        (position_at (length blocks) (block_behind blocks number)) (block_behind blocks number)
    goes_below machine =
        ⊎_elim {C = Runs machine (position_at (length blocks) (number + 1)) (serial region.behind machine).machine
        (position_at (length blocks) (block_behind blocks number)) (block_behind blocks number)} with_below without
        (cases_Bool (has_below blocks number))
      where
        with_below : has_below blocks number ≡ true
            → Runs machine (position_at (length blocks) (number + 1)) (serial region.behind machine).machine
            (position_at (length blocks) (block_behind blocks number)) (block_behind blocks number)
        with_below h =
            let behind : block_behind blocks number ≡ number + 2 = cond-true (has_below blocks number) (number + 2)
            (number + 1) h in
            let parts = and_parts (is_bare (slice_get blocks (number + 1))) (not (is_apart_below blocks number)) h in
            let has = bare_there (slice_get blocks (number + 1)) parts.0 in
            let within : number + 1 < length blocks = slice_get_within blocks (number + 1) has.0 has.1 in
            let joined : is_apart_below blocks number ≡ false = not_true (is_apart_below blocks number) parts.1 in
            let is : region.behind ≡ has.0.insns = found.behind
            ∙ cond-false (is_apart_below blocks number) [] (unlabelled_of (slice_get blocks (number + 1))) joined ∙ has.3
            in
            let place : number + 1 + 1 ≡ block_behind blocks number = omega (arith, behind) in
            record {
              path = (number + 1) ∷ [];
              goes = subst (λ (p : Position). Goes blocks machine p ((number + 1) ∷ [])
                  (serial region.behind machine).machine (position_at (length blocks) (block_behind blocks number)))
                  (sym (at_block (length blocks) (number + 1) within))
                  (subst (λ (xs : List SerialInsn). Goes blocks machine (At (number + 1)) ((number + 1) ∷ [])
                  (serial xs machine).machine (position_at (length blocks) (block_behind blocks number))) (sym is)
                  (subst (λ n. Goes blocks machine (At (number + 1)) ((number + 1) ∷ [])
                  (serial has.0.insns machine).machine (position_at (length blocks) n)) place
                  (goes_straight (number + 1) has.0 machine has.1 has.2)));
              below = λ j h. one_below j h place;
            }
          where
            one_below : (j : ℕ) → In j ((number + 1) ∷ []) → number + 1 + 1 ≡ block_behind blocks number
                → j < block_behind blocks number
            one_below j (inl e) place = omega (arith, e, place)
            one_below j (inr h) place = absurd h

        without : has_below blocks number ≡ false
            → Runs machine (position_at (length blocks) (number + 1)) (serial region.behind machine).machine
            (position_at (length blocks) (block_behind blocks number)) (block_behind blocks number)
        without f =
            let behind : block_behind blocks number ≡ number + 1 = cond-false (has_below blocks number) (number + 2)
            (number + 1) f in
            let is : region.behind ≡ [] = found.behind ∙ none (is_apart_below blocks number) f in
            record {
              path = [];
              goes = subst (λ n. Goes blocks machine (position_at (length blocks) (number + 1)) []
                  (serial region.behind machine).machine (position_at (length blocks) n)) (sym behind)
                  (subst (λ (xs : List SerialInsn). Goes blocks machine (position_at (length blocks) (number + 1)) []
                  (serial xs machine).machine (position_at (length blocks) (number + 1))) (sym is)
                  (leads_nowhere (length blocks) _ machine (position_at (length blocks) (number + 1))));
              below = λ j h. absurd h;
            }
          where
            none : (b : Bool) → (is_bare (slice_get blocks (number + 1)) && not b) ≡ false
                → (if b then [] else unlabelled_of (slice_get blocks (number + 1))) ≡ []
            none true e = refl
            none false e =
                bare_none (slice_get blocks (number + 1)) (sym (and_true (is_bare (slice_get blocks (number + 1)))) ∙ e)

    -- ---- all of it

    pub goes_part : (trips : ℕ) (machine : Machine) → IsSound machine → trips_of region machine ≡ suc trips
        → suc trips < 2 ^ 32
        → (all : Runs machine (At (first_block blocks number)) (serial (serial_path region (suc trips)) machine).machine
        (position_at (length blocks) (block_behind blocks number)) (block_behind blocks number)) × (all.path ≡ [] → ⊥)
    goes_part trips machine sound begins small =
        let one = goes_above machine in
        let start : Machine = (serial region.before machine).machine in
        let looped : Machine = (serial (rounds region.body (suc trips)) start).machine in
        let two = goes_below looped in
        let more : number < block_behind blocks number = below_behind (has_below blocks number) in
        let is : (serial region.behind looped).machine ≡ (serial (serial_path region (suc trips)) machine).machine
        = sym (serial_both region.before (loop_path region (suc trips)) machine
        ∙ serial_both (rounds region.body (suc trips)) region.behind start) in (
          record {
            path = one.path ++ (repeated number (suc trips) ++ two.path);
            goes = subst (λ (m : Machine). Goes blocks machine (At (first_block blocks number))
                (one.path ++ (repeated number (suc trips) ++ two.path)) m
                (position_at (length blocks) (block_behind blocks number))) is
                (goes_both blocks machine start (serial region.behind looped).machine
                (At (first_block blocks number)) (At number)
                (position_at (length blocks) (block_behind blocks number)) one.path
                (repeated number (suc trips) ++ two.path) one.goes
                (goes_both blocks start looped (serial region.behind looped).machine (At number)
                (position_at (length blocks) (number + 1)) (position_at (length blocks) (block_behind blocks number))
                (repeated number (suc trips)) two.path
                (goes_loop trips start (sound_run region.before machine sound) begins small) two.goes));
            below = λ j h. by_place one.path two.path j one.below two.below more
                (In-append_cases j one.path (repeated number (suc trips) ++ two.path) h);
          },
          some one.path (repeated number trips ++ two.path),
        )
      where
        below_behind : (b : Bool) → number < (if b then number + 2 else number + 1)
        below_behind true = omega arith
        below_behind false = omega arith

        some : (xs ys : List ℕ) → xs ++ (number ∷ ys) ≡ [] → ⊥
        some [] ys e = absurd cc
        some (x ∷ xs) ys e = absurd cc

        by_place : (xs ys : List ℕ) (j : ℕ) → ((i : ℕ) → In i xs → i < number)
            → ((i : ℕ) → In i ys → i < block_behind blocks number) → number < block_behind blocks number
            → In j xs ⊎ In j (repeated number (suc trips) ++ ys) → j < block_behind blocks number
        by_place xs ys j low high more (inl h) = let l = low j h in omega (arith, l, more)
        by_place xs ys j low high more (inr h) =
            ⊎_elim {C = j < block_behind blocks number} (λ r.
            (let l = repeats (suc trips) j r in omega (arith, l, more)))
            (λ r. high j r) (In-append_cases j (repeated number (suc trips)) ys h)
