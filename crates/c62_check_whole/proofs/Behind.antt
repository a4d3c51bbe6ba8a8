-- Where a run goes on behind a part, and that it enters none inside.
use Rattle.std.proofs.Common.{◌≡◌, ℕ, zero, suc, ◌+◌, ◌-◌, ◌<◌, ◌≤◌, Bool, true, false, List}
use Rattle.std.proofs.Common.{Option, Some, None, refl, sym, ◌∙◌, ap, subst, ◌⊎◌, inl, inr, ⊎_elim, length, arith}
use Rattle.std.specs.Prelude.{slice_get, is_none, not, if◌then◌else◌, ◌==◌, ◌&&◌, ◌||◌}
use Rattle.std.proofs.lemmas.Bool.{and_parts, false≢true, cases_Bool, cases_lt}
use Rattle.std.proofs.lemmas.Bool.Decides.{nat_tests}
use Rattle.std.proofs.lemmas.Option.{slice_get_within}
use Rattle.clap.specs.Words.{Text as Name}
use Rattle.c62_op.specs.declared.register.Reg.{Reg}
use Rattle.c62_read.specs.Block.{Serial}
use Rattle.c62_flight.specs.Text.{Text}
use Rattle.c62_check_rest.specs.Starts.{start_at}
use Rattle.c62_check_loop.specs.Region.{is_apart_below}
use Rattle.c62_check_loops.specs.Covered.{is_told, is_bare, has_below, follows_loop}
use Rattle.c62_check_loops.specs.Fit.{block_behind, first_block, has_above}
use Rattle.c62_check_loops.specs.Told.{AreLoopsTold}
use Rattle.c62_check_loops.proofs.Loops.{there_at}
use Rattle.c62_check_whole.proofs.Parts.{LoopOf, BlockPart, PassPart, Enters, loop_of, told_within}

module _ (trips : List (Name × ℕ)) (apart : List Reg) (blocks : List Serial) (packets : Text) (answer : List ℕ)
    (is : AreLoopsTold trips apart blocks packets answer true true) where
  abbrev Loop : ℕ → Type 0
  Loop number = LoopOf trips apart blocks packets answer is number

  abbrev Enter : ℕ → ℕ → Type 0
  Enter k row = Enters trips apart blocks packets answer is k row

  -- ---- behind a part

  behind_one : (k : ℕ) → is_told is.loops k ≡ false → follows_loop blocks is.loops (k + 1) ≡ false
  behind_one k none =
      let some : ((k + 1) == 0) ≡ false = grind (arith, nat_tests) in
      let back : k + 1 - 1 ≡ k = omega arith in
      ap (λ (b : Bool). if b then false else (is_told is.loops (k + 1 - 1) && has_below blocks (k + 1 - 1))) some
      ∙ ap (λ (n : ℕ). is_told is.loops n && has_below blocks n) back ∙ ap (λ (b : Bool). b && has_below blocks k) none

  pub behind_block : (k : ℕ) (part : BlockPart trips apart blocks packets answer is k) → Enter (k + 1) (part.first + part.count)
  behind_block k part = record { at = part.ends; free = behind_one k part.none }

  pub behind_pass : (k : ℕ) (part : PassPart trips apart blocks packets answer is k) → Enter (k + 1) part.row
  behind_pass k part = record { at = part.ends; free = behind_one k part.none }

  pub behind_loop : (number : ℕ) (of : Loop number) → Enter (block_behind blocks number) of.last
  behind_loop number of = record {
    at = of.ends;
    free = ⊎_elim {C = follows_loop blocks is.loops (block_behind blocks number) ≡ false} below (λ f. free f)
        (cases_Bool (has_below blocks number));
  }
    where
      none : has_below blocks number ≡ true → is_told is.loops (number + 1) ≡ false
      none h = ⊎_elim {C = is_told is.loops (number + 1) ≡ false} (λ (t : is_told is.loops (number + 1) ≡ true).
          (let has = there_at blocks (number + 1) (told_within trips apart blocks packets answer is (number + 1) t) in
          let other = loop_of trips apart blocks packets answer is (number + 1) has.0 has.1 t in
          let bare = (and_parts (is_bare (slice_get blocks (number + 1))) (not (is_apart_below blocks number)) h).0 in
          let bare_there : is_bare (Some other.block) ≡ true
          = subst (λ (o : Option Serial). is_bare o ≡ true) other.there bare in
          absurd (grind (arith, bare_there, other.labelled)))) (λ f. f) (cases_Bool (is_told is.loops (number + 1)))

      below : has_below blocks number ≡ true → follows_loop blocks is.loops (block_behind blocks number) ≡ false
      below h =
          let place : number + 1 + 1 ≡ number + 2 = omega arith in
          ap (λ (b : Bool). follows_loop blocks is.loops (if b then number + 2 else number + 1)) h
          ∙ ap (λ (n : ℕ). follows_loop blocks is.loops n) (sym place) ∙ behind_one (number + 1) (none h)

      free : has_below blocks number ≡ false → follows_loop blocks is.loops (block_behind blocks number) ≡ false
      free f =
          let some : ((number + 1) == 0) ≡ false = grind (arith, nat_tests) in
          let back : number + 1 - 1 ≡ number = omega arith in
          ap (λ (b : Bool). follows_loop blocks is.loops (if b then number + 2 else number + 1)) f
          ∙ ap (λ (b : Bool).
          if b then false else (is_told is.loops (number + 1 - 1) && has_below blocks (number + 1 - 1))) some
          ∙ ap (λ (n : ℕ). is_told is.loops n && has_below blocks n) back
          ∙ ap (λ (b : Bool). b && has_below blocks number) of.one ∙ f

  -- ---- inside a loop's part no run enters

  -- its first block is the loop's own, or the one above
  pub first_cases : (number : ℕ)
      → ((has_above blocks number ≡ true) × (0 < number) × (first_block blocks number ≡ number - 1))
      ⊎ ((has_above blocks number ≡ false) × (first_block blocks number ≡ number))
  first_cases number = ⊎_elim (λ (t : has_above blocks number ≡ true). inl (
    t,
    some number t,
    ap (λ (b : Bool). if b then number - 1 else number) t,
  )) (λ (f : has_above blocks number ≡ false). inr (f, ap (λ (b : Bool). if b then number - 1 else number) f))
      (cases_Bool (has_above blocks number))
    where
      some : (n : ℕ) → has_above blocks n ≡ true → 0 < n
      some zero t = absurd (false≢true t)
      some (suc n) t = omega arith

  pub behind_cases : (number : ℕ)
      → ((has_below blocks number ≡ true) × (block_behind blocks number ≡ number + 2))
      ⊎ ((has_below blocks number ≡ false) × (block_behind blocks number ≡ number + 1))
  behind_cases number = ⊎_elim (λ (t : has_below blocks number ≡ true). inl (
    t,
    ap (λ (b : Bool). if b then number + 2 else number + 1) t,
  )) (λ (f : has_below blocks number ≡ false). inr (f, ap (λ (b : Bool). if b then number + 2 else number + 1) f))
      (cases_Bool (has_below blocks number))

  pub first_below : (number : ℕ) → first_block blocks number ≤ number
  first_below number = ⊎_elim {C = first_block blocks number ≤ number} (λ h. (let e = h.2 in omega (arith, e)))
      (λ h. (let e = h.1 in omega (arith, e))) (first_cases number)

  pub above_behind : (number : ℕ) → number < block_behind blocks number
  above_behind number = ⊎_elim {C = number < block_behind blocks number} (λ h. (let e = h.1 in omega (arith, e)))
      (λ h. (let e = h.1 in omega (arith, e))) (behind_cases number)

  pub none_inside : (number : ℕ) (of : Loop number) (b row : ℕ) → first_block blocks number < b
      → b < block_behind blocks number → Enter b row → ⊥
  none_inside number of b row after before enters =
      ⊎_elim {C = ⊥} (λ (l : b < number + 1). at_loop l (first_cases number)) (λ (g : number + 1 ≤ b).
      at_below g (behind_cases number)) (cases_lt b (number + 1))
    where
      at_loop : b < number + 1
          → ((has_above blocks number ≡ true) × (0 < number) × (first_block blocks number ≡ number - 1))
          ⊎ ((has_above blocks number ≡ false) × (first_block blocks number ≡ number)) → ⊥
      at_loop l (inr h) = let e = h.1 in absurd (omega (arith, l, e, after))
      at_loop l (inl h) =
          let e = h.2 in
          let some = h.1 in
          let same : b ≡ number = omega (arith, l, e, some, after) in
          let at : start_at is.starts number ≡ Some row = subst (λ (n : ℕ). start_at is.starts n ≡ Some row) same
          enters.at in
          let other : (first_block blocks number == number) ≡ false = grind (arith, nat_tests, e, some) in
          let alone : ((first_block blocks number == number) || is_none (Some row)) ≡ true
          = subst (λ (o : Option ℕ). ((first_block blocks number == number) || is_none o) ≡ true) at of.alone in
          false≢true (sym (ap (λ (b : Bool). b || false) other) ∙ alone)

      at_below : number + 1 ≤ b
          → ((has_below blocks number ≡ true) × (block_behind blocks number ≡ number + 2))
          ⊎ ((has_below blocks number ≡ false) × (block_behind blocks number ≡ number + 1)) → ⊥
      at_below g (inr h) = let e = h.1 in absurd (omega (arith, g, e, before))
      at_below g (inl h) =
          let e = h.1 in
          let same : b ≡ number + 1 = omega (arith, g, e, before) in
          let some : ((number + 1) == 0) ≡ false = grind (arith, nat_tests) in
          let back : number + 1 - 1 ≡ number = omega arith in
          let follows : follows_loop blocks is.loops (number + 1) ≡ true
          = ap (λ (b : Bool).
          if b then false else (is_told is.loops (number + 1 - 1) && has_below blocks (number + 1 - 1))) some
          ∙ ap (λ (n : ℕ). is_told is.loops n && has_below blocks n) back
          ∙ ap (λ (b : Bool). b && has_below blocks number) of.one ∙ h.0 in
          false≢true (sym (subst (λ (n : ℕ). follows_loop blocks is.loops n ≡ false) same enters.free) ∙ follows)

  -- what stands behind a loop's part is a block, or the end
  pub behind_within : (number : ℕ) (of : Loop number) → block_behind blocks number ≤ length blocks
  behind_within number of =
      ⊎_elim {C = block_behind blocks number ≤ length blocks} with_below
      (λ h. (let e = h.1 in let l = slice_get_within blocks number of.block of.there in omega (arith, e, l)))
      (behind_cases number)
    where
      there : (o : Option Serial) → is_bare o ≡ true → (block : Serial) × (o ≡ Some block)
      there None h = absurd (false≢true h)
      there (Some block) h = (block, refl)

      with_below : (has_below blocks number ≡ true) × (block_behind blocks number ≡ number + 2)
          → block_behind blocks number ≤ length blocks
      with_below h =
          let has = there (slice_get blocks (number + 1))
          (and_parts (is_bare (slice_get blocks (number + 1))) (not (is_apart_below blocks number)) h.0).0 in
          let l = slice_get_within blocks (number + 1) has.0 has.1 in
          let e = h.1 in omega (arith, e, l)
