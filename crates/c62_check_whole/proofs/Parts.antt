-- The parts of a program: a loop with what stands around it, a block that belongs to none, or one with nothing in it.
use Rattle.std.proofs.Common.{◌≡◌, ℕ, zero, suc, ◌+◌, ◌-◌, ◌<◌, Bool, true, false, List, [], ◌∷◌, length}
use Rattle.std.proofs.Common.{Option, Some, None, refl, sym, ◌∙◌, ap, subst, ◌⊎◌, inl, inr, ⊎_elim, arith}
use Rattle.std.specs.Prelude.{slice_get, is_none, is_some, if◌then◌else◌, ◌==◌, ◌&&◌, ◌||◌}
use Rattle.std.specs.List.{list_all}
use Rattle.std.proofs.lemmas.Bool.{and_parts, eqb-true, false≢true, cases_Bool}
use Rattle.std.proofs.lemmas.Bool.Decides.{nat_tests}
use Rattle.std.proofs.lemmas.Option.{none-some, same_Some, slice_get_within}
use Rattle.clap.specs.Words.{Text as Name}
use Rattle.c62_op.specs.declared.register.Reg.{Reg}
use Rattle.c62_read.specs.Block.{Serial}
use Rattle.c62_flight.specs.Text.{Text}
use Rattle.c62_loop.specs.Loop.{Region}
use Rattle.c62_loop_match.specs.Promise.{promises}
use Rattle.c62_check.specs.declared.verdict.Verdict.TheVariants as rest
use Rattle.c62_check_loop.specs.declared.verdict.LoopVerdict.{LoopVerdict}
use Rattle.c62_check_loop.specs.declared.verdict.LoopVerdict.TheVariants as told
use Rattle.c62_check_loop.specs.Region.{IsRegionOf}
use Rattle.c62_check_loop.specs.Told.{IsSame, IsTold}
use Rattle.c62_check_rest.specs.declared.verdict.RestVerdict.{RestVerdict}
use Rattle.c62_check_rest.specs.declared.verdict.RestVerdict.TheVariants.{Checked, Faulty, Undrained, Unchecked}
use Rattle.c62_check_rest.specs.Starts.{start_at, is_row}
use Rattle.c62_check_rest.specs.Told.{IsChecked, IsRest, is_same as is_same_rest}
use Rattle.c62_check_rest.proofs.Serials.{row_is}
use Rattle.c62_check_loops.specs.declared.verdict.BlockVerdict.{BlockVerdict}
use Rattle.c62_check_loops.specs.declared.verdict.BlockVerdict.TheVariants.{Loop, Within, Rest}
use Rattle.c62_check_loops.specs.Covered.{loop_in, is_told, is_straight, is_empty, leads_to_loop}
use Rattle.c62_check_loops.specs.Covered.{follows_loop, is_told_with_loop}
use Rattle.c62_check_loops.specs.Fit.{are_fit, are_all_rows, block_behind, first_block, has_above}
use Rattle.c62_check_loops.specs.Fit.{is_alone, is_fit, is_within, is_passed, passes, stands_there}
use Rattle.c62_check_loops.specs.Constant.{constant_at}
use Rattle.c62_check_loops.specs.Granted.{is_enough}
use Rattle.c62_check_loops.specs.Lines.{label_in}
use Rattle.c62_check_loops.specs.Reading.{is_unread}
use Rattle.c62_check_loops.specs.Told.{AreLoopsTold}
use Rattle.c62_check_loops.specs.Verdicts.{IsBlockTold, are_good, is_good, is_good_loop, is_plain}
use Rattle.c62_check_loops.proofs.Loops.{there_at}

-- what holds of all from a number on holds of each
test_at : {X : Type 0} (all : ℕ → List X → Bool) (test : ℕ → X → Bool)
    → ((n : ℕ) (x : X) (xs : List X) → all n (x ∷ xs) ≡ (test n x && all (n + 1) xs))
    → (number k : ℕ) (xs : List X) (x : X) → all number xs ≡ true → slice_get xs k ≡ Some x
    → test (number + k) x ≡ true
test_at all test step number k [] x holds at = absurd (none-some x at)
test_at {X} all test step number zero (y ∷ xs) x holds at =
    let parts = and_parts (test number y) (all (number + 1) xs) (sym (step number y xs) ∙ holds) in
    let place : number ≡ number + 0 = omega arith in
    subst (λ (n : ℕ). test n x ≡ true) place (subst (λ (z : X). test number z ≡ true) (same_Some y x at) parts.0)
test_at all test step number (suc k) (y ∷ xs) x holds at =
    let parts = and_parts (test number y) (all (number + 1) xs) (sym (step number y xs) ∙ holds) in
    let place : number + 1 + k ≡ number + suc k = omega arith in
    subst (λ (n : ℕ). test n x ≡ true) place (test_at all test step (number + 1) k xs x parts.1 at)

nothing_in : {X : Type 0} (xs : List X) → (length xs == 0) ≡ true → xs ≡ []
nothing_in [] none = refl
nothing_in (x ∷ xs) none = absurd (grind (arith, nat_tests, none))

module _ (trips : List (Name × ℕ)) (apart : List Reg) (blocks : List Serial) (packets : Text) (answer : List ℕ)
    (is : AreLoopsTold trips apart blocks packets answer true true) where
  -- a loop
  pub record LoopOf (number : ℕ) : Type 0 where
    pub block : Serial
    pub there : slice_get blocks number ≡ Some block
    pub label : Name
    pub labelled : block.label ≡ Some label
    pub region : Region
    pub found : IsRegionOf blocks number region
    pub least : ℕ
    pub cycles : ℕ
    pub first : ℕ
    pub last : ℕ
    pub sure : is_enough trips label (constant_at blocks number) least ≡ true
    pub same : IsSame (promises is.promise) region packets least cycles first last
    pub one : is_told is.loops number ≡ true
    pub alone : is_alone blocks is.starts number ≡ true
    pub begins : start_at is.starts (first_block blocks number) ≡ Some first
    pub ends : start_at is.starts (block_behind blocks number) ≡ Some last

  -- whose part begins with this block
  pub record LoopPart (k : ℕ) : Type 0 where
    pub number : ℕ
    pub of : LoopOf number
    pub is_first : first_block blocks number ≡ k

  -- a block that belongs to none
  pub record BlockPart (k : ℕ) : Type 0 where
    pub block : Serial
    pub there : slice_get blocks k ≡ Some block
    pub none : is_told is.loops k ≡ false
    pub first : ℕ
    pub count : ℕ
    pub begins : start_at is.starts k ≡ Some first
    pub ends : start_at is.starts (k + 1) ≡ Some (first + count)
    pub checked : IsChecked is.starts packets first count block rest.Same

  -- one with nothing in it
  pub record PassPart (k : ℕ) : Type 0 where
    pub block : Serial
    pub there : slice_get blocks k ≡ Some block
    pub none : is_told is.loops k ≡ false
    pub empty : block.insns ≡ []
    pub row : ℕ
    pub begins : start_at is.starts k ≡ Some row
    pub ends : start_at is.starts (k + 1) ≡ Some row

  abbrev pub Part : ℕ → Type 0
  Part k = LoopPart k ⊎ (BlockPart k ⊎ PassPart k)

  -- a run enters this block at a row: it belongs to no loop that stands before it
  pub record Enters (k row : ℕ) : Type 0 where
    pub at : start_at is.starts k ≡ Some row
    pub free : follows_loop blocks is.loops k ≡ false

  -- ---- what is told of each block

  record IsGood (number : ℕ) (verdict : BlockVerdict) : Type 0 where
    good : is_good trips blocks number verdict ≡ true
    fit : is_fit blocks is.loops is.starts number verdict ≡ true
    plain : is_plain verdict ≡ true
    told : IsBlockTold is.promise is.loops is.starts blocks packets number verdict

  all_parts : (are_good trips blocks 0 is.verdicts ≡ true) × (are_fit blocks is.loops is.starts 0 is.verdicts ≡ true)
      × (are_all_rows is.starts (length blocks) (length packets.rows) ≡ true)
  all_parts =
      let parts = and_parts _ _ (sym is.all) in
      let turn = and_parts (are_fit blocks is.loops is.starts 0 is.verdicts)
      (are_all_rows is.starts (length blocks) (length packets.rows)) parts.1 in
      (parts.0, turn.0, turn.1)

  ends_with : (is_row (start_at is.starts 0) 0 ≡ true)
      × (is_row (start_at is.starts (length blocks)) (length packets.rows) ≡ true)
  ends_with = and_parts (is_row (start_at is.starts 0) 0)
      (is_row (start_at is.starts (length blocks)) (length packets.rows)) all_parts.2

  pub enters_first : Enters 0 0
  enters_first = record { at = row_is (start_at is.starts 0) 0 ends_with.0; free = refl }

  pub leaves_last : start_at is.starts (length blocks) ≡ Some (length packets.rows)
  leaves_last = row_is (start_at is.starts (length blocks)) (length packets.rows) ends_with.1

  verdict_of : (number : ℕ) (block : Serial) → slice_get blocks number ≡ Some block
      → (verdict : BlockVerdict) × IsGood number verdict
  verdict_of number block there =
      let within = slice_get_within blocks number block there in
      let counted = is.are.counted in
      let has = there_at is.verdicts number (omega (arith, within, counted)) in
      let place : 0 + number ≡ number = omega arith in (
        has.0,
        record {
          good = subst (λ (n : ℕ). is_good trips blocks n has.0 ≡ true) place
              (test_at (are_good trips blocks) (is_good trips blocks) (λ n x xs. refl) 0 number is.verdicts has.0
              all_parts.0 has.1);
          fit = subst (λ (n : ℕ). is_fit blocks is.loops is.starts n has.0 ≡ true) place
              (test_at (are_fit blocks is.loops is.starts) (is_fit blocks is.loops is.starts) (λ n x xs. refl) 0
              number is.verdicts has.0 all_parts.1 has.1);
          plain = test_at (λ n xs. list_all is_plain xs) (λ n x. is_plain x) (λ n x xs. refl) 0 number is.verdicts
              has.0 (sym is.bare) has.1;
          told = is.are.each number has.0 has.1;
        },
      )

  -- ---- loops

  module _ (number : ℕ) (block : Serial) (there : slice_get blocks number ≡ Some block)
      (one : is_told is.loops number ≡ true) where
    by_loop : (label : Option Name) (verdict : LoopVerdict) → block.label ≡ label
        → is_good_loop trips label (constant_at blocks number) verdict ≡ true → is_plain (Loop verdict) ≡ true
        → is_fit blocks is.loops is.starts number (Loop verdict) ≡ true
        → IsTold (promises is.promise) blocks number packets (Some verdict)
        → LoopOf number
    by_loop (Some label) (told.Same least cycles first last) labelled good plain fit (region, found, same) =
        let parts = and_parts (is_alone blocks is.starts number) (stands_there blocks is.starts number first last) fit
        in
        let rows = and_parts (is_row (start_at is.starts (first_block blocks number)) first)
        (is_row (start_at is.starts (block_behind blocks number)) last) parts.1 in
        record {
          block = block;
          there = there;
          label = label;
          labelled = labelled;
          region = region;
          found = found;
          least = least;
          cycles = cycles;
          first = first;
          last = last;
          sure = good;
          same = same;
          one = one;
          alone = parts.0;
          begins = row_is (start_at is.starts (first_block blocks number)) first rows.0;
          ends = row_is (start_at is.starts (block_behind blocks number)) last rows.1;
        }
    by_loop (Some label) (told.SameBut least cycles first last but) labelled good plain fit of =
        absurd (false≢true plain)
    by_loop (Some label) (told.Missing line) labelled good plain fit of = absurd (false≢true good)
    by_loop (Some label) (told.Extra line) labelled good plain fit of = absurd (false≢true good)
    by_loop (Some label) (told.Uneven line) labelled good plain fit of = absurd (false≢true good)
    by_loop (Some label) (told.Counter line) labelled good plain fit of = absurd (false≢true good)
    by_loop (Some label) (told.Early early) labelled good plain fit of = absurd (false≢true good)
    by_loop (Some label) (told.Branch line) labelled good plain fit of = absurd (false≢true good)
    by_loop (Some label) told.Outside labelled good plain fit of = absurd (false≢true good)
    by_loop None verdict labelled good plain fit of = absurd (false≢true good)

    by_verdict : (verdict : BlockVerdict) → IsGood number verdict → LoopOf number
    by_verdict (Loop verdict) g =
        let parts = and_parts
        (is_good_loop trips (label_in (slice_get blocks number)) (constant_at blocks number) verdict)
        (is_unread blocks number verdict) g.good in
        by_loop block.label verdict refl
        (subst (λ (b : Option Serial). is_good_loop trips (label_in b) (constant_at blocks number) verdict ≡ true)
        there parts.0) g.plain
        g.fit g.told.1
    by_verdict Within g = absurd (false≢true (sym g.told.0 ∙ one))
    by_verdict (Rest verdict) g = absurd (false≢true (sym g.told.0 ∙ one))

    pub loop_of : LoopOf number
    loop_of = let v = verdict_of number block there in by_verdict v.0 v.1

  pub told_within : (number : ℕ) → is_told is.loops number ≡ true → number < length blocks
  told_within number one = by_place (slice_get is.loops number) refl
    where
      by_place : (o : Option (Option LoopVerdict)) → slice_get is.loops number ≡ o → number < length blocks
      by_place None e = absurd (false≢true (subst (λ (o : Option (Option LoopVerdict)). is_some (loop_in o) ≡ true) e one))
      by_place (Some verdict) e =
          let within = slice_get_within is.loops number verdict e in
          let counted = is.counted in omega (arith, within, counted)

  -- ---- at a block that is entered

  module _ (k row : ℕ) (block : Serial) (there : slice_get blocks k ≡ Some block) (enters : Enters k row) where
    alone_first : (alone : is_alone blocks is.starts k ≡ true) → first_block blocks k ≡ k
    alone_first alone = by_test (first_block blocks k == k) refl
        (subst (λ (o : Option ℕ). ((first_block blocks k == k) || is_none o) ≡ true) enters.at alone)
      where
        by_test : (b : Bool) → (first_block blocks k == k) ≡ b → (b || false) ≡ true → first_block blocks k ≡ k
        by_test true e h = eqb-true (first_block blocks k) k e
        by_test false e h = absurd (false≢true h)

    looped : is_told is.loops k ≡ true → LoopPart k
    looped one =
        let of = loop_of k block there one in record { number = k; of = of; is_first = alone_first of.alone }

    led : leads_to_loop blocks is.loops k ≡ true → LoopPart k
    led leads =
        let parts = and_parts (is_told is.loops (k + 1)) (is_straight (slice_get blocks k)) leads in
        let has = there_at blocks (k + 1) (told_within (k + 1) parts.0) in
        let some : ((k + 1) == 0) ≡ false = grind (arith, nat_tests) in
        let back : k + 1 - 1 ≡ k = omega arith in
        let above : has_above blocks (k + 1) ≡ true
        = ap (λ (b : Bool). if b then false else is_straight (slice_get blocks (k + 1 - 1))) some
        ∙ ap (λ (n : ℕ). is_straight (slice_get blocks n)) back ∙ parts.1 in
        record {
          number = k + 1;
          of = loop_of (k + 1) has.0 has.1 parts.0;
          is_first = ap (λ (b : Bool). if b then k + 1 - 1 else k + 1) above ∙ back;
        }

    passed : is_told is.loops k ≡ false → leads_to_loop blocks is.loops k ≡ false
        → is_told_with_loop blocks is.loops k ≡ true → is_within blocks is.loops is.starts k ≡ true → PassPart k
    passed none leads with_loop within = record {
      block = block;
      there = there;
      none = none;
      empty = nothing_in block.insns (subst (λ (o : Option Serial). is_empty o ≡ true) there empty);
      row = row;
      begins = enters.at;
      ends = row_is (start_at is.starts (k + 1)) row next;
    }
      where
        empty : is_empty (slice_get blocks k) ≡ true
        empty = sym (ap (λ (b : Bool). (b || follows_loop blocks is.loops k) || is_empty (slice_get blocks k)) leads
            ∙ ap (λ (b : Bool). b || is_empty (slice_get blocks k)) enters.free) ∙ with_loop

        passes_on : is_passed is.starts k ≡ true
        passes_on =
            sym (ap (λ (b : Bool). if b then true else (if follows_loop blocks is.loops k then
            is_none (start_at is.starts k) else is_passed is.starts k)) leads
            ∙ ap (λ (b : Bool). if b then is_none (start_at is.starts k) else is_passed is.starts k) enters.free)
            ∙ within

        next : is_row (start_at is.starts (k + 1)) row ≡ true
        next = subst (λ (o : Option ℕ). passes o (start_at is.starts (k + 1)) ≡ true) enters.at passes_on

    by_rest : (verdict : RestVerdict) → is_told is.loops k ≡ false → is_same_rest verdict ≡ true
        → IsRest is.starts packets k block verdict → BlockPart k
    by_rest (Checked rest.Same) none same told = record {
      block = block;
      there = there;
      none = none;
      first = told.first;
      count = told.count;
      begins = told.begins;
      ends = told.ends;
      checked = told.told;
    }
    by_rest (Checked (rest.Missing line)) none same told = absurd (false≢true same)
    by_rest (Checked (rest.Extra line)) none same told = absurd (false≢true same)
    by_rest (Checked (rest.TooEarly early)) none same told = absurd (false≢true same)
    by_rest (Faulty fault) none same told = absurd (false≢true same)
    by_rest Undrained none same told = absurd (false≢true same)
    by_rest Unchecked none same told = absurd (false≢true same)

    by_each : (verdict : BlockVerdict) → IsGood k verdict → Part k
    by_each (Loop verdict) g = inl (looped g.told.0)
    by_each Within g =
        ⊎_elim {C = Part k} (λ (t : leads_to_loop blocks is.loops k ≡ true). inl (led t))
        (λ (f : leads_to_loop blocks is.loops k ≡ false). inr
        (inr (passed g.told.0 f g.told.1 g.fit)))
        (cases_Bool (leads_to_loop blocks is.loops k))
    by_each (Rest verdict) g =
        let told = g.told.1 in
        let same_block : told.0 ≡ block = same_Some told.0 block (sym told.1 ∙ there) in
        inr (inl (by_rest verdict g.told.0 g.good
        (subst (λ (b : Serial). IsRest is.starts packets k b verdict) same_block told.2)))

    pub part_at : Part k
    part_at = let v = verdict_of k block there in by_each v.0 v.1
