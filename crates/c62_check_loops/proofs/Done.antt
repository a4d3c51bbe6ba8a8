-- Where all is told to be the same, each block is done.
use Rattle.std.proofs.Common.{arith, ◌≡◌, ℕ, zero, suc, ◌+◌, Bool, true, false, List, [], ◌∷◌, ◌++◌, length, Option}
use Rattle.std.proofs.Common.{Some, None, refl, sym, ◌∙◌, ap, subst, inl, inr}
use Rattle.std.specs.Prelude.{slice_get, ◌==◌, ◌&&◌}
use Rattle.std.specs.List.{list_all}
use Rattle.std.proofs.lemmas.Bool.{false≢true}
use Rattle.std.proofs.lemmas.Bool.Decides.{nat_tests}
use Rattle.std.proofs.lemmas.List.{append_assoc}
use Rattle.std.proofs.lemmas.Option.{none-some, same_Some, slice_get_within}
use Rattle.clap.proofs.WalkLemmas.{both}
use Rattle.clap.specs.Words.{Text as Name}
use Rattle.c62_op.specs.declared.register.Reg.{Reg}
use Rattle.c62_read.specs.declared.block.SerialInsn.{SerialInsn}
use Rattle.c62_read.specs.Block.{Serial}
use Rattle.c62_pair.specs.declared.reg_set.RegSet.{RegSet}
use Rattle.c62_flight.specs.Text.{Text}
use Rattle.c62_loop.specs.Loop.{Region}
use Rattle.c62_loop_match.specs.declared.promise.Promise.{Promise}
use Rattle.c62_loop_match.specs.Promise.{promises}
use Rattle.c62_check_loop.specs.declared.verdict.LoopVerdict.{LoopVerdict}
use Rattle.c62_check_loop.specs.declared.verdict.LoopVerdict.TheVariants as told
use Rattle.c62_check_loop.specs.Told.{IsTold}
use Rattle.c62_check_loop.specs.Laws.{DoesTheSame, DoesTheSameBut}
use Rattle.c62_check_loop.specs.Lines.{loop_line}
use Rattle.c62_check_loop.proofs.Sames.{same_is_serial}
use Rattle.c62_check_loop.proofs.SameButs.{same_but_is_serial}
use Rattle.c62_check_rest.specs.Starts.{Starts, start_at, is_row}
use Rattle.c62_check_rest.specs.Told.{IsRest}
use Rattle.c62_check_rest.proofs.Serials.{rest_is_serial, row_is}
use Rattle.c62_check_loops.specs.declared.verdict.BlockVerdict.{BlockVerdict}
use Rattle.c62_check_loops.specs.declared.verdict.BlockVerdict.TheVariants.{Loop, Within, Rest}
use Rattle.c62_check_loops.specs.Fit.{are_fit, are_all_rows, block_behind, first_block, is_alone, is_fit, stands_there}
use Rattle.c62_check_loops.specs.Lines.{label_in, insns_in, named_line, line_at, lines_from, loop_at, reading_lines}
use Rattle.c62_check_loops.specs.Reading.{is_unread, readings_from}
use Rattle.c62_check_loops.specs.Verdicts.{IsBlockTold, are_good, is_good, is_good_loop, is_plain}
use Rattle.c62_check_loops.specs.Constant.{constant_at}
use Rattle.c62_check_loops.proofs.Constants.{are_sure}
use Rattle.c62_check_loops.specs.Laws.{DoesTheLoop, HasLine, IsDone, IsLoopDone, LoopsDoTheSame, naming_of}
use Rattle.c62_check_loops.proofs.Loops.{there_at}

-- what holds of all from a number on holds of each
test_at : {X : Type 0} (all : ℕ → List X → Bool) (test : ℕ → X → Bool)
    → ((n : ℕ) (x : X) (xs : List X) → all n (x ∷ xs) ≡ (test n x && all (n + 1) xs))
    → (number k : ℕ) (xs : List X) (x : X) → all number xs ≡ true → slice_get xs k ≡ Some x
    → test (number + k) x ≡ true
test_at all test step number k [] x holds at = absurd (none-some x at)
test_at {X} all test step number zero (y ∷ xs) x holds at =
    let parts = both (test number y) (all (number + 1) xs) (sym (step number y xs) ∙ holds) in
    let place : number ≡ number + 0 = omega arith in
    subst (λ (n : ℕ). test n x ≡ true) place (subst (λ (z : X). test number z ≡ true) (same_Some y x at) parts.0)
test_at all test step number (suc k) (y ∷ xs) x holds at =
    let parts = both (test number y) (all (number + 1) xs) (sym (step number y xs) ∙ holds) in
    let place : number + 1 + k ≡ number + suc k = omega arith in
    subst (λ (n : ℕ). test n x ≡ true) place (test_at all test step (number + 1) k xs x parts.1 at)

-- the line of each block stands among those of all
line_there : (blocks : List Serial) (number k : ℕ) (verdicts : List BlockVerdict) (verdict : BlockVerdict)
    → slice_get verdicts k ≡ Some verdict
    → HasLine (lines_from blocks number verdicts) (line_at blocks (number + k) verdict)
line_there blocks number k [] verdict at = absurd (none-some verdict at)
line_there blocks number zero (v ∷ verdicts) verdict at =
    let place : number ≡ number + 0 = omega arith in (
      [],
      lines_from blocks (number + 1) verdicts,
      ap (λ (n : ℕ). line_at blocks n v ++ lines_from blocks (number + 1) verdicts) place
          ∙ ap (λ (w : BlockVerdict). line_at blocks (number + 0) w ++ lines_from blocks (number + 1) verdicts)
          (same_Some v verdict at),
    )
line_there blocks number (suc k) (v ∷ verdicts) verdict at =
    let (front, back, e) = line_there blocks (number + 1) k verdicts verdict at in
    let place : number + 1 + k ≡ number + suc k = omega arith in (
      line_at blocks number v ++ front,
      back,
      ap (λ (xs : List ℕ). line_at blocks number v ++ xs) (e
          ∙ ap (λ (n : ℕ). front ++ (line_at blocks n verdict ++ back)) place)
          ∙ sym (append_assoc (line_at blocks number v) front (line_at blocks (number + suc k) verdict ++ back)),
    )

line_more : (text line more : List ℕ) → HasLine text line → HasLine (text ++ more) line
line_more text line more (front, back, e) = (
  front,
  back ++ more,
  ap (λ (xs : List ℕ). xs ++ more) e ∙ append_assoc front (line ++ back) more
      ∙ ap (λ (xs : List ℕ). front ++ xs) (append_assoc line back more),
)

nothing_in : {X : Type 0} (xs : List X) → (length xs == 0) ≡ true → xs ≡ []
nothing_in [] none = refl
nothing_in (x ∷ xs) none = absurd (grind (arith, nat_tests, none))

-- a line that begins others
line_front : (text line more : List ℕ) → HasLine text (line ++ more) → HasLine text line
line_front text line more (front, back, e) = (
  front,
  more ++ back,
  e ∙ ap (λ (xs : List ℕ). front ++ xs) (append_assoc line more back),
)

module _ (promise : Promise) (blocks : List Serial) (region : Region) (packets : Text) (answer : List ℕ) (label : Name)
    (insns : List SerialInsn) (least cycles first last : ℕ) where
  -- a loop that is the same is, whether the answer names registers or not
  done_same : (plain : Bool) → DoesTheSame (promises promise) region packets least cycles first last
      → DoesTheLoop promise blocks region packets (naming_of plain answer) label insns least cycles first last
  done_same true does = does
  done_same false does = inl does

  -- one that is so but for registers is named
  done_but : (plain : Bool) (but : RegSet) → (plain ≡ true → false ≡ true)
      → HasLine answer (loop_line label insns (told.SameBut least cycles first last but))
      → readings_from blocks (block_behind blocks region.number) but ≡ []
      → DoesTheSameBut (promises promise) region packets least cycles first last but
      → DoesTheLoop promise blocks region packets (naming_of plain answer) label insns least cycles first last
  done_but true but plainly has unread does = absurd (false≢true (plainly refl))
  done_but false but plainly has unread does = inr (but, has, unread, does)

module _ (trips : List (Name × ℕ)) (promise : Promise) (loops : List (Option LoopVerdict)) (starts : Starts)
    (blocks : List Serial) (packets : Text) (answer : List ℕ) (plain : Bool) (number : ℕ) (block : Serial) where
  -- a good loop is done
  loop_done : (label : Option Name) (verdict : LoopVerdict) → block.label ≡ label
      → HasLine answer (named_line number label block.insns verdict)
      → (plain ≡ true → is_plain (Loop verdict) ≡ true)
      → is_good_loop trips label (constant_at blocks number) verdict ≡ true → is_unread blocks number verdict ≡ true
      → is_fit blocks loops starts number (Loop verdict) ≡ true
      → IsTold (promises promise) blocks number packets (Some verdict)
      → IsLoopDone trips promise starts blocks packets (naming_of plain answer) number block
  loop_done (Some label) (told.Same least cycles first last) labelled has none good unread fit (region, found, same) =
      let parts = both (is_alone blocks starts number) (stands_there blocks starts number first last) fit in
      let rows = both (is_row (start_at starts (first_block blocks number)) first)
      (is_row (start_at starts (block_behind blocks number)) last) parts.1 in
      record {
        label = label;
        labelled = labelled;
        region = region;
        found = found;
        least = least;
        cycles = cycles;
        first = first;
        last = last;
        sure = are_sure trips blocks number region label (constant_at blocks number) least found refl good;
        does = done_same promise blocks region packets answer label block.insns least cycles first last plain
            (same_is_serial (promises promise) region packets least cycles first last same);
        alone = parts.0;
        begins = row_is (start_at starts (first_block blocks number)) first rows.0;
        ends = row_is (start_at starts (block_behind blocks number)) last rows.1;
      }
  loop_done (Some label) (told.SameBut least cycles first last but) labelled has none good unread fit (region, found, same) =
      let parts = both (is_alone blocks starts number) (stands_there blocks starts number first last) fit in
      let rows = both (is_row (start_at starts (first_block blocks number)) first)
      (is_row (start_at starts (block_behind blocks number)) last) parts.1 in
      record {
        label = label;
        labelled = labelled;
        region = region;
        found = found;
        least = least;
        cycles = cycles;
        first = first;
        last = last;
        sure = are_sure trips blocks number region label (constant_at blocks number) least found refl good;
        does = done_but promise blocks region packets answer label block.insns least cycles first last plain but none has
            (ap (λ (n : ℕ). readings_from blocks (block_behind blocks n) but) found.numbered
            ∙ nothing_in (readings_from blocks (block_behind blocks number) but) unread)
            (same_but_is_serial (promises promise) region packets least cycles first last but same);
        alone = parts.0;
        begins = row_is (start_at starts (first_block blocks number)) first rows.0;
        ends = row_is (start_at starts (block_behind blocks number)) last rows.1;
      }
  loop_done (Some label) (told.Missing line) labelled has none good unread fit is = absurd cc
  loop_done (Some label) (told.Extra line) labelled has none good unread fit is = absurd cc
  loop_done (Some label) (told.Uneven line) labelled has none good unread fit is = absurd cc
  loop_done (Some label) (told.Counter line) labelled has none good unread fit is = absurd cc
  loop_done (Some label) (told.Early early) labelled has none good unread fit is = absurd cc
  loop_done (Some label) (told.Branch line) labelled has none good unread fit is = absurd cc
  loop_done (Some label) told.Outside labelled has none good unread fit is = absurd cc
  loop_done None (told.Same least cycles first last) labelled has none good unread fit is = absurd cc
  loop_done None (told.SameBut least cycles first last but) labelled has none good unread fit is = absurd cc
  loop_done None (told.Missing line) labelled has none good unread fit is = absurd cc
  loop_done None (told.Extra line) labelled has none good unread fit is = absurd cc
  loop_done None (told.Uneven line) labelled has none good unread fit is = absurd cc
  loop_done None (told.Counter line) labelled has none good unread fit is = absurd cc
  loop_done None (told.Early early) labelled has none good unread fit is = absurd cc
  loop_done None (told.Branch line) labelled has none good unread fit is = absurd cc
  loop_done None told.Outside labelled has none good unread fit is = absurd cc

  block_done : (verdict : BlockVerdict) → slice_get blocks number ≡ Some block
      → HasLine answer (line_at blocks number verdict) → (plain ≡ true → is_plain verdict ≡ true)
      → is_good trips blocks number verdict ≡ true → is_fit blocks loops starts number verdict ≡ true
      → IsBlockTold promise loops starts blocks packets number verdict
      → IsDone trips promise loops starts blocks packets (naming_of plain answer) number block
  block_done Within there has bare good fit (none, with_loop) =
      inr (none, inl (record { with_loop = with_loop; entered = fit }))
  block_done (Loop verdict) there has bare good fit (one, is) =
      let parts = both (is_good_loop trips (label_in (slice_get blocks number)) (constant_at blocks number) verdict)
      (is_unread blocks number verdict) good
      in inl (
        one,
        loop_done block.label verdict refl
            (subst (λ (b : Option Serial). HasLine answer (named_line number (label_in b) (insns_in b) verdict)) there
            (line_front answer (loop_at blocks number verdict) (reading_lines blocks number verdict) has))
            bare (subst (λ (b : Option Serial). is_good_loop trips (label_in b) (constant_at blocks number) verdict ≡ true)
            there parts.0) parts.1 fit is,
      )
  block_done (Rest verdict) there has bare good fit (none, (other, at, is)) =
      let same : other ≡ block = same_Some other block (sym at ∙ there) in
      inr (
        none,
        inr (rest_is_serial starts packets number block verdict
            (subst (λ (b : Serial). IsRest starts packets number b verdict) same is) good),
      )

pub loops_do_the_same : (trips : List (Name × ℕ)) (apart : List Reg) (blocks : List Serial) (packets : Text)
    (answer : List ℕ) (plain : Bool)
    → LoopsDoTheSame trips apart blocks packets answer plain
loops_do_the_same trips apart blocks packets answer plain is =
    let parts = both _ _ (sym is.all) in
    let turn = both (are_fit blocks is.loops is.starts 0 is.verdicts)
    (are_all_rows is.starts (length blocks) (length packets.rows)) parts.1 in
    let rows = both (is_row (start_at is.starts 0) 0)
    (is_row (start_at is.starts (length blocks)) (length packets.rows)) turn.1 in
    let counted = is.are.counted in
    record {
      promise = is.promise;
      promised = is.promised;
      told = is.loops;
      counted = is.counted;
      starts = is.starts;
      begins = row_is (start_at is.starts 0) 0 rows.0;
      ends = row_is (start_at is.starts (length blocks)) (length packets.rows) rows.1;
      each = λ number block there.
          (let within = slice_get_within blocks number block there in
          let has = there_at is.verdicts number (omega (arith, within, counted)) in
          let place : 0 + number ≡ number = omega arith in
          let good : is_good trips blocks number has.0 ≡ true
          = subst (λ (n : ℕ). is_good trips blocks n has.0 ≡ true) place
          (test_at (are_good trips blocks) (is_good trips blocks) (λ n x xs. refl) 0 number is.verdicts has.0
          parts.0 has.1) in
          let fit : is_fit blocks is.loops is.starts number has.0 ≡ true
          = subst (λ (n : ℕ). is_fit blocks is.loops is.starts n has.0 ≡ true) place
          (test_at (are_fit blocks is.loops is.starts) (is_fit blocks is.loops is.starts) (λ n x xs. refl) 0 number
          is.verdicts has.0 turn.0 has.1) in
          let line : HasLine answer (line_at blocks number has.0)
          = subst (λ (n : ℕ). HasLine answer (line_at blocks n has.0)) place
          (subst (λ (xs : List ℕ). HasLine xs (line_at blocks (0 + number) has.0)) (sym is.told)
          (line_more (lines_from blocks 0 is.verdicts) (line_at blocks (0 + number) has.0) _
          (line_there blocks 0 number is.verdicts has.0 has.1))) in
          let bare : plain ≡ true → is_plain has.0 ≡ true
          = λ all. test_at (λ n xs. list_all is_plain xs) (λ n x. is_plain x) (λ n x xs. refl) 0 number is.verdicts
          has.0 (sym is.bare ∙ all) has.1 in
          block_done trips is.promise is.loops is.starts blocks packets answer plain number block has.0 there line
          bare good fit (is.are.each number has.0 has.1));
    }
