-- What is told of one block after the other.
use Rattle.std.proofs.Common.{arith, ◌≡◌, ℕ, suc, ◌+◌, ◌≤◌, Bool, true, false, List, [], ◌∷◌, ◌++◌, length, refl, sym}
use Rattle.std.proofs.Common.{Option, ap, ◌∙◌}
use Rattle.std.specs.Prelude.{map, not, ◌&&◌}
use Rattle.std.specs.List.{list_all}
use Rattle.std.proofs.lemmas.List.{length-append, length-map}
use Rattle.std.proofs.lemmas.List.Folds.{list_all-append}
use Rattle.std.proofs.lemmas.Option.{none-some}
use Rattle.clap.specs.Words.{Text as Name}
use Rattle.c62_op.specs.declared.register.Reg.{Reg}
use Rattle.c62_read.specs.Block.{Serial}
use Rattle.c62_flight.specs.Text.{Text}
use Rattle.c62_rows.specs.Rows.{row_read, text_of}
use Rattle.c62_rows.specs.declared.rows.Rows.{Rows as RowsRead}
use Rattle.c62_loop_match.specs.declared.promise.Promise.{Promise}
use Rattle.c62_check_loop.specs.declared.verdict.LoopVerdict.{LoopVerdict}
use Rattle.c62_check_rest.specs.Starts.{Starts}
use Rattle.c62_check_loops.specs.declared.told.LoopsJudged.{LoopsJudged}
use Rattle.c62_check_loops.specs.declared.told.Told.{Told}
use Rattle.c62_check_loops.specs.declared.verdict.BlockVerdict.{BlockVerdict}
use Rattle.c62_check_loops.specs.Promised.{IsPromiseOf}
use Rattle.c62_check_loops.specs.Lines.{lines_from, rows_line}
use Rattle.c62_check_loops.specs.Verdicts.{IsBlockTold, are_good, is_good, is_plain, is_same}
use Rattle.c62_check_loops.specs.Fit.{are_all_rows, are_fit, is_fit}
use Rattle.c62_check_loops.specs.Told.{AreLoopsJudged, AreLoopsTold, AreTold, stand_in_turn}
use Rattle.c62_check_loops.proofs.Loops.{each_pushed}

and_true : (a : Bool) → (a && true) ≡ a
and_true true = refl
and_true false = refl

and_assoc : (a b c : Bool) → (a && (b && c)) ≡ ((a && b) && c)
and_assoc true b c = refl
and_assoc false b c = refl

good_push : (trips : List (Name × ℕ)) (blocks : List Serial) (number : ℕ) (verdicts : List BlockVerdict)
    (verdict : BlockVerdict)
    → are_good trips blocks number (verdicts ++ verdict ∷ []) ≡
    (are_good trips blocks number verdicts && is_good trips blocks (number + length verdicts) verdict)
good_push trips blocks number [] verdict = and_true (is_good trips blocks number verdict)
    ∙ ap (λ (n : ℕ). is_good trips blocks n verdict) (omega arith)
good_push trips blocks number (v ∷ verdicts) verdict =
    ap (λ (b : Bool). is_good trips blocks number v && b)
    (good_push trips blocks (number + 1) verdicts verdict
    ∙ ap (λ (n : ℕ). are_good trips blocks (number + 1) verdicts && is_good trips blocks n verdict)
    (omega arith))
    ∙ and_assoc (is_good trips blocks number v) (are_good trips blocks (number + 1) verdicts)
    (is_good trips blocks (number + suc (length verdicts)) verdict)

fit_push : (blocks : List Serial) (loops : List (Option LoopVerdict)) (starts : Starts) (number : ℕ)
    (verdicts : List BlockVerdict) (verdict : BlockVerdict)
    → are_fit blocks loops starts number (verdicts ++ verdict ∷ []) ≡
    (are_fit blocks loops starts number verdicts && is_fit blocks loops starts (number + length verdicts) verdict)
fit_push blocks loops starts number [] verdict =
    let place : number ≡ number + 0 = omega arith in
    and_true (is_fit blocks loops starts number verdict) ∙ ap (λ (n : ℕ). is_fit blocks loops starts n verdict) place
fit_push blocks loops starts number (v ∷ verdicts) verdict =
    let place : number + 1 + length verdicts ≡ number + suc (length verdicts) = omega arith in
    ap (λ (b : Bool). is_fit blocks loops starts number v && b)
    (fit_push blocks loops starts (number + 1) verdicts verdict
    ∙ ap (λ (n : ℕ). are_fit blocks loops starts (number + 1) verdicts && is_fit blocks loops starts n verdict) place)
    ∙ and_assoc (is_fit blocks loops starts number v) (are_fit blocks loops starts (number + 1) verdicts)
    (is_fit blocks loops starts (number + suc (length verdicts)) verdict)

all_next : (test : BlockVerdict → Bool) (old new : Bool) (verdicts : List BlockVerdict) (verdict : BlockVerdict)
    → old ≡ list_all test verdicts → new ≡ (old && test verdict) → new ≡ list_all test (verdicts ++ verdict ∷ [])
all_next test old new verdicts verdict before is = is ∙ (ap (λ (b : Bool). b && test verdict) before
    ∙ (ap (λ (b : Bool). list_all test verdicts && b) (sym (and_true (test verdict)))
    ∙ sym (list_all-append test verdicts (verdict ∷ []))))

-- all of it
pub loops_judged : (trips : List (Name × ℕ)) (apart : List Reg) (promise : Promise)
    (loops : List (Option LoopVerdict)) (starts : Starts) (blocks : List Serial) (rows : RowsRead) (count : ℕ)
    (told : Told) (judged : LoopsJudged) (all : Bool)
    → AreTold trips promise loops starts blocks (text_of rows) (length blocks) told → length loops ≡ length blocks
    → IsPromiseOf apart promise → count ≡ length rows.rows.items → all ≡ are_all_rows starts (length blocks) count
    → judged.verdicts.items ≡ told.verdicts.items → judged.wanting ≡ (told.same && not (told.fit && all))
    → judged.same ≡ (told.good && (told.fit && all)) → judged.plain ≡ told.plain
    → AreLoopsJudged trips apart blocks (text_of rows) judged
loops_judged trips apart promise loops starts blocks rows count told judged all is as_many promised counted stands they want
    so none =
    let long : length (map row_read rows.rows.items) ≡ length rows.rows.items = length-map rows.rows.items row_read in
    let ends : all ≡ are_all_rows starts (length blocks) (length (text_of rows).rows) = stands
    ∙ ap (λ (n : ℕ). are_all_rows starts (length blocks) n) (counted ∙ sym long) in
    let whole : (told.fit && all) ≡ stand_in_turn loops starts blocks told.verdicts.items (text_of rows)
    = ap (λ (b : Bool). b && all) is.fit
    ∙ ap (λ (b : Bool). are_fit blocks loops starts 0 told.verdicts.items && b) ends in
    record {
      promise = promise;
      promised = promised;
      loops = loops;
      counted = as_many;
      starts = starts;
      are = rw they is.are;
      rows = rw they (want ∙ (ap (λ (b : Bool). b && not (told.fit && all)) is.same
          ∙ ap (λ (b : Bool). list_all is_same told.verdicts.items && not b) whole));
      all = rw they (so ∙ (ap (λ (b : Bool). b && (told.fit && all)) is.good
          ∙ ap (λ (b : Bool). are_good trips blocks 0 told.verdicts.items && b) whole));
      bare = rw they (none ∙ is.plain);
    }

pub few_judged : (trips : List (Name × ℕ)) (apart : List Reg) (blocks : List Serial) (packets : Text)
    (judged : LoopsJudged) (most : ℕ) → AreLoopsJudged trips apart blocks packets judged → length blocks ≤ most
    → length judged.verdicts.items ≤ most
few_judged trips apart blocks packets judged most is few = (let counted = is.are.counted in omega (arith, counted, few))

pub loops_told : (trips : List (Name × ℕ)) (apart : List Reg) (blocks : List Serial) (packets : Text)
    (judged : LoopsJudged) (answer : List ℕ) → AreLoopsJudged trips apart blocks packets judged
    → answer ≡ lines_from blocks 0 judged.verdicts.items ++ rows_line judged.wanting
    → AreLoopsTold trips apart blocks packets answer judged.same judged.plain
loops_told trips apart blocks packets judged answer is text = record {
  promise = is.promise;
  promised = is.promised;
  loops = is.loops;
  counted = is.counted;
  starts = is.starts;
  verdicts = judged.verdicts.items;
  are = is.are;
  told = text ∙ ap (λ (b : Bool). lines_from blocks 0 judged.verdicts.items ++ rows_line b) is.rows;
  all = is.all;
  bare = is.bare;
}

module _ (trips : List (Name × ℕ)) (promise : Promise) (loops : List (Option LoopVerdict)) (starts : Starts)
    (blocks : List Serial) (packets : Text) where
  pub none_told : (told : Told) → told.verdicts.items ≡ [] → told.same ≡ true → told.plain ≡ true → told.good ≡ true
      → told.fit ≡ true
      → AreTold trips promise loops starts blocks packets 0 told
  none_told told none same plain good fit = record {
    are = rw none (record { counted = refl; each = λ number verdict at. absurd (none-some verdict at) });
    same = rw none same;
    plain = rw none plain;
    good = rw none good;
    fit = rw none fit;
  }

  pub told_next : (count : ℕ) (old new : Told) (verdict : BlockVerdict)
      → AreTold trips promise loops starts blocks packets count old
      → IsBlockTold promise loops starts blocks packets count verdict
      → new.verdicts.items ≡ old.verdicts.items ++ verdict ∷ []
      → new.same ≡ (old.same && is_same verdict) → new.plain ≡ (old.plain && is_plain verdict)
      → new.good ≡ (old.good && is_good trips blocks count verdict)
      → new.fit ≡ (old.fit && is_fit blocks loops starts count verdict)
      → AreTold trips promise loops starts blocks packets (count + 1) new
  told_next count old new verdict told says pushed same plain good fit =
      let before = old.verdicts.items in
      let counted = told.are.counted in
      let place : count ≡ 0 + length before = omega (arith, counted) in
      record {
        are = rw pushed (record {
          counted = (let many = length-append before (verdict ∷ []) in omega (arith, many, counted));
          each = each_pushed (λ number v. IsBlockTold promise loops starts blocks packets number v) count before
              verdict counted told.are.each says;
        });
        same = rw pushed (all_next is_same old.same new.same before verdict told.same same);
        plain = rw pushed (all_next is_plain old.plain new.plain before verdict told.plain plain);
        good = rw pushed (good ∙ (ap (λ (b : Bool). b && is_good trips blocks count verdict) told.good
            ∙ (ap (λ (n : ℕ). are_good trips blocks 0 before && is_good trips blocks n verdict) place
            ∙ sym (good_push trips blocks 0 before verdict))));
        fit = rw pushed (fit ∙ (ap (λ (b : Bool). b && is_fit blocks loops starts count verdict) told.fit
            ∙ (ap (λ (n : ℕ). are_fit blocks loops starts 0 before && is_fit blocks loops starts n verdict) place
            ∙ sym (fit_push blocks loops starts 0 before verdict))));
      }
