use Rattle.std.proofs.Common.{◌≡◌, [], drop, map, ap, refl, rules, subst, sym}
use Rattle.std.proofs.lemmas.List.{drop_all}
use Rattle.c62_files.specs.Writing.{AreBegun, StopsAt, text_output}
use Rattle.c62_files.proofs.WrittenFiles.{all_written, names_file, one_begun, one_passed, one_written}
use Rattle.c62_files.proofs.WrittenFiles.{some_begun, stops_here}
use Rattle.c62_files.proofs.writing.write_files.Goals as goal

pub loop-file-init : goal.loop-file-init
loop-file-init g c = (λ after written. written, λ after begun. begun, λ name after stops. stops)

pub loop-file-preserved : goal.loop-file-preserved
loop-file-preserved g c = (
  one_written _ _ _ _ c.args.files.now c.loop-file.file-index _ _ (search rules) refl c.in_default.ensures.ok
      c.loop-file.invariant.0,
  one_begun _ _ _ _ c.args.files.now c.loop-file.file-index _ _ (search rules) refl c.in_default.ensures.ok
      c.loop-file.invariant.1,
  one_passed _ _ _ _ c.args.files.now c.loop-file.file-index _ _ (search rules) refl c.in_default.ensures.ok
      c.loop-file.invariant.2,
)

pub returns-in-Err-clause-begun : goal.returns-in-Err-clause-begun
returns-in-Err-clause-begun g c =
    subst (AreBegun (g.F.Folder.holds c.args.folder.now) (map text_output c.args.files.now)) (sym c.in-Err.ensures.err)
    (some_begun _ _ _ _ c.loop-file.invariant.1)

pub returns-in-Err-clause-stops : goal.returns-in-Err-clause-stops
returns-in-Err-clause-stops g c =
    subst (StopsAt (g.F.Folder.holds c.args.folder.now) (map text_output c.args.files.now) _) (sym c.in-Err.ensures.err)
    (stops_here _ _ _ c.args.files.now c.loop-file.file-index _ _ (search rules) refl c.loop-file.invariant.2)

pub returns-in-Err-clause-name : goal.returns-in-Err-clause-name
returns-in-Err-clause-name g c = names_file c.args.files.now c.loop-file.file-index _ _ (search rules) refl

pub returns-clause-ok : goal.returns-clause-ok
returns-clause-ok g c =
    let none : map text_output (drop c.loop-file.file-index c.args.files.now) ≡ [] =
    ap (map text_output) (drop_all c.loop-file.file-index c.args.files.now (search rules)) in
    all_written _ _ _ _ none c.loop-file.invariant.0
