use Rattle.c62_read.proofs.Common.{◌≡◌, ◌∙◌, ◌∷◌, [], ap, arith, nat_tests, map, sym, labels_of, lines_of, TextTooLong}
use Rattle.c62_lint.specs.Faults.{refusal_of}
use Rattle.c62_lint.proofs.FaultLemmas.{faults_are, too_long}
use Rattle.c62_lint.proofs.faults.faults_of.Goals as goal

pub returns-then-text-gt-MOST_BYTES : goal.returns-then-text-gt-MOST_BYTES
returns-then-text-gt-MOST_BYTES c =
    let held : map refusal_of c.push.new.self.items ≡ (0, TextTooLong) ∷ [] =
    grind (arith, c.new-faults.ensures.items, c.at.ensures, c.in_ok-push.ensures.items) in
    held ∙ sym (too_long c.args.isa _ _ (omega (arith, c.if-text-gt-MOST_BYTES.true)) c.requires)

pub returns : goal.returns
returns c =
    let same : c.deref.result.now ≡ labels_of (lines_of c.args.text.now) = c.deref.ensures.value
    ∙ c.in_ok-labels.ensures in
    rw (faults_are c.args.isa c.args.text.now c.deref.result.now (omega (arith, c.if-text-gt-MOST_BYTES.false)) same) at
    c.line_faults.ensures
