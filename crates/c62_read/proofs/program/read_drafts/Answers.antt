use Rattle.c62_read.proofs.Common.{◌≡◌, ◌++◌, refl, sym, ap, arith, inr, ◌∙◌, map, lines_of, labels_of, Drafts}
use Rattle.c62_read.proofs.Common.{all_drafts, asked_of, drafts_of}
use Rattle.c62_read.proofs.Common.{first_line, missed, own_labels}
use Rattle.c62_read.specs.Walk.{add_lines}
use Rattle.c62_read.proofs.WalkLemmas.{labels_stay, stepped, walk_text, whole_blocks}
use Rattle.c62_read.proofs.program.read_drafts.Goals as goal

pub loop-line-preserved : goal.loop-line-preserved
loop-line-preserved c =
    let added = rw c.in-None.is at c.in_ok-add_line.ensures.said in
    record {
      so_far = stepped c.args.isa _ _ _ _ _ c.in-Some.ensures.found _ _ _ c.in_ok-add_line.ensures.asked _ added
          ∙ c.loop-line.invariant.so_far;
      labels = labels_stay c.args.isa _ _ _ _ _ c.in-Some.ensures.found _ added ∙ c.loop-line.invariant.labels;
      counted = omega (arith, c.in-Some.ensures.shorter, c.loop-line.invariant.counted);
    }

pub returns-in-Some-2-clause-err : goal.returns-in-Some-2-clause-err
returns-in-Some-2-clause-err c =
    let labels = labels_of (lines_of c.args.text.now) in
    let refused = rw c.in-Some-2.is at c.in_ok-add_line.ensures.said in
    let same : drafts_of c.add_line.new.self ≡ drafts_of c.loop-line.reader = rw c.in-Some-2.is at
    c.in_ok-add_line.ensures.kept in
    let known = ap (λ (drafts : Drafts). own_labels (all_drafts drafts) ++ labels_of (lines_of c.loop-line.rest.now))
    same
    ∙ c.loop-line.invariant.labels in
    let found : c.first_missed-missed.result ≡ first_line (missed labels (map asked_of c.add_line.new.jumps.items)) =
    rw known at c.first_missed-missed.ensures in
    let here = stepped c.args.isa _ _ _ _ _ c.in-Some.ensures.found labels _ _ c.in_ok-add_line.ensures.asked _ refused
    in
    inr (sym c.loop-line.invariant.so_far ∙ sym here ∙ rw (← found) (sym c.earlier.ensures))

pub returns-in-None-first_missed-clause-ok : goal.returns-in-None-first_missed-clause-ok
unfolding add_lines
returns-in-None-first_missed-clause-ok c =
    let known = rw c.in_default.ensures.found at c.loop-line.invariant.labels in
    let none = rw known at (sym c.first_missed.ensures ∙ c.in-None-first_missed.is) in
    sym c.loop-line.invariant.so_far ∙ rw (none, c.in_default.ensures.found) refl

pub returns-in-None-first_missed-clause-few : goal.returns-in-None-first_missed-clause-few
returns-in-None-first_missed-clause-few c =
    ((walk_text c.args.isa _).1 _ (returns-in-None-first_missed-clause-ok c)).few

pub returns-in-None-first_missed-clause-whole : goal.returns-in-None-first_missed-clause-whole
returns-in-None-first_missed-clause-whole c = whole_blocks c.args.isa _ _ _
    ((walk_text c.args.isa _).1 _ (returns-in-None-first_missed-clause-ok c))
