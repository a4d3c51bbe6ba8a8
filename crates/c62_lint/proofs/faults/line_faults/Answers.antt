use Rattle.c62_read.proofs.Common.{length, arith, nat_tests, refl, ◌∙◌, ◌<◌}
use Rattle.c62_lint.specs.Walk.{walked_faults}
use Rattle.c62_lint.proofs.FaultLemmas.{all_told, faults_more, few_more}
use Rattle.c62_lint.proofs.faults.line_faults.Goals as goal

pub loop-line-preserved : goal.loop-line-preserved
loop-line-preserved c =
    let kept = c.loop-line.invariant in
    let found = c.in_ok-fault.ensures in
    let less : length c.loop-line.faults.items < c.args.most = grind
    (arith, nat_tests, c.len.ensures, c.if-len-most.false) in
    record {
      so_far = faults_more c.args.isa _ _ _ _ _ _ _ _ _ _ c.in-Some.ensures.found found.fault found.made
          c.in_ok-push_fault.ensures
          ∙ kept.so_far;
      few = omega (arith, less, few_more _ _ _ _ c.in_ok-push_fault.ensures);
      counted = omega (arith, c.in-Some.ensures.shorter, kept.counted);
    }

pub returns : goal.returns
unfolding walked_faults
returns c =
    let kept = c.loop-line.invariant in
    all_told c.loop-line.faults.items c.args.most _ _ kept.few (rw c.in_default.ensures.found refl) kept.so_far
