use Rattle.c62_sheet.proofs.Common.{arith, rules, ◌≡◌, ◌∙◌, ap, sym, max, None, Some, is_branch, insns_of, many_insns}
use Rattle.c62_sheet.proofs.Common.{spot_at}
use Rattle.c62_sheet.proofs.Tallies.{length_skip, length_more, length_branch, length_end}
use Rattle.c62_sheet.proofs.counts.length.Goals as goal

pub loop-k-preserved-in_default : goal.loop-k-preserved-in_default
loop-k-preserved-in_default c =
    let none : spot_at c.args.spots.now c.loop-k.k ≡ None = grind (arith, c.in_default.not-Some) in
    length_skip _ _ _ c.requires.sized (omega (arith, many_insns)) c.loop-k.end none ∙ c.loop-k.invariant

pub returns-then-is_branch : goal.returns-then-is_branch
returns-then-is_branch c =
    let is : spot_at c.args.spots.now c.loop-k.k ≡ Some c.in-Some.spot = rw c.from.ensures at c.in-Some.is in
    let branch = sym (c.if-is_branch.ensures ∙ ap is_branch c.op.ensures) in
    length_branch _ _ _ c.requires.sized (omega (arith, many_insns)) c.loop-k.end _ _ c.insn-insn.ensures is branch
    ∙ c.loop-k.invariant

pub loop-k-preserved : goal.loop-k-preserved
loop-k-preserved c =
    let is : spot_at c.args.spots.now c.loop-k.k ≡ Some c.in-Some.spot = rw c.from.ensures at c.in-Some.is in
    let goes_on = sym (c.if-is_branch.ensures ∙ ap is_branch c.op.ensures) in
    let most : c.max-end.result ≡ max c.loop-k.end c.landing_end.result = search rules in
    rw (most, c.landing_end.ensures)
    (length_more _ _ _ c.requires.sized (omega (arith, many_insns)) c.loop-k.end _ _ c.insn-insn.ensures is goes_on
    ∙ c.loop-k.invariant)

pub returns : goal.returns
returns c = length_end (insns_of c.args.plan.now) c.args.spots.now c.loop-k.k c.loop-k.end c.requires.sized
    (omega (arith, many_insns)) ∙ c.loop-k.invariant
