use Rattle.std.proofs.Common.{arith, ◌≡◌, ◌<◌, ◌-◌, suc, [], ◌∷◌, ◌++◌, length, refl, sym, ap, ◌∙◌}
use Rattle.c62_read.specs.Block.{Serial}
use Rattle.std.proofs.lemmas.Bool.{false≢true}
use Rattle.c62_depend.specs.Plan.{insns_of}
use Rattle.c62_depend.proofs.Plans.{many_insns}
use Rattle.c62_sheet.specs.declared.entry.Entry.TheVariants.{Withdraw}
use Rattle.c62_sheet.specs.declared.entry.Who.TheVariants.{Tail}
use Rattle.c62_sheet.specs.Lawful.{Placements}
use Rattle.c62_board.specs.Withdrawal.{GoesWith}
use Rattle.c62_board.proofs.TakingOut.{taking_none, may_take, taking_skip, taking_take, taking_all}
use Rattle.c62_board.proofs.withdrawal.leave_out.Goals as goal

-- the length is that of the block
all : (c : goal.After-len-j) → c.len-j.result ≡ length (insns_of c.args.sheet.now.plan)
all c = c.len-j.ensures.len ∙ ap (λ (plan : Serial). length plan.insns) c.plan.ensures.plan
    ∙ sym (many_insns c.args.sheet.now.plan.insns)

pub loop-j-init : goal.loop-j-init
loop-j-init c = record {
  plan = refl;
  out = λ who. (
    [],
    taking_none (insns_of c.args.sheet.now.plan) c.args.sheet.now.spots c.args.i who c.len-j.result
        c.plan.ensures.lawful (all c),
  );
  low = omega (arith, all c, many_insns c.args.sheet.now.plan.insns);
}

pub take_out-requires-clause-taken : goal.take_out-requires-clause-taken
take_out-requires-clause-taken c =
    let j = c.loop-j.j - 1 in
    let inv = c.loop-j.invariant in
    let at : c.loop-j.j ≡ suc j = omega (arith, c.loop-j-test.true) in
    let lt : j < length (insns_of c.args.sheet.now.plan) = omega
    (arith, at, inv.low, many_insns c.args.sheet.now.plan.insns) in
    let f = (c.requires.marked j lt).0 c.if-marks-j.true in
    let out = inv.out Tail in
    (may_take (insns_of c.args.sheet.now.plan) c.args.sheet.now.spots c.loop-j.sheet.spots c.args.i j c.loop-j.j Tail
    out.0 at lt f out.1).taken

pub take_out-requires-clause-last : goal.take_out-requires-clause-last
take_out-requires-clause-last c =
    let j = c.loop-j.j - 1 in
    let inv = c.loop-j.invariant in
    let at : c.loop-j.j ≡ suc j = omega (arith, c.loop-j-test.true) in
    let lt : j < length (insns_of c.args.sheet.now.plan) = omega
    (arith, at, inv.low, many_insns c.args.sheet.now.plan.insns) in
    let f = (c.requires.marked j lt).0 c.if-marks-j.true in
    let out = inv.out Tail in
    rw inv.plan ((may_take (insns_of c.args.sheet.now.plan) c.args.sheet.now.spots c.loop-j.sheet.spots c.args.i j
    c.loop-j.j Tail out.0 at lt f out.1).last)

pub loop-j-preserved-then-marks-j : goal.loop-j-preserved-then-marks-j
loop-j-preserved-then-marks-j c =
    let j = c.loop-j.j - 1 in
    let inv = c.loop-j.invariant in
    let at : c.loop-j.j ≡ suc j = omega (arith, c.loop-j-test.true) in
    let lt : j < length (insns_of c.args.sheet.now.plan) = omega
    (arith, at, inv.low, many_insns c.args.sheet.now.plan.insns) in
    let f = (c.requires.marked j lt).0 c.if-marks-j.true in
    record {
      plan = ap (λ (p : Placements). p.plan) c.take_out.ensures ∙ inv.plan;
      out = λ who.
          let out = inv.out who in (
            out.0 ++ Withdraw j who ∷ [],
            rw c.take_out.ensures
                (taking_take (insns_of c.args.sheet.now.plan) c.args.sheet.now.spots c.loop-j.sheet.spots c.args.i j
                c.loop-j.j who out.0 at lt f out.1),
          );
      low = omega (arith, inv.low);
    }

pub loop-j-preserved : goal.loop-j-preserved
loop-j-preserved c =
    let j = c.loop-j.j - 1 in
    let inv = c.loop-j.invariant in
    let at : c.loop-j.j ≡ suc j = omega (arith, c.loop-j-test.true) in
    let lt : j < length (insns_of c.args.sheet.now.plan) = omega
    (arith, at, inv.low, many_insns c.args.sheet.now.plan.insns) in
    let not = λ (f : GoesWith (insns_of c.args.sheet.now.plan) c.args.sheet.now.spots c.args.i j). false≢true
    (sym c.if-marks-j.false ∙ (c.requires.marked j lt).1 f) in
    record {
      plan = inv.plan;
      out = λ who.
          let out = inv.out who in (
            out.0,
            taking_skip (insns_of c.args.sheet.now.plan) c.args.sheet.now.spots c.loop-j.sheet.spots c.args.i j
                c.loop-j.j who out.0 at not out.1,
          );
      low = omega (arith, inv.low);
    }

pub returns-clause-left : goal.returns-clause-left
returns-clause-left c = λ who.
    let inv = c.loop-j.invariant in
    let out = inv.out who in
    record {
      entries = out.0;
      withdraws = taking_all (insns_of c.args.sheet.now.plan) c.args.sheet.now.spots c.loop-j.sheet.spots c.args.i
          c.loop-j.j who out.0 (omega (arith, c.loop-j-test.false)) out.1;
      legal = out.1.legal;
      spots = out.1.spots;
    }
