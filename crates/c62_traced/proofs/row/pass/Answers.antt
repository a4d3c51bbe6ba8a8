use Rattle.std.proofs.Common.{◌≡◌, ◌∙◌, ◌+◌, refl, sym, false, arith}
use Rattle.std.specs.Prelude.{is_some}
use Rattle.c62_exec.specs.Step.{Way, on_way}
use Rattle.c62_traced.specs.Row.{log_behind}
use Rattle.c62_traced.proofs.Passing.{IsOn, rest_first, rest_more, goes_on}
use Rattle.c62_traced.proofs.row.pass.Goals as goal

pub loop-at-init : goal.loop-at-init
loop-at-init g c = record {
  goes = refl;
  told = rest_first g.T.Watch.tells g.met.T.Watch.nothing g.met.T.Watch.more c.args.watch.now _;
  now = refl;
  capacity = refl;
}

pub loop-at-preserved : goal.loop-at-preserved
loop-at-preserved g c =
    let none : is_some c.in-Over.turn ≡ false = sym c.is_some.ensures ∙ c.if-is_some.false in
    let way : Way = on_way c.loop-at.underway.pipe c.loop-at.underway.turns c.loop-at.state.machine in
    let now : Way = on_way c.pass.new.self.pipe c.pass.new.self.turns c.pass.new.state.machine in
    let on : IsOn c.loop-at.broken c.loop-at.left c.loop-at.cycle c.in-Over.next way now =
    goes_on c.loop-at.broken c.loop-at.left c.loop-at.cycle c.in-Over.next c.in-Over.turn way now
    c.in-Over.ensures.passed (λ z. omega (arith, c.if-left-eq0.false)) none in
    let next : c.in-Over.next ≡ c.loop-at.cycle + 1 = on.next_is in
    let sum : c.loop-at.cycle + c.loop-at.left ≡ c.args.start + c.args.idle = c.loop-at.invariant.now in
    rw (c.turn-broken.ensures.turns, c.turn-broken.ensures.broken) (record {
      goes = sym on.goes ∙ c.loop-at.invariant.goes;
      told = rest_more g.T.Watch.tells g.met.T.Watch.nothing g.met.T.Watch.more c.args.watch.now c.loop-at.watch
          c.landings.new.self _ _ _ _ c.loop-at.invariant.told
          (rw (c.due.ensures, c.turn-broken.ensures.turns) at c.in_ok-landings.ensures) on.log;
      now = omega arith;
      capacity = c.in-Over.ensures.capacity ∙ c.loop-at.invariant.capacity;
    })
