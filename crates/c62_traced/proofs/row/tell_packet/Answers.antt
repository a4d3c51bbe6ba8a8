use Rattle.std.proofs.Common.{◌≡◌, ◌∙◌, suc, ◌+◌, ◌≤◌, ◌∷◌, length, drop, sym, ap, arith, rules}
use Rattle.std.proofs.Math.ListN.{drop_of_length-le}
use Rattle.std.proofs.Math.Seq.{drop-cons}
use Rattle.c62_traced.specs.Row.{packet_log}
use Rattle.c62_traced.proofs.Passing.{rest_first, rest_more, rest_over}
use Rattle.c62_traced.proofs.row.tell_packet.Goals as goal

pub loop-placed-init : goal.loop-placed-init
loop-placed-init g c =
    rest_first g.T.Watch.tells g.met.T.Watch.nothing g.met.T.Watch.more c.args.watch.now
    (packet_log c.args.state.now.machine c.args.cycle c.args.insns.now)

pub loop-placed-preserved : goal.loop-placed-preserved
loop-placed-preserved g c =
    let next : suc c.loop-placed.placed-index ≡ c.loop-placed.placed-index + 1 = omega arith in
    rest_more g.T.Watch.tells g.met.T.Watch.nothing g.met.T.Watch.more c.args.watch.now c.loop-placed.watch
    c.insn.new.self _ _ _ _ c.loop-placed.invariant c.in_ok-insn.ensures
    (ap (λ ps. packet_log c.args.state.now.machine c.args.cycle ps)
    (drop-cons c.args.insns.now c.loop-placed.placed-index c.placed-item.result c.loop-placed-test.true
    ∙ ap (λ p. p ∷ drop (suc c.loop-placed.placed-index) c.args.insns.now) (sym c.placed-item.is)
    ∙ ap (λ n. c.placed-item.result ∷ drop n c.args.insns.now) next))

pub returns : goal.returns
returns g c =
    let past : length c.args.insns.now ≤ c.loop-placed.placed-index = search rules in
    rest_over g.T.Watch.tells g.met.T.Watch.nothing g.met.T.Watch.more c.args.watch.now c.loop-placed.watch _ _
    c.loop-placed.invariant
    (ap (λ ps. packet_log c.args.state.now.machine c.args.cycle ps)
    (drop_of_length-le c.args.insns.now past))
