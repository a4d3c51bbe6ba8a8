use Rattle.std.proofs.Common.{◌≡◌, ◌<◌, length, arith}
use Rattle.std.proofs.lemmas.Bool.Decides.{nat_tests}
use Rattle.c62_wave.proofs.Waves.{landings_told, none_told}
use Rattle.c62_wave.proofs.wave.WaveWatch.landings.Goals as goal

pub returns : goal.returns
returns g c =
    let some : 0 < length c.args.writes.now = grind (arith, nat_tests) in
    landings_told c.args.cycle c.args.writes.now
    c.args.self.now.window c.run_to.new.self.window c.args.self.now.course c.run_to.new.self.course c.land.new.self
    c.args.self.now.whole c.run_to.new.self.whole (g.W.Write.contents c.args.self.now.stream)
    (g.W.Write.contents c.run_to.new.self.stream) c.args.self.now.unsent.items c.run_to.new.self.unsent.items
    some c.in_ok-run_to.ensures.window c.in_ok-run_to.ensures.course c.land.ensures c.in_ok-run_to.ensures.told

pub returns-then-is_empty : goal.returns-then-is_empty
returns-then-is_empty g c =
    let none : length c.args.writes.now ≡ 0 = grind (arith, nat_tests) in
    none_told c.args.cycle c.args.writes.now c.args.self.now.window c.args.self.now.course c.args.self.now.whole
    (g.W.Write.contents c.args.self.now.stream) c.args.self.now.unsent.items none
