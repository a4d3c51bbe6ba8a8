use Rattle.std.proofs.Common.{◌≡◌, ◌<◌, ◌≤◌, length, arith}
use Rattle.std.proofs.lemmas.List.{length-set}
use Rattle.c62_wave.proofs.Lists.{filled_more, filled_all}
use Rattle.c62_wave.specs.declared.value.Value.TheVariants.{Word}
use Rattle.c62_wave.proofs.signals.values_of.Goals as goal

pub loop-index-preserved : goal.loop-index-preserved
loop-index-preserved c =
    let inside : c.loop-index.index < length c.args.words.now = omega arith in
    let same : length c.loop-index.values ≡ length c.args.words.now = omega arith in (
      simp length-set c.loop-index.invariant.0,
      filled_more Word c.args.words.now c.loop-index.values c.loop-index.index 0 inside same c.loop-index.invariant.1,
    )

pub returns : goal.returns
returns c =
    let all : length c.args.words.now ≤ c.loop-index.index = omega arith in
    let same : length c.loop-index.values ≡ length c.args.words.now = omega arith in
    filled_all Word c.args.words.now c.loop-index.values c.loop-index.index all same c.loop-index.invariant.1
