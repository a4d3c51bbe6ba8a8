use Rattle.c62_read.proofs.Common.{◌≡◌, length, arith}
use Rattle.std.proofs.lemmas.List.{with_items_is}
use Rattle.c62_read.proofs.BlockLemmas.{aimed_block}
use Rattle.c62_read.proofs.program.BlockReader.into_block.Goals as goal

pub new-requires : goal.new-requires
new-requires c =
    let insns = c.args.self.insns in
    let sized : length c.aim_all.new.entries ≡ insns.len = omega
    (arith, c.aim_all.auto.entries, c.deref_mut.ensures.len) in
    let same = rw c.deref_mut.ensures.value at c.aim_all.ensures in
    rw (with_items_is insns c.aim_all.new.entries sized) (aimed_block c.args.number _ insns.items same c.requires)
