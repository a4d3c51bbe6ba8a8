use Rattle.std.proofs.Common.{◌∙◌, ◌++◌, ap}
use Rattle.c62_profile.specs.Table.{packet_table}
use Rattle.c62_answer.proofs.run.packets_counted.Goals as goal

pub returns-clause-told : goal.returns-clause-told
returns-clause-told c = (
  c.in_ok-chain.tally,
  c.in_ok-chain.ensures.counts,
  c.in_ok-packet_table.ensures
      ∙ ap (λ xs. xs ++ packet_table c.args.packets.now c.in_ok-chain.tally) c.new-table.ensures.items,
)
