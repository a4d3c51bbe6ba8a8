use Rattle.std.proofs.Common.{◌∙◌, ◌++◌, ap}
use Rattle.c62_profile.specs.Table.{serial_table}
use Rattle.c62_answer.proofs.run.run_counted.Goals as goal

pub returns-clause-told : goal.returns-clause-told
returns-clause-told c = (
  c.in_ok-chain.tally,
  c.in_ok-chain.ensures.counts,
  c.in_ok-serial_table.ensures
      ∙ ap (λ xs. xs ++ serial_table c.args.program.now c.in_ok-chain.tally) c.new-table.ensures.items,
)
