use Rattle.c62_profile.proofs.Runs.{runs_program}
use Rattle.c62_profile.proofs.serial.run_serial.Goals as goal

pub returns-clause-runs : goal.returns-clause-runs
returns-clause-runs c =
    runs_program c.args.program.now c.args.state.now.machine c.args.limit c.in_ok-chain.chain
    c.count_serial.new.state.machine c.in_ok-chain.tally c.in_ok-chain.ensures

pub returns-clause-each : goal.returns-clause-each
returns-clause-each c = c.in_ok-chain.ensures.visits.one_each
