use Rattle.c62_program.proofs.trouble.tell_call.Goals as goal

pub returns-in-TooManyInputs : goal.returns-in-TooManyInputs
returns-in-TooManyInputs g c = rw c.in-TooManyInputs.is c.write_pieces-in-TooManyInputs.ensures

pub returns-in-StandardTwice : goal.returns-in-StandardTwice
returns-in-StandardTwice g c = rw c.in-StandardTwice.is c.write_whole.ensures

pub returns-in-TwoOutputs : goal.returns-in-TwoOutputs
returns-in-TwoOutputs g c = rw c.in-TwoOutputs.is c.write_pieces-in-TwoOutputs.ensures
