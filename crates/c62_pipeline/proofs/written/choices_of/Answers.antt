use Rattle.c62_pipeline.proofs.written.choices_of.Goals as goal

pub loop-own-preserved : goal.loop-own-preserved
loop-own-preserved c =
    let same = c.loop-own.invariant.1 in
    ((rw same at c.in_ok-push_choice.ensures) c.loop-own.invariant.0, same)
