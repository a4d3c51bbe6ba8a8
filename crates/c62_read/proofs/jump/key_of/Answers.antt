use Rattle.c62_read.proofs.Common.{ap, sym, ◌∙◌, key_from}
use Rattle.std.proofs.lemmas.List.{drop_all}
use Rattle.c62_read.specs.Jump.{key_of}
use Rattle.c62_read.proofs.jump.key_of.Goals as goal

pub returns : goal.returns
unfolding key_of
returns c = sym (sym c.loop-byte.invariant
    ∙ ap (key_from c.loop-byte.key) (drop_all c.loop-byte.byte-index c.args.label.now c.loop-byte-test.false))
