use Rattle.std.proofs.Common.{ap, sym, ◌∙◌, Ok}
use Rattle.c62_adopt_code.proofs.CodeLemmas.{all_taken}
use Rattle.c62_adopt_code.proofs.code.plain_code.Goals as goal

pub returns : goal.returns
returns c =
    all_taken c.args.isa c.loop-line.site c.loop-line.number c.loop-line.rest.now c.loop-line.code.items c.args.text.now
    c.loop-line.invariant
    c.in_default.ensures.found
    ∙ ap Ok (sym c.truncate.ensures.items)
