use Rattle.std.proofs.Common.{◌∙◌, refl, sym}
use Rattle.c62_dumping.proofs.Somewhere.{found, none, further}
use Rattle.c62_dumping.proofs.limit.contains.Goals as goal

pub returns-then-starts_with : goal.returns-then-starts_with
returns-then-starts_with c = sym (c.loop-rest.invariant
    ∙ found c.args.bytes.now c.loop-rest.rest.now (sym c.starts_with.ensures.value ∙ c.if-starts_with.true))

pub returns-in-empty : goal.returns-in-empty
returns-in-empty c = sym (c.loop-rest.invariant
    ∙ none c.args.bytes.now c.loop-rest.rest.now c.in-empty.len_below
    (sym c.starts_with.ensures.value ∙ c.if-starts_with.false))

pub loop-rest-preserved : goal.loop-rest-preserved
loop-rest-preserved c = c.loop-rest.invariant ∙ further c.args.bytes.now c.loop-rest.rest.now _ refl c.in-len1-up.len_at_least
    (sym c.starts_with.ensures.value ∙ c.if-starts_with.false)
