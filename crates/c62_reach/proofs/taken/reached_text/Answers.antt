use Rattle.c62_reach.proofs.TakenLemmas.{taken_long}
use Rattle.c62_reach.proofs.taken.reached_text.Goals as goal

pub returns-then-text-gt-MOST_BYTES : goal.returns-then-text-gt-MOST_BYTES
returns-then-text-gt-MOST_BYTES c =
    taken_long c.args.isa
    (λ other. other.items) c.args.name.now c.args.text.now c.too_long.result c.if-text-gt-MOST_BYTES.true
    c.too_long.ensures
