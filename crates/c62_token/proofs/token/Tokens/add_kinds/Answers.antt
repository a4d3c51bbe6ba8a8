use Rattle.c62_token.proofs.Common.{length, arith, sym, ap, ◌∙◌, length-append, length-map, eqb-true, tokens}
use Rattle.c62_token.proofs.Common.{words_left, kinds_of}
use Rattle.c62_token.specs.Kind.{kind_of, kinds_in, read_in}
use Rattle.c62_token.proofs.token.Tokens.add_kinds.Goals as goal

pub returns-then-is_full : goal.returns-then-is_full
returns-then-is_full c =
    let whole = ap length c.loop-kind.invariant in
    let next = ap length c.in-Some.ensures in
    let parts = length-append c.loop-kind.kinds.items (kinds_in c.args.set (tokens c.loop-kind.rest.now)) in
    let left = length-map (kinds_of (tokens c.loop-kind.rest.now)) (read_in c.args.set) in
    let all = length-map (kinds_of (words_left c.args.self)) (read_in c.args.set) in
    let words = length-map (words_left c.args.self) kind_of in
    let full = eqb-true (length c.loop-kind.kinds.items) 8 (sym c.is_full.ensures.value ∙ c.if-is_full.true) in
    omega (arith, whole, next, parts, left, all, words, full)
