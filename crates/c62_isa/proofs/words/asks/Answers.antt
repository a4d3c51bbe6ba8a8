use Rattle.std.proofs.Common.{◌≡◌, ◌∙◌, get_or, [], drop, map, rules, ap, sym}
use Rattle.std.proofs.lemmas.List.{drop_all}
use Rattle.c62_isa.proofs.Walks.{none_asks, one_asks, one_asks_not}
use Rattle.c62_isa.proofs.words.asks.Goals as goal

pub returns-then-asks_at : goal.returns-then-asks_at
returns-then-asks_at g c =
    let item : c.word-item.result ≡ get_or c.args.words.now c.loop-word.word-index c.word-item.result = search rules in
    let word : c.as_str-word.result.now ≡ g.S.AsStr.text
    (get_or c.args.words.now c.loop-word.word-index c.word-item.result) =
    c.as_str-word.ensures ∙ ap g.S.AsStr.text item in
    one_asks g.S.AsStr.text c.args.words.now c.loop-word.word-index c.word-item.result
    c.as_str-word.result.now c.loop-word.wants _ (search rules) word
    (sym c.asks_at.ensures ∙ c.if-asks_at.true) c.loop-word.invariant

pub loop-word-preserved : goal.loop-word-preserved
loop-word-preserved g c =
    let item : c.word-item.result ≡ get_or c.args.words.now c.loop-word.word-index c.word-item.result = search rules in
    let word : c.as_str-word.result.now ≡ g.S.AsStr.text
    (get_or c.args.words.now c.loop-word.word-index c.word-item.result) =
    c.as_str-word.ensures ∙ ap g.S.AsStr.text item in
    rw c.wants_after-wants.ensures
    (one_asks_not g.S.AsStr.text c.args.words.now c.loop-word.word-index c.word-item.result
    c.as_str-word.result.now c.loop-word.wants _ (search rules) word
    (sym c.asks_at.ensures ∙ c.if-asks_at.false) c.loop-word.invariant)

pub returns : goal.returns
returns g c =
    let none : map g.S.AsStr.text (drop c.loop-word.word-index c.args.words.now) ≡ [] =
    ap (map g.S.AsStr.text) (drop_all c.loop-word.word-index c.args.words.now (search rules)) in
    none_asks c.loop-word.wants _ _ none c.loop-word.invariant
