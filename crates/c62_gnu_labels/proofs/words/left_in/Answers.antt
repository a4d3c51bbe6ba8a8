use Rattle.std.proofs.Common.{◌≡◌, ◌∙◌, get_or, [], drop, map, rules, ap}
use Rattle.std.proofs.lemmas.List.{drop_all}
use Rattle.c62_gnu_labels.proofs.Walks.{no_word_more, one_word_more}
use Rattle.c62_gnu_labels.proofs.words.left_in.Goals as goal

pub loop-word-preserved : goal.loop-word-preserved
loop-word-preserved g c =
    let item : c.word-item.result ≡ get_or c.args.words.now c.loop-word.word-index c.word-item.result = search rules in
    let word : c.as_str-word.result.now ≡ g.S.AsStr.text
    (get_or c.args.words.now c.loop-word.word-index c.word-item.result) =
    c.as_str-word.ensures ∙ ap g.S.AsStr.text item in
    rw c.found_after-found.ensures
    (one_word_more g.S.AsStr.text c.args.words.now c.loop-word.word-index c.word-item.result c.as_str-word.result.now
    c.loop-word.found _ _ _ (search rules) word c.in_ok-push_other.ensures c.loop-word.invariant)

pub returns : goal.returns
returns g c =
    let none : map g.S.AsStr.text (drop c.loop-word.word-index c.args.words.now) ≡ [] =
    ap (map g.S.AsStr.text) (drop_all c.loop-word.word-index c.args.words.now (search rules)) in
    no_word_more c.loop-word.found _ _ _ none c.loop-word.invariant
