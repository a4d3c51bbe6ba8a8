use Rattle.c62_teach.proofs.Most.{by_most}
use Rattle.c62_teach.proofs.words.linting_behind.Goals as goal

pub returns-then-words-len-clause-most : goal.returns-then-words-len-clause-most
returns-then-words-len-clause-most c =
    by_most c.as_json.result c.linting_by.result c.asks_json.result _ c.linting_by.ensures c.as_json.ensures
