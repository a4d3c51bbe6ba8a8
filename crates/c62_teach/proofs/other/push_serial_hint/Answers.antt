use Rattle.std.proofs.Common.{◌∷◌, []}
use Rattle.c62_explain.proofs.HintLemmas.{adds_none, adds_one_on}
use Rattle.c62_teach.proofs.other.push_serial_hint.Goals as goal

pub returns-then-is_empty : goal.returns-then-is_empty
returns-then-is_empty c = adds_none c.args.line c.args.more.now.items

pub returns : goal.returns
returns c =
    adds_one_on c.push_hint.result c.args.line (c.deref.result.now ∷ []) c.args.more.now.items c.push_hint.new.out.items
    c.push_hint.ensures
