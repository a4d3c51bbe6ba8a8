use Rattle.std.proofs.Common.{map}
use Rattle.c62_explain.proofs.HintLemmas.{adds_one_on}
use Rattle.c62_explain.proofs.help.Faulty.push.Goals as goal

pub returns : goal.returns
returns c =
    adds_one_on c.push_hint.result c.args.self.fault.line (map (λ word. word.now) c.args.words.now) c.args.out.now.items
    c.push_hint.new.out.items
    c.push_hint.ensures
