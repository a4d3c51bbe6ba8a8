use Rattle.c62_answer.proofs.FirstLine.{begun_or_none, behind}
use Rattle.c62_answer.proofs.parting.behind_parting.Goals as goal

pub returns-in-Some : goal.returns-in-Some
returns-in-Some c =
    let is = behind c.args.bytes.now c.strip_prefix.result c.in-Some.end c.strip_prefix.ensures.cases c.in-Some.is in
    begun_or_none c.args.bytes.now c.in-Some.end.now c.behind_end.result is c.behind_end.ensures
