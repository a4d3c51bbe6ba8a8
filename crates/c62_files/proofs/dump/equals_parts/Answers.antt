use Rattle.std.proofs.Common.{arith}
use Rattle.std.proofs.lemmas.Str.Pattern.{split_once_first}
use Rattle.c62_files.proofs.Parting.{parted}
use Rattle.c62_files.proofs.dump.equals_parts.Goals as goal

pub returns : goal.returns
returns c =
    parted c.args.word.now c.split_once.result
    (split_once_first 61 c.args.word.now c.split_once.result c.split_once.ensures.cases (omega arith))
