use Rattle.std.proofs.Common.{Global, ◌∙◌}
use Rattle.std.specs.Prelude.{string_bytes}
use Rattle.c62_teach.specs.Words.{names_apart}
use Rattle.c62_teach.proofs.Listed.{any_mapped}
use Rattle.c62_teach.proofs.words.asks_apart.Goals as goal

pub returns : goal.returns
returns c = c.has_apart.ensures ∙ any_mapped names_apart (string_bytes {Z = Global}) c.args.words.now
