use Rattle.std.proofs.Common.{Global, ◌∙◌}
use Rattle.std.specs.Prelude.{string_bytes}
use Rattle.c62_teach.specs.Words.{is_json}
use Rattle.c62_teach.proofs.Listed.{any_mapped}
use Rattle.c62_teach.proofs.words.asks_json.Goals as goal

pub returns : goal.returns
returns c = c.has_json.ensures ∙ any_mapped is_json (string_bytes {Z = Global}) c.args.words.now
