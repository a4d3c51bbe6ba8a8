use Rattle.std.proofs.Common.{refl, append_assoc, rules}
use Rattle.std.proofs.lemmas.List.{append-nil}
use Rattle.c62_json_report.proofs.OneMore.{no_words, more_words}
use Rattle.c62_json_report.proofs.machine.push_words.Goals as goal

pub loop-k-init : goal.loop-k-init
loop-k-init c = (rw (no_words, append-nil) refl, refl)

pub loop-k-preserved : goal.loop-k-preserved
loop-k-preserved c = search (rules, more_words, append_assoc)
