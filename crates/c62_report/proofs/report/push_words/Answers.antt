use Rattle.std.proofs.Common.{refl, append_assoc, rules}
use Rattle.std.proofs.lemmas.List.{append-nil}
use Rattle.c62_report.proofs.ReportLemmas.{no_words, more_words, word_read}
use Rattle.c62_report.proofs.report.push_words.Goals as goal

pub loop-k-init : goal.loop-k-init
loop-k-init c = rw (no_words, append-nil) refl

pub loop-k-preserved : goal.loop-k-preserved
loop-k-preserved c = search (rules, more_words, word_read, append_assoc)
