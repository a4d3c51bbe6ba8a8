use Rattle.std.proofs.Common.{◌≡◌, ◌++◌, drop}
use Rattle.c62_serial.specs.State.{word_in}
use Rattle.c62_trace.specs.Event.{with_words}
use Rattle.c62_trace.specs.Line.{words_text}
use Rattle.c62_trace.proofs.line.push_words.Given as goal

abbrev pub invariant-loop-reg : goal.invariant-loop-reg
invariant-loop-reg l =
    l.out.items ++ words_text (with_words (word_in l.state.machine) (drop l.reg-index l.regs))
    ≡ l.fn.out.items ++ words_text (with_words (word_in l.state.machine) l.regs)
