use Rattle.std.proofs.Common.{◌≡◌, ◌+◌, length, sym, ◌∙◌, ap}
use Rattle.std.proofs.lemmas.List.{length-replicate}
use Rattle.c62_rows.specs.Rows.{text_of}
use Rattle.c62_exec.specs.Counts.{no_count}
use Rattle.c62_exec.proofs.Counted.{all_counted}
use Rattle.c62_exec.proofs.Loop.{text_size}
use Rattle.c62_exec.proofs.run.fly_counted.Goals as goal

pub returns-clause-ok : goal.returns-clause-ok
returns-clause-ok c =
    all_counted (text_of c.args.rows.now) c.args.first c.args.limit c.args.state.now.machine c.in_ok-flown.flown.stop
    c.in_ok-flown.flown.cycles
    c.fly_rows.new.state.machine c.fly_rows.new.tally c.close.new.self.counts.items c.in_ok-flown.ensures.ok
    (c.in_ok-flown.ensures.size ∙ ap length c.in_ok-tally.ensures.counts ∙ length-replicate (c.len.result + 1) no_count
    ∙ ap (λ n. n + 1) (c.len.ensures ∙ c.args.rows.now.rows.ok.0 ∙ sym (text_size c.args.rows.now)))
    c.close.ensures.counts
