use Rattle.c62_read.proofs.Common.{◌≡◌, not, rules, filter, map, filter_same, Jump, lines_of, is_among, labels_of}
use Rattle.c62_read.proofs.Common.{all_drafts, asked_of, drafts_of}
use Rattle.c62_read.proofs.Common.{own_labels}
use Rattle.c62_read.proofs.MissedLemmas.{kept_are, missed_more}
use Rattle.c62_read.proofs.program.TextReader.first_missed.Goals as goal

pub returns : goal.returns
returns c =
    let own = own_labels (all_drafts (drafts_of c.args.self.now)) in
    let others = labels_of (lines_of c.args.rest.now) in
    let kept : c.retain.new.self.items ≡ filter (λ (jump : Jump). not (is_among jump.target own)) c.args.jumps.items =
    filter_same _ _ _ (λ x b f' k. search rules) _ _ c.retain.ensures.filtered in
    rw (
      missed_more own others (map asked_of c.args.jumps.items),
      ← kept_are own c.args.jumps.items,
      ← kept,
      ←
          c.leave_out_labels.ensures,
    )
    (rw c.deref.ensures.value at c.first_branch.ensures)
