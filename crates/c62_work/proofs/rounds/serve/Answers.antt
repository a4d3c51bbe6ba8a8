use Rattle.std.proofs.Common.{rules, ◌≡◌, arith}
use Rattle.c62_work.proofs.Placings.{placings_all, placings_more, placings_none, prefix_trans, where_some}
use Rattle.c62_work.proofs.rounds.serve.Goals as goal

pub loop-round-init : goal.loop-round-init
loop-round-init g c =
    (search rules, search rules, search rules, placings_none c.args.side c.args.desk.now.board.journal)

pub loop-round-preserved : goal.loop-round-preserved
loop-round-preserved g c =
    let at = c.loop-round in
    let next = c.in_ok-proposal-2.ensures in (
      search rules,
      prefix_trans _ _ _ at.invariant.1 next.begins,
      prefix_trans _ _ _ at.invariant.2 next.journal,
      placings_more c.args.side at._round _ at.desk.board.journal _ at.proposal.number at.proposal.spot at.invariant.3
          c.in_ok-proposal-2.ensures.placed,
    )

pub returns-clause-placed : goal.returns-clause-placed
returns-clause-placed g c =
    let at = c.loop-round in
    let all : at._round ≡ c.args.rounds = omega (arith, c.loop-round-test.false, at.auto._round-end) in
    where_some c.follow_up-2.result _ _ c.follow_up-2.ensures.placed (λ p is.
    placings_all c.args.side at._round c.args.rounds _ at.desk.board.journal _ at.proposal.number at.proposal.spot all
    at.invariant.3 is)
