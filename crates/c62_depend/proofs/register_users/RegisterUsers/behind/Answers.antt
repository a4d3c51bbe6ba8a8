use Rattle.c62_depend.proofs.OpenMeetings.{openly_meet}
use Rattle.c62_depend.proofs.register_users.RegisterUsers.behind.Goals as goal

pub returns : goal.returns
returns c =
    openly_meet c.args.uses.now c.args.j c.index-uses-j.result c.args.self.now c.joined.result c.joined-2.result
    c.joined-3.result c.requires.within
    c.index-uses-j.is c.requires.known (λ k. (c.joined.ensures k).0) (λ k. (c.joined.ensures k).1)
    (λ k. (c.joined-2.ensures k).0)
    (λ k. (c.joined-2.ensures k).1) c.joined-3.ensures
