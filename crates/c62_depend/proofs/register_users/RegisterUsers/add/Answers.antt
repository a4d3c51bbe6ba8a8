use Rattle.c62_depend.proofs.OpenSets.{users_more}
use Rattle.c62_depend.proofs.OpenMeetings.{none_told}
use Rattle.c62_depend.proofs.register_users.RegisterUsers.add.Goals as goal

pub returns : goal.returns
returns c =
    users_more c.args.uses.now c.args.j c.index-uses-j.result c.is_none-always.result c.args.self.now
    (record { writers = c.note.new.sets; users = c.note-3.new.sets }) c.note-2.new.sets c.requires.within
    c.index-uses-j.is
    (none_told _ _ _ c.cond.ensures c.is_none-always.ensures) c.note.ensures c.note-2.ensures c.note-3.ensures
    c.requires.known
