use Rattle.c62_depend.proofs.OpenSets.{users_none}
use Rattle.c62_depend.proofs.register_users.RegisterUsers.new.Goals as goal

pub returns : goal.returns
returns c = λ uses. users_none uses c.new.result c.new-2.result c.new.ensures c.new-2.ensures
