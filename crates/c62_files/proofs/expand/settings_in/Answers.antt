use Rattle.std.proofs.Common.{rules}
use Rattle.c62_files.specs.declared.expand.TheConstants.{MOST_SETTINGS}
use Rattle.c62_files.proofs.Readings.{whole_if_short}
use Rattle.c62_files.proofs.expand.settings_in.Goals as goal

pub returns-clause-held : goal.returns-clause-held
returns-clause-held g c =
    whole_if_short (g.F.Folder.holds c.args.folder.now c.args.name.now) c.in_ok-bytes.bytes.items MOST_SETTINGS
    (search rules) c.in_ok-bytes.ensures
