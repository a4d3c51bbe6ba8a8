use Rattle.std.proofs.Common.{◌≢◌, rules}
use Rattle.clap.specs.Words.{kind_of}
use Rattle.clap.specs.declared.error.kind.ErrorKind.TheVariants.{OutOfMemory}
use Rattle.c62_command.proofs.Blaming.{none_taken}
use Rattle.c62_command.proofs.blamed.setting_at.Goals as goal

pub returns : goal.returns
returns g c =
    let known : kind_of c.in-Err.error ≢ OutOfMemory = search rules in
    none_taken _ _ (c.in-Err.ensures.err known)
