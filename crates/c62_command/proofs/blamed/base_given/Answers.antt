use Rattle.std.proofs.Common.{◌≢◌, rules}
use Rattle.clap.specs.Words.{kind_of}
use Rattle.clap.specs.declared.error.kind.ErrorKind.TheVariants.{OutOfMemory}
use Rattle.c62_command.proofs.Blaming.{none_taken}
use Rattle.c62_command.proofs.blamed.base_given.Goals as goal

pub returns-in-Err-2 : goal.returns-in-Err-2
returns-in-Err-2 g c =
    let known : kind_of c.in-Err.error ≢ OutOfMemory = search rules in
    none_taken _ _ (c.in-Err.ensures.err known)
