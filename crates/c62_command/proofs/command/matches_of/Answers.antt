use Rattle.std.proofs.Common.{◌≡◌, ◌≢◌, ◌∙◌, ap, subst, [], map, Result, Ok, Err, inl, inr}
use Rattle.std.specs.Prelude.{IfOk, IfErr}
use Rattle.std.proofs.lemmas.Result.{IfOk-weaker}
use Rattle.clap.proofs.FaultLemmas.{fails_as}
use Rattle.clap.specs.Words.{App, FailsBy, IsAmong, Kinds, app_of, fault_of, is_simple, is_simple_and_free, kind_of}
use Rattle.clap.specs.Words.{subcommand_of}
use Rattle.clap.specs.declared.error.Error.{Error}
use Rattle.clap.specs.declared.error.kind.ErrorKind.TheVariants.{OutOfMemory}
use Rattle.c62_command.specs.CommandLine.{tool_app}
use Rattle.c62_command.proofs.command.matches_of.Goals as goal

taken : {T : Type 0} (r : Result T Error) (kinds : Kinds) → FailsBy kinds r → IfOk r (λ _. kinds ≡ [])
taken (Ok x) kinds none = none
taken (Err e) kinds some = tt

refused : {T : Type 0} (r : Result T Error) (kinds : Kinds) → FailsBy kinds r
    → IfErr r (λ e. kind_of e ≢ OutOfMemory → kinds ≢ [])
refused (Ok x) kinds none = tt
refused (Err e) kinds (inl memory) = λ other none. other memory
refused (Err e) kinds (inr among) = λ other none. subst (IsAmong (kind_of e)) none among

pub returns-clause-ok : goal.returns-clause-ok
returns-clause-ok g c =
    let parse = c.try_get_matches_from in
    let app_is : app_of c.in_ok-command.command ≡ tool_app = c.in_ok-command.ensures in
    IfOk-weaker parse.result _ _ (λ m h. (h (ap is_simple app_is)).1
    ∙ ap (λ (a : App). subcommand_of a (map g.S.AsStr.text c.args.words.now)) app_is) parse.ensures.matches

pub returns-clause-taken : goal.returns-clause-taken
returns-clause-taken g c =
    let parse = c.try_get_matches_from in
    let app_is : app_of c.in_ok-command.command ≡ tool_app = c.in_ok-command.ensures in
    let words = map g.S.AsStr.text c.args.words.now in
    let kinds = fails_as parse.result _ _ (ap (λ (a : App). fault_of a words) app_is)
    (parse.ensures.kinds (ap is_simple_and_free app_is)) in
    taken parse.result (fault_of tool_app words) kinds

pub returns-clause-err : goal.returns-clause-err
returns-clause-err g c =
    let parse = c.try_get_matches_from in
    let app_is : app_of c.in_ok-command.command ≡ tool_app = c.in_ok-command.ensures in
    let words = map g.S.AsStr.text c.args.words.now in
    let kinds = fails_as parse.result _ _ (ap (λ (a : App). fault_of a words) app_is)
    (parse.ensures.kinds (ap is_simple_and_free app_is)) in
    refused parse.result (fault_of tool_app words) kinds
