use Rattle.std.proofs.Common.{◌≡◌, ◌∙◌, ◌+◌, ◌++◌, ◌∷◌, [], true, false, List, Option, Some, None, sym, subst, refl}
use Rattle.std.proofs.Common.{rules}
use Rattle.c62_command.specs.declared.setting.Setting.{Setting}
use Rattle.c62_command.specs.Settings.{Adds, IsParted, bytes_in, cells, holds, parts, set_at, value_of}
use Rattle.c62_command.proofs.SettingLemmas.{ends_here, last_value, next_value, no_value, not_held}
use Rattle.c62_command.proofs.setting.push_cells.Goals as goal

pub loop-rest-init : goal.loop-rest-init
loop-rest-init c new good adds = adds

pub returns-in_default : goal.returns-in_default
returns-in_default c =
    let none : value_of c.first_part.result.0.now ≡ None = sym c.value_of.ensures ∙ c.in_default.is in
    c.loop-rest.invariant c.loop-rest.settings.items false
    (ends_here (cells c.args.size c.loop-rest.place (parts c.loop-rest.rest.now)) c.loop-rest.settings.items
    c.loop-rest.settings.items
    (no_value c.args.size c.loop-rest.place c.loop-rest.rest.now c.first_part.result.0.now c.first_part.result.1
    c.first_part.ensures none))

pub returns-in_default-behind : goal.returns-in_default-behind
returns-in_default-behind c =
    let some : value_of c.first_part.result.0.now ≡ Some c.in-Some.value = sym c.value_of.ensures ∙ c.in-Some.is in
    let held : holds c.args.size c.loop-rest.place ≡ true = search rules in
    let parted : IsParted c.loop-rest.rest.now c.first_part.result.0.now None =
    subst (IsParted c.loop-rest.rest.now c.first_part.result.0.now) c.in_default-behind.is c.first_part.ensures in
    let said = last_value c.args.size c.loop-rest.place c.in-Some.value c.loop-rest.rest.now c.first_part.result.0.now
    parted held some in
    let pushed : c.push.new.self.items ≡ c.loop-rest.settings.items ++ set_at c.args.size c.loop-rest.place
    c.in-Some.value ∷ [] = search rules in
    c.loop-rest.invariant c.push.new.self.items true
    (subst (λ (s : Option (List Setting)). Adds s c.loop-rest.settings.items c.push.new.self.items true) (sym said)
    (refl, pushed))

pub loop-rest-smaller : goal.loop-rest-smaller
loop-rest-smaller c =
    let parted : IsParted c.loop-rest.rest.now c.first_part.result.0.now (Some c.in-Some-behind.behind) =
    subst (IsParted c.loop-rest.rest.now c.first_part.result.0.now) c.in-Some-behind.is c.first_part.ensures in
    parted.1

pub loop-rest-preserved : goal.loop-rest-preserved
loop-rest-preserved c new good adds =
    let some : value_of c.first_part.result.0.now ≡ Some c.in-Some.value = sym c.value_of.ensures ∙ c.in-Some.is in
    let held : holds c.args.size c.loop-rest.place ≡ true = search rules in
    let parted : IsParted c.loop-rest.rest.now c.first_part.result.0.now (Some c.in-Some-behind.behind) =
    subst (IsParted c.loop-rest.rest.now c.first_part.result.0.now) c.in-Some-behind.is c.first_part.ensures in
    let pushed : c.push.new.self.items ≡ c.loop-rest.settings.items ++ set_at c.args.size c.loop-rest.place
    c.in-Some.value ∷ [] = search rules in
    let further : Adds (cells c.args.size (c.loop-rest.place + bytes_in c.args.size)
    (parts c.in-Some-behind.behind.now))
    (c.loop-rest.settings.items ++ set_at c.args.size c.loop-rest.place c.in-Some.value ∷ []) new good =
    rw (sym c.bytes.ensures, sym c.from-place.ensures, sym pushed) adds in
    c.loop-rest.invariant new good
    (next_value c.args.size c.loop-rest.place c.in-Some.value c.loop-rest.rest.now c.first_part.result.0.now
    c.in-Some-behind.behind.now
    c.loop-rest.settings.items new good parted.0 held some further)

pub returns : goal.returns
returns c =
    let none : holds c.args.size c.loop-rest.place ≡ false = search rules in
    c.loop-rest.invariant c.loop-rest.settings.items false
    (ends_here (cells c.args.size c.loop-rest.place (parts c.loop-rest.rest.now)) c.loop-rest.settings.items
    c.loop-rest.settings.items
    (not_held c.args.size c.loop-rest.place c.loop-rest.rest.now none))
