-- What words ask for.
use Rattle.std.proofs.Common.{◌≡◌, ◌≢◌, ◌∙◌, ℕ, Bool, true, false, List, [], ◌∷◌, length, map}
use Rattle.std.proofs.Common.{Option, Some, None, option_map}
use Rattle.std.proofs.Common.{refl, ap, sym, arith}
use Rattle.std.specs.Prelude.{codes, if◌then◌else◌}
use Rattle.std.specs.Str.{bytes_eq}
use Rattle.c62_op.specs.declared.register.Reg.{Reg}
use Rattle.clap.specs.Words.{Kinds, Row, Text, first_of, fault_of, subcommand_of}
use Rattle.c62_command.specs.declared.promise.BadPromise.{BadPromise}
use Rattle.c62_command.specs.declared.promise.BadPromise.TheVariants as no_promise
use Rattle.c62_command.specs.declared.command.CommandError.{CommandError}
use Rattle.c62_command.specs.declared.command.CommandError.TheVariants as refused
use Rattle.c62_command.specs.Promises.{IsBadPromise, all_trips, apart_of, trips_in, trips_words}
use Rattle.c62_command.proofs.PromiseLemmas.{none_said}
use Rattle.c62_command.specs.CommandLine.{Ask, Listing, HasBadPromise, HasBadPromiseIn, HasBadSetting, HasFirstBad}
use Rattle.c62_command.specs.CommandLine.{IsRefusal, IsRefusalIn, IsUnknown, Adoption, loops_asked, ask_in, asked}
use Rattle.c62_command.specs.CommandLine.{HasExclusion, exclusion_in, exclusion_of, unless_excluded}
use Rattle.c62_command.specs.CommandLine.{rendered, rendering_in, rendering_of, what_in}
use Rattle.c62_command.specs.declared.command.Exclusion.{Exclusion}
use Rattle.c62_command.specs.declared.command.Rendering.{Rendering}
use Rattle.c62_command.specs.CommandLine.{check_asked, is_set, plain_asked, plain_packing}
use Rattle.c62_command.specs.CommandLine.{packing_of, promised_asked, reaching, report_asked, serial_asked}
use Rattle.c62_command.specs.CommandLine.{show_asked, takes_apart}
use Rattle.c62_command.specs.CommandLine.{setting_words, tool_app, unless_fault}
use Rattle.c62_command.specs.Settings.{IsFirstBad, base_among, settings_from, settings_of}
use Rattle.c62_command.proofs.SettingLemmas.{none_of}

pub asked-none : {W : Type 0} (text : W → Text) (words : List W) → length words ≡ 0
    → asked (map text words) ≡ Some (Listing plain_packing)
unfolding asked
asked-none text [] e = refl
asked-none text (word ∷ words) e = absurd (omega arith)

-- clap takes the words
pub asked-taken : {W : Type 0} (text : W → Text) (words : List W) (ask : Ask) → length words ≢ 0
    → fault_of tool_app (map text words) ≡ []
    → ask_in (subcommand_of tool_app (map text words)) ≡ Some ask → asked (map text words) ≡ Some ask
unfolding asked
asked-taken text [] ask some taken e = absurd (some refl)
asked-taken text (word ∷ words) ask some taken e =
    ap (λ (kinds : Kinds). unless_fault kinds (ask_in (subcommand_of tool_app (map text (word ∷ words))))) taken ∙ e

faulty : (kinds : Kinds) (ask : Option Ask) → kinds ≢ [] → unless_fault kinds ask ≡ None
faulty [] ask e = absurd (e refl)
faulty (kind ∷ kinds) ask e = refl

pub asked-unknown : (words : List Text) → IsUnknown words → asked words ≡ None
unfolding asked
asked-unknown [] e = absurd (omega (arith, e.0))
asked-unknown (word ∷ words) e = faulty (fault_of tool_app (word ∷ words))
    (ask_in (subcommand_of tool_app (word ∷ words))) e.1

no_settings : (rows : List Row) (k : ℕ) → IsFirstBad (setting_words rows) k → settings_of (setting_words rows) ≡ None
no_settings rows k bad =
    let base : ℕ = base_among (setting_words rows) in
    ap (settings_from base) bad.whole ∙ none_of base bad.before bad.text bad.after bad.bad

nothing_in : (found : Option (Text × List Row)) (k : ℕ) → HasFirstBad found k → what_in found ≡ None
nothing_in None k e = absurd e
nothing_in (Some (name, rows)) k e =
    rw (e.0.3, e.0.2) (go (is_set (codes "pipeline") rows) (all_trips (trips_words rows)) (apart_of rows))
  where
    serial : (trips : Option (List (Text × ℕ))) (apart : Option (List Reg)) → serial_asked rows trips apart ≡ None
    serial None apart = refl
    serial (Some trips) None = refl
    serial (Some trips) (Some apart) = rw (no_settings rows k e.1) refl

    other : (is : Bool) → (if is then serial_asked rows (all_trips (trips_words rows)) (apart_of rows)
        else option_map (report_asked name rows) (settings_of (setting_words rows))) ≡ None
    other true = serial (all_trips (trips_words rows)) (apart_of rows)
    other false = rw (no_settings rows k e.1) refl

    plain : plain_asked name rows ≡ None
    plain = rw (e.0.0, e.0.1) (other (bytes_eq name (codes "serial")))

    go : (pipeline : Bool) (trips : Option (List (Text × ℕ))) (apart : Option (List Reg))
        → (if pipeline then promised_asked name rows trips apart else plain_asked name rows) ≡ None
    go false trips apart = plain
    go true None apart = refl
    go true (Some trips) None = refl
    go true (Some trips) (Some apart) = rw (e.0.0, e.0.1, no_settings rows k e.1) refl

no_promises : (rows : List Row) (bad : BadPromise) → IsBadPromise rows bad
    → loops_asked (all_trips (trips_words rows)) (apart_of rows) ≡ None
no_promises rows (no_promise.Trips k) bad =
    let none : all_trips (trips_words rows) ≡ None = ap all_trips bad.whole
    ∙ none_said trips_in bad.before bad.text bad.after bad.bad in
    rw none refl
no_promises rows no_promise.Apart bad = rw (bad.0) (nothing (all_trips (trips_words rows)))
  where
    nothing : (trips : Option (List (Text × ℕ))) → loops_asked trips None ≡ None
    nothing None = refl
    nothing (Some trips) = refl

nothing_promised : (name : Text) (rows : List Row) (bad : BadPromise) → IsBadPromise rows bad
    → promised_asked name rows (all_trips (trips_words rows)) (apart_of rows) ≡ None
nothing_promised name rows (no_promise.Trips k) bad =
    let none : all_trips (trips_words rows) ≡ None = ap all_trips bad.whole
    ∙ none_said trips_in bad.before bad.text bad.after bad.bad in
    rw none refl
nothing_promised name rows no_promise.Apart bad = rw (bad.0) (nothing (all_trips (trips_words rows)))
  where
    nothing : (trips : Option (List (Text × ℕ))) → promised_asked name rows trips None ≡ None
    nothing None = refl
    nothing (Some trips) = refl

nothing_serial : (rows : List Row) (bad : BadPromise) → IsBadPromise rows bad
    → serial_asked rows (all_trips (trips_words rows)) (apart_of rows) ≡ None
nothing_serial rows (no_promise.Trips k) bad =
    let none : all_trips (trips_words rows) ≡ None = ap all_trips bad.whole
    ∙ none_said trips_in bad.before bad.text bad.after bad.bad in
    rw none refl
nothing_serial rows no_promise.Apart bad = rw (bad.0) (nothing (all_trips (trips_words rows)))
  where
    nothing : (trips : Option (List (Text × ℕ))) → serial_asked rows trips None ≡ None
    nothing None = refl
    nothing (Some trips) = refl

nothing_plain : (name : Text) (rows : List Row) (bad : BadPromise) → IsBadPromise rows bad
    → takes_apart name ≡ true → plain_asked name rows ≡ None
nothing_plain name rows bad why =
    go (bytes_eq name (codes "pack")) (bytes_eq name (codes "show")) (bytes_eq name (codes "serial"))
  where
    serial : Option Ask
    serial = serial_asked rows (all_trips (trips_words rows)) (apart_of rows)

    go : (pack show is : Bool) → (if pack then false else (if show then false else is)) ≡ true
        → (if pack then Some (Listing (packing_of rows)) else (if show then Some (show_asked rows)
        else (if is then serial else option_map (report_asked name rows) (settings_of (setting_words rows))))) ≡ None
    go true show is e = absurd cc
    go false true is e = absurd cc
    go false false false e = absurd cc
    go false false true e = nothing_serial rows bad why

no_loops_in : (found : Option (Text × List Row)) (bad : BadPromise) → HasBadPromiseIn found bad → what_in found ≡ None
no_loops_in None bad e = absurd e
no_loops_in (Some (name, rows)) bad e = go (bytes_eq name (codes "check")) (bytes_eq name (codes "adopt")) e.takes
  where
    adopting : Option Ask
    adopting = Some (reaching (first_of (codes "from") rows) (Adoption (is_set (codes "drain") rows)))

    loops : Bool
    loops = is_set (codes "loops") rows

    pipeline : Bool
    pipeline = is_set (codes "pipeline") rows

    promised : Option Ask
    promised = promised_asked name rows (all_trips (trips_words rows)) (apart_of rows)

    last : (is : Bool) → (if is then true else takes_apart name) ≡ true
        → (if is then promised else plain_asked name rows) ≡ None
    last true takes = nothing_promised name rows bad e.why
    last false takes = nothing_plain name rows bad e.why takes

    go : (check adopt : Bool)
        → (if check then loops else (if adopt then false else (if pipeline then true else takes_apart name))) ≡ true
        → (if check then check_asked rows
        else (if adopt then adopting else (if pipeline then promised else plain_asked name rows))) ≡ None
    go true adopt is = rw (is, no_promises rows bad e.why) refl
    go false true is = absurd cc
    go false false is = last pipeline is

-- what no words ask for
pub none_told : (found : Option (Text × List Row)) (ask : Ask) → found ≡ None → ask ≡ Listing plain_packing
    → ask_in found ≡ Some ask
unfolding ask_in
none_told found ask none is = rw (none, is) refl

-- what is asked for where no options exclude each other
one_way : (found : Option (Text × List Row)) → exclusion_in found ≡ None
    → ask_in found ≡ option_map (rendered (rendering_in found)) (what_in found)
unfolding ask_in
one_way found one = rw one refl

-- where nothing is asked for, nothing is, in whichever way it is to be told
never : (excluded : Option Exclusion) (tell : Ask → Ask) → unless_excluded excluded (option_map tell None) ≡ None
never None tell = refl
never (Some exclusion) tell = refl

none_in : (found : Option (Text × List Row)) → what_in found ≡ None → ask_in found ≡ None
unfolding ask_in
none_in found none =
    ap (λ (what : Option Ask). unless_excluded (exclusion_in found)
    (option_map (rendered (rendering_in found)) what)) none
    ∙ never (exclusion_in found) (rendered (rendering_in found))

-- what a subcommand asks for, told so
pub told_so : (name : Text) (rows : List Row) (ask : Ask) (rendering : Rendering)
    → exclusion_of rows ≡ None → what_in (Some (name, rows)) ≡ Some ask → rendering ≡ rendering_of rows
    → ask_in (Some (name, rows)) ≡ Some (rendered rendering ask)
told_so name rows ask rendering one is same =
    one_way (Some (name, rows)) one
    ∙ ap (option_map (rendered (rendering_of rows))) is
    ∙ ap (λ (r : Rendering). Some (rendered r ask)) (sym same)

pub asked-bad-promise : (words : List Text) (bad : BadPromise) → HasBadPromise words bad → asked words ≡ None
unfolding asked
asked-bad-promise [] bad e = absurd (omega (arith, e.0))
asked-bad-promise (word ∷ words) bad e =
    ap (λ (kinds : Kinds). unless_fault kinds (ask_in (subcommand_of tool_app (word ∷ words)))) e.1
    ∙ none_in (subcommand_of tool_app (word ∷ words)) (no_loops_in (subcommand_of tool_app (word ∷ words)) bad e.2)

pub asked-excluded : (words : List Text) (exclusion : Exclusion) → HasExclusion words exclusion → asked words ≡ None
unfolding asked ask_in
asked-excluded [] exclusion e = absurd (omega (arith, e.0))
asked-excluded (word ∷ words) exclusion e =
    ap (λ (kinds : Kinds). unless_fault kinds (ask_in (subcommand_of tool_app (word ∷ words)))) e.1
    ∙ rw (e.2) refl

-- why a subcommand asks for nothing is why the words do
pub refused_in : {W : Type 0} (text : W → Text) (words : List W) (error : CommandError) → length words ≢ 0
    → fault_of tool_app (map text words) ≡ []
    → IsRefusalIn (subcommand_of tool_app (map text words)) error → IsRefusal error (map text words)
refused_in text [] error some taken is = absurd (some refl)
refused_in text (word ∷ words) (refused.Words e) some taken is = absurd is
refused_in text (word ∷ words) (refused.Setting k) some taken is = (omega arith, taken, is)
refused_in text (word ∷ words) (refused.Promise bad) some taken is = (omega arith, taken, is)
refused_in text (word ∷ words) (refused.Excluded exclusion) some taken is = (omega arith, taken, is)
refused_in text (word ∷ words) refused.Memory some taken is = tt

pub asked-bad : (words : List Text) (k : ℕ) → HasBadSetting words k → asked words ≡ None
unfolding asked
asked-bad [] k e = absurd (omega (arith, e.0))
asked-bad (word ∷ words) k e =
    ap (λ (kinds : Kinds). unless_fault kinds (ask_in (subcommand_of tool_app (word ∷ words)))) e.1
    ∙ none_in (subcommand_of tool_app (word ∷ words)) (nothing_in (subcommand_of tool_app (word ∷ words)) k e.2)
