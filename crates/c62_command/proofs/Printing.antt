-- What words print lies in memory.
use Rattle.std.proofs.Common.{◌≡◌, ℕ, ◌+◌, ◌/◌, Bool, true, false, List, [], ◌∷◌, take, drop, Option, Some, None, refl}
use Rattle.std.proofs.Common.{subst, arith, cond}
use Rattle.std.specs.Prelude.{◌==◌, IfSome, codes, nat_eq, option_and_then, option_map}
use Rattle.std.specs.List.{All, position, starts_with}
use Rattle.std.specs.Str.{bytes_eq}
use Rattle.std.proofs.lemmas.Bool.Decides.{nat_tests}
use Rattle.std.proofs.lemmas.List.Elements.{All-append, All-cons, All-nil}
use Rattle.c62_token.specs.Number.{number_of, register_of}
use Rattle.c62_command.specs.declared.setting.Setting.{Setting}
use Rattle.c62_command.specs.declared.setting.Setting.TheVariants.{Register, Print as Prints, Dump as Dumps}
use Rattle.c62_command.specs.declared.setting.Setting.TheVariants.{Base as Begins}
use Rattle.c62_command.specs.declared.setting.Size.{Size}
use Rattle.c62_command.specs.declared.setting.Size.TheVariants.{Byte, Half, Word}
use Rattle.c62_command.specs.Settings.{ArePrintedOfMemory, PrintsMemory, and_setting, and_settings, bytes_in, cell}
use Rattle.c62_command.specs.Settings.{cells, dump_setting, dumped, extent_in, form_named, holds, memory_settings}
use Rattle.c62_command.specs.Settings.{named_setting, one, parts, place_in, print_as, print_parted, print_setting}
use Rattle.c62_command.specs.Settings.{printed, register_setting, set_at, settings_at, settings_in, settings_from}
use Rattle.c62_command.specs.Settings.{spans}
use Rattle.c62_command.specs.Settings.{base_among, base_of, base_setting, value_of}

-- where this is something, it prints nothing but memory
abbrev IsPrinted : Option Setting → Type 0
IsPrinted said = IfSome said PrintsMemory

abbrev ArePrinted : Option (List Setting) → Type 0
ArePrinted said = IfSome said (All PrintsMemory)

and_then : {X Y : Type 0} (P : Y → Type 0) (f : X → Option Y) (o : Option X) → ((x : X) → IfSome (f x) P)
    → IfSome (option_and_then f o) P
and_then P f None each = tt
and_then P f (Some x) each = each x

either : {Y : Type 0} (P : Y → Type 0) (b : Bool) (this that : Option Y) → IfSome this P → IfSome that P
    → IfSome (cond b this that) P
either P true this that first second = first
either P false this that first second = second

-- ---- what is printed

spanned : (address length : ℕ) (size : Size) (signed : Bool) → spans size address length ≡ true
    → PrintsMemory (Prints (record { place = address; count = length / bytes_in size; size = size; signed = signed }))
spanned address length Byte signed e = (grind (arith, nat_tests, e), grind (arith, nat_tests, e))
spanned address length Half signed e = (grind (arith, nat_tests, e), grind (arith, nat_tests, e))
spanned address length Word signed e = (grind (arith, nat_tests, e), grind (arith, nat_tests, e))

is_printed : (address length : ℕ) (size : Size) (signed : Bool) → IsPrinted (printed address length size signed)
is_printed address length size signed = go (spans size address length) refl
  where
    go : (b : Bool) → spans size address length ≡ b
        → IsPrinted (cond b (Some
        (Prints (record { place = address; count = length / bytes_in size; size = size; signed = signed })))
        None)
    go true e = spanned address length size signed e
    go false e = tt

as_printed : (base : ℕ) (text : List ℕ) (size : Size) (signed : Bool) → IsPrinted (print_as base text size signed)
as_printed base text size signed =
    and_then PrintsMemory (λ extent. printed extent.0 extent.1 size signed) (extent_in base text)
    (λ extent. is_printed extent.0 extent.1 size signed)

parted_printed : (base : ℕ) (text : List ℕ) (colon : Option ℕ) → IsPrinted (print_parted base text colon)
parted_printed base text None = as_printed base text Word false
parted_printed base text (Some k) =
    and_then PrintsMemory (λ form. print_as base (take k text) form.0 form.1) (form_named (drop (k + 1) text))
    (λ form. as_printed base (take k text) form.0 form.1)

setting_printed : (base : ℕ) (text : List ℕ) → IsPrinted (print_setting base text)
unfolding print_setting
setting_printed base text = parted_printed base text (position (λ b. b == 58) text)

-- ---- what goes to files

is_dumped : (address length : ℕ) → IsPrinted (dumped address length)
is_dumped address length = go (spans Byte address length) refl
  where
    go : (b : Bool) → spans Byte address length ≡ b
        → IsPrinted (cond b (Some (Dumps (record { place = address; count = length }))) None)
    go true e = grind (arith, nat_tests, e)
    go false e = tt

setting_dumped : (base : ℕ) (text : List ℕ) → IsPrinted (dump_setting base text)
setting_dumped base text = and_then PrintsMemory (λ extent. dumped extent.0 extent.1) (extent_in base text)
    (λ extent. is_dumped extent.0 extent.1)

-- ---- what is set

register_set : (name text : List ℕ) → IsPrinted (register_setting name text)
register_set name text = and_then PrintsMemory (λ reg. option_map (Register reg) (value_of text)) (register_of name)
    (λ reg. go (Register reg) (value_of text) (λ _. tt))
  where
    go : (f : ℕ → Setting) (o : Option ℕ) → ((value : ℕ) → PrintsMemory (f value)) → IsPrinted (option_map f o)
    go f None each = tt
    go f (Some value) each = each value

base_set : (text : List ℕ) → IsPrinted (base_setting text)
base_set text = go (option_and_then base_of (number_of text))
  where
    go : (o : Option ℕ) → IsPrinted (option_map Begins o)
    go None = tt
    go (Some base) = tt

value_set : (size : Size) (address : ℕ) (o : Option ℕ) → IsPrinted (option_map (set_at size address) o)
value_set size address None = tt
value_set Byte address (Some value) = tt
value_set Half address (Some value) = tt
value_set Word address (Some value) = tt

cell_set : (size : Size) (address : ℕ) (text : List ℕ) → IsPrinted (cell size address text)
cell_set size address text = either PrintsMemory (holds size address) (option_map (set_at size address) (value_of text))
    None (value_set size address (value_of text)) tt

with_setting : (first : Option Setting) (others : Option (List Setting)) → IsPrinted first → ArePrinted others
    → ArePrinted (and_setting first others)
with_setting None others is are = tt
with_setting (Some setting) None is are = tt
with_setting (Some setting) (Some settings) is are = All-cons PrintsMemory setting settings is are

cells_set : (size : Size) (address : ℕ) (texts : List (List ℕ)) → ArePrinted (cells size address texts)
unfolding cells
cells_set size address [] = All-nil PrintsMemory
cells_set size address (text ∷ texts) =
    with_setting (cell size address text) (cells size (address + bytes_in size) texts) (cell_set size address text)
    (cells_set size (address + bytes_in size) texts)

-- ---- words

one_said : (said : Option Setting) → IsPrinted said → ArePrinted (one said)
one_said None is = tt
one_said (Some setting) is = All-cons PrintsMemory setting [] is (All-nil PrintsMemory)

memory_said : (base : ℕ) (place text : List ℕ) → ArePrinted (memory_settings base place text)
memory_said base place text =
    and_then (All PrintsMemory) (λ found. cells found.1 found.0 (parts text)) (place_in base place)
    (λ found. cells_set found.1 found.0 (parts text))

named_said : (base : ℕ) (name text : List ℕ) → IsPrinted (named_setting base name text)
named_said base name text =
    let last : Option Setting = cond (bytes_eq name (codes "base")) (base_setting text) (register_setting name text) in
    let other : Option Setting = cond (bytes_eq name (codes "dump")) (dump_setting base text) last in
    either PrintsMemory (bytes_eq name (codes "print")) (print_setting base text) other (setting_printed base text)
    (either PrintsMemory (bytes_eq name (codes "dump")) (dump_setting base text) last (setting_dumped base text)
    (either PrintsMemory (bytes_eq name (codes "base")) (base_setting text) (register_setting name text) (base_set text)
    (register_set name text)))

said_at : (base : ℕ) (name text : List ℕ) → ArePrinted (settings_at base name text)
unfolding settings_at
said_at base name text =
    either (All PrintsMemory) (starts_with nat_eq name (64 ∷ [])) (memory_settings base (drop 1 name) text)
    (one (named_setting base name text))
    (memory_said base (drop 1 name) text) (one_said (named_setting base name text) (named_said base name text))

said_in : (base : ℕ) (text : List ℕ) → ArePrinted (settings_in base text)
unfolding settings_in
said_in base text =
    and_then (All PrintsMemory) (λ k. settings_at base (take k text) (drop (k + 1) text)) (position (λ b. b == 61) text)
    (λ k. said_at base (take k text) (drop (k + 1) text))

with_settings : (mine others : Option (List Setting)) → ArePrinted mine → ArePrinted others
    → ArePrinted (and_settings mine others)
with_settings None others is are = tt
with_settings (Some mine) None is are = tt
with_settings (Some mine) (Some settings) is are = All-append PrintsMemory mine settings is are

said_by : (base : ℕ) (texts : List (List ℕ)) → ArePrinted (settings_from base texts)
said_by base [] = All-nil PrintsMemory
said_by base (text ∷ texts) =
    with_settings (settings_in base text) (settings_from base texts) (said_in base text) (said_by base texts)

pub printed_of_memory : (texts : List (List ℕ)) → ArePrintedOfMemory texts
printed_of_memory texts settings are = subst ArePrinted are (said_by (base_among texts) texts)
