-- Files that are cut off bytes, one file more, and where what is cut is memory.
use Rattle.std.proofs.Common.{arith, ◌≡◌, ◌∙◌, ℕ, ◌+◌, ◌-◌, ◌<◌, List, [], ◌∷◌, ◌++◌, length, take, drop, map, get_or}
use Rattle.std.proofs.Common.{refl, sym, ap, append_assoc}
use Rattle.std.specs.Borrow.{Bor}
use Rattle.std.proofs.lemmas.List.{append-nil, drop_at, drop_more, length-append, map-append, take_at}
use Rattle.std.proofs.lemmas.List.FromFn.{length-map-range_with_len}
use Rattle.c62_command.specs.declared.setting.Setting.{Setting as Given}
use Rattle.c62_command.specs.declared.setting.Setting.TheVariants as given
use Rattle.c62_printing.specs.Dumping.{byte_at, bytes_at, dumps}
use Rattle.c62_serial.specs.State.{Machine}
use Rattle.c62_files.specs.Words.{Text, texts}
use Rattle.c62_files.specs.Writing.{text_output}
use Rattle.c62_files.specs.declared.writing.Output.{Output}
use Rattle.c62_dumping.specs.Counts.{counts_in}
use Rattle.c62_dumping.specs.Cut.{dumped_in, files_of, front_of, report_in}
use Rattle.c62_dumping.specs.Laws.{memory_files}

-- ---- files

no_count : (names : List Text) (bytes : List ℕ) → files_of names [] bytes ≡ []
unfolding files_of
no_count [] bytes = refl
no_count (name ∷ names) bytes = refl

a_file : (name : Text) (names : List Text) (count : ℕ) (counts bytes : List ℕ)
    → files_of (name ∷ names) (count ∷ counts) bytes ≡ (name, take count bytes) ∷ files_of names counts
    (drop count bytes)
unfolding files_of
a_file name names count counts bytes = refl

-- the names from i on are the name at i and those behind it
names_here : (names : List (Bor Text)) (i : ℕ) (d name : Bor Text) → i < length names → name ≡ get_or names i d
    → texts (drop i names) ≡ name.now ∷ texts (drop (i + 1) names)
names_here names i d name within is = ap texts (drop_more names i d within)
    ∙ ap (λ n. n.now ∷ texts (drop (i + 1) names)) (sym is)

pub one_file_more : (names : List (Bor Text)) (i : ℕ) (d name : Bor Text) (counts more rest mine behind : List ℕ)
    (count : ℕ) (files new : List Output) (file : Output)
    (all : List (Text × List ℕ)) → i < length names → name ≡ get_or names i d → counts ≡ count ∷ more
    → mine ≡ take count rest → behind ≡ drop count rest
    → text_output file ≡ (name.now, mine) → new ≡ files ++ file ∷ []
    → map text_output files ++ files_of (texts (drop i names)) counts rest ≡ all
    → map text_output new ++ files_of (texts (drop (i + 1) names)) more behind ≡ all
one_file_more names i d name counts more rest mine behind count files new file all within is some first last made added
    so_far =
    let tail = files_of (texts (drop (i + 1) names)) more behind in
    let here : files_of (texts (drop i names)) counts rest ≡ text_output file ∷ tail =
    ap (λ ns. files_of ns counts rest) (names_here names i d name within is)
    ∙ ap (λ cs. files_of (name.now ∷ texts (drop (i + 1) names)) cs rest) some
    ∙ a_file name.now (texts (drop (i + 1) names)) count more rest
    ∙ ap (λ b. (name.now, take count rest) ∷ files_of (texts (drop (i + 1) names)) more b) (sym last)
    ∙ ap (λ f. f ∷ tail) (sym (made ∙ ap (λ b. (name.now, b)) first)) in
    ap (λ fs. map text_output fs ++ tail) added ∙ ap (λ xs. xs ++ tail) (map-append text_output files (file ∷ []))
    ∙ append_assoc (map text_output files) (text_output file ∷ []) tail
    ∙ ap (λ xs. map text_output files ++ xs) (sym here) ∙ so_far

-- where there is no count any more
pub no_file_more : (names : List Text) (counts rest : List ℕ) (files : List Output) (all : List (Text × List ℕ))
    → counts ≡ []
    → map text_output files ++ files_of names counts rest ≡ all → map text_output files ≡ all
no_file_more names counts rest files all none so_far =
    sym (append-nil (map text_output files))
    ∙ ap (λ xs. map text_output files ++ xs) (sym (ap (λ cs. files_of names cs rest) none
    ∙ no_count names rest)) ∙ so_far

no_name : (counts bytes : List ℕ) → files_of [] counts bytes ≡ []
unfolding files_of
no_name counts bytes = refl

-- or no name
pub no_name_more : (names : List Text) (counts rest : List ℕ) (files : List Output) (all : List (Text × List ℕ))
    → names ≡ []
    → map text_output files ++ files_of names counts rest ≡ all → map text_output files ≡ all
no_name_more names counts rest files all none so_far =
    sym (append-nil (map text_output files))
    ∙ ap (λ xs. map text_output files ++ xs) (sym (ap (λ ns. files_of ns counts rest) none
    ∙ no_name counts rest)) ∙ so_far

-- ---- memory

bytes_long : (machine : Machine) (address count : ℕ) → length (bytes_at machine address count) ≡ count
bytes_long machine address count = length-map-range_with_len (byte_at machine) address count

front_all : (machine : Machine) (settings : List Given) (before : ℕ)
    → front_of (before + length (dumps machine settings)) (counts_in settings) ≡ before
front_all machine [] before = omega arith
front_all machine (given.Register reg value ∷ settings) before = front_all machine settings before
front_all machine (given.Byte address value ∷ settings) before = front_all machine settings before
front_all machine (given.Half address value ∷ settings) before = front_all machine settings before
front_all machine (given.Word address value ∷ settings) before = front_all machine settings before
front_all machine (given.Print print ∷ settings) before = front_all machine settings before
front_all machine (given.Base base ∷ settings) before = front_all machine settings before
front_all machine (given.Dump dump ∷ settings) before =
    let mine = bytes_at machine dump.place dump.count in
    let rest = dumps machine settings in
    let less : before + length (mine ++ rest) - dump.count ≡ before + length rest =
    omega (arith, length-append mine rest, bytes_long machine dump.place dump.count) in
    ap (λ n. front_of n (counts_in settings)) less ∙ front_all machine settings before

front_right : (report : List ℕ) (machine : Machine) (settings : List Given)
    → front_of (length (report ++ dumps machine settings)) (counts_in settings) ≡ length report
front_right report machine settings =
    ap (λ n. front_of n (counts_in settings)) (length-append report (dumps machine settings))
    ∙ front_all machine settings (length report)

pub report_right : (report : List ℕ) (machine : Machine) (settings : List Given)
    → report_in (counts_in settings) (report ++ dumps machine settings) ≡ report
report_right report machine settings =
    take_at report (dumps machine settings) (front_of (length (report ++ dumps machine settings)) (counts_in settings))
    (sym (front_right report machine settings))

pub dumped_right : (report : List ℕ) (machine : Machine) (settings : List Given)
    → dumped_in (counts_in settings) (report ++ dumps machine settings) ≡ dumps machine settings
dumped_right report machine settings =
    drop_at report (dumps machine settings) (front_of (length (report ++ dumps machine settings)) (counts_in settings))
    (sym (front_right report machine settings))

pub files_right : (names : List Text) (machine : Machine) (settings : List Given)
    → length names ≡ length (counts_in settings)
    → files_of names (counts_in settings) (dumps machine settings) ≡ memory_files names machine settings
files_right [] machine [] same = no_name [] []
files_right (name ∷ names) machine [] same = no_count (name ∷ names) []
files_right names machine (given.Register reg value ∷ settings) same = files_right names machine settings same
files_right names machine (given.Byte address value ∷ settings) same = files_right names machine settings same
files_right names machine (given.Half address value ∷ settings) same = files_right names machine settings same
files_right names machine (given.Word address value ∷ settings) same = files_right names machine settings same
files_right names machine (given.Print print ∷ settings) same = files_right names machine settings same
files_right names machine (given.Base base ∷ settings) same = files_right names machine settings same
files_right [] machine (given.Dump dump ∷ settings) same = absurd (omega (arith, same))
files_right (name ∷ names) machine (given.Dump dump ∷ settings) same =
    let mine = bytes_at machine dump.place dump.count in
    let rest = dumps machine settings in
    let long = bytes_long machine dump.place dump.count in
    a_file name names dump.count (counts_in settings) (mine ++ rest)
    ∙ ap (λ b. (name, b) ∷ files_of names (counts_in settings) (drop dump.count (mine ++ rest)))
    (take_at mine rest dump.count long)
    ∙ ap (λ b. (name, mine) ∷ files_of names (counts_in settings) b) (drop_at mine rest dump.count long)
    ∙ ap (λ fs. (name, mine) ∷ fs) (files_right names machine settings (omega (arith, same)))
