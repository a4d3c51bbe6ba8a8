-- Directives that lay nothing down (docs/ADOPT.md, "Directives").
use Rattle.std.specs.Prelude.{Bool, false, ◌&&◌, ◌||◌, List, [], ◌∷◌, take, codes}
use Rattle.std.specs.List.{list_any}
use Rattle.c62_token.specs.Kind.{Word}
use Rattle.c62_token.specs.Number.{spells}

-- what is told of a program for its debugger, its linker or its reader
abbrev pub quiet_names : List Word
quiet_names =
    codes ".text" ∷ codes ".align" ∷ codes ".global" ∷ codes ".globl" ∷ codes ".def" ∷ codes ".ref" ∷ codes ".type"
    ∷ codes ".size" ∷ codes ".file" ∷ codes ".ident" ∷ codes ".loc" ∷ codes ".c6xabi_attribute" ∷ codes ".p2align"
    ∷ codes ".balign" ∷ codes ".weak" ∷ codes ".hidden" ∷ codes ".internal" ∷ codes ".protected" ∷ codes ".local"
    ∷ codes ".extern" ∷ codes ".comm" ∷ codes ".lcomm" ∷ codes ".scomm" ∷ codes ".nocmp" ∷ codes ".arch"
    ∷ codes ".endp" ∷ codes ".cantunwind" ∷ codes ".personality" ∷ codes ".personalityindex" ∷ codes ".title"
    ∷ codes ".version" ∷ codes ".asmfunc" ∷ codes ".endasmfunc" ∷ codes ".clink" ∷ codes ".retain"
    ∷ codes ".compiler_opts" ∷ codes ".stack" ∷ codes ".newblock" ∷ codes ".page" ∷ codes ".list" ∷ codes ".nolist"
    ∷ codes ".mlist" ∷ codes ".mnolist" ∷ codes ".length" ∷ codes ".width" ∷ codes ".tab" ∷ codes ".option"
    ∷ codes ".dwtag" ∷ codes ".dwattr" ∷ codes ".dwendtag" ∷ codes ".dwpsn" ∷ codes ".dwcfi" ∷ codes ".dwfde"
    ∷ codes ".dwcie" ∷ codes ".dwendentry" ∷ []

abbrev pub is_quiet : Word → Bool
is_quiet word = list_any (λ name. spells name word) quiet_names || spells (codes ".cfi_") (take 5 word)

abbrev pub names_section : Word → Bool
names_section word = spells (codes ".sect") word || spells (codes ".section") word

abbrev pub begins_in_text : List Word → Bool
begins_in_text [] = false
begins_in_text (word ∷ words) = spells (codes ".text") word

-- a section that is named `.text`, or `.text` with more behind it, between quotes or without
abbrev pub is_of_text : List Word → Bool
is_of_text [] = false
is_of_text (word ∷ words) = begins_in_text (word ∷ words) || spells (codes "\"") word && begins_in_text words

-- whether a directive, its name before what stands behind that, lays nothing down
abbrev pub lays_nothing : List Word → Bool
lays_nothing [] = false
lays_nothing (name ∷ words) = is_quiet name || names_section name && is_of_text words
