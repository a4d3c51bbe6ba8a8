-- A label names a row.
use Rattle.std.proofs.Common.{arith, ◌≡◌, ℕ, false, List, [], ◌∷◌, ◌++◌, length, map, Option, Some, None, is_some, refl}
use Rattle.std.proofs.Common.{sym, ap, ◌∙◌, ◌<◌, ◌^◌}
use Rattle.std.specs.Map.{lookup}
use Rattle.std.specs.Str.{bytes_eq}
use Rattle.std.proofs.lemmas.List.{length-map}
use Rattle.indexmap.specs.IndexMap.{insert_entry}
use Rattle.c62_read.specs.Program.{Name}
use Rattle.c62_rows.specs.declared.rows.Row.{Row as RowRead}
use Rattle.c62_rows.specs.Rows.{row_read}
use Rattle.c62_rows.specs.Reading.{Reading, all_rows, closed, is_given, with_label}
use Rattle.c62_rows.specs.Named.{named}
use Rattle.c62_rows.proofs.Tables.{inserted}

pub inserted_row : (label : Name) (row : ℕ) (rows : List RowRead) (entries new : List (Name × ℕ))
    → is_some (lookup (bytes_eq label) entries) ≡ false
    → row ≡ length rows → new ≡ insert_entry bytes_eq entries label row
    → new ≡ entries ++ (label, length (map row_read rows)) ∷ []
inserted_row label row rows entries new absent is put =
    put ∙ inserted label entries row absent
    ∙ ap (λ (k : ℕ). entries ++ (label, k) ∷ []) (is ∙ sym (length-map rows row_read))

pub given_there : (label : Option Name) (old mid : Reading) → mid ≡ closed old → is_given label old ≡ false
    → is_given label mid ≡ false
given_there None old mid there free = refl
given_there (Some label) old mid there free = ap (λ (r : Reading). is_some (lookup (bytes_eq label) r.labels)) there
    ∙ free

pub few_there : (old mid : Reading) → mid ≡ closed old → length (all_rows old) < 2 ^ 32 → length mid.done < 2 ^ 32
few_there old mid there few = omega (arith, few, ap (λ (r : Reading). length r.done) there)

pub labelled : (label : Name) (old mid new : Reading) → mid ≡ closed old → new ≡ named label mid
    → new ≡ with_label (Some label) old
labelled label old mid new there is = is ∙ ap (named label) there
