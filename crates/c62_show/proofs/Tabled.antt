-- A table of whys that has a row.
use Rattle.std.proofs.Common.{◌≡◌, List, [], ◌∷◌, length, refl}
use Rattle.c62_why.specs.declared.why.Why.{Why}
use Rattle.c62_show.specs.Whys.{whole_table, whys_table}

pub table_is : (whys : List Why) → (length whys ≡ 0 → ⊥) → whole_table whys ≡ whys_table whys
table_is [] some = absurd (some refl)
table_is (why ∷ whys) some = refl
