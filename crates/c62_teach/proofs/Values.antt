-- The first value of a setting that is no number.
use Rattle.std.proofs.Common.{◌≡◌, true, false, Option, Some, None, refl}
use Rattle.std.specs.Prelude.{find}
use Rattle.std.specs.Borrow.{Bor}
use Rattle.clap.specs.Words.{Text}
use Rattle.c62_command.specs.Settings.{IsParted, parts}
use Rattle.c62_teach.specs.Setting.{is_no_number}

pub first_bad : (values part : Text) (behind : Option (Bor Text)) → IsParted values part behind
    → is_no_number part ≡ true
    → find is_no_number (parts values) ≡ Some part
first_bad values part None parted bad = rw (parted, bad) refl
first_bad values part (Some behind) parted bad = rw (parted.0, bad) refl

pub none_bad : (values part : Text) → IsParted values part None → is_no_number part ≡ false
    → find is_no_number (parts values) ≡ None
none_bad values part parted good = rw (parted, good) refl

pub bad_behind : (values part : Text) (behind : Bor Text) → IsParted values part (Some behind)
    → is_no_number part ≡ false
    → find is_no_number (parts values) ≡ find is_no_number (parts behind.now)
bad_behind values part behind parted good = rw (parted.0, good) refl
