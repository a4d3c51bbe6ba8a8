-- The lines of a report, one more.
use Rattle.std.proofs.Common.{◌≡◌, ◌≢◌, ◌∙◌, ℕ, zero, suc, ◌+◌, ◌-◌, ◌*◌, ◌/◌, ◌%◌, Bool, true, false, List, [], ◌∷◌}
use Rattle.std.proofs.Common.{◌++◌, Some, None, refl, sym, ap, arith, append_assoc, add-one, cond}
use Rattle.std.specs.List.{flat_map, range_with_len}
use Rattle.std.proofs.lemmas.List.{append-nil}
use Rattle.std.proofs.lemmas.Option.{same_Some}
use Rattle.c62_serial.specs.State.{Machine, byte_in}
use Rattle.c62_serial.specs.Memory.{bytes_from, is_good, number_of, read}
use Rattle.c62_op.specs.declared.register.Side.{Side}
use Rattle.c62_report.specs.Report.{file_lines, hex, hex_digit, register_line, word_line, word_lines}

-- the last of the numbers from a on
more_from : {X : Type 0} (f : ℕ → List X) (a n : ℕ)
    → flat_map f (range_with_len a (suc n)) ≡ flat_map f (range_with_len a n) ++ f (a + n)
more_from f a zero = append-nil (f a) ∙ ap f (let e : a ≡ a + 0 = omega arith in e)
more_from f a (suc n) =
    let next : a + 1 + n ≡ a + suc n = omega arith in
    ap (λ rest. f a ++ rest) (more_from f (a + 1) n ∙ ap (λ k. flat_map f (range_with_len (a + 1) n) ++ f k) next)
    ∙ sym (append_assoc (f a) (flat_map f (range_with_len (a + 1) n)) (f (a + suc n)))

pub flat_map-more : {X : Type 0} (f : ℕ → List X) (n : ℕ)
    → flat_map f (range_with_len 0 (n + 1)) ≡ flat_map f (range_with_len 0 n) ++ f n
flat_map-more f n =
    let start : 0 + n ≡ n = omega arith in
    rw add-one (more_from f 0 n ∙ ap (λ k. flat_map f (range_with_len 0 n) ++ f k) start)

pub hex-last : (digits value : ℕ) → digits ≢ 0
    → hex digits value ≡ hex (digits - 1) (value / 16) ++ hex_digit (value % 16) ∷ []
unfolding hex
hex-last zero value some = absurd (some refl)
hex-last (suc digits) value some =
    let less : digits ≡ suc digits - 1 = omega arith in
    ap (λ d. hex d (value / 16) ++ hex_digit (value % 16) ∷ []) less

pub no_words : (machine : Machine) → word_lines machine 0 ≡ []
unfolding word_lines
no_words machine = refl

pub more_words : (machine : Machine) (k : ℕ) → word_lines machine (k + 1) ≡ word_lines machine k ++ word_line machine k
unfolding word_lines
more_words machine k = flat_map-more (word_line machine) k

found : (good : Bool) (value number : ℕ) → Some value ≡ cond good (Some number) None → value ≡ number
found true value number e = same_Some value number e
found false value number e = absurd cc

-- what a load reads of a word, where it reads
pub word_read : (machine : Machine) (k value : ℕ) → Some value ≡ read (byte_in machine) (4 * k) 4
    → value ≡ number_of (bytes_from (byte_in machine) (4 * k) 4)
word_read machine k value e = found (is_good (4 * k) 4) value (number_of (bytes_from (byte_in machine) (4 * k) 4)) e

pub whole_file : (machine : Machine) (side : Side)
    → flat_map (register_line machine side) (range_with_len 0 16) ≡ file_lines machine side
unfolding file_lines
whole_file machine side = refl
