-- The first byte of a text that passes a test, and its first line feed.
use Rattle.c62_read.proofs.Common.{◌≡◌, ◌<◌, ◌≤◌, ℕ, ◌+◌, Bool, false, List, ◌∷◌, ◌++◌, length, take, drop, get_or}
use Rattle.c62_read.proofs.Common.{Option, Some, None, arith}
use Rattle.c62_read.proofs.Common.{list_any, eqb-true, take-append-drop, is_line_feed}
use Rattle.std.proofs.Math.Seq.{drop-cons}
use Rattle.std.specs.Prelude.{unwrap_or}
use Rattle.std.proofs.lemmas.List.{get_or-take, get_or_default, length-take-le, take_all}
use Rattle.std.proofs.lemmas.List.Folds.{list_any_none}
use Rattle.memchr.specs.Find.{IsFirstByte, is_byte}

module _ (test : ℕ → Bool) (text : List ℕ) where
  none_below : (n : ℕ) → n ≤ length text → ((k : ℕ) → k < n → test (get_or text k 0) ≡ false)
      → list_any test (take n text) ≡ false
  none_below n within none = list_any_none test (take n text) (λ k d less.
      grind (arith, length-take-le n text within, get_or-take n text k d, get_or_default text k d 0, none k))

  -- before what was found, which is the end where nothing was, no byte passes
  pub none_before : (found : Option ℕ) → IsFirstByte test text found
      → (unwrap_or found (length text) ≤ length text)
      × (list_any test (take (unwrap_or found (length text)) text) ≡ false)
  none_before found first = grind (arith, none_below (unwrap_or found (length text)))

-- ---- the first line feed

-- a line feed behind bytes without one
pub record IsFedAt (text : List ℕ) (k : ℕ) : Type 0 where
  pub none : list_any is_line_feed (take k text) ≡ false
  pub split : text ≡ take k text ++ 10 ∷ drop (k + 1) text

pub fed_at : (text : List ℕ) (k : ℕ) → IsFirstByte (is_byte 10) text (Some k) → IsFedAt text k
fed_at text k found = record {
  none = (none_before is_line_feed text (Some k) found).1;
  split = grind (arith, take-append-drop k text, drop-cons text k 0, eqb-true (get_or text k 0) 10);
}

pub not_fed : (text : List ℕ) → IsFirstByte (is_byte 10) text None → list_any is_line_feed text ≡ false
not_fed text none = grind (arith, take_all (length text) text, none_before is_line_feed text None none)
