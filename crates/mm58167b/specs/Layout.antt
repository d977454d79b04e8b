-- Fourteen digits as eight bytes of two, the tens in the high half.
use Rattle.std.specs.Prelude.{ℕ, ◌+◌, ◌*◌, ◌/◌, ◌%◌, ◌≤◌, List, [], ◌∷◌, Some, None, Option, slice_index, slice_index_or, slice_set}

-- The columns of the low and of the high half of a byte: milliseconds (high half only), hundredths and tenths, seconds, minutes,
-- hours, day of week (low half only), day of month, month.
abbrev pub halves : ℕ → Option ℕ × Option ℕ
halves k =
    slice_index_or
    ((None, Some 0)
    ∷ (Some 1, Some 2)
    ∷ (Some 3, Some 4)
    ∷ (Some 5, Some 6)
    ∷ (Some 7, Some 8)
    ∷ (Some 9, None)
    ∷ (Some 10, Some 11)
    ∷ (Some 12, Some 13)
    ∷ []) k (None, None)

-- the digit in a half; one that does not exist reads 0
abbrev pub half : Option ℕ → List ℕ → ℕ
half None digits = 0
half (Some column) digits = slice_index digits column

-- a half that does not exist drops what is written
abbrev pub with_half : Option ℕ → ℕ → List ℕ → List ℕ
with_half None v digits = digits
with_half (Some column) v digits = slice_set digits column v

abbrev pub byte : List ℕ → ℕ → ℕ
byte digits k = 16 * half (halves k).1 digits + half (halves k).0 digits

abbrev pub with_byte : List ℕ → ℕ → ℕ → List ℕ
with_byte digits k v = with_half (halves k).1 (v / 16) (with_half (halves k).0 (v % 16) digits)

-- a column of fourteen, or none
abbrev pub Within : Option ℕ → Type 0
Within None = Unit {0}
Within (Some column) = column ≤ 13
