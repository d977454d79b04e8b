-- How many columns a lawful face has, and that each of its digits fits four bits.
use Rattle.std.specs.Prelude.{◌≡◌, ℕ, ◌<◌, ◌≤◌, ◌⊎◌, List, length, slice_index}
use Rattle.std.proofs.Common.{inl, inr, arith}
use Rattle.std.proofs.lemmas.List.{get_or_past}
use Rattle.std.proofs.lemmas.Bool.{cases_lt}
use Rattle.clock.specs.Mm58167b as mm58167b
use Rattle.clock.specs.Mm58274c as mm58274c

pub columns_167 : (face : List ℕ) → mm58167b.Lawful face → length face ≡ 14
columns_167 face h = h.columns

pub columns_274 : (face : List ℕ) → mm58274c.Lawful face → length face ≡ 15
columns_274 face h = h.columns

-- past the last column a digit counts as 0
everywhere : (face : List ℕ) → ((k : ℕ) → k < length face → slice_index face k ≤ 15) → (k : ℕ) → slice_index face k ≤ 15
everywhere face small k = go (cases_lt k (length face))
  where
    go : (k < length face) ⊎ (length face ≤ k) → slice_index face k ≤ 15
    go (inl l) = small k l
    go (inr l) = omega (arith, get_or_past face k 0 l)

pub four_bits_167 : (face : List ℕ) → mm58167b.Lawful face → (k : ℕ) → slice_index face k ≤ 15
four_bits_167 face h = everywhere face (λ k l. omega (arith, h.decimal k (omega (arith, h.columns))))

pub four_bits_274 : (face : List ℕ) → mm58274c.Lawful face → (k : ℕ) → slice_index face k ≤ 15
four_bits_274 face h = everywhere face (λ k l. go k l (cases_lt k 14))
  where
    go : (k : ℕ) → k < length face → (k < 14) ⊎ (14 ≤ k) → slice_index face k ≤ 15
    go k l (inl digit) = omega (arith, h.decimal k digit)
    go k l (inr setting) =
        let e : k ≡ 14 = omega (arith, h.columns) in
        let s = h.in_range.leap in
        rw e (omega arith)
