-- The months' names.
use Rattle.std.specs.Prelude.{ℕ, List, codes, slice_index_or, [], ◌∷◌}

-- of months 1 to 12
abbrev pub month_name : ℕ → List ℕ
month_name month =
    slice_index_or
    (codes "no month"
    ∷ codes "January"
    ∷ codes "February"
    ∷ codes "March"
    ∷ codes "April"
    ∷ codes "May"
    ∷ codes "June"
    ∷ codes "July"
    ∷ codes "August"
    ∷ codes "September"
    ∷ codes "October"
    ∷ codes "November"
    ∷ codes "December"
    ∷ []) month (codes "no month")
