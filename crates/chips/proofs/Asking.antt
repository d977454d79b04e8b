-- Questions one after the other: more of them, and that the answer is one.
use Rattle.std.proofs.Common.{◌≡◌, List, [], ◌∷◌, ◌++◌, Ok, Err, Result, sym, ap, ◌∙◌, inl, inr}
use Rattle.chips.specs.declared.refusal.Refusal.{Refusal}
use Rattle.chips.specs.Questions.{Question, AllYes, FirstNo, Asked}

pub all_yes_and : (qs rs : List Question) → AllYes qs → AllYes rs → AllYes (qs ++ rs)
all_yes_and [] rs h k = k
all_yes_and (q ∷ qs) rs h k = (h.0, all_yes_and qs rs h.1 k)

-- the first no stays first, whatever is asked after it
pub no_before : (qs rs : List Question) (e : Refusal) → FirstNo qs e → FirstNo (qs ++ rs) e
no_before [] rs e h = absurd h
no_before (q ∷ qs) rs e (inl h) = inl h
no_before (q ∷ qs) rs e (inr h) = inr (h.0, no_before qs rs e h.1)

no_after : (qs rs : List Question) (e : Refusal) → AllYes qs → FirstNo rs e → FirstNo (qs ++ rs) e
no_after [] rs e h k = k
no_after (q ∷ qs) rs e h k = inr (h.0, no_after qs rs e h.1 k)

-- where the questions before are answered yes, those after decide
pub asked_after : {C A : Type 0} (qs rs : List Question) (done : A → C → Type 0) (x : C) (r : Result A Refusal) (y : C) → AllYes qs → Asked rs done x r y → Asked (qs ++ rs) done x r y
asked_after qs rs done x (Ok v) y h k = (all_yes_and qs rs h k.0, k.1)
asked_after qs rs done x (Err e) y h k = (no_after qs rs e h k.0, k.1)

one_no : (qs : List Question) (e f : Refusal) → FirstNo qs e → FirstNo qs f → e ≡ f
one_no [] e f h k = absurd h
one_no (q ∷ qs) e f (inl h) (inl k) = h.1 ∙ sym k.1
one_no (q ∷ qs) e f (inl h) (inr k) = absurd (h.0 k.0)
one_no (q ∷ qs) e f (inr h) (inl k) = absurd (k.0 h.0)
one_no (q ∷ qs) e f (inr h) (inr k) = one_no qs e f h.1 k.1

not_both : (qs : List Question) (e : Refusal) → AllYes qs → FirstNo qs e → ⊥
not_both [] e h k = k
not_both (q ∷ qs) e h (inl k) = k.0 h.0
not_both (q ∷ qs) e h (inr k) = not_both qs e h.1 k.1

-- a call whose answer is one where it is done has one answer
pub asked_once : {C A : Type 0} (qs : List Question) (done : A → C → Type 0) → ((v w : A) (y z : C) → done v y → done w z → (v ≡ w) × (y ≡ z)) →
    (x y z : C) (r q : Result A Refusal) → Asked qs done x r y → Asked qs done x q z → (r ≡ q) × (y ≡ z)
asked_once qs done one x y z (Ok v) (Ok w) h k = let e = one v w y z h.1 k.1 in (ap Ok e.0, e.1)
asked_once qs done one x y z (Ok v) (Err e) h k = absurd (not_both qs e h.0 k.0)
asked_once qs done one x y z (Err e) (Ok v) h k = absurd (not_both qs e k.0 h.0)
asked_once qs done one x y z (Err e) (Err f) h k = (ap Err (one_no qs e f h.0 k.0), h.1 ∙ sym k.1)
