-- What ages, calls and digits are told by.
use Rattle.std.proofs.Common.{◌≡◌, ℕ}
use denote.Param.{number}
use denote.Struct.Record.{values_one}
use Rattle.chips.specs.declared.age.Age.{Age}
use Rattle.chips.specs.declared.calls.Calls.{Calls}
use Rattle.chips.specs.declared.digits.Digits.{Digits}
use Rattle.chips.specs.contracts.age.Age as age
use Rattle.chips.specs.contracts.calls.Calls as calls
use Rattle.chips.specs.contracts.digits.Digits as digits

pub age_told : (a b : Age) → a.cycles ≡ b.cycles → a ≡ b
age_told a b e = values_one age.struct age.the_propositions a b (λ i. (e i, tt))

pub calls_told : (a b : Calls) → a.made ≡ b.made → a ≡ b
calls_told a b e = values_one calls.struct calls.the_propositions a b (λ i. (e i, tt))

pub digits_told : (n : ℕ) (a b : Digits n) → a.columns ≡ b.columns → a ≡ b
digits_told n a b e = values_one (digits.struct (number n)) (digits.the_propositions n) a b (λ i. (e i, tt))
