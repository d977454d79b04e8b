-- Each refusal's number, with the question that it says no to, and its words.
use Rattle.std.specs.Prelude.{ℕ, List, codes}
use Rattle.chips.specs.declared.refusal.Refusal.{Refusal}
use Rattle.chips.specs.declared.refusal.Refusal.TheVariants.{NoAddress, NotWritable, TooWide, TooOld, TestBit, Unlawful, NoColumn}

abbrev pub number : Refusal → ℕ
-- has the chip this address?
number NoAddress = 2
-- may the address be written?
number NotWritable = 3
-- does the value fit the bits of the bus?
number TooWide = 4
-- does the age stay within 2^60 cycles?
number TooOld = 5
-- is the test bit 0?
number TestBit = 6
-- will a chip that runs after the write hold a lawful face?
number Unlawful = 7
-- has the face this column?
number NoColumn = 8

abbrev pub words : Refusal → List ℕ
words NoAddress = codes "no such address"
words NotWritable = codes "not writable"
words TooWide = codes "the value does not fit"
words TooOld = codes "an age past 2^60 cycles"
words TestBit = codes "the test bit"
words Unlawful = codes "it would run with no lawful face"
words NoColumn = codes "no such column"
