-- The number of every rule and the word of every layer. Assumes nothing.
use Rattle.std.specs.Prelude.{ℕ, List, codes}
use Rattle.fault.specs.declared.Rule.{Rule}
use Rattle.fault.specs.declared.Rule.TheVariants.{Form, Structure, Value, Order, Count, Name, Length, Full, Bank, Unknown, Moment, Payloads, Unswept, Prefix, Area}
use Rattle.fault.specs.declared.Layer.{Layer}
use Rattle.fault.specs.declared.Layer.TheVariants.{Element, Set, Certificate, Crl, Shell, Content}

-- the number by which logs and messages name a rule
abbrev pub number_of : Rule → ℕ
number_of Form = 1
number_of Structure = 2
number_of Value = 3
number_of Order = 4
number_of Count = 5
number_of Name = 6
number_of Length = 7
number_of Full = 8
number_of Bank = 9
number_of Unknown = 10
number_of Moment = 11
number_of Payloads = 12
number_of Unswept = 13
number_of Prefix = 14
number_of Area = 15

-- the word by which answers name a layer
abbrev pub word_of : Layer → List ℕ
word_of Element = codes "element"
word_of Set = codes "set"
word_of Certificate = codes "certificate"
word_of Crl = codes "crl"
word_of Shell = codes "shell"
word_of Content = codes "content"
