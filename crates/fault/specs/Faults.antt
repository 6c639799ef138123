-- What each layer's fault reports: the rule, the place and the innermost layer. Assumes nothing.
use Rattle.std.specs.Prelude.{Ok, Err, Result}
use Rattle.fault.specs.declared.Rule.TheVariants.{Form}
use Rattle.fault.specs.declared.Layer.TheVariants as layer
use Rattle.fault.specs.declared.Report.{Report}
use Rattle.fault.specs.declared.ElementFault.{ElementFault}
use Rattle.fault.specs.declared.SetFault.{SetFault}
use Rattle.fault.specs.declared.SetFault.TheVariants as set

abbrev pub element_report : ElementFault → Report
element_report e = record { rule = Form; place = e.place; layer = layer.Element }

abbrev pub set_report : SetFault → Report
set_report (set.Element e) = element_report e
set_report (set.Own r p) = record { rule = r; place = p; layer = layer.Set }

-- a result with its fault as a report: what two layers' answers are compared by
abbrev pub reported : {V E : Type 0} → (E → Report) → Result V E → Result V Report
reported f (Ok v) = Ok v
reported f (Err e) = Err (f e)
