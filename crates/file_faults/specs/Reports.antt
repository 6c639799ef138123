-- What the faults of whole files report: the rule, the place and the innermost layer. Assumes nothing.
use Rattle.fault.specs.declared.Layer.TheVariants as layer
use Rattle.fault.specs.declared.Report.{Report}
use Rattle.fault.specs.Faults.{element_report, set_report}
use Rattle.file_faults.specs.declared.CertificateFault.{CertificateFault}
use Rattle.file_faults.specs.declared.CertificateFault.TheVariants as certificate
use Rattle.file_faults.specs.declared.CrlFault.{CrlFault}
use Rattle.file_faults.specs.declared.CrlFault.TheVariants as crl
use Rattle.file_faults.specs.declared.ContentFault.{ContentFault}
use Rattle.file_faults.specs.declared.ContentFault.TheVariants as content
use Rattle.file_faults.specs.declared.ShellFault.{ShellFault}
use Rattle.file_faults.specs.declared.ShellFault.TheVariants as shell

abbrev pub certificate_report : CertificateFault → Report
certificate_report (certificate.Element e) = element_report e
certificate_report (certificate.Set e) = set_report e
certificate_report (certificate.Own r p) = record { rule = r; place = p; layer = layer.Certificate }

abbrev pub crl_report : CrlFault → Report
crl_report (crl.Element e) = element_report e
crl_report (crl.Own r p) = record { rule = r; place = p; layer = layer.Crl }

abbrev pub content_report : ContentFault → Report
content_report (content.Element e) = element_report e
content_report (content.Own r p) = record { rule = r; place = p; layer = layer.Content }

abbrev pub shell_report : ShellFault → Report
shell_report (shell.Element e) = element_report e
shell_report (shell.Certificate e) = certificate_report e
shell_report (shell.Content e) = content_report e
shell_report (shell.Own r p) = record { rule = r; place = p; layer = layer.Shell }
