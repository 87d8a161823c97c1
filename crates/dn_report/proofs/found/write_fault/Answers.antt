use Rattle.std.proofs.Common.{◌≡◌, ◌++◌, OnOk, sym, subst}
use Rattle.dn_model.specs.declared.fault.ImageFault.{ImageFault}
use Rattle.dn_report.specs.Found.{fault_text}
use Rattle.dn_report.proofs.found.write_fault.Goals as goal

pub returns-in-BadGeometry : goal.returns-in-BadGeometry
returns-in-BadGeometry c =
    subst (λ (f : ImageFault). OnOk c.write_name-in-BadGeometry.result (c.write_name-in-BadGeometry.new.text.items ≡ c.args.text.now.items ++
    fault_text f)) (sym c.in-BadGeometry.is) c.write_name-in-BadGeometry.ensures

pub returns-in-BadJournal : goal.returns-in-BadJournal
returns-in-BadJournal c =
    subst (λ (f : ImageFault). OnOk c.write_name-in-BadJournal.result (c.write_name-in-BadJournal.new.text.items ≡ c.args.text.now.items ++ fault_text
    f)) (sym c.in-BadJournal.is) c.write_name-in-BadJournal.ensures
