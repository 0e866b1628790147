use Rattle.std.proofs.Common.{◌≡◌, refl, rules}
use Rattle.std.specs.Prelude.{Some}
use Rattle.dsn_report.specs.Template.{IsTemplate, faulty, first_template_fault, no_memory}
use Rattle.dsn_report.specs.inner.Template.{template_in}
use Rattle.dsn_report.proofs.template.Template.read.Goals as goal

pub returns-in-Some-first_fault-clause-refused : goal.returns-in-Some-first_fault-clause-refused
returns-in-Some-first_fault-clause-refused c =
    let fault : first_template_fault (template_in c.in-Some.parts) ≡ Some c.in-Some-first_fault.fault = search rules in
    faulty (template_in c.in-Some.parts) c.in-Some.ensures.some fault

pub returns-in-Err-clause-refused : goal.returns-in-Err-clause-refused
returns-in-Err-clause-refused c =
    let legal : IsTemplate (template_in c.in-Some.parts) = search rules in
    no_memory (template_in c.in-Some.parts) refl (record { laid_out = c.in-Some.ensures.some; legal = legal })
