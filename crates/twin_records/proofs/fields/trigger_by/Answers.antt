use mathlib.Core.Path.{sym, ap}
use borrow.Author.Tests.{ne_eqb}
use Rattle.prelude.specs.Lists.{case_of}
use Rattle.chart_records.specs.Places.{trigger_by}
use Rattle.twin_records.proofs.fields.trigger_by.Goals as goal

pub returns-in-1 : goal.returns-in-1
unfolding case_of
returns-in-1 c =
    let x = c.args in ap (λ k. trigger_by k x.event x.ms) (sym c.in-1.is)

pub returns-in-2 : goal.returns-in-2
unfolding case_of
returns-in-2 c =
    let x = c.args in ap (λ k. trigger_by k x.event x.ms) (sym c.in-2.is)

pub returns-in-3 : goal.returns-in-3
unfolding case_of
returns-in-3 c =
    let x = c.args in ap (λ k. trigger_by k x.event x.ms) (sym c.in-3.is)

pub returns-in_default : goal.returns-in_default
unfolding case_of
returns-in_default c =
    let code = c.args.code in
    sym (rw (ne_eqb code 1 c.in_default.in_default-own.rest.0.0.1, ne_eqb code 2 c.in_default.in_default-own.rest.0.1, ne_eqb code 3 c.in_default.in_default-own.rest.1))
