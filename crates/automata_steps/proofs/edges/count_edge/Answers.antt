use mathlib.Core.Path.{◌≡◌, sym, ap, ◌∙◌}
use mathlib.Core.Bool.{Bool, cond}
use mathlib.Core.List.{List, ◌∷◌}
use Prim.Native.Nat.{ℕ}
use lib.Dec.{eqb}
use borrow.Author.Tests.{eq-eqb}
use Rattle.std.proofs.lemmas.Result.{err_from_is_err_and}
use Rattle.records.specs.Refusal.{Out, val}
use Rattle.expressions.specs.Answers.{value_reason_of}
use Rattle.model.specs.AutomataTable.{read_automata}
use Rattle.automata_steps.specs.declared.edges.Tally.{Tally}
use Rattle.automata_steps.specs.StepOf.{bare_run, edge_open, one_open}
use Rattle.automata_steps.proofs.StepOfOpen.{open-fault, open-not, open_more}
use Rattle.automata_steps.proofs.edges.count_edge.Goals as goal

-- the edge is the automaton's
own : (isOpen : ℕ → Out Bool) (t : Tally) (k l automaton e : ℕ) → k ≡ automaton → k ≡ l → (es : List ℕ) → one_open isOpen t (e ∷ es) ≡ one_open isOpen t (cond (eqb l automaton) (e ∷ es) es)
own isOpen t k l automaton e h q es = ap (λ b. one_open isOpen t (cond b (e ∷ es) es)) (sym (ap (λ j. eqb j automaton) (sym q) ∙ eq-eqb k automaton h))

pub returns-in_err-open-clause-by_index : goal.returns-in_err-open-clause-by_index
returns-in_err-open-clause-by_index c =
    let x = c.args in
    let isOpen = edge_open (read_automata x.s.now) (bare_run x.clocks.now x.vars.now x.events) in
    let p = err_from_is_err_and c.from_residual.result c.from_residual.ensures.1 in
    λ es.
    rw (p.1, p.2)
    (open-fault isOpen x.e x.tally (value_reason_of c.in_err-open.field-0.0) c.in_err-open.ensures es
    ∙ own isOpen x.tally _ _ x.automaton x.e c.if-automaton_of-automaton.false c.automaton_of.ensures es)

pub returns-then-open-clause-by_index : goal.returns-then-open-clause-by_index
returns-then-open-clause-by_index c =
    let x = c.args in
    let isOpen = edge_open (read_automata x.s.now) (bare_run x.clocks.now x.vars.now x.events) in
    λ es.
    open_more isOpen x.e x.tally c.with_open.result c.with_open.ensures.by_index
    (ap val (sym c.if-open.true) ∙ c.in_ok-open.ensures) es
    ∙ own isOpen x.tally _ _ x.automaton x.e c.if-automaton_of-automaton.false c.automaton_of.ensures es

pub returns-else-open-clause-by_index : goal.returns-else-open-clause-by_index
returns-else-open-clause-by_index c =
    let x = c.args in
    let isOpen = edge_open (read_automata x.s.now) (bare_run x.clocks.now x.vars.now x.events) in
    λ es.
    open-not isOpen x.e x.tally
    (ap val (sym c.if-open.false) ∙ c.in_ok-open.ensures) es
    ∙ own isOpen x.tally _ _ x.automaton x.e c.if-automaton_of-automaton.false c.automaton_of.ensures es
