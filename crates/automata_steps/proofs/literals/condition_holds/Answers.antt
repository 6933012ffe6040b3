use mathlib.Core.Path.{sym, ap, ◌∙◌}
use mathlib.Core.Bool.{false, cond}
use Prim.Native.Nat.{◌+◌, ◌*◌}
use native.Mathlib.Omega.{arith}
use Rattle.records.specs.Bytes.{two}
use Rattle.records.specs.Refusal.{val}
use Rattle.model.specs.Runs.{guard_holds}
use Rattle.model.specs.ChartSet.{read_guard}
use Rattle.model.specs.AutomataTable.{read_automata}
use Rattle.automata_steps.proofs.ValuesRead.{has-values, nodes-in}
use Rattle.automata_steps.proofs.IndexRecords.{in-file}
use Rattle.automata_steps.proofs.literals.condition_holds.Goals as goal

pub two_of-requires : goal.two_of-requires
two_of-requires c =
    (in-file c.args.s.now c.args.shape c.requires.0.shape c.args.n (omega (arith, c.requires.2)), omega arith)

pub guard_holds-requires : goal.guard_holds-requires
guard_holds-requires c =
    has-values c.args.s.now c.args.shape c.requires.0.shape c.values_of.result c.values_of.ensures

pub returns-then-trigger_holds : goal.returns-then-trigger_holds
returns-then-trigger_holds c =
    let x = c.args in
    let s = x.s.now in
    let vars = x.vars.now in
    let v = c.values_of in
    c.guard_holds.ensures
    ∙ (λ i. guard_holds (nodes-in s x.shape c.requires.0.shape v.result v.ensures i) vars (read_guard (c.two_of.ensures i)))
    ∙ sym
    (ap (λ b. cond b (guard_holds (read_automata s).nodes vars (read_guard (two s (16 * x.n + 8)))) (val false))
    (sym (c.trigger_holds.ensures vars) ∙ c.if-trigger_holds.true))
