use mathlib.Core.Path.{sym, ap, ◌∙◌}
use Prim.Native.Nat.{◌+◌, ◌^◌}
use native.Mathlib.Omega.{arith}
use mathlib.Core.List.{map}
use mathlib.Core.Bool.{false}
use Rattle.model.specs.ChartSet.{read_charts}
use Rattle.model.specs.Translation.{literal}
use Rattle.chart_steps.specs.Tables.{named}
use Rattle.chart_steps.proofs.TablesRow.{place_of}
use Rattle.chart_steps.proofs.StepOf.{named-one}
use Rattle.twin_records.specs.Texts.{literal_texts}
use Rattle.twin_records.proofs.TextsWritten.{texts-start, texts-step, texts-end, puts-as}
use Rattle.edge_records.proofs.TextsEdges.{nots-text}
use Rattle.edge_records.proofs.literals.put_negations.Goals as goal

pub loop-j-init : goal.loop-j-init
loop-j-init c =
    texts-start

pub slot_of-t-requires : goal.slot_of-t-requires
slot_of-t-requires c =
    (c.requires.0, c.requires.2, c.requires.3, omega (arith, c.loop-j-test.true, c.requires.4))

pub put_negation-next-requires : goal.put_negation-next-requires
put_negation-next-requires c =
    let x = c.args in (
      c.requires.0,
      c.requires.1,
      λ n. named-one x.s.now x.shape c.requires.0 x.state (c.loop-j.j + 1) _ c.slot_of-t.ensures n,
      omega (arith, c.loop-j.invariant.near, c.loop-j-test.true, c.requires.4, c.requires.5),
    )

pub loop-j-preserved : goal.loop-j-preserved
loop-j-preserved c =
    let x = c.args in
    let l = c.loop-j in
    let cs = read_charts x.s.now in
    texts-step l.invariant c.put_negation-next.auto.out
    (puts-as _
    (ap (λ ts. literal_texts x.edge (map (literal cs false) ts)) (ap named c.slot_of-t.ensures ∙ sym (place_of x.s.now x.shape c.requires.0 x.state (l.j + 1) c.requires.3)))
    c.put_negation-next.ensures)

pub returns : goal.returns
returns c =
    let x = c.args in
    texts-end _ (nots-text (read_charts x.s.now) x.edge x.state x.count) (2 ^ 20) (omega (arith, c.requires.4)) c.loop-j.invariant (omega arith)
