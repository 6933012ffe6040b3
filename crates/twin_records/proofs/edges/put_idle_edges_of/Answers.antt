use mathlib.Core.Path.{sym, ap, ◌∙◌}
use mathlib.Core.List.{[], ◌∷◌, ◌++◌, map}
use native.Mathlib.Omega.{arith}
use Rattle.prelude.specs.Lists.{gather}
use Rattle.prelude.proofs.Gathered.{gather-one, gather-cons}
use Rattle.model.specs.ChartSet.{read_charts}
use Rattle.model.specs.Translation.{from_waiting, from_idling}
use Rattle.chart_records.proofs.PlacesRead.{most-states}
use Rattle.twin_records.specs.Texts.{edge_text}
use Rattle.twin_records.proofs.TextsWritten.{puts-as, puts_then, puts-far}
use Rattle.twin_records.proofs.TablesWaiting.{not-waiting, is-waiting}
use Rattle.twin_records.proofs.edges.put_idle_edges_of.Goals as goal

pub bounds-waiting-state : goal.bounds-waiting-state
bounds-waiting-state c =
    let x = c.args in
    omega (arith, c.requires.2, most-states x.s.now x.shape c.requires.0.shape)

pub returns-then-waiting-state : goal.returns-then-waiting-state
returns-then-waiting-state c =
    let x = c.args in
    let cs = read_charts x.s.now in
    let none = not-waiting x.s.now x.shape c.requires.0 x.waiting.now c.requires.1 x.state c.requires.2 c.if-waiting-state.true in
    puts-as _
    (c.idle_record-bytes.ensures
    ∙ sym (gather-one (edge_text cs) (from_idling x.state))
    ∙ ap (λ l. gather (edge_text cs) (map (λ _. from_waiting x.state) l ++ (from_idling x.state ∷ []))) (sym none))
    (puts-far 32 (omega arith) c.put_record.ensures)

pub returns : goal.returns
returns c =
    let x = c.args in
    let cs = read_charts x.s.now in
    let one = is-waiting x.s.now x.shape c.requires.0 x.waiting.now c.requires.1 x.state c.requires.2 c.if-waiting-state.false in
    puts-as _
    ((λ i. c.idle_record-bytes.ensures i ++ (c.idle_record-bytes.ensures ∙ sym (gather-one (edge_text cs) (from_idling x.state))) i)
    ∙ sym (gather-cons (edge_text cs) (from_waiting x.state) (from_idling x.state ∷ []))
    ∙ ap (λ l. gather (edge_text cs) (map (λ _. from_waiting x.state) l ++ (from_idling x.state ∷ []))) (sym one.1.1))
    (puts_then 32 (omega arith) c.put_record-idle_at.ensures c.put_record-2.ensures)
