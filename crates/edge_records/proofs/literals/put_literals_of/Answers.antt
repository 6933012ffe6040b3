use mathlib.Core.Path.{◌≡◌, sym, ap, ◌∙◌}
use Prim.Native.Nat.{ℕ, ◌+◌, ◌-◌, ◌^◌}
use native.Mathlib.Omega.{arith}
use mathlib.Core.List.{List, [], ◌∷◌, ◌++◌, map}
use mathlib.Core.Bool.{true, false}
use Rattle.model.specs.ChartSet.{read_charts, transition}
use Rattle.model.specs.AutomataTable.{Literal, write_literal}
use Rattle.model.specs.Translation.{literal, tried_before}
use Rattle.chart_records.specs.Places.{transition_at}
use Rattle.chart_records.proofs.PlacesRead.{transition-is}
use Rattle.chart_steps.proofs.Accepted.{priority-known, source_known}
use Rattle.twin_records.specs.Texts.{record_text, literal_texts}
use Rattle.prelude.proofs.Lists.{gather_append}
use Rattle.prelude.proofs.Gathered.{gather-one}
use Rattle.twin_records.proofs.TextsWritten.{puts-as, puts_then}
use Rattle.edge_records.proofs.literals.put_literals_of.Goals as goal

pub overflow_sub-higher : goal.overflow_sub-higher
overflow_sub-higher c =
    let x = c.args in
    omega (arith, c.priority_of.ensures, priority-known x.s.now x.shape c.requires.0 x.t c.requires.3)

pub put_negations-own-requires : goal.put_negations-own-requires
put_negations-own-requires c =
    let x = c.args in (
      c.requires.0,
      c.requires.1,
      c.requires.2,
      omega (arith, c.source_of-source.ensures, source_known x.s.now x.shape c.requires.0 x.t c.requires.3),
      omega (arith, c.priority_of.ensures, priority-known x.s.now x.shape c.requires.0 x.t c.requires.3),
      c.requires.4,
    )

pub literal_record-bytes-requires : goal.literal_record-bytes-requires
literal_record-bytes-requires c =
    (c.requires.0, c.requires.1, c.requires.3)

pub put_record-requires : goal.put_record-requires
put_record-requires c =
    omega (arith, c.requires.4, c.put_negations-own.ensures.near)

pub returns : goal.returns
returns c =
    let x = c.args in
    let cs = read_charts x.s.now in
    let same : transition_at x.s.now x.shape x.t ≡ transition cs x.t = sym (transition-is x.s.now x.shape c.requires.0.shape x.t c.requires.3) in
    let known = priority-known x.s.now x.shape c.requires.0 x.t c.requires.3 in
    let source : c.source_of-source.result ≡ (transition cs x.t).source = c.source_of-source.ensures ∙ ap (λ y. y.source) same in
    let priority : c.priority_of.result - 1 + 1 ≡ (transition cs x.t).priority =
    (let e : c.priority_of.result - 1 + 1 ≡ c.priority_of.result = omega (arith, c.priority_of.ensures, known) in e) ∙ c.priority_of.ensures ∙ ap (λ y. y.priority) same in
    let text : Literal → List ℕ = λ l. record_text 36 (write_literal (x.t, l)) in
    puts-as _
    ((λ i. literal_texts x.t (map (literal cs false) (tried_before cs (source i) (priority i))) ++ (c.literal_record-bytes.ensures ∙ sym (gather-one text (literal cs true x.t))) i)
    ∙ sym (gather_append text (map (literal cs false) (tried_before cs (transition cs x.t).source (transition cs x.t).priority)) (literal cs true x.t ∷ [])))
    (puts_then (2 ^ 22) (omega arith) c.put_negations-own.ensures c.put_record.ensures)
