use mathlib.Core.Path.{◌≡◌, sym, ap, ◌∙◌}
use native.Mathlib.Omega.{arith}
use mathlib.Core.List.{◌∷◌, ◌++◌}
use Rattle.records.specs.Bytes.{bytes2}
use Rattle.model.specs.ChartSet.{read_charts, transition}
use Rattle.model.specs.AutomataTable.{write_literal_trigger, write_guard}
use Rattle.model.specs.Translation.{literal_trigger_of}
use Rattle.chart_records.specs.Parts.{trigger_for}
use Rattle.chart_records.specs.Places.{transition_at}
use Rattle.chart_records.proofs.PlacesRead.{transition-is, length-transitions, most-transitions}
use Rattle.twin_records.specs.Texts.{record_text}
use Rattle.twin_records.proofs.TablesClocks.{timed-read, clock-at}
use Rattle.edge_records.proofs.literals.literal_record.Goals as goal

pub bounds-clocks-t : goal.bounds-clocks-t
bounds-clocks-t c =
    let x = c.args in
    omega (arith, c.requires.2, most-transitions x.s.now x.shape c.requires.0.shape)

pub returns-in-Always : goal.returns-in-Always
returns-in-Always c =
    let x = c.args in
    let cs = read_charts x.s.now in
    let same : transition_at x.s.now x.shape x.t ≡ transition cs x.t = sym (transition-is x.s.now x.shape c.requires.0.shape x.t c.requires.2) in
    let guard : bytes2 c.guard_number-guard.result ≡ write_guard (transition cs x.t).guard = c.guard_number-guard.ensures ∙ ap write_guard (c.guard_of.ensures ∙ ap (λ y. y.guard) same) in
    let trigger = ap trigger_for (sym c.in-Always.is) ∙ c.trigger_of.ensures ∙ ap (λ y. y.trigger) same in
    c.literal_bytes.ensures
    ∙ (λ i. record_text 36 (x.sign ∷ bytes2 x.edge ++ write_literal_trigger (literal_trigger_of cs x.t (trigger i)) ++ guard i))

pub returns-in-Event : goal.returns-in-Event
returns-in-Event c =
    let x = c.args in
    let cs = read_charts x.s.now in
    let same : transition_at x.s.now x.shape x.t ≡ transition cs x.t = sym (transition-is x.s.now x.shape c.requires.0.shape x.t c.requires.2) in
    let guard : bytes2 c.guard_number-guard.result ≡ write_guard (transition cs x.t).guard = c.guard_number-guard.ensures ∙ ap write_guard (c.guard_of.ensures ∙ ap (λ y. y.guard) same) in
    let trigger = ap trigger_for (sym c.in-Event.is) ∙ c.trigger_of.ensures ∙ ap (λ y. y.trigger) same in
    c.literal_bytes-in-Event.ensures
    ∙ (λ i. record_text 36 (x.sign ∷ bytes2 x.edge ++ write_literal_trigger (literal_trigger_of cs x.t (trigger i)) ++ guard i))

pub returns-in-After : goal.returns-in-After
returns-in-After c =
    let x = c.args in
    let cs = read_charts x.s.now in
    let same : transition_at x.s.now x.shape x.t ≡ transition cs x.t = sym (transition-is x.s.now x.shape c.requires.0.shape x.t c.requires.2) in
    let guard : bytes2 c.guard_number-guard.result ≡ write_guard (transition cs x.t).guard = c.guard_number-guard.ensures ∙ ap write_guard (c.guard_of.ensures ∙ ap (λ y. y.guard) same) in
    let trigger = sym (timed-read cs x.t c.in-After.is) ∙ ap (literal_trigger_of cs x.t) (c.trigger_of.ensures ∙ ap (λ y. y.trigger) same) in
    c.literal_bytes-in-After.ensures
    ∙ ap (λ n. record_text 36 (x.sign ∷ bytes2 x.edge ++ (2 ∷ 0 ∷ bytes2 n) ++ bytes2 c.guard_number-guard.result)) (clock-at cs x.clocks.now c.requires.1 x.t (omega (arith, length-transitions x.s.now x.shape c.requires.0.shape, c.requires.2)))
    ∙ (λ i. record_text 36 (x.sign ∷ bytes2 x.edge ++ write_literal_trigger (trigger i) ++ guard i))
