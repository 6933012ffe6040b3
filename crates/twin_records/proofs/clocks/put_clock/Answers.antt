use mathlib.Core.Path.{sym, ap, ◌∙◌}
use mathlib.Core.List.{◌∷◌, map}
use Rattle.records.specs.Bytes.{bytes2}
use Rattle.model.specs.AutomataTable.{write_clock}
use Rattle.model.specs.Charts.{ticks}
use Rattle.model.specs.Translation.{clocks_of}
use Rattle.chart_records.specs.Parts.{trigger_for}
use Rattle.twin_records.specs.Texts.{record_text, section}
use Rattle.prelude.proofs.Gathered.{gather_none, gather-one}
use Rattle.twin_records.proofs.TablesClocks.{untimed}
use Rattle.twin_records.proofs.TextsWritten.{puts-as, puts-nothing}
use Rattle.twin_records.proofs.clocks.put_clock.Goals as goal

pub returns-in-Always : goal.returns-in-Always
returns-in-Always c =
    let x = c.args in
    puts-as _ (sym (gather_none (record_text 37)) ∙ ap (λ l. section 37 (map write_clock l)) (sym (untimed c.in-Always.is))) (puts-nothing x.out.now x.at 16)

pub returns-in-After : goal.returns-in-After
returns-in-After c =
    let ms = c.in-After.ms in
    puts-as _
    (c.clock_bytes.ensures ∙ ap (λ n. record_text 37 (2 ∷ bytes2 n)) c.ticks.ensures ∙ sym (gather-one (record_text 37) (2 ∷ bytes2 (ticks ms))) ∙ ap (λ t. section 37 (map write_clock (clocks_of (trigger_for t)))) (sym c.in-After.is))
    c.put_record.ensures

pub returns-in-Every : goal.returns-in-Every
returns-in-Every c =
    let ms = c.in-Every.ms in
    puts-as _
    (c.clock_bytes-in-Every.ensures ∙ ap (λ n. record_text 37 (3 ∷ bytes2 n)) c.ticks-in-Every.ensures ∙ sym (gather-one (record_text 37) (3 ∷ bytes2 (ticks ms))) ∙ ap (λ t. section 37 (map write_clock (clocks_of (trigger_for t)))) (sym c.in-Every.is))
    c.put_record-in-Every.ensures
