use mathlib.Core.Path.{sym, ap, ◌∙◌}
use mathlib.Core.List.{map}
use Prim.Native.Nat.{ℕ}
use Rattle.model.specs.AutomataTable.{write_reset}
use Rattle.twin_records.specs.Texts.{record_text, reset_texts}
use Rattle.prelude.proofs.Gathered.{gather_none, gather-one}
use Rattle.twin_records.proofs.TablesClocks.{untimed, timed}
use Rattle.twin_records.proofs.TextsWritten.{puts-as, puts-nothing}
use Rattle.edge_records.proofs.resets.put_reset.Goals as goal

pub returns-in-Always : goal.returns-in-Always
returns-in-Always c =
    let x = c.args in
    puts-as _ (sym (gather_none (λ (k : ℕ). record_text 41 (write_reset (x.edge, k)))) ∙ ap (λ l. reset_texts x.edge (map (λ _. x.clock) l)) (sym (untimed c.in-Always.is))) (puts-nothing x.out.now x.at 16)

pub returns-in-After : goal.returns-in-After
returns-in-After c =
    let x = c.args in
    puts-as _ (c.reset_bytes.ensures ∙ sym (gather-one (λ (k : ℕ). record_text 41 (write_reset (x.edge, k))) x.clock) ∙ ap (reset_texts x.edge) (sym (timed x.clock c.in-After.is))) c.put_record.ensures
