use mathlib.Core.Path.{sym, ap, ◌∙◌}
use mathlib.Core.Bool.{cond}
use mathlib.Core.List.{[], ◌∷◌}
use Prim.Native.Nat.{ℕ}
use borrow.Author.Tests.{eq-eqb, ne_eqb}
use Rattle.model.specs.AutomataTable.{write_reset}
use Rattle.prelude.proofs.Gathered.{gather_none, gather-one}
use Rattle.twin_records.specs.Texts.{record_text, reset_texts}
use Rattle.twin_records.proofs.TextsWritten.{puts-as, puts-nothing}
use Rattle.edge_records.proofs.resets.put_waiting_reset.Goals as goal

pub returns-then-clock-eq65535 : goal.returns-then-clock-eq65535
returns-then-clock-eq65535 c =
    let x = c.args in
    puts-as _ (sym (gather_none (λ (k : ℕ). record_text 41 (write_reset (x.edge, k)))) ∙ ap (λ b. reset_texts x.edge (cond b [] (x.clock ∷ []))) (sym (eq-eqb x.clock 65535 c.if-clock-eq65535.true))) (puts-nothing x.out.now x.at 16)

pub returns : goal.returns
returns c =
    let x = c.args in
    puts-as _ (c.reset_bytes.ensures ∙ sym (gather-one (λ (k : ℕ). record_text 41 (write_reset (x.edge, k))) x.clock) ∙ ap (λ b. reset_texts x.edge (cond b [] (x.clock ∷ []))) (sym (ne_eqb x.clock 65535 c.if-clock-eq65535.false))) c.put_record.ensures
