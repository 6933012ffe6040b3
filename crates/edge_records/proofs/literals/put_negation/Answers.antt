use mathlib.Core.Path.{sym, ap, ◌∙◌}
use mathlib.Core.List.{[], ◌∷◌, map}
use mathlib.Core.Bool.{false, cond}
use borrow.Author.Tests.{eq-eqb, ne_eqb}
use Rattle.model.specs.ChartSet.{read_charts}
use Rattle.model.specs.AutomataTable.{Literal, write_literal}
use Rattle.model.specs.Translation.{literal}
use Rattle.twin_records.specs.Texts.{record_text, literal_texts}
use Rattle.prelude.proofs.Gathered.{gather_none, gather-one}
use Rattle.twin_records.proofs.TextsWritten.{puts-as, puts-nothing}
use Rattle.edge_records.proofs.literals.put_negation.Goals as goal

pub literal_record-bytes-requires : goal.literal_record-bytes-requires
literal_record-bytes-requires c =
    (c.requires.0, c.requires.1, c.requires.2 c.if-t-eq65535.false)

pub put_record-requires : goal.put_record-requires
put_record-requires c =
    c.requires.3

pub returns-then-t-eq65535 : goal.returns-then-t-eq65535
returns-then-t-eq65535 c =
    let x = c.args in
    puts-as _ (sym (gather_none (λ (l : Literal). record_text 36 (write_literal (x.edge, l)))) ∙ ap (λ b. literal_texts x.edge (map (literal (read_charts x.s.now) false) (cond b [] (x.t ∷ [])))) (sym (eq-eqb x.t 65535 c.if-t-eq65535.true))) (puts-nothing x.out.now x.at 16)

pub returns-else-t-eq65535 : goal.returns-else-t-eq65535
returns-else-t-eq65535 c =
    let x = c.args in
    puts-as _ (c.literal_record-bytes.ensures ∙ sym (gather-one (λ (l : Literal). record_text 36 (write_literal (x.edge, l))) (literal (read_charts x.s.now) false x.t)) ∙ ap (λ b. literal_texts x.edge (map (literal (read_charts x.s.now) false) (cond b [] (x.t ∷ [])))) (sym (ne_eqb x.t 65535 c.if-t-eq65535.false))) c.put_record.ensures
