use mathlib.Core.Path.{◌≡◌, refl, sym, ap, ◌∙◌}
use mathlib.Core.Bool.{Bool, true, false, cond}
use mathlib.Core.Option.{some, none}
use mathlib.Core.List.{◌++◌}
use Prim.Native.Nat.{ℕ, ◌+◌, ◌-◌}
use native.Mathlib.Omega.{arith}
use borrow.Author.Tests.{eqb-true, eqb-false}
use lib.Dec.{eqb}
use Rattle.records.specs.Bytes.{bytes2}
use Rattle.model.specs.Runs as M
use Rattle.model.specs.ChartSet.{read_plus_one}
use Rattle.model.specs.AutomataTable.{write_deed, write_plus_one, write_update}
use Rattle.chart_records.specs.Parts.{deed_for}
use Rattle.twin_records.specs.Texts.{record_text}
use Rattle.edge_records.proofs.updates.update_record.Goals as goal

carried : (n : ℕ) → bytes2 n ≡ write_plus_one (read_plus_one n)
carried n = go (eqb n 0) refl
  where
    go : (b : Bool) → eqb n 0 ≡ b → bytes2 n ≡ write_plus_one (cond b none (some (n - 1)))
    go true e = ap bytes2 (eqb-true n 0 e)
    go false e = let d : n ≡ 0 → ⊥ = eqb-false n 0 e in ap bytes2 (let f : n ≡ n - 1 + 1 = omega arith in f)

with-guard : (edge guard : ℕ) (d : M.Deed) → record_text 40 (write_deed edge d ++ bytes2 guard) ≡ record_text 40 (write_update (edge, record { guard = read_plus_one guard; deed = d }))
with-guard edge guard d = ap (λ g. record_text 40 (write_deed edge d ++ g)) (carried guard)

pub returns-in-Assign : goal.returns-in-Assign
returns-in-Assign c =
    let x = c.args in
    c.update_bytes.ensures ∙ ap (λ d. record_text 40 (write_deed x.edge (deed_for d) ++ bytes2 x.guard)) (sym c.in-Assign.is) ∙ with-guard x.edge x.guard (deed_for x.deed)

pub returns-in-Raise : goal.returns-in-Raise
returns-in-Raise c =
    let x = c.args in
    c.update_bytes-in-Raise.ensures ∙ ap (λ d. record_text 40 (write_deed x.edge (deed_for d) ++ bytes2 x.guard)) (sym c.in-Raise.is) ∙ with-guard x.edge x.guard (deed_for x.deed)
