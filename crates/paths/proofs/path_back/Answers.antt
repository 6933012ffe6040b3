use mathlib.Core.Path.{◌≡◌, sym, ap, ◌∙◌}
use Prim.Native.Nat.{ℕ}
use Rattle.std.proofs.Common.{Option, Some, Ok}
use Rattle.std.specs.Result.{result_ok}
use Rattle.records.specs.Refusal.{val}
use Rattle.model.specs.ChartSet.{read_charts}
use Rattle.model.specs.PathBack.{walk_start, led_back}
use Rattle.paths.specs.LedOf.{count_of, counted, answer_of}
use Rattle.paths.proofs.LedOf.{led-many, led-room, led-written}
use Rattle.paths.proofs.path_back.Goals as goal

pub put_rows-requires-clause-writable : goal.put_rows-requires-clause-writable
put_rows-requires-clause-writable c =
    let a = c.args in
    let cs = read_charts a.s.now in
    let n = c.in_ok-n.n in
    let some : c.count_rows.result ≡ Some n = c.ok_or.ensures.ok_part ∙ ap result_ok c.in_ok-n.was in
    let m = led-many cs a.path.now a.rows.now n (ap count_of (sym some) ∙ c.count_rows.ensures) in
    record { fits = m.0; room = led-room cs a.path.now a.rows.now n m.0 m.1 c.if-rows-n.false }

pub returns : goal.returns
returns c =
    let a = c.args in
    let cs = read_charts a.s.now in
    let n = c.in_ok-n.n in
    let some : c.count_rows.result ≡ Some n = c.ok_or.ensures.ok_part ∙ ap result_ok c.in_ok-n.was in
    let m = led-many cs a.path.now a.rows.now n (ap count_of (sym some) ∙ c.count_rows.ensures) in
    ap (λ l. record { answer = val n; lent = l }) c.put_rows.ensures ∙ sym (led-written cs a.path.now a.rows.now n m.0 m.1 c.if-rows-n.false)
