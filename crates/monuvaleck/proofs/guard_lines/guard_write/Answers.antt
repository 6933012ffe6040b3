use mathlib.Core.Path.{◌≡◌, sym, ap, ◌∙◌}
use native.Mathlib.Omega.{arith}
use lib.ListN.{length}
use Rattle.guards.specs.Calls.{written_line}
use Rattle.guards.proofs.WrittenCalls.{write_guard-answer}
use Rattle.guard_writer.proofs.Lines.{short-line}
use Rattle.monuvaleck.proofs.guard_lines.guard_write.Goals as goal

pub size_code-requires : goal.size_code-requires
size_code-requires c =
    λ n e.
    let a = c.args in
    let was = write_guard-answer a.nodes.now a.text.now n (ap (λ o. o.answer) (sym c.write_guard.ensures) ∙ e) in
    let s : length (written_line a.nodes.now) ≡ n = was.size in
    omega (arith, short-line a.nodes.now (sym was.taken))
