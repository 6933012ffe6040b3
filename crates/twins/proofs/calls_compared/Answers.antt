use Rattle.twins.proofs.ComparedCalls.{charts-are, fresh-alike, leads-first, leads-next, leads-last}
use Rattle.twins.proofs.Matched.{corresponding-alike, next-alike, then-alike, now-corresponds, moved_to}
use Rattle.alike.specs.Alike.{call_for}
use Rattle.twins.specs.Compared.{alike}
use Rattle.automata.specs.RunOf as automata-run
use Rattle.chart_runs.specs.RunOf as charts-run
use Rattle.prelude.proofs.Bools.{clash, of-true}
use Rattle.model.specs.Calls.{chart_sets, automata_tables}
use borrow.Author.Tests.{not-true}
use lib.ListN.{length, get_or}
use native.Mathlib.Omega.{arith}
use mathlib.Core.Bool.{true}
use mathlib.Core.Path.{◌≡◌, sym, ap, ◌∙◌}
use Rattle.twins.proofs.calls_compared.Goals as goal

pub start-run-requires : goal.start-run-requires
start-run-requires c =
    c.requires.0.shape

pub start-twin-requires : goal.start-twin-requires
start-twin-requires c =
    c.requires.1.shape

pub runs_alike-requires : goal.runs_alike-requires
runs_alike-requires c =
    c.requires.1

pub returns-then-not-runs_alike : goal.returns-then-not-runs_alike
returns-then-not-runs_alike c =
    let s = c.args.s.now in
    let t = c.args.t.now in
    let table = c.args.table in
    let fresh = fresh-alike s t c.requires.0.unrefused c.requires.1.unrefused c.requires.2 c.start-run.ensures c.start-twin.ensures in
    let alike : c.runs_alike.result ≡ true =
    c.runs_alike.ensures ∙ corresponding-alike s t table c.requires.1 (charts-are s t table c.requires.1 c.requires.2) _ _ (now-corresponds s t table c.requires.1 _ _ fresh) in
    clash {b = c.runs_alike.result} (of-true alike) (c.if-not-runs_alike.true)

pub loop-k-init : goal.loop-k-init
loop-k-init c = (
  fresh-alike c.args.s.now c.args.t.now c.requires.0.unrefused c.requires.1.unrefused c.requires.2 c.start-run.ensures c.start-twin.ensures,
  leads-first chart_sets c.args.s.now c.args.kinds.now c.args.masks.now c.start-run.ensures,
  leads-first automata_tables c.args.t.now c.args.kinds.now c.args.masks.now c.start-twin.ensures,
)

pub call_both-both-requires : goal.call_both-both-requires
call_both-both-requires c =
    (c.requires.0, c.requires.1)

pub returns-then-not-both : goal.returns-then-not-both
returns-then-not-both c =
    let a = c.args in
    let l = c.loop-k in
    let s = a.s.now in
    let t = a.t.now in
    let back = c.requires.2 in
    let f = call_for c.is_turn-turn.result (get_or a.masks.now l.k 0) in
    let r = charts-run.run_of l.run in
    let q = automata-run.run_of l.twin in
    clash {b = c.call_both-both.result.alike} (of-true (ap (λ z. z.alike) c.call_both-both.ensures ∙ next-alike s t a.table c.requires.1 (charts-are s t a.table c.requires.1 back) r q l.invariant.0 f)) (not-true _ c.if-not-both.true)

pub loop-k-preserved : goal.loop-k-preserved
loop-k-preserved c =
    let a = c.args in
    let l = c.loop-k in
    let s = a.s.now in
    let t = a.t.now in
    let back = c.requires.2 in
    let f = call_for c.is_turn-turn.result (get_or a.masks.now l.k 0) in
    let r = charts-run.run_of l.run in
    let q = automata-run.run_of l.twin in
    let more = c.loop-k-test.true in (
      λ calls. moved_to s t calls (sym (ap (λ z. z.run) c.call_both-both.ensures)) (sym (ap (λ z. z.twin) c.call_both-both.ensures)) (then-alike s t a.table c.requires.1 r q l.invariant.0 f calls),
      leads-next chart_sets s a.kinds.now a.masks.now l.k r (omega (arith, more)) c.is_turn-turn.ensures (ap (λ z. z.run) c.call_both-both.ensures) l.invariant.1,
      leads-next automata_tables t a.kinds.now a.masks.now l.k q (omega (arith, more)) c.is_turn-turn.ensures (ap (λ z. z.twin) c.call_both-both.ensures) l.invariant.2,
    )

pub returns : goal.returns
returns c =
    let l = c.loop-k in
    let a = c.args in
    let run = leads-last chart_sets a.s.now a.kinds.now a.masks.now l.k (omega arith) l.invariant.1 in
    let twin = leads-last automata_tables a.t.now a.kinds.now a.masks.now l.k (omega arith) l.invariant.2 in
    λ i. record { verdict = alike (length a.masks.now); run = run i; twin = twin i }
