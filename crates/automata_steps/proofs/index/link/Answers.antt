use mathlib.Core.Path.{◌≡◌, sym, subst}
use Prim.Native.Nat.{◌+◌, ◌-◌, ◌<◌}
use native.Mathlib.Omega.{arith}
use Rattle.automata_steps.proofs.IndexLinked.{Filling, filling-none, filling-more}
use Rattle.automata_steps.proofs.index.link.Goals as goal

pub loop-n-init : goal.loop-n-init
loop-n-init c =
    let x = c.args in
    filling-none x.s.now x.span.start x.span.end x.span.base x.span.owners x.first.now x.next.now c.requires.ordered c.requires.empty

pub loop-n-preserved : goal.loop-n-preserved
loop-n-preserved c =
    let own : c.owner_of.result < c.args.span.owners = let l = c.loop-n in
    omega (arith, c.owner_of.ensures, c.requires.own (l.n - 1) (omega (arith, c.loop-n-test.true)) (omega (arith, l.invariant.below, c.loop-n-test.true))) in
    let x = c.args in
    let l = c.loop-n in
    let i = l.invariant in
    let t = c.loop-n-test.true in
    let e : l.n ≡ l.n - 1 + 1 = omega (arith, t) in
    filling-more x.s.now x.span.start x.span.end x.span.base x.span.owners x.first.now x.next.now l.first l.next (l.n - 1) c.owner_of.result
    (subst (Filling x.s.now x.span.start x.span.end x.span.base x.span.owners x.first.now x.next.now l.first l.next) e i)
    (omega (arith, t)) (sym c.owner_of.ensures) own (omega (arith, c.requires.room, c.requires.keys)) c.requires.space.1
