use mathlib.Core.Path.{◌≡◌, subst}
use native.Mathlib.Numerals.{add-one}
use native.Mathlib.Omega.{arith}
use borrow.Author.Count.{below_more}
use Rattle.expressions.specs.Nodes.{node_at}
use Rattle.expressions.proofs.Uses.{counted_none, counted-more, counted-all}
use Rattle.guard_writer.specs.Measures.{OwnAll, Passes}
use Rattle.guard_writer.proofs.Short.{own-none, own-more}
use Rattle.guard_writer.proofs.measures.all_bytes.Goals as goal

pub loop-n-init : goal.loop-n-init
loop-n-init c =
    let a = c.args in
    let s = a.nodes.now in
    (counted_none (node_at s) a.size a.uses.now, own-none (node_at s), λ m h. absurd (omega arith))

pub loop-n-preserved : goal.loop-n-preserved
loop-n-preserved c =
    let a = c.args in
    let s = a.nodes.now in
    let l = c.loop-n in
    let own = c.in_ok-bytes in (
      counted-more (node_at s) a.size a.uses.now l.uses _ l.n l.invariant.0 c.loop-n-test.true own.ensures.2,
      rw add-one (own-more (node_at s) l.n l.bytes own.field-0 l.invariant.1 own.ensures.0),
      below_more (Passes (node_at s)) l.n l.invariant.2 own.ensures.1,
    )

pub returns : goal.returns
returns c =
    let a = c.args in
    let s = a.nodes.now in
    let l = c.loop-n in
    let done = c.loop-n-test.false in
    let e : l.n ≡ a.size = omega (arith, l.invariant.0.0, done) in
    (subst (λ k. OwnAll (node_at s) k l.bytes) e l.invariant.1, λ m k. l.invariant.2 m (omega arith), counted-all (node_at s) a.size a.uses.now l.uses l.n l.invariant.0 done)
