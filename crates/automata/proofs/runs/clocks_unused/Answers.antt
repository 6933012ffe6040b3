use native.Mathlib.Omega.{arith}
use lib.Dec.{eqb}
use Rattle.prelude.proofs.Behind.{by-more, by_all}
use Rattle.automata.proofs.runs.clocks_unused.Goals as goal

pub loop-k-preserved : goal.loop-k-preserved
loop-k-preserved c =
    let l = c.loop-k in
    by-more (λ x. eqb x 0) 0 c.args.count c.args.clocks.now l.unused l.k l.invariant (omega (arith, c.requires))

pub returns : goal.returns
returns c =
    let l = c.loop-k in
    by_all (λ x. eqb x 0) 0 c.args.count c.args.clocks.now l.unused l.k l.invariant (omega (arith, c.requires))
