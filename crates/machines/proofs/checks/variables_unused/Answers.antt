use borrow.Author.Rules.{rules}
use native.Mathlib.Omega.{arith}
use lib.IntN.{pos}
use Rattle.arithmetic.specs.Arithmetic.{is_zero}
use lib.ListN.{get_or}
use Rattle.machines.proofs.Bits.{bits-zero}
use Rattle.prelude.proofs.Behind.{by-more, by_all}
use Rattle.machines.proofs.checks.variables_unused.Goals as goal

pub loop-k-preserved : goal.loop-k-preserved
loop-k-preserved c =
    let a = c.args in
    let l = c.loop-k in
    let again = by-more is_zero (pos 0) a.count a.variables l.unused l.k l.invariant.1 (omega arith) in
    (l.invariant.0, rw (bits-zero {z = get_or a.variables l.k (pos 0)} (search rules)) again)

pub returns : goal.returns
returns c =
    let a = c.args in
    let l = c.loop-k in
    by_all is_zero (pos 0) a.count a.variables l.unused l.k l.invariant.1 (omega arith)
