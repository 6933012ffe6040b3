use Rattle.twins.proofs.ComparedCalls.{bytes_of, twin-reads, twin-unrefused, not-both}
use Rattle.automata_files.proofs.AcceptedByCheck.{accepted-of, refused-of}
use native.Mathlib.Omega.{arith}
use lib.Dec.{T, ltb}
use Rattle.prelude.specs.Lists.{all}
use Rattle.twins.proofs.twin_compared.Goals as goal

pub table_compared-requires : goal.table_compared-requires
table_compared-requires c =
    let bytes : T (all (λ b. ltb b 256) c.args.s.now) = bytes_of c.args.s.now (λ k. omega (arith, c.type_inv.s k)) in
    let s = c.args.s.now in
    let t = c.args.t.now in
    (c.requires.0, accepted-of t _ c.check.ensures c.in-Ok.table c.in-Ok.is, twin-reads s t bytes c.requires.0.unrefused c.requires.1)

pub returns-in-Err : goal.returns-in-Err
returns-in-Err c =
    let bytes : T (all (λ b. ltb b 256) c.args.s.now) = bytes_of c.args.s.now (λ k. omega (arith, c.type_inv.s k)) in
    let s = c.args.s.now in
    let t = c.args.t.now in
    not-both (twin-unrefused s t bytes c.requires.0.unrefused c.requires.1) (refused-of t _ c.check.ensures c.in-Err.w c.in-Err.is)
