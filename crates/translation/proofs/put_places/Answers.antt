use Prim.Native.Nat.{◌^◌}
use native.Mathlib.Omega.{arith}
use Rattle.twin_records.proofs.TextsWritten.{puts_then}
use Rattle.translation.proofs.put_places.Goals as goal

pub put_initials-homes_at-requires : goal.put_initials-homes_at-requires
put_initials-homes_at-requires c =
    (c.requires.0.shape, omega (arith, c.requires.2))

pub put_homes-edges_at-requires : goal.put_homes-edges_at-requires
put_homes-edges_at-requires c =
    (c.requires.0.shape, omega (arith, c.requires.2, c.put_initials-homes_at.ensures.near))

pub put_edges-requires : goal.put_edges-requires
put_edges-requires c =
    (c.requires.0, c.requires.1, omega (arith, c.requires.2, c.put_initials-homes_at.ensures.near, c.put_homes-edges_at.ensures.near))

pub returns : goal.returns
returns c =
    puts_then (2 ^ 42) (omega arith) (puts_then (2 ^ 41) (omega arith) c.put_initials-homes_at.ensures c.put_homes-edges_at.ensures) c.put_edges.ensures
