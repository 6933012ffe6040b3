use mathlib.Core.Path.{refl}
use mathlib.Core.Bool.{cond}
use Prim.Native.Nat.{suc}
use lib.Dec.{eqb}
use lib.ListN.{get_or}
use Rattle.std.proofs.Common.{rules, tests}
use Rattle.prelude.proofs.Ranges.{all_upto}
use Rattle.guard_writer.proofs.lists.all_due.Goals as goal

pub returns : goal.returns
returns c =
    let a = c.args in
    all_upto (λ k. eqb (get_or a.uses.now k 0) (cond (eqb (suc k) a.size) 0 1)) a.size _ _ _ c.all.ensures.ran refl (λ x b q k. search (rules, tests))
