use mathlib.Core.Path.{◌≡◌, sym, ◌∙◌}
use mathlib.Core.Bool.{false}
use Prim.Native.Nat.{◌*◌, ◌%◌, ◌^◌}
use native.Mathlib.Nat.{one-mul}
use native.Mathlib.Omega.{arith}
use lib.Pow.{shl_exact}
use Rattle.model.specs.Runs.{present}
use Rattle.machines.proofs.Worlds.{bit-fits}
use Rattle.machines.proofs.deeds.raised.Goals as goal

pub overflow_add-result : goal.overflow_add-result
overflow_add-result c =
    let power : (1 * 2 ^ c.args.e) % 2 ^ 32 ≡ 2 ^ c.args.e = shl_exact 1 c.args.e 32 (omega arith) (omega (arith, c.requires)) ∙ one-mul (2 ^ c.args.e) in
    let p : present c.args.e c.args.events ≡ false = sym c.present.ensures ∙ c.if-present.false in
    record { fits = rw power (bit-fits c.args.e c.args.events c.requires c.ranges.events.fits p) }
