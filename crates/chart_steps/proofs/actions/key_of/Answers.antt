use mathlib.Core.Path.{◌≡◌, ◌∙◌}
use native.Mathlib.Omega.{arith}
use Rattle.chart_steps.specs.Tables.{key_for, key_at}
use Rattle.chart_steps.proofs.Accepted.{owner-placed}
use Rattle.chart_steps.proofs.TablesActions.{key-small}
use Rattle.chart_steps.proofs.actions.key_of.Goals as goal

pub key_for-requires : goal.key_for-requires
key_for-requires c =
    rw (c.place_of.ensures, c.owner_of.ensures) (owner-placed c.args.s.now c.args.shape c.requires.0 c.args.a c.requires.1)

pub returns : goal.returns
returns c =
    let s = c.args.s.now in
    let k : c.key_for.result ≡ key_at s c.args.shape c.args.a =
    c.key_for.ensures ∙ (λ i. key_for (c.place_of.ensures i) (c.owner_of.ensures i))
    in
    (k, omega (arith, k, key-small _ _ (owner-placed s c.args.shape c.requires.0 c.args.a c.requires.1)))
