use mathlib.Core.Path.{sym, ◌∙◌}
use Rattle.records.proofs.Wrote.{wrote_then}
use Rattle.guard_writer.proofs.Texts.{wrote_as}
use Rattle.guard_writer.proofs.Codes.{sign-told}
use Rattle.guard_writer.proofs.trees.put_sign.Goals as goal

pub returns-in-None : goal.returns-in-None
returns-in-None c =
    wrote_as c.put_char-next.ensures (sign-told c.args.code c.first_byte.ensures (sym c.in-None.is ∙ c.second_byte.ensures))

pub returns-in-Some : goal.returns-in-Some
returns-in-Some c =
    wrote_as (wrote_then c.put_char-next.ensures c.put_char.ensures) (sign-told c.args.code c.first_byte.ensures (sym c.in-Some.is ∙ c.second_byte.ensures))
