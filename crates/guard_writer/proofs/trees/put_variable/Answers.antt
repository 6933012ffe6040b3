use Rattle.records.proofs.Wrote.{wrote_then}
use Rattle.guards.specs.Texts.{text_of}
use Rattle.guard_writer.proofs.trees.put_variable.Goals as goal

pub returns : goal.returns
unfolding text_of
returns c =
    wrote_then c.put_text-next.ensures c.put_number.ensures
