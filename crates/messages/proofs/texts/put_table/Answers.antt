use Rattle.messages.proofs.Writing.{wrote_both}
use Rattle.messages.proofs.texts.put_table.Goals as goal

pub returns : goal.returns
returns c = wrote_both 156 78 c.put_places-next.ensures c.put_three.ensures
