use Rattle.messages.proofs.Writing.{wrote_both}
use Rattle.messages.proofs.texts.put_places.Goals as goal

pub returns : goal.returns
returns c = wrote_both 78 78 c.put_three-next.ensures c.put_three.ensures
