use borrow.Author.Rules.{rules}
use Rattle.machines.proofs.Files.{lookup-is}
use Rattle.machines.proofs.values.number_at.Goals as goal

pub returns : goal.returns
returns c = let a = c.args in rw (lookup-is a.s.now a.values) (search rules)
