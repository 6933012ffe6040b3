use borrow.Author.Rules.{rules}
use Rattle.model.specs.Runs.{no_variable}
use Rattle.machines.proofs.Files.{variable-is}
use Rattle.machines.proofs.deeds.is_within.Goals as goal

pub returns : goal.returns
returns c = let x = c.args in rw (variable-is x.s.now x.values no_variable x.v c.requires.1) (search rules)
