-- The answers of turns, and why cycles and many cycles stop, as declared types with their laws. Assumes nothing.
use Rattle.lent_runs.proofs.Lent.{Enumeration}
use Rattle.answers.specs.contracts.Answer as A
use Rattle.answers.proofs.Answer.TheLaws as A'
use Rattle.answers.specs.contracts.Stop as S
use Rattle.answers.proofs.Stop.TheLaws as S'

abbrev pub answer-type : Enumeration
answer-type = record { type = A.the_type; laws = A'.the_laws; few = tt; plain = A'.the_plain }

abbrev pub stop-type : Enumeration
stop-type = record { type = S.the_type; laws = S'.the_laws; few = tt; plain = S'.the_plain }
