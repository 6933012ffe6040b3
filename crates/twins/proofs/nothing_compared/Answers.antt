use Rattle.records.specs.RefusalOf.{refusal_of}
use Rattle.twins.specs.Compared.{refused}
use Rattle.twins.proofs.nothing_compared.Goals as goal

pub returns : goal.returns
returns c =
    λ i. record { verdict = refused (refusal_of c.args.w); run = c.run_between_cycles-run.ensures i; twin = c.run_in-twin.ensures i }
