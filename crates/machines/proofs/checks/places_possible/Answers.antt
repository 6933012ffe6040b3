use mathlib.Core.Path.{refl, sym, ◌∙◌}
use mathlib.Core.Bool.{Bool, ◌&&◌}
use mathlib.Core.List.{List}
use Prim.Native.Nat.{ℕ}
use borrow.Author.Rules.{rules}
use lib.Dec.{ltb, eqb}
use lib.ListN.{get_or}
use Rattle.prelude.proofs.Ranges.{all_upto}
use Rattle.machines.specs.Files.{home_in}
use Rattle.machines.proofs.Files.{places-fit}
use Rattle.machines.proofs.checks.places_possible.Goals as goal

abbrev own : List ℕ → ℕ → ℕ → List ℕ → ℕ → Bool
own s parts places at c = ltb (get_or at c 0) places && eqb (home_in s parts (get_or at c 0)) c

pub returns : goal.returns
returns c =
    let a = c.args in
    all_upto (own a.s.now a.parts a.places a.at) _ _ _ _ c.all.ensures.ran refl (λ x b q k. search rules)
    ∙ sym (places-fit a.s.now a.parts a.places a.at)
