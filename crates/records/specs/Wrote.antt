-- What it is to have written bytes into a lent buffer. Assumes nothing: these are definitions.
use Rattle.std.specs.Prelude.{◌≡◌, List, ℕ, ◌+◌, length}
use Rattle.std.proofs.lemmas.List.Edits.{sets}

-- The text was written over `before` from `at` on; `next` is the place behind it. Bytes past the end are not written.
pub record Wrote (before : List ℕ) (at : ℕ) (text : List ℕ) (after : List ℕ) (next : ℕ) : Type 0 where
  pub behind : next ≡ at + length text
  pub written : after ≡ sets before at text

-- The same at the start, where the place behind is the text's length.
abbrev pub Begins : List ℕ → List ℕ → List ℕ → ℕ → Type 0
Begins before text after size = (size ≡ length text) × (after ≡ sets before 0 text)
