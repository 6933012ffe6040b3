-- Texts as bytes. Assumes nothing: these are definitions.
use Rattle.std.specs.Prelude.{List, [], ◌∷◌, ℕ}
use Prim.Native.Char.{code}
use Prim.Native.String.{String, [] as none, ◌∷◌ as ◌then◌}

-- the bytes of a text of ASCII
abbrev pub ascii : String → List ℕ
ascii none = []
ascii (c then text) = code c ∷ ascii text
