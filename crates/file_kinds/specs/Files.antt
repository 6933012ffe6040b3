-- Names of files, and what a file seems to be by its first byte. Assumes nothing: these are definitions.
use Rattle.std.specs.Prelude.{Bool, cond, ◌&&◌, List, ℕ, leb, eqb, length}
use Rattle.records.specs.Bytes.{byte}
use Rattle.file_kinds.specs.declared.Seen.{Seen}
use Rattle.file_kinds.specs.declared.Seen.TheVariants.{Empty, Set, Table, Neither}

-- the name - alone
abbrev pub is_dash : List ℕ → Bool
is_dash name = eqb (length name) 1 && eqb (byte name 0) 45

-- the kinds of a set are 1 to 6, those of a table 33 to 41
abbrev pub kind_seen : ℕ → Seen
kind_seen k = cond (leb 1 k && leb k 6) Set (cond (leb 33 k && leb k 41) Table Neither)

abbrev pub seen_as : List ℕ → Seen
seen_as s = cond (eqb (length s) 0) Empty (kind_seen (byte s 0))
