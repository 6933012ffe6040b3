use mathlib.Core.Path.{sym, ap}
use native.Mathlib.Omega.{arith}
use lib.Dec.{leb, le→leb}
use lib.ListN.{length}
use Rattle.model.specs.Translation.{twin_bytes}
use Rattle.prelude.proofs.Bools.{is_true}
use Rattle.model.proofs.TranslationAccepted.{short-twin}
use Rattle.translation.proofs.has_room.Goals as goal

pub returns-then-room-ge-LONGEST_TABLE : goal.returns-then-room-ge-LONGEST_TABLE
returns-then-room-ge-LONGEST_TABLE c =
    let s = c.args.s.now in
    sym (is_true {b = leb (length (twin_bytes s)) c.args.room} (le→leb (length (twin_bytes s)) c.args.room (omega (arith, c.if-room-ge-LONGEST_TABLE.true, short-twin s c.requires.unrefused))))

pub twin_length-requires : goal.twin_length-requires
twin_length-requires c =
    c.requires

pub returns : goal.returns
returns c =
    ap (λ n. leb n c.args.room) c.twin_length.ensures
