-- One part more, with the records of its piece.
use Rattle.std.proofs.Common.{◌≡◌, List, [], ◌∷◌, ◌++◌, refl, ap}
use Rattle.debug_units.specs.declared.unit_read.UnitRead.{UnitRead}
use Rattle.func_flatten.specs.LineRuns.{AreLineRuns}
use Rattle.func_records.specs.FuncRecords.{Part, pieces_of, AreLined}
use Rattle.func_records.specs.internal.Calls.{AreKnown, AreAllKnown}
use Rattle.func_records.specs.internal.Gathering.{copies_of}

pub lined_push : (units : List UnitRead) (parts : List Part) (p : Part) → AreLined units parts → AreLineRuns units p.piece p.lines → AreLined units (parts ++ p ∷ [])
lined_push units [] p lined runs = (runs, tt)
lined_push units (q ∷ parts) p lined runs = (lined.0, lined_push units parts p lined.1 runs)

pub pieces_push : (parts : List Part) (p : Part) → pieces_of (parts ++ p ∷ []) ≡ pieces_of parts ++ p.piece ∷ []
pieces_push [] p = refl
pieces_push (q ∷ parts) p = ap (λ ps. q.piece ∷ ps) (pieces_push parts p)

pub copies_push : (parts : List Part) (p : Part) → copies_of (parts ++ p ∷ []) ≡ copies_of parts ++ p.copies ∷ []
copies_push [] p = refl
copies_push (q ∷ parts) p = ap (λ cs. q.copies ∷ cs) (copies_push parts p)

pub known_push : (units : List UnitRead) (parts : List Part) (p : Part) → AreAllKnown units parts → AreKnown units p.piece.unit p.copies → AreAllKnown units (parts ++ p ∷ [])
known_push units [] p all known = (known, tt)
known_push units (q ∷ parts) p all known = (all.0, known_push units parts p all.1 known)
