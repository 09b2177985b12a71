use Rattle.std.proofs.Common.{◌≡◌, length, drop, ◌∙◌, arith, length-drop}
use Rattle.core_file.proofs.IdLemmas.{id_at_end}
use Rattle.core_file.proofs.ids.find_id.Goals as goal

pub returns-clause-first : goal.returns-clause-first
returns-clause-first g c =
    let none : length (drop c.notes.at (g.B.ByteList.bytes c.args.list.now)) ≡ 0 = omega (arith, length-drop c.notes.at (g.B.ByteList.bytes c.args.list.now)) in
    id_at_end (drop c.notes.at (g.B.ByteList.bytes c.args.list.now)) none ∙ c.notes.invariant.left
