-- Two results of what is kept of one unit say the same; for the law.
use Rattle.std.proofs.Common.{◌≡◌, Bool, true, false, List, [], ◌∷◌, Option, None, Some, Result, Ok, Err, refl, sym, ap, ◌∙◌}
use Rattle.sym_edges.specs.Addresses.{Range}
use Rattle.sym_edges.specs.declared.located.Located.{Located}
use Rattle.range_set.proofs.OneList.{one_list}
use Rattle.abbrev_units.specs.declared.fault.DwarfKind.{DwarfKind}
use Rattle.line_program.specs.LineAt.{Lines}
use Rattle.line_program.specs.LineMaps.{LineMap, named_line, numbered_line}
use Rattle.debug_units.specs.declared.unit_read.UnitRead.{UnitRead}
use Rattle.debug_units.specs.CallPaths.{file_path}
use Rattle.debug_read.specs.Each.{Match}
use Rattle.debug_read.specs.UnitSays.{UnitSays}
use Rattle.debug_read.specs.UnitsRead.{IsSet, has_function, KeepsLines, IsUnitRead, IsUnitAnswer}
use Rattle.debug_read.specs.SameUnits.{SameLines, SameUnit, SameAnswers}

equal_lines : (x y : LineMap) → x ≡ y → SameLines x y
equal_lines x y is = record { line = λ a small. ap (λ (l : LineMap). named_line l.paths (numbered_line l a)) is; file = λ file. ap (λ (l : LineMap). file_path l file) is }

same_lines : (code : List Range) (keeps : Bool) (lines : Option Lines) (x y : LineMap) → KeepsLines code keeps lines x → KeepsLines code keeps lines y → SameLines x y
same_lines code true (Some lines) x y p q = record { line = λ a small. p.line a small ∙ sym (q.line a small); file = λ file. p.file file ∙ sym (q.file file) }
same_lines code true None x y p q = equal_lines x y (p ∙ sym q)
same_lines code false lines x y p q = equal_lines x y (p ∙ sym q)

-- The sets of addresses of the entries are the same.
same_sets : (code : List Range) (pairs xs ys : List (List Range)) → Match (IsSet code) pairs xs → Match (IsSet code) pairs ys → xs ≡ ys
same_sets code [] [] [] p q = refl
same_sets code [] [] (y ∷ ys) p q = absurd q
same_sets code [] (x ∷ xs) ys p q = absurd p
same_sets code (r ∷ pairs) [] ys p q = absurd p
same_sets code (r ∷ pairs) (x ∷ xs) [] p q = absurd q
same_sets code (r ∷ pairs) (x ∷ xs) (y ∷ ys) p q =
    (let first : x ≡ y = one_list x y p.0.canonical q.0.canonical (λ a. p.0.each a ∙ sym (q.0.each a)) in
    let later : xs ≡ ys = same_sets code pairs xs ys p.1 q.1 in
    λ i. first i ∷ later i)

pub same_unit : (code : List Range) (says : UnitSays) (u w : UnitRead) → IsUnitRead code says u → IsUnitRead code says w → SameUnit u w
same_unit code says u w p q = record {
  die = p.die ∙ sym q.die;
  spans = same_sets code says.pairs u.spans w.spans p.spans q.spans;
  lines = same_lines code (has_function says.table.dies) says.lines u.lines w.lines p.lines q.lines;
}

pub same_units : (code : List Range) (says : List UnitSays) (us ws : List UnitRead) → Match (IsUnitRead code) says us → Match (IsUnitRead code) says ws → Match SameUnit us ws
same_units code [] [] [] p q = tt
same_units code [] [] (w ∷ ws) p q = absurd q
same_units code [] (u ∷ us) ws p q = absurd p
same_units code (s ∷ says) [] ws p q = absurd p
same_units code (s ∷ says) (u ∷ us) [] p q = absurd q
same_units code (s ∷ says) (u ∷ us) (w ∷ ws) p q = (same_unit code s u w p.0 q.0, same_units code says us ws p.1 q.1)

pub same_answers : (code : List Range) (says : Result UnitSays (Located DwarfKind)) (one other : Result UnitRead (Located DwarfKind)) → IsUnitAnswer code says one → IsUnitAnswer code says other → SameAnswers one other
same_answers code (Ok says) (Ok u) (Ok w) p q = same_unit code says u w p q
same_answers code (Ok says) (Ok u) (Err fault) p q = absurd q
same_answers code (Ok says) (Err fault) other p q = absurd p
same_answers code (Err fault) (Err one) (Err other) p q = p ∙ sym q
same_answers code (Err fault) (Err one) (Ok w) p q = absurd q
same_answers code (Err fault) (Ok u) other p q = absurd p
