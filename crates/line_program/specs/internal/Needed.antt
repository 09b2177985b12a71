-- The pairs of an entry format without those that have no effect on entries.
use Rattle.std.specs.Prelude.{◌==◌, ◌||◌, Bool, true, false, if◌then◌else◌, List, [], ◌∷◌}
use Rattle.line_program.specs.declared.entry_format.EntryFormat.{EntryFormat}

-- a pair has no effect on entries if its form is DW_FORM_flag_present (0x19), whose values have no
-- bytes, and it is neither the first pair of a path (1) nor the first of a directory (2)
unfoldable pub is_idle : Bool → Bool → EntryFormat → Bool
is_idle path directory pair =
    if pair.form == 0x19 then (if pair.content == 1 then path else if pair.content == 2 then directory else true) else false

-- the pairs that have an effect on entries. `path` and `directory` say whether a pair of a path or
-- of a directory came before
unfoldable pub needed : Bool → Bool → List EntryFormat → List EntryFormat
needed path directory [] = []
needed path directory (pair ∷ pairs) =
    if is_idle path directory pair then needed path directory pairs
    else pair ∷ needed (path || (pair.content == 1)) (directory || (pair.content == 2)) pairs
