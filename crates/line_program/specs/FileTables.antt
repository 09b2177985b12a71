-- The tables of directories and files in the header of a line table (DWARF 5, 6.2.4 and 6.2.4.1; DWARF 4, 6.2.4).
use Rattle.std.specs.Prelude.{ℕ, pos, ◌==◌, nat_lt, Bool, true, false, if◌then◌else◌, List, [], ◌∷◌, find, length, Option, Some, None, unwrap_or, Result, Ok, Err}
use Rattle.std.specs.Option.{option_map}
use Rattle.sym_edges.specs.Results.{◌>>=◌}
use Rattle.leb_cursor.specs.Ahead.{Ahead}
use Rattle.leb_cursor.specs.Lists.{list_at}
use Rattle.leb_cursor.specs.Readings.{fixed_at, uleb_at, text_at}
use Rattle.text_table.specs.Spaces.{held_text}
use Rattle.abbrev_units.specs.declared.fault.DwarfKind.TheVariants.{UnknownForm, LineHeader}
use Rattle.abbrev_units.specs.declared.value.Value.{Value}
use Rattle.abbrev_units.specs.declared.value.Value.TheVariants.{Num}
use Rattle.abbrev_units.specs.DebugSections.{DebugSections}
use Rattle.abbrev_units.specs.FormValue.{form_at}
use Rattle.line_program.specs.declared.entry_format.EntryFormat.{EntryFormat}
use Rattle.line_program.specs.Faults.{Fault, fault_at, in_line, or_value_fault}
use Rattle.line_program.specs.Lists.{several_at}
use Rattle.line_program.specs.FileFields.{FileFields}
use Rattle.line_program.specs.HeaderFields.{HeaderFields}
use Rattle.line_program.specs.Opcodes.{file_behind}
use Rattle.line_program.specs.LineTexts.{line_text}

-- both tables
pub record Tables : Type 0 where
  pub directories : List FileFields
  pub files : List FileFields

-- an entry of include_directories or, if `of_files`, of file_names, in versions 2 to 4. It has a
-- path; a file has more fields after its path. An empty path ends the list. What is held of a path is kept
unfoldable pub old_entry_at : Bool → Ahead → Result (Option FileFields × Ahead) Fault
old_entry_at of_files c =
    in_line (text_at c) >>= λ path.
    if length path.0 == 0 then Ok (None, path.1) else
    if of_files then (file_behind path.0 path.1 >>= λ file. Ok (Some file.0, file.1)) else
    Ok (Some (record { path = held_text path.0; directory = 0 }), path.1)

-- the tables of versions 2 to 4
unfoldable pub old_tables_at : Ahead → Result Tables Fault
old_tables_at c =
    list_at (old_entry_at false) c >>= λ directories.
    list_at (old_entry_at true) directories.1 >>= λ files.
    Ok (record { directories = directories.0; files = files.0 })

-- one pair of directory_entry_format or file_name_entry_format
unfoldable pub pair_at : Ahead → Result (EntryFormat × Ahead) Fault
pair_at c =
    in_line (uleb_at c) >>= λ content.
    in_line (uleb_at content.1) >>= λ form.
    Ok (record { content = content.0; form = form.0 }, form.1)

-- the pairs of a format, after their count
unfoldable pub pairs_at : Ahead → Result (List EntryFormat × Ahead) Fault
pairs_at c = in_line (fixed_at 1 c) >>= λ count. several_at pair_at count.0 count.1

-- the value of a form. There is no abbreviation with a constant here, so DW_FORM_implicit_const (0x21) is unknown
unfoldable pub value_at : Bool → ℕ → Ahead → Result (Value × Ahead) Fault
value_at wide form c =
    if form == 0x21 then Err (fault_at UnknownForm c.at) else or_value_fault (form_at form (pos 0) wide c)

-- a value and its content type (DWARF 5, table 7.27)
pub record Content : Type 0 where
  pub content : ℕ
  pub value : Value

-- the values of an entry, one for each pair of the format
unfoldable pub values_at : List EntryFormat → Bool → Ahead → Result (List Content × Ahead) Fault
values_at [] wide c = Ok ([], c)
values_at (pair ∷ pairs) wide c =
    value_at wide pair.form c >>= λ value.
    values_at pairs wide value.1 >>= λ later.
    Ok (record { content = pair.content; value = value.0 } ∷ later.0, later.1)

-- the first value of a content type
unfoldable pub content_of : ℕ → List Content → Option Value
content_of content values = option_map (λ v. v.value) (find (λ v. v.content == content) values)

-- DW_LNCT_path (1): the path is empty if this value is missing, is not a string or cannot be found
abbrev pub path_in : DebugSections → Option Value → List ℕ
path_in sections None = []
path_in sections (Some value) = unwrap_or (line_text sections value) []

-- DW_LNCT_directory_index (2): the number is 0 if this value is missing or is not an unsigned
-- constant
abbrev pub directory_in : Option Value → ℕ
directory_in (Some (Num number)) = number
directory_in _ = 0

abbrev pub entry_of : DebugSections → Option Value → Option Value → FileFields
entry_of sections path directory = record { path = path_in sections path; directory = directory_in directory }

-- an entry of version 5; values of other content types are ignored
unfoldable pub entry_at : DebugSections → List EntryFormat → Bool → Ahead → Result (FileFields × Ahead) Fault
entry_at sections pairs wide c =
    values_at pairs wide c >>= λ values.
    Ok (entry_of sections (content_of 1 values.0) (content_of 2 values.0), values.1)

-- `count` entries. It is a fault if the count is greater than the number of bytes left before the
-- program
unfoldable pub counted_at : DebugSections → ℕ → List EntryFormat → Bool → ℕ → Ahead → Result (List FileFields × Ahead) Fault
counted_at sections start pairs wide count c =
    if nat_lt (length c.bytes) count then Err (fault_at LineHeader start) else
    several_at (entry_at sections pairs wide) count c

-- a table of version 5: its format, the number of its entries, and the entries
unfoldable pub entries_at : DebugSections → ℕ → Bool → Ahead → Result (List FileFields × Ahead) Fault
entries_at sections start wide c =
    pairs_at c >>= λ pairs.
    in_line (uleb_at pairs.1) >>= λ count.
    counted_at sections start pairs.0 wide count.0 count.1

-- the tables of version 5
unfoldable pub new_tables_at : DebugSections → ℕ → Bool → Ahead → Result Tables Fault
new_tables_at sections start wide c =
    entries_at sections start wide c >>= λ directories.
    entries_at sections start wide directories.1 >>= λ files.
    Ok (record { directories = directories.0; files = files.0 })

-- the tables of directories and files of a line table that starts at `start`, given its header
unfoldable pub tables_at : DebugSections → ℕ → HeaderFields → Result Tables Fault
tables_at sections start header =
    if header.program.version == 5 then new_tables_at sections start header.wide header.tables else old_tables_at header.tables
